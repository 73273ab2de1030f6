-- What whole calls leave, as their callers see it.
use Rattle.std.specs.Prelude.{if◌then◌else◌, MatchBool}
use Rattle.std.specs.Option.{option_map_or}
use Rattle.std.proofs.Common.{◌≡◌, ◌≢◌, ◌++◌, ◌∷◌, ℕ, zero, suc, Bool, true, false, List, [], Option, Some, None}
use Rattle.std.proofs.Common.{refl, sym, ap, subst, inl}
use mathlib.Core.List.{IsPrefix}
use Rattle.cmwq_model.specs.Prelude.{is_drain, is_nothing, is_tick, ticket_told}
use Rattle.cmwq_model.specs.Prelude.{Layout, fits, is_done}
use Rattle.cmwq_model.specs.declared.call.Call.{Call}
use Rattle.cmwq_model.specs.declared.call.Call.TheVariants as call
use Rattle.cmwq_model.specs.declared.entry.Entry.{Entry}
use Rattle.cmwq_model.specs.declared.reply.Reply.{Reply}
use Rattle.cmwq_model.specs.declared.reply.Reply.TheVariants as reply
use Rattle.cmwq_core.specs.History.{History}
use Rattle.cmwq_monitor.specs.Calls.{Extends, own_entry}
use Rattle.cmwq_monitor.specs.Participants.{View}
use Rattle.cmwq_monitor.specs.Steps.{HasEnded, HasFired, IsFiring}
use Rattle.cmwq_monitor.specs.Whole.{Completes, EndsFiring, EndsOwn}
use Rattle.cmwq_monitor.proofs.Beginnings.{prefix_self}
use Rattle.cmwq_monitor.proofs.Entering.{view_after}
use Rattle.cmwq_monitor.proofs.Fired.{ends_extended, fired_all, fired_full, fired_last, fired_more, firing_begins}
use Rattle.cmwq_monitor.proofs.Serials.{stand_next}
use Rattle.cmwq_monitor.proofs.Whole.{ended_alone, ended_completes, ended_fired, tick_completes}
use Rattle.cmwq_play.specs.Machines.{AfterCall, after_reply, begun, is_made, replied}
use Rattle.cmwq_play.specs.Machines.{stepped}
unfoldable use Rattle.cmwq_play.specs.Machines.{called, ended, ends, fired}
use Rattle.cmwq_play.specs.declared.machine.Called.{Called}
use Rattle.cmwq_play.specs.declared.machine.Called.TheVariants.{NoRoom, Whole, Waits as Began}
use Rattle.cmwq_play.specs.declared.place.Ticketed.{Ticketed}
use Rattle.cmwq_schedule_laws.proofs.Keeping.{IsKept, IsUpToDate, Makes, having_seen, kept_after, makes, refused}
use Rattle.cmwq_schedule_laws.proofs.Keeping.{seen_up}
use Rattle.cmwq_schedule_laws.proofs.Keeping.{unmade_replies}

-- ---- replies

nothing_is : (r : Reply) → is_nothing r ≡ true → r ≡ reply.Nothing
nothing_is reply.Nothing is = refl
nothing_is r is = absurd (cc is)

nothing_is_not : (r : Reply) → is_nothing r ≡ false → r ≢ reply.Nothing
nothing_is_not r is same = let nothing = ap is_nothing same in cc

done_is : (r : Reply) → is_done r ≡ true → r ≡ reply.Done
done_is reply.Done is = refl
done_is r is = absurd (cc is)

-- ---- fires

-- the fires that are left are made
pub record FiresLeave (s : Layout) (v : View) (log : List Entry) : Type 0 where
  pub last : View
  pub fired : HasFired s v last
  pub up : IsUpToDate log last

pub fires_leave : (s : Layout) (n : ℕ) (h : History) (v m : View) → IsKept s h → IsUpToDate h.entries m
    → fits s m.who call.Fire ≡ true → IsFiring s n v m → FiresLeave s v (fired n h m.who).entries
unfolding fired
fires_leave s zero h v m kept up fit so = record { last = m; fired = fired_all s v m so; up = up }
fires_leave s (suc n) h v m kept up fit so =
    at
    (λ on. fires_leave s n (stepped h m.who call.Fire) v (view_after s h.entries m call.Fire)
    (kept_after s h m.who call.Fire kept) on fit)
    (is_made h m.who call.Fire) refl
  where
    last : (b : Bool) → is_nothing (own_entry s h.entries m call.Fire).reply ≡ b
        → Makes s h m call.Fire (stepped h m.who call.Fire)
        → (IsFiring s n v (view_after s h.entries m call.Fire)
        → FiresLeave s v (fired n (stepped h m.who call.Fire) m.who).entries)
        → FiresLeave s v (if b then stepped h m.who call.Fire else fired n (stepped h m.who call.Fire) m.who).entries
    last true nothing made on = record {
      last = view_after s h.entries m call.Fire;
      fired = fired_last s n v m (view_after s h.entries m call.Fire) _ (nothing_is _ nothing) so made.extends;
      up = made.up;
    }
    last false other made on =
        on (fired_more s n v m (view_after s h.entries m call.Fire) _ (nothing_is_not _ other) so made.extends)

    at : (IsUpToDate (stepped h m.who call.Fire).entries (view_after s h.entries m call.Fire)
        → IsFiring s n v (view_after s h.entries m call.Fire)
        → FiresLeave s v (fired n (stepped h m.who call.Fire) m.who).entries)
        → (b : Bool) → is_made h m.who call.Fire ≡ b
        → FiresLeave s v (option_map_or (λ r. if is_nothing r then stepped h m.who call.Fire
        else fired n (stepped h m.who call.Fire) m.who) (replied h m.who call.Fire) h).entries
    at on false not =
        let none = refused s h m call.Fire kept up fit not in
        rw (unmade_replies h m.who call.Fire not) record {
          last = having_seen h.entries m;
          fired = fired_full s n v m (having_seen h.entries m) so none.0 none.1 kept.legal;
          up = seen_up h.entries m up;
        }
    at on true made =
        let m1 = makes s h m call.Fire kept up made in
        rw m1.replies (last (is_nothing (own_entry s h.entries m call.Fire).reply) refl m1
        (on m1.up))

-- ---- a wait ends

pub record EndLeaves (s : Layout) (m : View) (t : Ticketed) (log : List Entry) : Type 0 where
  pub last : View
  pub ended : HasEnded s m t.call t.ticket last
  pub up : IsUpToDate log last

made_to_end : (h : History) (m : View) (k : ℕ) → ends h m.who k ≡ true → is_made h m.who (call.End k) ≡ true
unfolding ends
made_to_end h m k may = at (is_made h m.who (call.End k)) refl
  where
    at : (b : Bool) → is_made h m.who (call.End k) ≡ b → b ≡ true
    at true made = refl
    at false not =
        let none = rw (unmade_replies h m.who (call.End k) not) at may in
        absurd (cc none)

end_is_done : (s : Layout) (h : History) (m : View) (k : ℕ) → ends h m.who k ≡ true
    → Makes s h m (call.End k) (stepped h m.who (call.End k))
    → (own_entry s h.entries m (call.End k)).reply ≡ reply.Done
unfolding ends
end_is_done s h m k may made = done_is _ (rw made.replies at may)

pub end_leaves : (s : Layout) (h : History) (m : View) (t : Ticketed) → IsKept s h → IsUpToDate h.entries m
    → fits s m.who call.Fire ≡ true → ends h m.who t.ticket ≡ true → EndLeaves s m t (ended h m.who t).entries
unfolding ended
end_leaves s h m t kept up fit may = at (is_drain t.call) refl
  where
    after_g : IsKept s (stepped h m.who (call.End t.ticket))
    after_g = kept_after s h m.who (call.End t.ticket) kept

    made : Makes s h m (call.End t.ticket) (stepped h m.who (call.End t.ticket))
    made = makes s h m (call.End t.ticket) kept up (made_to_end h m t.ticket may)

    done : Extends s m (call.End t.ticket) reply.Done (view_after s h.entries m (call.End t.ticket))
    done =
        subst (λ r. Extends s m (call.End t.ticket) r (view_after s h.entries m (call.End t.ticket)))
        (end_is_done s h m t.ticket may made) made.extends

    at : (b : Bool) → is_drain t.call ≡ b
        → EndLeaves s m t (if b then fired (stepped h m.who (call.End t.ticket)).layout.items
        (stepped h m.who (call.End t.ticket)) m.who else stepped h m.who (call.End t.ticket)).entries
    at true drains =
        let w = view_after s h.entries m (call.End t.ticket) in
        let fires =
        fires_leave s s.items (stepped h m.who (call.End t.ticket)) w w after_g made.up fit
        (firing_begins s m w (call.End t.ticket) reply.Done done) in
        subst (λ n. EndLeaves s m t (fired n (stepped h m.who (call.End t.ticket)) m.who).entries)
        (sym (ap (λ (l : Layout). l.items) after_g.layout)) record {
          last = fires.last;
          ended = ended_fired s m w fires.last t.call t.ticket drains done fires.fired;
          up = fires.up;
        }
    at false other = record {
      last = view_after s h.entries m (call.End t.ticket);
      ended = ended_alone s m (view_after s h.entries m (call.End t.ticket)) t.call t.ticket other done;
      up = made.up;
    }

-- ---- whole calls

-- a call that waits made its entry, which gave the ticket
pub record IsBegun (s : Layout) (v : View) (t : Ticketed) (r : Reply) (m : View) : Type 0 where
  pub extends : Extends s v t.call r m
  pub no_tick : is_tick t.call ≡ false
  pub gives : ticket_told r ≡ Some t.ticket

-- What came of a call: whoever made it has seen the history before it, and its entry next.
abbrev pub CameOf : Layout → History → View → Call → History → Called → Type 0
CameOf s h v c g NoRoom = (g ≡ h) × (is_made h v.who c ≡ false)
CameOf s h v c g Whole = (r : Reply) × (w : View) × Completes s v c r w × IsUpToDate g.entries w
    × IsPrefix (h.entries ++ own_entry s h.entries v c ∷ []) w.seen
CameOf s h v c g (Began t) = (r : Reply) × (m : View) × (t.call ≡ c) × IsBegun s v t r m × IsUpToDate g.entries m
    × IsPrefix (h.entries ++ own_entry s h.entries v c ∷ []) m.seen

plain_completes : (s : Layout) (v w : View) (c : Call) (r : Reply) → is_tick c ≡ false → ticket_told r ≡ None
    → Extends s v c r w → Completes s v c r w
plain_completes s v w c r no_tick none x =
    let e = own_entry s x.before v c in
    record {
      entries = e ∷ [];
      gains = x.gains;
      makes = record {
        first = e;
        rest = [];
        all = refl;
        is = (refl, sym x.reply);
        behind = rw (no_tick, none) refl;
      };
      serials = stand_next s v w (e ∷ []) x.gains x.counts x.legal;
      counts = x.counts;
      ends = rw no_tick (at (is_drain c) (ends_extended s v w c r x));
      legal = x.legal;
    }
  where
    at : (b : Bool) → EndsOwn v.who w.seen → MatchBool b (EndsFiring s v.who w.seen) (EndsOwn v.who w.seen)
    at true own = inl own
    at false own = own

-- a wait that has begun is whole once its ticket's end is made
pub wait_completes : (s : Layout) (v m : View) (t : Ticketed) (r : Reply) (log : List Entry) → IsBegun s v t r m
    → (e : EndLeaves s m t log) → Completes s v t.call r e.last
wait_completes s v m t r log begun e =
    ended_completes s v m e.last t.call r t.ticket begun.no_tick begun.gives begun.extends e.ended

abbrev Came : Layout → History → View → Call → AfterCall → Type 0
Came s h v c a = CameOf s h v c a.history a.outcome

module _ (s : Layout) (h : History) (v : View) (c : Call) (kept : IsKept s h) (fit : fits s v.who call.Fire ≡ true)
    (made : Makes s h v c (stepped h v.who c)) where
  abbrev w : View
  w = view_after s h.entries v c

  abbrev r : Reply
  r = (own_entry s h.entries v c).reply

  abbrev g : History
  g = stepped h v.who c

  after_g : IsKept s g
  after_g = kept_after s h v.who c kept

  saw : IsPrefix (h.entries ++ own_entry s h.entries v c ∷ []) (view_after s h.entries v c).seen
  saw = prefix_self (h.entries ++ own_entry s h.entries v c ∷ [])

  waits : (k : ℕ) → ticket_told r ≡ Some k → is_tick c ≡ false → (b : Bool) → ends g v.who k ≡ b
      → Came s h v c (if b then record { history = ended g v.who (record { ticket = k; call = c }); outcome = Whole }
      else record { history = g; outcome = Began (record { ticket = k; call = c }) })
  waits k gives no_tick true may =
      let t : Ticketed = record { ticket = k; call = c } in
      let e = end_leaves s g w t after_g made.up fit may in
      let begun : IsBegun s v t r w =
      record { extends = made.extends; no_tick = no_tick; gives = gives } in (
        r,
        e.last,
        wait_completes s v w t r _ begun e,
        e.up,
        e.ended.gains.older,
      )
  waits k gives no_tick false may = (
    r,
    w,
    refl,
    record { extends = made.extends; no_tick = no_tick; gives = gives },
    made.up,
    saw,
  )

  given : (o : Option ℕ) → ticket_told r ≡ o → is_tick c ≡ false
      → Came s h v c (option_map_or (λ k. begun g v.who (record { ticket = k; call = c })) o
      (record { history = g; outcome = Whole }))
  given None gives no_tick =
      (r, w, plain_completes s v w c r no_tick gives made.extends, made.up, saw)
  given (Some k) gives no_tick = waits k gives no_tick (ends g v.who k) refl

  told : (b : Bool) → is_tick c ≡ b
      → Came s h v c (if b then record { history = fired g.layout.items g v.who; outcome = Whole }
      else option_map_or (λ k. begun g v.who (record { ticket = k; call = c })) (ticket_told r)
      (record { history = g; outcome = Whole }))
  told true tick =
      let fires = fires_leave s s.items g w w after_g made.up fit (firing_begins s v w c r made.extends) in
      subst (λ (n : ℕ). Came s h v c (record { history = fired n g v.who; outcome = Whole }))
      (sym (ap (λ (l : Layout). l.items) after_g.layout)) (
        r,
        fires.last,
        tick_completes s v w fires.last c r tick made.extends fires.fired,
        fires.up,
        fires.fired.gains.older,
      )
  told false no_tick = given (ticket_told r) refl no_tick

pub came_of : (s : Layout) (h : History) (v : View) (c : Call) → IsKept s h → IsUpToDate h.entries v
    → fits s v.who call.Fire ≡ true → CameOf s h v c (called h v.who c).history (called h v.who c).outcome
unfolding called
came_of s h v c kept up fit = at (is_made h v.who c) refl
  where
    at : (b : Bool) → is_made h v.who c ≡ b
        → Came s h v c (option_map_or (after_reply (stepped h v.who c) v.who c) (replied h v.who c)
        (record { history = h; outcome = NoRoom }))
    at false not = rw (unmade_replies h v.who c not) (refl, not)
    at true made =
        let m = makes s h v c kept up made in
        rw m.replies (told s h v c kept fit m (is_tick c) refl)
