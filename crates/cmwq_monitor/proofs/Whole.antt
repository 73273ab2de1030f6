-- Whole calls, put together of their steps.
use Rattle.cmwq_monitor.specs.Common.{◌≡◌, ℕ, List, [], ◌∷◌, ◌++◌, Bool, true, false, true≢false, refl, ap, sym, ◌∙◌}
use Rattle.cmwq_monitor.specs.Common.{subst, inl, inr, None, Some, MatchBool, Who, Call, Reply, Entry, Layout, answer}
use Rattle.cmwq_monitor.specs.Common.{past_of}
use Rattle.cmwq_model.specs.Prelude.{is_drain, is_tick, ticket_told}
use Rattle.cmwq_model.specs.declared.call.Call.TheVariants as call
use Rattle.cmwq_model.specs.declared.reply.Reply.TheVariants as reply
use Rattle.cmwq_monitor.specs.Participants.{View, made_by}
use Rattle.cmwq_monitor.specs.Calls.{Extends, own_entry}
use Rattle.cmwq_monitor.specs.declared.fault.RunFault.{RunFault}
use Rattle.cmwq_monitor.specs.Whole.{Completes, BrokeOff, Behind, Fires, EndsOwn, EndsFiring, EndsTicket, Stops}
use Rattle.cmwq_monitor.specs.Whole.{ticket_left}
use Rattle.cmwq_monitor.specs.Steps.{HasFired, HasFiredSome, HasEnded, HasEndedSome, still_unended}
use Rattle.cmwq_monitor.proofs.Entries.{gains_none, gains_more}
use Rattle.cmwq_monitor.proofs.Fired.{ends_extended}
use Rattle.cmwq_monitor.proofs.Serials.{stand_next}

behind_tick : (s : Layout) (who : Who) (history made es : List Entry) (c : Call) (r : Reply) → is_tick c ≡ true
    → Fires s who history s.items made es → Behind s who history made c r es
behind_tick s who history made es c r is fires = rw is fires

pub tick_completes : (s : Layout) (v m w : View) (c : Call) (r : Reply) → is_tick c ≡ true → Extends s v c r m
    → HasFired s m w → Completes s v c r w
tick_completes s v m w c r is x fired =
    let e = own_entry s x.before v c in
    let same = x.gains.same in
    let fires =
    subst (λ made. Fires s v.who w.seen s.items made fired.entries) x.gains.made
    (subst (λ who. Fires s who w.seen s.items (made_by who m.seen) fired.entries) same fired.fires) in
    record {
      entries = e ∷ fired.entries;
      gains = gains_more v m w (e ∷ []) fired.entries x.gains fired.gains;
      makes = record {
        first = e;
        rest = fired.entries;
        all = refl;
        is = (refl, sym x.reply);
        behind = behind_tick s v.who w.seen (made_by v.who v.seen ++ e ∷ []) fired.entries c r is fires;
      };
      serials =
          stand_next s v w (e ∷ fired.entries) (gains_more v m w (e ∷ []) fired.entries x.gains fired.gains)
          fired.counts fired.legal;
      counts = fired.counts;
      ends = rw is (subst (λ who. EndsFiring s who w.seen) same fired.ends);
      legal = fired.legal;
    }

left_more : (e : Entry) (es : List Entry) → ticket_told e.reply ≡ None → ticket_left (e ∷ es) ≡ None
left_more e [] none = none
left_more e (f ∷ es) none = refl

pub tick_broke : (s : Layout) (v m w : View) (c : Call) (r : Reply) (f : RunFault) → is_tick c ≡ true
    → ticket_told r ≡ None → Stops w None f → Extends s v c r m → HasFiredSome m w → BrokeOff s v c f w
tick_broke s v m w c r f is none stops x some =
    let e = own_entry s x.before v c in
    let left : ticket_left (e ∷ some.0) ≡ None = left_more e some.0 (ap ticket_told (sym x.reply) ∙ none) in
    inr (
      e,
      some.0,
      gains_more v m w (e ∷ []) some.0 x.gains some.1,
      (refl, rw is some.2),
      subst (λ t. Stops w t f) (sym left) stops,
    )

pub ended_completes : (s : Layout) (v m w : View) (c : Call) (r : Reply) (k : ℕ) → is_tick c ≡ false
    → ticket_told r ≡ Some k → Extends s v c r m → HasEnded s m c k w → Completes s v c r w
ended_completes s v m w c r k is given x ended =
    let e = own_entry s x.before v c in
    let same = x.gains.same in
    let end =
    subst (λ made. EndsTicket s v.who w.seen made c k ended.entries) x.gains.made
    (subst (λ who. EndsTicket s who w.seen (made_by who m.seen) c k ended.entries) same ended.is) in
    record {
      entries = e ∷ ended.entries;
      gains = gains_more v m w (e ∷ []) ended.entries x.gains ended.gains;
      makes = record {
        first = e;
        rest = ended.entries;
        all = refl;
        is = (refl, sym x.reply);
        behind =
            rw (is, given) end;
      };
      serials =
          stand_next s v w (e ∷ ended.entries) (gains_more v m w (e ∷ []) ended.entries x.gains ended.gains)
          ended.counts ended.legal;
      counts = ended.counts;
      ends = rw is
          (subst (λ who. MatchBool (is_drain c) (EndsFiring s who w.seen) (EndsOwn who w.seen)) same ended.ends);
      legal = ended.legal;
    }

left_ended : (e : Entry) (es : List Entry) (k : ℕ) → ticket_told e.reply ≡ Some k
    → still_unended k es ≡ ticket_left (e ∷ es)
left_ended e [] k given = sym given
left_ended e (f ∷ es) k given = refl

pub ended_broke : (s : Layout) (v m w : View) (c : Call) (r : Reply) (k : ℕ) (f : RunFault) → is_tick c ≡ false
    → ticket_told r ≡ Some k → Extends s v c r m → HasEndedSome s m c k f w → BrokeOff s v c f w
ended_broke s v m w c r k f is given x some =
    let e = own_entry s x.before v c in
    let from : ticket_told e.reply ≡ Some k = ap ticket_told (sym x.reply) ∙ given in
    inr (
      e,
      some.0,
      gains_more v m w (e ∷ []) some.0 x.gains some.1,
      (refl, rw (is, from) some.2),
      subst (λ t. Stops w t f) (left_ended e some.0 k from) some.3,
    )

-- the end of a ticket, by itself and after a drain
pub ended_alone : (s : Layout) (v w : View) (c : Call) (k : ℕ) → is_drain c ≡ false
    → Extends s v (call.End k) reply.Done w → HasEnded s v c k w
ended_alone s v w c k is x =
    let e = own_entry s x.before v (call.End k) in record {
      entries = e ∷ [];
      gains = x.gains;
      is = (e, [], refl, (refl, sym x.reply), rw is refl);
      counts = x.counts;
      ends = rw is (ends_extended s v w (call.End k) reply.Done x);
      legal = x.legal;
    }

pub ended_fired : (s : Layout) (v m w : View) (c : Call) (k : ℕ) → is_drain c ≡ true
    → Extends s v (call.End k) reply.Done m → HasFired s m w → HasEnded s v c k w
ended_fired s v m w c k is x fired =
    let e = own_entry s x.before v (call.End k) in
    let same = x.gains.same in
    let fires =
    subst (λ made. Fires s v.who w.seen s.items made fired.entries) x.gains.made
    (subst (λ who. Fires s who w.seen s.items (made_by who m.seen) fired.entries) same fired.fires) in
    record {
      entries = e ∷ fired.entries;
      gains = gains_more v m w (e ∷ []) fired.entries x.gains fired.gains;
      is = (e, fired.entries, refl, (refl, sym x.reply), rw is fires);
      counts = fired.counts;
      ends = rw is (subst (λ who. EndsFiring s who w.seen) same fired.ends);
      legal = fired.legal;
    }

pub ended_some : (s : Layout) (v m w : View) (c : Call) (k : ℕ) (f : RunFault) → is_drain c ≡ true → Stops w None f
    → Extends s v (call.End k) reply.Done m → HasFiredSome m w → HasEndedSome s v c k f w
ended_some s v m w c k f is stops x some =
    let e = own_entry s x.before v (call.End k) in (
      e ∷ some.0,
      gains_more v m w (e ∷ []) some.0 x.gains some.1,
      inr (e, some.0, refl, (refl, sym x.reply), rw is some.2),
      stops,
    )

pub ended_not : (v w : View) (s : Layout) (c : Call) (k : ℕ) (f : RunFault) → w ≡ v → Stops v (Some k) f
    → HasEndedSome s v c k f w
ended_not v w s c k f same stops = subst (λ x. HasEndedSome s v c k f x) (sym same) ([], gains_none v, inl refl, stops)

pub when_true : {A : Type 0} (B : Type 0) (b : Bool) → b ≡ true → MatchBool b A B → A
when_true B true e m = m
when_true B false e m = absurd (true≢false (sym e))

tick_gives_none : (s : Layout) (past : List Entry) (who : Who) (t : ℕ)
    → ticket_told (answer s past who (call.Tick t)) ≡ None
unfolding answer
tick_gives_none s past who t = refl

pub ticks_give_none : (s : Layout) (v w : View) (t : ℕ) (r : Reply) → Extends s v (call.Tick t) r w
    → ticket_told r ≡ None
ticks_give_none s v w t r x = ap ticket_told x.reply ∙ tick_gives_none s (past_of x.before) v.who t
