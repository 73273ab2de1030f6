-- A run waits by a caller: what is looked at before, how the wait begins, and how it ends.
use Rattle.std.specs.Prelude.{◌&&◌, is_some}
use Rattle.std.proofs.Common.{◌≡◌, ◌∙◌, ◌+◌, ◌≤◌, ◌++◌, ◌∷◌, ℕ, Bool, true, false, List, [], Option, Some, None}
use Rattle.std.proofs.Common.{nat_le, refl, sym, ap, subst, arith, inl, inr}
use Rattle.std.specs.Cmp.Derive.{both_true}
use Rattle.std.proofs.lemmas.Bool.{and_parts, le-leb, leb-true}
use Rattle.cmwq_model.specs.Prelude.{Layout, entry_for, fits, has_time, is_workers, room_needed}
use Rattle.cmwq_model.specs.Prelude.{runs_awake}
unfoldable use Rattle.cmwq_model.specs.Prelude.{IsLegal}
use Rattle.cmwq_model.specs.declared.call.Call.{Call}
use Rattle.cmwq_model.specs.declared.call.Call.TheVariants as call
use Rattle.cmwq_model.specs.declared.entry.Entry.{Entry}
use Rattle.cmwq_model.specs.declared.id.CallerId.{CallerId}
use Rattle.cmwq_model.specs.declared.id.ItemId.{ItemId}
use Rattle.cmwq_model.specs.declared.id.Who.{Who}
use Rattle.cmwq_model.specs.declared.id.Who.TheVariants.{Caller, Worker}
use Rattle.cmwq_model.specs.declared.id.WorkerId.{WorkerId}
use Rattle.cmwq_core.specs.History.{History, past_in, takes, takes_with}
use Rattle.cmwq_waits.specs.Begun.{is_lent, waits_of}
use Rattle.cmwq_waits.specs.Registered.{refusal_of}
use Rattle.cmwq_waits.specs.declared.waits.Stuck.{Stuck}
use Rattle.cmwq_waits.specs.declared.waits.Stuck.TheVariants as stuck
use Rattle.cmwq_monitor.specs.Calls.{own_entry}
use Rattle.cmwq_monitor.specs.Held.{has_room_after, refusal_after}
use Rattle.cmwq_monitor.specs.Participants.{View}
use Rattle.cmwq_rt.specs.Waiting.{HadNoRoom, WasAllowed, WasLookedAt, is_wait}
use Rattle.cmwq_rt.specs.declared.wait_fault.WaitFault.TheVariants as fault
use Rattle.cmwq_board.specs.Asked as board
use Rattle.cmwq_board.proofs.Slept.{needs_more}
use Rattle.cmwq_cmd_run.specs.Interpreted.{IsRefused}
use Rattle.cmwq_play.specs.Machines.{is_made}
unfoldable use Rattle.cmwq_play.specs.Machines.{has_wait_room}
use Rattle.cmwq_play.specs.Waiting.{waits_in}
unfoldable use Rattle.cmwq_play.specs.Waiting.{is_refused}
use Rattle.cmwq_play.specs.declared.place.WorkerAt.{WorkerAt}
use Rattle.cmwq_schedule_laws.proofs.Accounts.{IsItems}
use Rattle.cmwq_schedule_laws.proofs.Awake.{slept_reply}
use Rattle.cmwq_schedule_laws.proofs.Keeping.{IsKept, IsUpToDate, having_seen}

-- ---- what was found of a wait

module _ (first : ℕ) (s : Layout) (h : History) (workers : List WorkerAt) (w : WorkerId) (v : View) (kept : IsKept s h)
    (who : v.who ≡ Worker w) (up : IsUpToDate h.entries v) (c : Call)
    (same : refusal_of s (past_in h) (waits_of first (past_in h)) w c
    ≡ refusal_of s (past_in h) (waits_in h workers) w c) where
  found : (why : Option Stuck) → refusal_of s (past_in h) (waits_in h workers) w c ≡ why
      → refusal_after s first h.entries v.who c ≡ why
  found why is = subst (λ (x : Who). refusal_after s first h.entries x c ≡ why) (sym who) (same ∙ is)

  -- the worker sees all entries then
  abbrev seen : View
  seen = having_seen h.entries v

  looked_at : (why : Option Stuck) → refusal_of s (past_in h) (waits_in h workers) w c ≡ why
      → WasLookedAt s first v c why seen
  looked_at why is = record {
    legal = kept.legal;
    settles = (refl, up.older, up.book);
    found = found why is;
  }

  pub was_allowed : (u : View) (caller : Who) → is_lent first caller ≡ true
      → refusal_of s (past_in h) (waits_in h workers) w c ≡ None
      → has_room_after s h.entries (Worker w) caller c ≡ true
      → u.seen ≡ h.entries ++ own_entry s h.entries v call.Sleep ∷ [] → WasAllowed s first v c caller u
  was_allowed u caller lent is room slept = record {
    before = h.entries;
    lent = lent;
    allowed = found None is;
    room = subst (λ (x : Who). has_room_after s h.entries x caller c ≡ true) (sym who) room;
    slept = slept;
  }

  -- it was refused for a reason, or since nobody was left
  pub refused_for : (item : ItemId) (why : Stuck) → refusal_of s (past_in h) (waits_in h workers) w c ≡ Some why
      → IsRefused s first item v c seen
  refused_for item stuck.Itself is = (fault.Itself, refl, inr (v, inl refl, looked_at (Some stuck.Itself) is))
  refused_for item stuck.Circle is = (fault.Deadlock, refl, inr (v, inl refl, looked_at (Some stuck.Circle) is))

  pub nobody_left : (item : ItemId) → refusal_of s (past_in h) (waits_in h workers) w c ≡ None
      → IsRefused s first item v c seen
  nobody_left item is = (fault.NoCaller, refl, inr (v, inl refl, looked_at None is))

  -- it was allowed, and there was no room for it
  pub lacked_room : (caller : Who) → is_lent first caller ≡ true
      → refusal_of s (past_in h) (waits_in h workers) w c ≡ None
      → has_room_after s h.entries (Worker w) caller c ≡ false → HadNoRoom s first v c seen
  unfolding looked_at
  lacked_room caller lent is lacked = inr (
    v,
    inl refl,
    record {
      looked = looked_at None is;
      caller = caller;
      lent = lent;
      lacked = subst (λ (x : Who). has_room_after s h.entries x caller c ≡ false) (sym who) lacked;
    },
  )

-- whether it is refused
fit_sleep : (s : Layout) (h : History) (w : WorkerId) → IsKept s h → fits s (Worker w) call.Sleep ≡ true
    → fits h.layout (Worker w) call.Sleep ≡ true
fit_sleep s h w kept fit = subst (λ (l : Layout). fits l (Worker w) call.Sleep ≡ true) (sym kept.layout) fit

pub refusal_is : (s : Layout) (h : History) (workers : List WorkerAt) (w : WorkerId) (c : Call) → IsKept s h
    → fits s (Worker w) call.Sleep ≡ true
    → is_refused h workers w c ≡ is_some (refusal_of s (past_in h) (waits_in h workers) w c)
unfolding is_refused
refusal_is s h workers w c kept fit =
    ap (λ b. b && is_some (refusal_of h.layout (past_in h) (waits_in h workers) w c)) (fit_sleep s h w kept fit)
    ∙ ap (λ (l : Layout). is_some (refusal_of l (past_in h) (waits_in h workers) w c)) kept.layout

pub none_found : (o : Option Stuck) → is_some o ≡ false → o ≡ None
none_found None is = refl
none_found (Some x) is = absurd (cc is)

pub some_found : (o : Option Stuck) → is_some o ≡ true → (x : Stuck) × (o ≡ Some x)
some_found None is = absurd (cc is)
some_found (Some x) is = (x, refl)

-- ---- room for the call once the run sleeps

asked_of_board : (c : Call) → is_wait c ≡ true → board.is_wait c ≡ true
asked_of_board (call.FlushItem i) is = refl
asked_of_board (call.FlushDelayed i) is = refl
asked_of_board (call.CancelSync i) is = refl
asked_of_board (call.Flush q) is = refl
asked_of_board (call.Drain q) is = refl
asked_of_board c is = absurd (cc is)

no_time : (past : List Entry) (c : Call) → is_wait c ≡ true → has_time past c ≡ true
no_time past (call.FlushItem i) is = refl
no_time past (call.FlushDelayed i) is = refl
no_time past (call.CancelSync i) is = refl
no_time past (call.Flush q) is = refl
no_time past (call.Drain q) is = refl
no_time past c is = absurd (cc is)

room_own : (h g : History) (w : WorkerId) (c : CallerId) (cl : Call) → IsKept h.layout h → IsKept h.layout g
    → runs_awake (past_in h) w ≡ true → past_in g ≡ entry_for h.layout (past_in h) (Worker w) call.Sleep ∷ past_in h
    → fits h.layout (Caller c) cl ≡ true → is_wait cl ≡ true → takes_with h (Caller c) cl 2 ≡ true
    → is_made g (Caller c) cl ≡ true
unfolding IsLegal
room_own h g w c cl kept after awake past fit wait room =
    let s = h.layout in
    let e = entry_for s (past_in h) (Worker w) call.Sleep in
    let legal_e : IsLegal s (e ∷ past_in h) = subst (IsLegal s) past after.legal in
    let same_room = kept.room in
    let parts = and_parts (has_time (past_in h) cl) _ room in
    let within : room_needed s (entry_for s (past_in h) (Caller c) cl ∷ past_in h) + 2 ≤ h.room =
    leb-true _ h.room parts.1 in
    let more =
    needs_more s (past_in h) e legal_e (slept_reply s (past_in h) w awake) (Caller c) cl (asked_of_board cl wait)
    (fit, refl, legal_e.2) (fit, refl, legal_e) in
    let fits_in : room_needed s (entry_for s (e ∷ past_in h) (Caller c) cl ∷ e ∷ past_in h) ≤ h.room =
    omega (arith, more, within) in
    let here : room_needed s (entry_for s (e ∷ past_in h) (Caller c) cl ∷ e ∷ past_in h) ≤ g.room =
    subst (λ n. room_needed s (entry_for s (e ∷ past_in h) (Caller c) cl ∷ e ∷ past_in h) ≤ n)
    (same_room ∙ sym after.room) fits_in in
    let taken : takes_of s g.room (e ∷ past_in h) ≡ true = both_true (no_time (e ∷ past_in h) cl wait)
    (le-leb _ g.room here) in
    both_true (subst (λ (l : Layout). fits l (Caller c) cl ≡ true) (sym after.layout) fit)
    (subst (λ (l : Layout). takes_of l g.room (past_in g) ≡ true) (sym after.layout)
    (subst (λ (p : List Entry). takes_of s g.room p ≡ true) (sym past) taken))
  where
    takes_of : Layout → ℕ → List Entry → Bool
    takes_of l room past = has_time past cl && nat_le (room_needed l (entry_for l past (Caller c) cl ∷ past)) room

-- a schedule looks for the room of a wait as the hub does
pub wait_room_is : (s : Layout) (h : History) (w : WorkerId) (c : CallerId) (cl : Call) → IsKept s h
    → fits s (Worker w) call.Sleep ≡ true → fits s (Caller c) cl ≡ true
    → has_wait_room h w c cl ≡ has_room_after s h.entries (Worker w) (Caller c) cl
unfolding has_wait_room
wait_room_is s h w c cl kept =
    subst (λ (l : Layout). IsKept l h → fits l (Worker w) call.Sleep ≡ true → fits l (Caller c) cl ≡ true
    → has_wait_room h w c cl ≡ has_room_after l h.entries (Worker w) (Caller c) cl) kept.layout own_room kept
  where
    room_with : ℕ → Bool
    room_with n =
        takes (record { layout = h.layout; room = n; entries = h.entries }) (Worker w) call.Sleep
        && takes_with (record { layout = h.layout; room = n; entries = h.entries }) (Caller c) cl 2

    own_room : IsKept h.layout h → fits h.layout (Worker w) call.Sleep ≡ true → fits h.layout (Caller c) cl ≡ true
        → has_wait_room h w c cl ≡ has_room_after h.layout h.entries (Worker w) (Caller c) cl
    own_room here sleeps calls =
        ap (λ b. (b && takes h (Worker w) call.Sleep) && (fits h.layout (Caller c) cl && takes_with h (Caller c) cl 2))
        sleeps
        ∙ ap (λ b. takes h (Worker w) call.Sleep && (b && takes_with h (Caller c) cl 2)) calls
        ∙ ap room_with here.room

pub record HasRoom (s : Layout) (h : History) (w : WorkerId) (c : CallerId) (cl : Call) : Type 0 where
  pub sleeps : is_made h (Worker w) call.Sleep ≡ true
  pub fit : fits s (Caller c) cl ≡ true
  pub whole : has_room_after s h.entries (Worker w) (Caller c) cl ≡ true
  pub calls : (g : History) → IsKept s g → runs_awake (past_in h) w ≡ true
      → past_in g ≡ entry_for s (past_in h) (Worker w) call.Sleep ∷ past_in h → is_made g (Caller c) cl ≡ true

has_own : (h : History) (w : WorkerId) (c : CallerId) (cl : Call) → IsKept h.layout h → is_wait cl ≡ true
    → has_wait_room h w c cl ≡ true → HasRoom h.layout h w c cl
unfolding has_wait_room
has_own h w c cl kept wait room =
    let parts = and_parts (is_made h (Worker w) call.Sleep) _ room in
    let call_parts = and_parts (fits h.layout (Caller c) cl) (takes_with h (Caller c) cl 2) parts.1 in
    let sleep_parts = and_parts (fits h.layout (Worker w) call.Sleep) (takes h (Worker w) call.Sleep) parts.0 in
    record {
      sleeps = parts.0;
      fit = call_parts.0;
      whole = sym (wait_room_is h.layout h w c cl kept sleep_parts.0 call_parts.0) ∙ room;
      calls = λ g after awake past. room_own h g w c cl kept after awake past call_parts.0 wait call_parts.1;
    }

-- there is room for the sleep, and for the call after it
pub has_room : (s : Layout) (h : History) (w : WorkerId) (c : CallerId) (cl : Call) → IsKept s h → is_wait cl ≡ true
    → has_wait_room h w c cl ≡ true → HasRoom s h w c cl
has_room s h w c cl kept wait room =
    subst (λ (l : Layout). IsKept l h → HasRoom l h w c cl) kept.layout (λ k. has_own h w c cl k wait room) kept

-- ---- a call of an item that its worker does not make

pub waits_of_items : (s : Layout) (c : Call) → IsItems s c → is_workers c ≡ false → is_wait c ≡ true
waits_of_items s (call.FlushItem i) own other = refl
waits_of_items s (call.FlushDelayed i) own other = refl
waits_of_items s (call.CancelSync i) own other = refl
waits_of_items s (call.Flush q) own other = refl
waits_of_items s (call.Drain q) own other = refl
waits_of_items s (call.Queue i q p) own other = absurd (cc other)
waits_of_items s (call.Delay i q p t) own other = absurd (cc other)
waits_of_items s (call.Modify i q p t) own other = absurd (cc other)
waits_of_items s (call.Cancel i) own other = absurd (cc other)
waits_of_items s c own other = absurd (cc own.0)
