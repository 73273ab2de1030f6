-- A run that waits.
use Rattle.cmwq_rt.specs.Common.{◌≡◌, ℕ, true, false, refl, Result, Ok, Err, IfErr, IfOk, IsPrefix, Call, Reply}
use Rattle.std.proofs.Common.{◌++◌, ◌∷◌, ◌∙◌, ap, subst, sym}
use Rattle.std.proofs.lemmas.List.{append_cancel_right}
use Rattle.std.proofs.lemmas.List.Elements.{filter-append}
use Rattle.cmwq_model.specs.Prelude.{is_by, is_tick}
use Rattle.cmwq_model.proofs.Growing.{one_more_is_newest}
use Rattle.cmwq_monitor.specs.Calls.{own_entry}
use Rattle.cmwq_monitor.proofs.Entries.{made_own}
use Rattle.cmwq_rt.specs.Common.{Layout, View, List, [], Entry, Extends, past_of}
use Rattle.cmwq_rt.specs.Common.{is_caller, made_by, Completes}
use Rattle.cmwq_rt.specs.declared.wait_fault.WaitFault.{WaitFault}
use Rattle.cmwq_model.specs.declared.call.Call.TheVariants as call
use Rattle.cmwq_model.specs.Prelude.{is_callers}
use Rattle.cmwq_rt.specs.Later.{Later}
use Rattle.cmwq_waits.specs.Begun.{is_lent}
use Rattle.std.proofs.lemmas.Bool.{and_parts}
use Rattle.cmwq_rt.specs.Running.{MakesOne}
use Rattle.cmwq_rt.specs.Common.{Option, Some, None, IsLegal, NoMemory, Full, Unfinished, NoPlace, Closed}
use Rattle.cmwq_rt.specs.Common.{Stranger, NoThread, inr}
use Rattle.cmwq_monitor.specs.Held.{AllLentWait, Held, MayWaitBy, has_room_after, refusal_after, refusal_at}
use Rattle.cmwq_monitor.specs.Settled.{Settles}
use Rattle.cmwq_rt.specs.Waiting.{BreaksOff, IsAwake, IsFound, IsOfRun, NobodyLeft, SleepsThrough, TellsWhy}
use Rattle.cmwq_rt.specs.Waiting.{WasAllowed, WasLookedAt, WhyNot, is_wait}
use Rattle.cmwq_model.specs.declared.id.Who.{Who}
use Rattle.cmwq_model.specs.declared.id.ItemId.{ItemId}
use Rattle.cmwq_rt.specs.declared.wait_fault.WaitFault.TheVariants.{Itself, Deadlock, NoCaller, Run}
use Rattle.cmwq_waits.specs.declared.waits.Stuck.{Stuck}
use Rattle.cmwq_waits.specs.declared.waits.Stuck.TheVariants as stuck
use Rattle.cmwq_rt.proofs.Later.{later_trans, later_made}

-- who may make the call by which a run waits
pub waits_by_caller : (c : Call) → is_wait c ≡ true → (is_callers c ≡ true) × (is_tick c ≡ false)
waits_by_caller (call.FlushItem i) e = (refl, refl)
waits_by_caller (call.FlushDelayed i) e = (refl, refl)
waits_by_caller (call.CancelSync i) e = (refl, refl)
waits_by_caller (call.Flush q) e = (refl, refl)
waits_by_caller (call.Drain q) e = (refl, refl)
waits_by_caller (call.Queue i q p) e = absurd (cc e)
waits_by_caller (call.Delay i q p t) e = absurd (cc e)
waits_by_caller (call.Modify i q p t) e = absurd (cc e)
waits_by_caller (call.Cancel i) e = absurd (cc e)
waits_by_caller (call.Tick n) e = absurd (cc e)
waits_by_caller call.Fire e = absurd (cc e)
waits_by_caller (call.End t) e = absurd (cc e)
waits_by_caller call.Take e = absurd (cc e)
waits_by_caller call.Finish e = absurd (cc e)
waits_by_caller call.Sleep e = absurd (cc e)
waits_by_caller call.Wake e = absurd (cc e)
waits_by_caller call.Retire e = absurd (cc e)
waits_by_caller (call.SetMax q n) e = absurd (cc e)
waits_by_caller call.Freeze e = absurd (cc e)
waits_by_caller call.Thaw e = absurd (cc e)
waits_by_caller (call.Destroy q) e = absurd (cc e)

pub later_one : (s : Layout) (v w : View) (c : Call) → MakesOne s v c w → Later v w
later_one s v w c m = later_made s v w c m.0 m.1

pub later_slept : (s : Layout) (first : ℕ) (v w : View) (c : Call) (r : Reply) → SleepsThrough s first v c r w
    → Later v w
later_slept s first v w c r x =
    later_trans v x.asleep w (later_one s v x.asleep call.Sleep x.sleeps) (later_one s x.asleep w call.Wake x.wakes)

-- ---- why a run did not wait

pub nobody_found : (s : Layout) (h : Held) (worker : Who) (c : Call) (f : WaitFault) → refusal_at s h worker c ≡ None
    → NobodyLeft s h f → IsFound s h worker c f
nobody_found s h worker c NoCaller free left = (free, left)
nobody_found s h worker c (Run Closed) free left = (free, left)
nobody_found s h worker c f free left = absurd left

pub nobody_of_run : (s : Layout) (h : Held) (f : WaitFault) → NobodyLeft s h f → IsOfRun f
nobody_of_run s h NoCaller left = tt
nobody_of_run s h (Run Closed) left = λ _. refl
nobody_of_run s h f left = absurd left

looked_at : (s : Layout) (h : Held) (v w : View) (c : Call) (why : Option Stuck) → IsLegal s (past_of h.history)
    → Settles h.history v w → refusal_at s h v.who c ≡ why → WasLookedAt s h.first_lent v c why w
looked_at s h v w c why legal settles found = record {
  legal = subst (λ (x : View). IsLegal s (past_of x.seen)) (sym settles.0) legal;
  settles = subst (λ (es : List Entry). Settles es v w) (sym (ap (λ (x : View). x.seen) settles.0)) settles;
  found = subst (λ (x : View). refusal_after s h.first_lent x.seen x.who c ≡ why) (sym settles.0) found;
}

-- a fault that breaks the run off tells nothing of what was looked at
pub tells_of_break : (s : Layout) (first : ℕ) (v w : View) (c : Call) (f : WaitFault) → BreaksOff f
    → TellsWhy s first v c f w
tells_of_break s first v w c (Run Full) h = absurd (cc h)
tells_of_break s first v w c (Run (NoMemory t)) h = tt
tells_of_break s first v w c (Run Unfinished) h = tt
tells_of_break s first v w c (Run NoPlace) h = tt
tells_of_break s first v w c (Run Closed) h = tt
tells_of_break s first v w c (Run (Stranger n m)) h = tt
tells_of_break s first v w c (Run NoThread) h = tt
tells_of_break s first v w c Itself h = absurd h
tells_of_break s first v w c Deadlock h = absurd h
tells_of_break s first v w c NoCaller h = absurd h

pub tells_of_broken : (s : Layout) (first : ℕ) (v w : View) (c : Call) (o : Result Reply WaitFault)
    → IfErr o BreaksOff → IfErr o (λ f. TellsWhy s first v c f w)
tells_of_broken s first v w c (Ok r) h = tt
tells_of_broken s first v w c (Err f) h = tells_of_break s first v w c f h

-- what was found under the lock, once the worker has seen all
found_tells : (s : Layout) (h : Held) (v w : View) (c : Call) (f : WaitFault) → IsLegal s (past_of h.history)
    → Settles h.history v w → IsFound s h v.who c f → TellsWhy s h.first_lent v c f w
unfolding looked_at
found_tells s h v w c (Run Full) legal settles found = record {
  looked = looked_at s h v w c None legal settles found.0;
  caller = found.1.0;
  lent = (and_parts _ _ found.1.1).0;
  lacked = subst (λ (x : View). has_room_after s x.seen x.who found.1.0 c ≡ false) (sym settles.0) found.1.2;
}
found_tells s h v w c (Run (NoMemory t)) legal settles found = tt
found_tells s h v w c (Run Unfinished) legal settles found = tt
found_tells s h v w c (Run NoPlace) legal settles found = tt
found_tells s h v w c (Run Closed) legal settles found = tt
found_tells s h v w c (Run (Stranger n m)) legal settles found = tt
found_tells s h v w c (Run NoThread) legal settles found = tt
found_tells s h v w c Itself legal settles found = looked_at s h v w c (Some stuck.Itself) legal settles found
found_tells s h v w c Deadlock legal settles found = looked_at s h v w c (Some stuck.Circle) legal settles found
found_tells s h v w c NoCaller legal settles found = record {
  looked = looked_at s h v w c None legal settles found.0;
  wait = subst (λ (x : View). AllLentWait s h.first_lent (past_of x.seen)) (sym settles.0) found.1;
}

pub found_tells_from : (s : Layout) (first : ℕ) (h : Held) (v w : View) (c : Call) (f : WaitFault)
    → h.first_lent ≡ first → IsLegal s (past_of h.history) → Settles h.history v w → IsFound s h v.who c f
    → TellsWhy s first v c f w
found_tells_from s first h v w c f is legal settles found =
    subst (λ n. TellsWhy s n v c f w) is (found_tells s h v w c f legal settles found)

why_awake : (s : Layout) (first : ℕ) (own : ItemId) (v awake w : View) (c : Call) (f : WaitFault) → IsAwake s v awake
    → TellsWhy s first awake c f w → WhyNot s first own v c f w
why_awake s first own v awake w c (Run Full) is why = inr (awake, is, why)
why_awake s first own v awake w c (Run (NoMemory t)) is why = tt
why_awake s first own v awake w c (Run Unfinished) is why = tt
why_awake s first own v awake w c (Run NoPlace) is why = tt
why_awake s first own v awake w c (Run Closed) is why = tt
why_awake s first own v awake w c (Run (Stranger n m)) is why = tt
why_awake s first own v awake w c (Run NoThread) is why = tt
why_awake s first own v awake w c Itself is why = inr (awake, is, why)
why_awake s first own v awake w c Deadlock is why = inr (awake, is, why)
why_awake s first own v awake w c NoCaller is why = inr (awake, is, why)

pub why_once_awake : (s : Layout) (first : ℕ) (own : ItemId) (v awake w : View) (c : Call) (o : Result Reply WaitFault)
    → IsAwake s v awake → IfErr o (λ f. TellsWhy s first awake c f w) → IfErr o (λ f. WhyNot s first own v c f w)
why_once_awake s first own v awake w c (Ok r) is why = tt
why_once_awake s first own v awake w c (Err f) is why = why_awake s first own v awake w c f is why

-- under the lock its wait was allowed, and it fell asleep
pub began_allowed : (s : Layout) (first : ℕ) (h : Held) (v asleep : View) (c : Call) (caller : Who)
    → h.first_lent ≡ first → MayWaitBy s h v.who c caller
    → asleep.seen ≡ h.history ++ own_entry s h.history v call.Sleep ∷ [] → WasAllowed s first v c caller asleep
began_allowed s first h v asleep c caller is may slept = record {
  before = h.history;
  lent = subst (λ n. is_lent n caller ≡ true) is (and_parts _ _ may.free).0;
  allowed = subst (λ n. refusal_after s n h.history v.who c ≡ None) is may.allowed;
  room = may.room;
  slept = slept;
}

-- put together of its steps
pub slept_through : (s : Layout) (first : ℕ) (v asleep before after w : View) (c : Call) (o : Result Reply WaitFault)
    → MakesOne s v call.Sleep asleep → WasAllowed s first v c before.who asleep → is_caller after.who ≡ true
    → IfOk o (λ _. made_by before.who asleep.seen ≡ made_by before.who before.seen)
    → IfOk o (λ r. Completes s before c r after)
    → IfOk o (λ _. MakesOne s asleep call.Wake w)
    → IfOk o (λ _. IsPrefix (asleep.seen ++ own_entry s asleep.seen before c ∷ []) after.seen)
    → IfOk o (λ _. IsPrefix after.seen w.seen) → IfOk o (λ r. SleepsThrough s first v c r w)
slept_through s first v asleep before after w c (Ok r) sleeps allowed caller none_yet completes wakes at_once sees = record {
  asleep = asleep;
  sleeps = sleeps;
  allowed = allowed;
  before = before;
  after = after;
  nothing_yet = none_yet;
  by_caller = caller;
  completes = completes;
  wakes = wakes;
  at_once = at_once;
  sees = sees;
}
slept_through s first v asleep before after w c (Err f) sleeps allowed caller none_yet completes wakes at_once sees = tt

-- what was made next is there as well after more entries
pub next_stays : (s : Layout) (v m w : View) (log : List Entry) (c : Call)
    → m.seen ≡ log ++ own_entry s log v c ∷ [] → IsPrefix m.seen w.seen
    → IsPrefix (log ++ own_entry s log v c ∷ []) w.seen
next_stays s v m w log c seen more = subst (λ (xs : List Entry). IsPrefix xs w.seen) seen more

-- whoever has made a call had made before it what it had made
pub made_when : (s : Layout) (v w : View) (log : List Entry) (c : Call) (r : Reply) → Extends s v c r w
    → w.seen ≡ log ++ own_entry s log v c ∷ [] → made_by v.who log ≡ made_by v.who v.seen
made_when s v w log c r x seen =
    let e = own_entry s log v c in
    let f = own_entry s x.before v c in
    let all : e ∷ past_of log ≡ f ∷ past_of x.before =
    sym (one_more_is_newest log e) ∙ ap past_of (sym seen ∙ x.ends) ∙ one_more_is_newest x.before f in
    let same : f ≡ e = cc all in
    let own : made_by v.who w.seen ≡ made_by v.who log ++ e ∷ [] =
    ap (made_by v.who) seen ∙ filter-append (is_by v.who) log (e ∷ [])
    ∙ ap (λ xs. made_by v.who log ++ xs) (made_own v.who e refl) in
    append_cancel_right (made_by v.who log) (made_by v.who v.seen) (e ∷ [])
    (sym own ∙ x.gains.made ∙ ap (λ (d : Entry). made_by v.who v.seen ++ d ∷ []) same)
