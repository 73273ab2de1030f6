-- Actions, one after another.
use Rattle.cmwq_cmd_run.specs.Common.{◌≡◌, ◌∙◌, ℕ, ◌+◌, ◌<◌, List, [], ◌∷◌, ◌++◌, length, take, get_or, refl, sym}
use Rattle.cmwq_cmd_run.specs.Common.{subst, inl, inr, Result, Ok, Err, IfOk, IfErr, Option, None, true, false, is_own}
use Rattle.cmwq_cmd_run.specs.Common.{is_workers, Call, Layout, View, Refused, RunFault, Full, fault_after, has_numbers}
use Rattle.cmwq_cmd_run.specs.Common.{Action, LeftOut, no_waits}
use Rattle.std.proofs.lemmas.List.{take_more}
use Rattle.cmwq_model.specs.declared.reply.Reply.{Reply}
use Rattle.cmwq_model.specs.declared.call.Call.TheVariants as call
use Rattle.cmwq_monitor.specs.Calls.{Extends}
use Rattle.std.specs.Prelude.{◌⊎◌}
use Rattle.cmwq_json_script.specs.declared.action.Action.TheVariants as action
use Rattle.cmwq_rt.specs.Running.{MakesOne}
use Rattle.cmwq_rt.specs.Waiting.{HasWaited, IsAwake, IsRefusedFor, WasLookedAt, WhyNot, fault_after_wait}
use Rattle.cmwq_rt.specs.Waiting.{is_for_itself, is_refusal, is_wait, left_out_after}
use Rattle.cmwq_model.specs.declared.id.ItemId.{ItemId}
use Rattle.cmwq_rt.specs.declared.wait_fault.WaitFault.{WaitFault}
use Rattle.cmwq_rt.specs.declared.wait_fault.WaitFault.TheVariants as waits
use Rattle.cmwq_cmd_run.specs.Interpreted.{Acts, ActInTurn, MakesIfRoom, SleepsOnce, WaitsIfMay}

-- one action more
act_more : (s : Layout) (item : ItemId) (xs : List Action) (a : Action) (old middle new : LeftOut) (v m w : View)
    → ActInTurn s item xs old middle v m → Acts s item a middle new m w → ActInTurn s item (xs ++ a ∷ []) old new v w
act_more s item [] a old middle new v m w (same, none) acts = (
  new,
  w,
  subst (λ l. Acts s item a l new v w) none (subst (λ u. Acts s item a middle new u w) same acts),
  (refl, refl),
)
act_more s item (b ∷ bs) a old middle new v m w (between, next, first, rest) acts =
    (between, next, first, act_more s item bs a between middle new next m w rest acts)

pub act_next : (s : Layout) (item now : ItemId) (xs : List Action) (k : ℕ) (d : Action) (old middle new : LeftOut)
    (v m w : View) → k < length xs → ActInTurn s item (take k xs) old middle v m → now ≡ item
    → Acts s now (get_or xs k d) middle new m w → ActInTurn s item (take (k + 1) xs) old new v w
act_next s item now xs k d old middle new v m w lt before same acts =
    rw (take_more xs k d lt)
    (act_more s item (take k xs) (get_or xs k d) old middle new v m w before
    (subst (λ i. Acts s i (get_or xs k d) middle new m w) same acts))

-- what answered, or had no room, made its entry if there was room
made_if_room : (s : Layout) (c : Call) (v w : View) (answer : Result Reply RunFault)
    → IfOk answer (λ r. Extends s v c r w) → IfErr answer (λ f. Refused s v c f w) → IfErr answer (λ f. f ≡ Full)
    → MakesIfRoom s v c w
made_if_room s c v w (Ok r) made refused full = inl (r, made)
made_if_room s c v w (Err f) made refused full = inr (subst (λ e. Refused s v c e w) full refused)

-- and the run has met no fault
no_fault : (answer : Result Reply RunFault) (old : Option RunFault) → IfErr answer (λ f. f ≡ Full) → old ≡ None
    → fault_after answer old ≡ None
no_fault (Ok r) old full none = none
no_fault (Err f) old full none = subst (λ e. fault_after (Err e) old ≡ None) (sym full) none

-- a sleep and a wake
slept : (s : Layout) (v m w : View) (r : Reply) (answer : Result Reply RunFault) (before middle after : Option RunFault)
    → Extends s v call.Sleep r m → IfOk answer (λ r. Extends s m call.Wake r w)
    → IfErr answer (λ f. Refused s m call.Wake f w) → IfErr answer (λ f. f ≡ Full)
    → before ≡ None → middle ≡ before → after ≡ fault_after answer middle → (after ≡ None) × SleepsOnce s v w
slept s v m w r answer before middle after asleep made refused full none kept is = (
  is ∙ no_fault answer middle full (kept ∙ none),
  inl (m, (r, asleep), made_if_room s call.Wake m w answer made refused full),
)

pub slept_if : (s : Layout) (v m w : View) (r : Reply) (answer : Result Reply RunFault)
    (passed : Result (Unit {0}) RunFault) (before middle after : Option RunFault)
    → Extends s v call.Sleep r m → IfOk answer (λ r. Extends s m call.Wake r w)
    → IfErr answer (λ f. Refused s m call.Wake f w) → IfOk passed (λ _. IfErr answer (λ f. f ≡ Full))
    → before ≡ None → middle ≡ before → after ≡ fault_after answer middle
    → IfOk passed (λ _. (after ≡ None) × SleepsOnce s v w)
slept_if s v m w r answer (Ok u) before middle after asleep made refused full none kept is =
    slept s v m w r answer before middle after asleep made refused full none kept is
slept_if s v m w r answer (Err f) before middle after asleep made refused full none kept is = tt

-- a wait that was refused or had no room is counted, and the run has met no fault
was_left_out : (s : Layout) (first : ℕ) (item : ItemId) (c : Call) (v w : View) (f : WaitFault) (before after : Option RunFault)
    (old new : LeftOut) → WhyNot s first item v c f w → (is_refusal f ≡ true) ⊎ (f ≡ waits.Run Full)
    → before ≡ None → after ≡ fault_after_wait (Err f) before → new ≡ left_out_after (Err f) old
    → (after ≡ None) × WaitsIfMay s item old new v c w
was_left_out s first item c v w waits.Itself before after old new why passes none is counts =
    (is ∙ none, (first, inr (inl ((waits.Itself, refl, why), counts))))
was_left_out s first item c v w waits.Deadlock before after old new why passes none is counts =
    (is ∙ none, (first, inr (inl ((waits.Deadlock, refl, why), counts))))
was_left_out s first item c v w waits.NoCaller before after old new why passes none is counts =
    (is ∙ none, (first, inr (inl ((waits.NoCaller, refl, looked why), counts))))
  where
    looked : IsRefusedFor s first item v c waits.NoCaller w → ((is_for_itself item c ≡ true) × (w ≡ v))
        ⊎ ((awake : View) × IsAwake s v awake × WasLookedAt s first awake c None w)
    looked (inl own) = inl own
    looked (inr (awake, is_awake, lacked)) = inr (awake, is_awake, lacked.looked)
was_left_out s first item c v w (waits.Run f) before after old new why (inl never) none is counts = absurd (cc never)
was_left_out s first item c v w (waits.Run f) before after old new why (inr same) none is counts = (
  subst (λ e. after ≡ fault_after_wait (Err e) before) same is ∙ none,
  (
    first,
    inr (inr (
      subst (λ e. WhyNot s first item v c e w) same why,
      subst (λ e. new ≡ left_out_after (Err e) old) same counts,
    )),
  ),
)

waits_or_not : (s : Layout) (first : ℕ) (item : ItemId) (c : Call) (v w : View) (answer : Result Reply WaitFault)
    (before after : Option RunFault) (old new : LeftOut)
    → IfOk answer (λ r. HasWaited s first v c r w) → IfErr answer (λ f. WhyNot s first item v c f w)
    → IfErr answer (λ f. (is_refusal f ≡ true) ⊎ (f ≡ waits.Run Full))
    → before ≡ None → after ≡ fault_after_wait answer before → new ≡ left_out_after answer old
    → (after ≡ None) × WaitsIfMay s item old new v c w
waits_or_not s first item c v w (Ok r) before after old new waited why passes none is counts =
    (is ∙ none, (first, inl (r, waited, counts)))
waits_or_not s first item c v w (Err f) before after old new waited why passes none is counts =
    was_left_out s first item c v w f before after old new why passes none is counts

-- an action that waits
acts_by_wait : (s : Layout) (item : ItemId) (c : Call) (old new : LeftOut) (v w : View) → is_own c ≡ true
    → has_numbers s c ≡ true → is_workers c ≡ false → WaitsIfMay s item old new v c w
    → Acts s item (action.Call c) old new v w
acts_by_wait s item c old new v w own numbers other left = rw own (rw numbers (rw other left))

pub waits_if_may : (s : Layout) (first : ℕ) (item : ItemId) (c : Call) (v w : View) (answer : Result Reply WaitFault)
    (passed : Result (Unit {0}) RunFault) (before after : Option RunFault) (old new : LeftOut)
    → is_own c ≡ true → has_numbers s c ≡ true → is_workers c ≡ false
    → IfOk answer (λ r. HasWaited s first v c r w) → IfErr answer (λ f. WhyNot s first item v c f w)
    → IfOk passed (λ _. IfErr answer (λ f. (is_refusal f ≡ true) ⊎ (f ≡ waits.Run Full)))
    → before ≡ None → after ≡ fault_after_wait answer before → new ≡ left_out_after answer old
    → IfOk passed (λ _. (after ≡ None) × Acts s item (action.Call c) old new v w)
waits_if_may s first item c v w answer (Ok u) before after old new own numbers other waited why passes none is counts =
    let left = waits_or_not s first item c v w answer before after old new waited why passes none is counts in
    (left.0, acts_by_wait s item c old new v w own numbers other left.1)
waits_if_may s first item c v w answer (Err f) before after old new own numbers other waited why passes none is counts = tt

-- a call that items make and workers don't is one by which a run waits
pub own_waits : (c : Call) → is_own c ≡ true → is_workers c ≡ false → is_wait c ≡ true
own_waits (call.FlushItem i) own other = refl
own_waits (call.FlushDelayed i) own other = refl
own_waits (call.CancelSync i) own other = refl
own_waits (call.Flush q) own other = refl
own_waits (call.Drain q) own other = refl
own_waits (call.Queue i q c) own other = absurd (cc other)
own_waits (call.Delay i q c t) own other = absurd (cc other)
own_waits (call.Modify i q c t) own other = absurd (cc other)
own_waits (call.Cancel i) own other = absurd (cc other)
own_waits c own other = absurd (cc own)
