-- Runs hold up the waits that are for them, and so runs in a circle never finish.
use Rattle.std.proofs.Common.{◌≡◌, ℕ, true, false, [], ◌∷◌, ◌++◌, ◌||◌, ◌<◌, List, length, Option, Some, None, refl}
use Rattle.std.proofs.Common.{sym, ap, ap₂, ◌∙◌, subst, arith}
use Rattle.std.specs.Prelude.{if◌then◌else◌, is_some, option_map, option_and_then}
use Rattle.std.specs.List.{AllByRecursion, list_any}
use Rattle.std.proofs.lemmas.Bool.{and_parts, both_ways, eqb-true, false_from_ne_true}
use Rattle.std.proofs.lemmas.Bool.Decides.{nat_tests}
use Rattle.cmwq_model.specs.declared.call.Call.{Call}
use Rattle.cmwq_model.specs.declared.call.Call.TheVariants as call
use Rattle.cmwq_model.specs.declared.reply.Reply.{Reply}
use Rattle.cmwq_model.specs.declared.reply.Reply.TheVariants as reply
use Rattle.cmwq_model.specs.declared.entry.Entry.{Entry}
use Rattle.cmwq_model.specs.declared.record.Queueing.{Queueing}
use Rattle.cmwq_model.specs.declared.record.Start.{Start}
use Rattle.cmwq_model.specs.Prelude.{Layout, entry_at, finishes, has_number, is_done, is_end_of, is_open, item_run}
use Rattle.cmwq_model.specs.Prelude.{item_start, number_started, queueings, start_in, waits_for}
unfoldable use Rattle.cmwq_model.specs.Prelude.{IsLegal}
use Rattle.cmwq_lemmas.proofs.Lists.{All_both, All_map}
use Rattle.cmwq_lemmas.proofs.Passing.{one_there}
use Rattle.cmwq_theory_steps.proofs.Activated.{find_holds}
use Rattle.cmwq_theory_steps.proofs.Done.{ready_call}
use Rattle.cmwq_theory_steps.proofs.Entries.{entry_at-older}
use Rattle.cmwq_theory_steps.proofs.ItemRuns.{unmoved}
use Rattle.cmwq_theory_steps.proofs.ItemSteps.{items_run_on}
use Rattle.cmwq_theory_steps.proofs.Lemmas.{same_Some}
use Rattle.cmwq_theory_steps.proofs.StartsListed.{queueing_at-older}
use Rattle.cmwq_theory_steps.specs.RunSteps.{ends_run}
use Rattle.cmwq_theory_steps.specs.TicketSteps.{IsDone}
use Rattle.cmwq_theory_laws.specs.Headline.{has_ended, is_waited_for}
use Rattle.cmwq_theory_laws.proofs.WaitedFor.{waits_end_after}
use Rattle.cmwq_output_laws.specs.WaitLaws.{AreStuck, CirclesNeverEnd, FinishAfterWaits, IsBegun, IsHeld, IsRun}
use Rattle.cmwq_output_laws.specs.WaitLaws.{RunsHoldWaits, RunWait, StillWaits, ends_wait, is_for_run}

-- ---- the end of a wait

end_call : (t : ℕ) (c : Call) → is_end_of t c ≡ true → c ≡ call.End t
end_call t (call.End n) h = ap call.End (eqb-true n t h)
end_call t c h = absurd (cc h)

done_reply : (r : Reply) → is_done r ≡ true → r ≡ reply.Done
done_reply reply.Done h = refl
done_reply r h = absurd (cc h)

is_done_of : (t : ℕ) (e : Entry) → ends_wait t e ≡ true → IsDone e t
is_done_of t e h = let parts = and_parts (is_end_of t e.call) (is_done e.reply) h in
    (end_call t e.call parts.0, done_reply e.reply parts.1)

-- ---- a run is open

abbrev number : Start → ℕ
number start = start.number

opened : (past : List Entry) (i n : ℕ) (o : Option Start)
    → option_map number
    (option_and_then (λ (start : Start). if is_open past i start.number then Some start else None) o) ≡ Some n
    → is_open past i n ≡ true
opened past i n None h = cc
opened past i n (Some start) h = grind arith

not_ended : (past : List Entry) (x : Queueing) → IsRun past x → has_ended past x ≡ false
not_ended past x run = let live = opened past x.item.0 x.number (item_start past x.item.0) run.1 in
    grind (arith, nat_tests)

-- ---- a wait for it doesn't end

-- what a wait for a run is
data Kind (c : Call) (t : ℕ) (x : Queueing) : Type 0 where
  taking_back : (i : ℕ) → c ≡ call.CancelSync (record { 0 = i }) → x.item.0 ≡ i → Kind c t x
  waiting : is_waited_for c t x ≡ true → Kind c t x

kind : (c : Call) (t : ℕ) (x : Queueing) → is_for_run c t x ≡ true → Kind c t x
kind (call.CancelSync i) t x h = taking_back i.0 refl (eqb-true x.item.0 i.0 h)
kind c t x h = waiting h

still_runs : (past : List Entry) (x : Queueing) (i t : ℕ) → IsRun past x → x.item.0 ≡ i
    → waits_for past t (call.CancelSync (record { 0 = i })) ≡ None → ⊥
still_runs past x i t run same none = cc (run.1, same, none)

ends_not : (s : Layout) (past : List Entry) (e : Entry) (x : Queueing) (t : ℕ) (begun : Entry) → IsLegal s (e ∷ past)
    → IsRun past x
    → entry_at past t ≡ Some begun → IsDone e t → Kind begun.call t x → ⊥
ends_not s past e x t begun legal run at done (taking_back i is same) =
    still_runs past x i t run same
    (subst (λ c. waits_for past t c ≡ None) is (ready_call s past e t begun legal done at))
ends_not s past e x t begun legal run at done (waiting waited) =
    let ended =
    (find_holds _ (has_number x.number) (queueings past) x ((waits_end_after s (e ∷ past) legal).0 t begun done at)
    run.0).holds waited in
    both_ways _ (not_ended past x run) ended

pub runs_hold_waits : RunsHoldWaits
runs_hold_waits s past e x t c legal run (begun, at, same) is_for = false_from_ne_true (ends_wait t e) (λ ended.
    ends_not s past e x t begun legal run at (is_done_of t e ended)
    (kind begun.call t x (subst (λ d. is_for_run d t x ≡ true) (sym same) is_for)))

-- ---- a run goes on until it finishes

kept : (e : Entry) (n : ℕ) (o : Option Start) → option_map number o ≡ Some n → finishes n e ≡ false
    → option_map number (if ends_run e o then None else o) ≡ Some n
kept e n None h on = h
kept e n (Some start) h on =
    let goes_on : finishes start.number e ≡ false =
    subst (λ m. finishes m e ≡ false) (sym (same_Some start.number n h)) on in
    ap (λ b. option_map number (if b then None else Some start)) goes_on ∙ h

runs : (o : Option Start) (n : ℕ) → option_map number o ≡ Some n → is_some o ≡ true
runs None n h = cc
runs (Some start) n h = refl

goes_on : (s : Layout) (past : List Entry) (e : Entry) (x : Queueing) → IsLegal s (e ∷ past) → IsRun past x
    → finishes x.number e ≡ false → IsRun (e ∷ past) x
goes_on s past e x legal run on =
    let i = x.item.0 in
    let starts_none = unmoved s past e i (number_started e.reply) legal refl (runs (item_run past i) x.number run.1) in
    let after =
    items_run_on s past e i legal
    ∙ ap (λ b. if b then start_in e else if ends_run e (item_run past i) then None else item_run past i)
    starts_none in (
      queueing_at-older e past x.number x run.0,
      ap (option_map number) after
          ∙ kept e x.number (item_run past i) run.1 on,
    )

known : (past : List Entry) (t : ℕ) (begun : Entry) → entry_at past t ≡ Some begun → t < length past
known past t begun at = grind (arith, nat_tests)

begun_stays : (past : List Entry) (e : Entry) (t : ℕ) (c : Call) → IsBegun past t c → IsBegun (e ∷ past) t c
begun_stays past e t c (begun, at, same) = (begun, entry_at-older e past t (known past t begun at) ∙ at, same)

-- ---- circles

-- it is held after what came later, and has not ended in it
abbrev StillHeld : List Entry → List Entry → List RunWait → RunWait → Type 0
StillHeld past later waits wait = IsHeld (later ++ past) waits wait × (list_any (ends_wait wait.ticket) later ≡ false)

one_more : (s : Layout) (past later : List Entry) (e : Entry) (waits : List RunWait) → IsLegal s (e ∷ (later ++ past))
    → AllByRecursion (StillHeld past later waits) waits
    → (wait : RunWait) → StillHeld past later waits wait
    → (finishes wait.run.number e ≡ true → list_any (ends_wait wait.ticket) later ≡ true)
    → StillHeld past (e ∷ later) waits wait
one_more s past later e waits legal all wait (held, unended) after =
    let on = false_from_ne_true _ (λ finished. both_ways _ unended (after finished)) in
    let (other, (others, none), is_for) =
    one_there (StillHeld past later waits) (λ (other : RunWait). is_for_run wait.call wait.ticket other.run) waits
    all held.is_for in
    let waits_on =
    runs_hold_waits s (later ++ past) e other.run wait.ticket wait.call legal others.runs held.begun is_for in (
      record {
        runs = goes_on s (later ++ past) e wait.run legal held.runs on;
        begun = begun_stays (later ++ past) e wait.ticket wait.call held.begun;
        is_for = held.is_for;
      },
      ap₂ (λ a b. a || b) waits_on unended,
    )

still_held : (s : Layout) (past later : List Entry) (waits : List RunWait) → IsLegal s (later ++ past)
    → AreStuck past waits → FinishAfterWaits waits later
    → AllByRecursion (StillHeld past later waits) waits
unfolding IsLegal
still_held s past [] waits legal stuck after =
    All_map (IsHeld past waits) (StillHeld past [] waits) waits (λ wait held. (held, refl)) stuck
still_held s past (e ∷ later) waits legal stuck (after, finish) =
    let before = still_held s past later waits legal.2 stuck after in
    All_both (StillHeld past later waits) _ (StillHeld past (e ∷ later) waits) waits
    (one_more s past later e waits legal before) before finish

pub circles_never_end : CirclesNeverEnd
circles_never_end s past later waits legal stuck after =
    All_map (StillHeld past later waits) (StillWaits past later) waits (λ wait held. (held.0.runs, held.1))
    (still_held s past later waits legal stuck after)
