-- The bits of items that an entry doesn't mark stay.
use Rattle.cmwq_theory_steps.specs.Common.{false_from_ne_true, arith, nat_tests, ◌≡◌, ◌+◌, ℕ, Bool, true, false, List}
use Rattle.cmwq_theory_steps.specs.Common.{◌∷◌, Option, Some, None, refl, ap, ap₂, ◌∙◌, if◌then◌else◌, option_or, Reply}
use Rattle.cmwq_theory_steps.specs.Common.{Entry, Start, Layout, is_at, item_called, item_fired, item_of, item_at}
use Rattle.cmwq_theory_steps.specs.Common.{is_of_item, number_started, number_finished, item_run, start_in, starts_item}
use Rattle.cmwq_theory_steps.specs.Common.{IsLegal, bits}
use Rattle.cmwq_theory_steps.proofs.Lemmas.{both_ways}
use Rattle.cmwq_theory_steps.specs.RunSteps.{ends_run}
use Rattle.cmwq_theory_steps.specs.Marks.{item_marked}
use Rattle.cmwq_theory_steps.proofs.Entries.{is_at-true}
use Rattle.cmwq_theory_steps.proofs.Starts.{starts_next}
use Rattle.cmwq_theory_steps.proofs.ItemRuns.{item_run_started}
use Rattle.cmwq_theory_steps.proofs.Fresh.{finishes_run}
use Rattle.cmwq_theory_steps.proofs.ItemSteps.{starts_some, starts_of, start_is}
use Rattle.cmwq_theory_steps.proofs.PendingSteps.{bits_go_on}

-- ---- a reply that starts or finishes a queueing names no item

pub no_item : (r : Reply) (n : ℕ) → number_started r ≡ Some n → item_fired r ≡ None
no_item r n h = grind arith

no_other : (r : Reply) (n : ℕ) → number_finished r ≡ Some n → (item_fired r ≡ None) × (number_started r ≡ None)
no_other r n h = grind arith

-- ---- what is of item i marks it, so what is of another item stays

pub others_stay : (s : Layout) (past : List Entry) (e : Entry) (i : ℕ) → IsLegal s (e ∷ past)
    → is_at (item_marked past e) i ≡ false → bits (e ∷ past) i ≡ bits past i
unfolding IsLegal
others_stay s past e i legal other =
    let apart = unmarked (is_of_item i e) (λ h. let item = is_at-true (item_of e) i h in grind (arith, nat_tests)) in
    let unstarted = unmarked (starts_item past e i) starting in
    let unended = unmarked (ends_run e (item_run past i)) (ending (item_run past i) refl) in
    bits_go_on s past e legal i ∙ ap₂ (λ p r. (if p then 1 else 0) + (if r then 2 else 0)) (grind arith) (grind arith)
  where
    unmarked : (b : Bool) → (b ≡ true → is_at (item_marked past e) i ≡ true) → b ≡ false
    unmarked b marks = false_from_ne_true b (λ h. both_ways _ other (marks h))

    marked : (n : ℕ) → item_of e ≡ None → option_or (number_started e.reply) (number_finished e.reply) ≡ Some n
        → item_at past n ≡ Some i → is_at (item_marked past e) i ≡ true
    marked n none number item = grind (arith, nat_tests)

    starting : starts_item past e i ≡ true → is_at (item_marked past e) i ≡ true
    starting h =
        let some = starts_some past e i (start_in e) refl h in
        let st = starts_of past e i some.0 h some.1 in
        marked some.0.number
        (ap₂ option_or (ap item_called (starts_next s past e some.0.number legal st.number).is_take)
        (no_item e.reply some.0.number st.number)) (ap (λ o. option_or o (number_finished e.reply)) st.number)
        st.item

    ending : (o : Option Start) → item_run past i ≡ o → ends_run e o ≡ true → is_at (item_marked past e) i ≡ true
    ending None h is = cc
    ending (Some start) h is =
        let number = is_at-true (number_finished e.reply) start.number is in
        let alone = no_other e.reply start.number number in
        marked start.number
        (ap₂ option_or (ap item_called (finishes_run s past e start.number legal number).is_finish) alone.0)
        (ap₂ option_or alone.1 number) (start_is s past i start legal.2 (item_run_started past i start h)).item
