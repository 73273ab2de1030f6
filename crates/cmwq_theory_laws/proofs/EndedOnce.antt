-- What was cancelled was never started, and what is finished was started.
use Rattle.cmwq_theory_laws.specs.Common.{◌≡◌, ℕ, Bool, true, false, List, [], ◌∷◌, length, option_to_list, refl, ap}
use Rattle.cmwq_theory_laws.specs.Common.{◌∙◌, arith, AllByRecursion, or_right, Entry, Queueing, Layout, starts}
use Rattle.cmwq_theory_laws.specs.Common.{finishes, number_started, number_finished, is_started, is_finished}
use Rattle.cmwq_theory_laws.specs.Common.{is_cancelled, is_open, queueings, opening, IsLegal, All_map, All_both}
use Rattle.cmwq_theory_laws.specs.Common.{All_append, opening_number, IsKnown, queueings_known, is_at-true, run_is}
use Rattle.cmwq_theory_laws.specs.Common.{finishes_run, open_at_once}
use Rattle.std.proofs.Common.{⊎_elim}
use Rattle.cmwq_lemmas.proofs.Members.{all_in, in_option}
use Rattle.std.proofs.lemmas.Bool.{and_right, or_cases}
use Rattle.cmwq_theory_laws.specs.Sanity.{is_ended_twice, is_started_cancelled}
use Rattle.cmwq_theory_steps.proofs.RunSteps.{started_not_cancelled, started_open, last_started}

open_uncancelled : (past : List Entry) (i n : ℕ) → is_open past i n ≡ true → is_cancelled past i n ≡ false
open_uncancelled past i n h = grind arith

-- ---- what was cancelled was never started

uncancelled_more : (s : Layout) (past : List Entry) (e : Entry) (i n : ℕ) → IsLegal s (e ∷ past)
    → is_started past n ≡ true → is_cancelled past i n ≡ false → is_cancelled (e ∷ past) i n ≡ false
unfolding is_cancelled
uncancelled_more s past e i n legal started survivors = let not_now = started_not_cancelled s past e n legal started in
    grind arith

start_spares : (s : Layout) (past : List Entry) (e : Entry) (x : Queueing) → IsLegal s (e ∷ past) → IsKnown past x
    → is_started_cancelled past x ≡ false → is_started_cancelled (e ∷ past) x ≡ false
start_spares s past e x legal known survivors = here (starts x.number e) refl
  where
    here : (a : Bool) → starts x.number e ≡ a → is_started_cancelled (e ∷ past) x ≡ false
    here true ha =
        and_right _ _
        (open_uncancelled (e ∷ past) x.item.0 x.number
        (started_open s past e x.item.0 x.number legal (is_at-true (number_started e.reply) x.number ha) known.item))
    here false ha = grind (arith, uncancelled_more s past e x.item.0 x.number legal)

pub cancelled_never_start : (s : Layout) (past : List Entry) → IsLegal s past
    → AllByRecursion (λ x. is_started_cancelled past x ≡ false) (queueings past)
unfolding IsLegal queueings
cancelled_never_start s [] legal = tt
cancelled_never_start s (e ∷ past) legal =
    All_append (λ x. is_started_cancelled (e ∷ past) x ≡ false) (queueings past) (option_to_list (opening past e))
    (All_both (IsKnown past) (λ x. is_started_cancelled past x ≡ false) (λ x. is_started_cancelled (e ∷ past) x ≡ false)
    (queueings past) (λ x known survivors. start_spares s past e x legal known survivors) (queueings_known past)
    (cancelled_never_start s past legal.2))
    (all_in _ (option_to_list (opening past e))
    (λ x there.
    and_right _ _
    (ap (is_cancelled (e ∷ past) x.item.0) (opening_number past e x (in_option (opening past e) x there))
    ∙ open_uncancelled (e ∷ past) x.item.0 (length past) (open_at_once s past e x.item.0 legal))))

-- ---- what is finished was started

pub finished_started : (s : Layout) (past : List Entry) (n : ℕ) → IsLegal s past → is_finished past n ≡ true
    → is_started past n ≡ true
unfolding IsLegal
finished_started s [] n legal h = cc
finished_started s (e ∷ past) n legal h = or_right (starts n e) (is_started past n) (⊎_elim (λ now.
    let f = finishes_run s past e n legal (is_at-true (number_finished e.reply) n now) in
    last_started past f.worker n (run_is past f.worker n f.is_run).last)
    (λ was. finished_started s past n legal.2 was) (or_cases (finishes n e) (is_finished past n) h))

pub queueings_end_once : (s : Layout) (past : List Entry) → IsLegal s past
    → AllByRecursion (λ x. is_ended_twice past x ≡ false) (queueings past)
queueings_end_once s past legal =
    All_map (λ x. is_started_cancelled past x ≡ false) _ (queueings past)
    (λ x h. grind (arith, finished_started s past x.number legal)) (cancelled_never_start s past legal)
