-- How many queueings are open at once.
use Rattle.cmwq_theory_steps.specs.Common.{◌≡◌, ◌≤◌, ◌<◌, ◌+◌, ℕ, cond, List, [], ◌∷◌, length, length-append, filter}
use Rattle.cmwq_theory_steps.specs.Common.{count_by, Some, option_to_list, refl, sym, ap, ◌∙◌, subst, arith, ◌*◌}
use Rattle.cmwq_theory_steps.specs.Common.{is_some, AllByRecursion, length-filter_both, sum_by-filter_both, Entry}
use Rattle.cmwq_theory_steps.specs.Common.{Queueing, Layout, is_started, queueings, still_open, opening, is_live, is_of}
use Rattle.cmwq_theory_steps.specs.Common.{is_unstarted, has_not_started, IsLegal, All_append, count_by-filter}
use Rattle.cmwq_theory_steps.proofs.Lemmas.{all_kept, flip, same_Some}
use Rattle.cmwq_theory_steps.specs.Endings.{survives, is_ended, ending}
use Rattle.cmwq_theory_steps.specs.Histories.{one}
use Rattle.cmwq_theory_steps.specs.Pending.{is_run_of}
use Rattle.cmwq_theory_steps.proofs.Options.{length_option}
use Rattle.cmwq_theory_steps.proofs.OfEachKind.{no_longer}
use Rattle.cmwq_theory_steps.proofs.Entries.{opening_item}
use Rattle.cmwq_theory_steps.proofs.Endings.{open_go_on}
use Rattle.cmwq_theory_steps.proofs.Ended.{one_ends}
use Rattle.cmwq_theory_steps.proofs.Pending.{opening_opens, opens_settles, few_pending}
use Rattle.cmwq_theory_steps.proofs.OneRun.{one_run}
use Rattle.cmwq_theory_steps.proofs.Causes.{cause_of}
use Rattle.cmwq_theory_steps.proofs.Reasons.{legal_fits}
use Rattle.cmwq_theory_steps.proofs.OwedItems.{settles_item}
use Rattle.cmwq_lemmas.proofs.Lists.{of_option}

-- ---- after one more entry

pub open_counted : (s : Layout) (past : List Entry) (e : Entry) → IsLegal s (e ∷ past)
    → length (still_open (e ∷ past)) + one (is_some (ending past e))
    ≡ length (still_open past) + one (is_some (opening past e))
open_counted s past e legal = omega (
  arith,
  ap length (open_go_on s past e legal)
      ∙ length-append (filter (survives past e) (still_open past)) (option_to_list (opening past e)),
  length-filter_both (survives past e) (is_ended past e) (λ x. refl) (still_open past),
  ap length (one_ends s past e legal) ∙ length_option (ending past e),
  length_option (opening past e),
)

-- ---- two of an item

pub two_of_an_item : (s : Layout) (past : List Entry) → IsLegal s past → (i : ℕ)
    → count_by (is_of i) (still_open past) ≤ 2
two_of_an_item s past legal i = omega (
  arith,
  few_pending s past i legal,
  one_run s past legal i,
  sum_by-filter_both (λ x. is_started past x.number) (has_not_started past) (λ x. refl) (λ x. cond (is_of i x) 1 0)
      (still_open past),
  count_by-filter (is_run_of past i) (λ x. is_started past x.number) (is_of i) (still_open past)
      (λ x. flip (is_of i x) (is_started past x.number)),
  count_by-filter (is_unstarted past i) (has_not_started past) (is_of i) (still_open past)
      (λ x. flip (is_of i x) (has_not_started past x)),
)

-- ---- two for each item

abbrev ItemBelow : ℕ → Queueing → Type 0
ItemBelow n x = x.item.0 < n

queueings_below_items : (s : Layout) (past : List Entry) → IsLegal s past
    → AllByRecursion (ItemBelow s.items) (queueings past)
unfolding queueings IsLegal
queueings_below_items s [] legal = tt
queueings_below_items s (e ∷ past) legal =
    All_append (ItemBelow s.items) (queueings past) (option_to_list (opening past e))
    (queueings_below_items s past legal.2) (of_option (ItemBelow s.items) (opening past e) below)
  where
    below : (x : Queueing) → opening past e ≡ Some x → x.item.0 < s.items
    below x h =
        let k = settles_item s past e.who e.call e.reply (cause_of s past e legal) legal.2 (legal_fits s past e legal)
        (opens_settles e.reply (opening_opens past e x h)) in
        subst (λ n. n < s.items) (same_Some _ _ (sym k.is_item ∙ opening_item e past x h)) k.within

pub two_for_each_item : (s : Layout) (past : List Entry) → IsLegal s past → length (still_open past) ≤ 2 * s.items
two_for_each_item s past legal =
    no_longer (λ (x : Queueing). x.item.0) 2 s.items (still_open past)
    (all_kept (ItemBelow s.items) (is_live past) (queueings past) (queueings_below_items s past legal))
    (two_of_an_item s past legal)
