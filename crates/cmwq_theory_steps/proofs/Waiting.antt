-- What waits, and what becomes active, after one more entry.
use Rattle.cmwq_theory_steps.specs.Common.{◌≡◌, true, not, ◌&&◌, List, [], ◌∷◌, ◌++◌, filter, Option, Some, None}
use Rattle.cmwq_theory_steps.specs.Common.{option_to_list, cond, arith, refl, sym, ap, ap₂, ◌∙◌, AllByRecursion}
use Rattle.cmwq_theory_steps.specs.Common.{filter-append, Entry, Queueing, Layout, queueings, still_open, is_live}
use Rattle.cmwq_theory_steps.specs.Common.{opening, is_below_max_active, is_newly_active, newly_active, IsLegal}
use Rattle.cmwq_theory_steps.specs.Common.{All_each, All_filter, All_map}
use Rattle.cmwq_theory_steps.proofs.Joined.{active_go_on}
use Rattle.cmwq_theory_steps.proofs.Rising.{opening_number}
use Rattle.cmwq_theory_steps.specs.Endings.{survives}
use Rattle.cmwq_theory_steps.specs.Activations.{waits}
use Rattle.cmwq_lemmas.proofs.Filters.{filter_twice, filter_same}
use Rattle.cmwq_theory_steps.proofs.Active.{not_active_yet}
use Rattle.cmwq_theory_steps.proofs.Endings.{open_go_on}
use Rattle.cmwq_theory_steps.proofs.Promoted.{turn_filters, newly_is, newly_of_open}
use Rattle.cmwq_theory_steps.specs.Waiting.{waiting_queueings, candidates, has_none}
use Rattle.cmwq_lemmas.proofs.Truth.{flip}

pub all_live : (past : List Entry) → AllByRecursion (λ x. is_live past x ≡ true) (still_open past)
all_live past =
    All_filter (λ x. is_live past x ≡ true) (is_live past) (queueings past) (All_each _ (queueings past) (λ x h. h))

-- what is opened wasn't active before
pub opened_waits : (s : Layout) (past : List Entry) (e : Entry) (o : Option Queueing) → opening past e ≡ o
    → filter (waits s past) (option_to_list o) ≡ option_to_list o
opened_waits s past e None h = refl
opened_waits s past e (Some x) h =
    ap (λ b. cond (not b) (x ∷ []) []) (not_active_yet s past x (opening_number past e x h))

pub candidates_are : (s : Layout) (past : List Entry) (e : Entry) → IsLegal s (e ∷ past)
    → candidates s past e ≡ filter (survives past e) (waiting_queueings s past) ++ option_to_list (opening past e)
candidates_are s past e legal =
    ap (filter (waits s past)) (open_go_on s past e legal)
    ∙ (filter-append (waits s past) (filter (survives past e) (still_open past)) (option_to_list (opening past e))
    ∙ ap₂ (λ xs ys. xs ++ ys) (turn_filters (waits s past) (survives past e) (still_open past))
    (opened_waits s past e (opening past e) refl))

pub newly_are : (s : Layout) (past : List Entry) (e : Entry)
    → newly_active s past e ≡ filter (is_below_max_active s (e ∷ past)) (candidates s past e)
newly_are s past e =
    newly_of_open s past e
    ∙ (filter_same (is_newly_active s past e) (λ x. waits s past x && is_below_max_active s (e ∷ past) x)
    (still_open (e ∷ past))
    (All_map (λ x. is_live (e ∷ past) x ≡ true) _ (still_open (e ∷ past))
    (λ x live. newly_is s past e x live ∙ flip (is_below_max_active s (e ∷ past) x) (waits s past x))
    (all_live (e ∷ past)))
    ∙ sym (filter_twice (is_below_max_active s (e ∷ past)) (waits s past) (still_open (e ∷ past))))

pub waiting_goes_on : (s : Layout) (past : List Entry) (e : Entry)
    → waiting_queueings s (e ∷ past) ≡ filter (has_none s (e ∷ past)) (candidates s past e)
waiting_goes_on s past e =
    filter_same (waits s (e ∷ past)) (λ x. waits s past x && has_none s (e ∷ past) x) (still_open (e ∷ past))
    (All_map (λ x. is_live (e ∷ past) x ≡ true) _ (still_open (e ∷ past))
    (λ x live. grind (arith, active_go_on s past e x)) (all_live (e ∷ past)))
    ∙ sym (filter_twice (has_none s (e ∷ past)) (waits s past) (still_open (e ∷ past)))
