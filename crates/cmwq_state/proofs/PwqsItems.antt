-- What waits is of different items: a queueing that waits has not started, and an item has one unstarted queueing at
-- most.
use Rattle.cmwq_state.specs.Common.{◌≡◌, ◌<◌, Bool, true, false, ◌||◌, ◌∷◌, List, length, filter, Some, option_to_list}
use Rattle.cmwq_state.specs.Common.{refl, sym, ap, ap₂, ◌∙◌, subst, arith, eqb-true, false_from_ne_true, not-true}
use Rattle.cmwq_state.specs.Common.{list_any, All-from_recursion, Entry, Queueing, Layout, queueings, still_open}
use Rattle.cmwq_state.specs.Common.{opening, is_live, is_active, is_of, IsLegal, waits, waiting_queueings, In, of_in}
use Rattle.cmwq_state.specs.Common.{all_in, in_right, in_filter, filter_in}
use Rattle.std.proofs.lemmas.Bool.{false≢true}
use Rattle.std.proofs.lemmas.List.Folds.{list_any_none}
use Rattle.cmwq_model.specs.Prelude.{is_started, starts}
use Rattle.cmwq_theory_steps.specs.Endings.{survives}
use Rattle.cmwq_theory_steps.proofs.Rising.{opening_number, queueings_below}
use Rattle.cmwq_theory_steps.proofs.Endings.{open_go_on}
use Rattle.cmwq_theory_steps.proofs.StartsListed.{queueings_found}
use Rattle.cmwq_theory_steps.proofs.WorklistSteps.{opening_inert, started_are_active, starts_only_active}
use Rattle.cmwq_lemmas.proofs.Members.{in_left, option_in}
use Rattle.cmwq_lemmas.proofs.Rising.{rises_unique}
use Rattle.cmwq_refinement.proofs.FlightKinds.{legal_before}
use Rattle.cmwq_refinement.proofs.ItemNumbers.{one_of}
use Rattle.cmwq_refinement.proofs.QueueingSteps.{open_numbers_rise}
use Rattle.cmwq_refinement.specs.ByNumber.{number_of_queueing}
use Rattle.cmwq_pwq.specs.Pwqs.{IsNumberOfItem}

-- what waits with the number of an open queueing is that one
pub number_of_item : (s : Layout) (past : List Entry) (x : Queueing) → In x (still_open past)
    → IsNumberOfItem x (waiting_queueings s past)
number_of_item s past x here =
    all_in (λ y. y.number ≡ x.number → y.item.0 ≡ x.item.0) (waiting_queueings s past) (λ y there same.
    ap (λ (z : Queueing). z.item.0)
    (rises_unique number_of_queueing (still_open past) y x (open_numbers_rise past)
    (in_filter (waits s past) (still_open past) y there).0 here same))

module _ (s : Layout) (past : List Entry) (e : Entry) (legal : IsLegal s (e ∷ past)) where
  -- what waits is not started by the entry
  waits_unstarted : (y : Queueing) → In y (waiting_queueings s past) → is_started (e ∷ past) y.number ≡ false
  waits_unstarted y there = at (starts y.number e) (is_started past y.number) refl refl
    where
      known : In y (queueings past)
      known = (in_filter (is_live past) (queueings past) y (in_filter (waits s past) (still_open past) y there).0).0

      live : is_live past y ≡ true
      live = (in_filter (is_live past) (queueings past) y (in_filter (waits s past) (still_open past) y there).0).1

      inactive : is_active s past y ≡ false
      inactive = not-true (is_active s past y) (in_filter (waits s past) (still_open past) y there).1

      at : (a b : Bool) → starts y.number e ≡ a → is_started past y.number ≡ b
          → (starts y.number e || is_started past y.number) ≡ false
      at true b told before =
          absurd (false≢true
          (sym inactive
          ∙ starts_only_active s past e legal y.number y told
          (of_in _ (queueings past) y (queueings_found past) known)))
      at false true told before =
          absurd (false≢true
          (sym inactive ∙ of_in _ (queueings past) y (started_are_active s past (legal_before s past e legal)) known
          before live))
      at false false told before = ap₂ (λ a b. a || b) told before

  -- nothing that goes on waiting is of the item of what is opened
  pub none_left : (x : Queueing) → opening past e ≡ Some x
      → list_any (is_of x.item.0) (filter (survives past e) (waiting_queueings s past)) ≡ false
  none_left x is =
      list_any_none (is_of x.item.0) left
      (All-from_recursion (λ y. is_of x.item.0 y ≡ false) left
      (all_in (λ y. is_of x.item.0 y ≡ false) left
      (λ y there. false_from_ne_true (is_of x.item.0 y) (λ same. another y there (eqb-true y.item.0 x.item.0 same)))))
    where
      left : List Queueing
      left = filter (survives past e) (waiting_queueings s past)

      opened_open : In x (still_open (e ∷ past))
      opened_open = subst (In x) (sym (open_go_on s past e legal)) (in_right _ _ x (option_in (opening past e) x is))

      opened_unstarted : is_started (e ∷ past) x.number ≡ false
      opened_unstarted =
          of_in (λ y. is_started (e ∷ past) y.number ≡ false) (option_to_list (opening past e)) x
          (opening_inert s past e (opening past e) legal refl) (option_in (opening past e) x is)

      another : (y : Queueing) → In y left → y.item.0 ≡ x.item.0 → ⊥
      another y there same =
          let was = in_filter (survives past e) (waiting_queueings s past) y there in
          let was_open = (in_filter (waits s past) (still_open past) y was.0).0 in
          let is_open : In y (still_open (e ∷ past)) =
          subst (In y) (sym (open_go_on s past e legal))
          (in_left _ _ y (filter_in (survives past e) (still_open past) y was_open was.1)) in
          let one = one_of s (e ∷ past) y x legal is_open opened_open same (waits_unstarted y was.0) opened_unstarted in
          let older : y.number < length past =
          of_in _ (queueings past) y (queueings_below past)
          (in_filter (is_live past) (queueings past) y was_open).0 in
          let number : x.number ≡ length past = opening_number past e x is in
          let equal : y.number ≡ x.number = ap (λ (z : Queueing). z.number) one in
          absurd (omega arith)
