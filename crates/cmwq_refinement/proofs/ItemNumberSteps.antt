-- The open numbers of items refine a history, entry by entry.
use Rattle.cmwq_refinement.specs.Common.{◌≡◌, ◌≢◌, ◌==◌, ◌<◌, ℕ, false, List, [], ◌∷◌, ◌++◌, length, map, filter}
use Rattle.cmwq_refinement.specs.Common.{replicate, Option, Some, None, option_to_list, refl, sym, ap, ◌∙◌, arith}
use Rattle.cmwq_refinement.specs.Common.{append-nil, range_with_len, eq-eqb, ne_eqb, map-append}
use Rattle.cmwq_refinement.specs.Common.{length-map-range_with_len, get_or-map-range_with_len, filter-append, Entry}
use Rattle.cmwq_refinement.specs.Common.{Queueing, Layout, queueings, still_open, opening, is_of, IsLegal, survives}
use Rattle.cmwq_refinement.specs.Common.{ending, open_go_on, without, numbers_open}
use Rattle.cmwq_refinement.proofs.Numbers.{filter_all, number_of_queueing, numbers_lack, numbers_without, rows_alike}
use Rattle.cmwq_refinement.specs.ItemNumbers.{item_numbers, numbers_of, numbers_after_end, numbers_after_opening}
use Rattle.cmwq_refinement.specs.ItemNumbers.{numbers_after}
use Rattle.cmwq_refinement.proofs.TimerSteps.{set_row, same_rows}
use Rattle.cmwq_refinement.proofs.PlacesFit.{open_there, opened_are_there}
use Rattle.cmwq_refinement.proofs.QueueingSteps.{QueueingStep, queueing_step, open_numbers_rise}
use Rattle.cmwq_refinement.proofs.QueueingSteps as queueing

-- ---- the open numbers of each item

pub item_row : (s : Layout) (past : List Entry) (i : ℕ) → i < s.items → numbers_open (numbers_of s past) i
    ≡ item_numbers past i
item_row s past i there = get_or-map-range_with_len (item_numbers past) 0 s.items i i [] there (omega arith)

-- what is left of an item's open queueings, and what is opened of it
left_numbers : List Entry → Entry → ℕ → List ℕ
left_numbers past e i = map number_of_queueing (filter (is_of i) (filter (survives past e) (still_open past)))

not_its : (i j : ℕ) → j ≢ i → (i == j) ≡ false
not_its i j differs = ne_eqb i j (λ same. differs (sym same))

rows_ended : (s : Layout) (past : List Entry) (e : Entry) → IsLegal s past → QueueingStep past e
    → map (left_numbers past e) (range_with_len 0 s.items) ≡ numbers_after_end (ending past e) (numbers_of s past)
unfolding left_numbers
rows_ended s past e legal (queueing.ends_none is all) =
    rw (is, left_numbers, filter_all (survives past e) (still_open past) all) refl
rows_ended s past e legal (queueing.ends_one x is here all) =
    rw is (set_row (item_numbers past) (left_numbers past e) s.items x.item.0
    (without x.number (numbers_open (numbers_of s past) x.item.0))
    (numbers_without number_of_queueing (is_of x.item.0) (survives past e) x.number (still_open past) all
    ∙ ap (without x.number) (sym (item_row s past x.item.0 (open_there s past x legal here).item)))
    (λ j differs. numbers_without number_of_queueing (is_of j) (survives past e) x.number (still_open past) all
    ∙ numbers_lack number_of_queueing (is_of j) x (still_open past) (open_numbers_rise past) here
    (not_its x.item.0 j differs)))

after_numbers : List Entry → Entry → Option Queueing → ℕ → List ℕ
after_numbers past e o i = left_numbers past e i ++ map number_of_queueing (filter (is_of i) (option_to_list o))

rows_opened : (s : Layout) (past : List Entry) (e : Entry) (o : Option Queueing) (b : List (List ℕ))
    → ((x : Queueing) → o ≡ Some x → x.item.0 < s.items) → map (left_numbers past e) (range_with_len 0 s.items) ≡ b
    → map (after_numbers past e o) (range_with_len 0 s.items) ≡ numbers_after_opening o b
unfolding after_numbers
rows_opened s past e None b there is =
    same_rows (left_numbers past e) (after_numbers past e None) (range_with_len 0 s.items)
    (λ j. append-nil (left_numbers past e j)) ∙ is
rows_opened s past e (Some x) b there is =
    rw (← is)
    (set_row (left_numbers past e) (after_numbers past e (Some x)) s.items x.item.0
    (numbers_open (map (left_numbers past e) (range_with_len 0 s.items)) x.item.0 ++ x.number ∷ [])
    (rw (
      eq-eqb x.item.0 x.item.0 refl,
      get_or-map-range_with_len (left_numbers past e) 0 s.items x.item.0 x.item.0 []
          (there x refl) (omega arith),
    ) refl) (λ j differs. rw (not_its x.item.0 j differs, append-nil) refl))

item_numbers_after : (s : Layout) (past : List Entry) (e : Entry) (i : ℕ) → IsLegal s (e ∷ past)
    → item_numbers (e ∷ past) i ≡ after_numbers past e (opening past e) i
unfolding after_numbers left_numbers
item_numbers_after s past e i legal = rw (open_go_on s past e legal, filter-append, map-append) refl

-- after what ended each item has a row still, and what is opened comes after what is left in its row
pub ended_rows : (s : Layout) (past : List Entry) (e : Entry) → IsLegal s (e ∷ past)
    → length (numbers_after_end (ending past e) (numbers_of s past)) ≡ s.items
unfolding IsLegal
ended_rows s past e legal = sym (ap length (rows_ended s past e legal.2 (queueing_step s past e legal)))
    ∙ length-map-range_with_len (left_numbers past e) 0 s.items

pub opened_row : (s : Layout) (past : List Entry) (e : Entry) (x : Queueing) → IsLegal s (e ∷ past)
    → opening past e ≡ Some x
    → item_numbers (e ∷ past) x.item.0 ≡ numbers_open (numbers_after_end (ending past e) (numbers_of s past)) x.item.0
    ++ x.number ∷ []
unfolding after_numbers IsLegal
opened_row s past e x legal h =
    let row =
    get_or-map-range_with_len (left_numbers past e) 0 s.items x.item.0 x.item.0 []
    (opened_are_there s past e x legal h).item (omega arith) in
    item_numbers_after s past e x.item.0 legal
    ∙ rw (h, eq-eqb x.item.0 x.item.0 refl, ← rows_ended s past e legal.2 (queueing_step s past e legal), row) refl

-- ---- together

pub numbers_refine : (s : Layout) (past : List Entry) (e : Entry) → IsLegal s (e ∷ past)
    → numbers_of s (e ∷ past) ≡ numbers_after past e (numbers_of s past)
unfolding IsLegal
numbers_refine s past e legal =
    same_rows (after_numbers past e (opening past e)) (item_numbers (e ∷ past)) (range_with_len 0 s.items)
    (λ j. item_numbers_after s past e j legal)
    ∙ rows_opened s past e (opening past e) (numbers_after_end (ending past e) (numbers_of s past))
    (λ x h. (opened_are_there s past e x legal h).item) (rows_ended s past e legal.2 (queueing_step s past e legal))

pub numbers_at_first : (s : Layout) → numbers_of s [] ≡ replicate s.items []
unfolding queueings
numbers_at_first s = rows_alike (item_numbers []) [] s.items (λ i. refl)
