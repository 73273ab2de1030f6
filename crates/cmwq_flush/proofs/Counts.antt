-- How many rows have each colour, as one comes and goes.
use Rattle.cmwq_flush.specs.Common.{Bool, ◌≡◌, ℕ, ◌+◌, ◌-◌, ◌<◌, true, false, cond, List, [], ◌∷◌, ◌++◌, All, length}
use Rattle.cmwq_flush.specs.Common.{get_or, set, suc, sym, ◌⊎◌, ap, ◌∙◌, arith, ⊎_elim, slice_index, remove, cases_eq}
use Rattle.cmwq_flush.specs.Common.{nat_tests, get_or-set_same, get_or-set_other, sum_by-remove, all_pairs_remove}
use Rattle.cmwq_flush.specs.Common.{All-append, All-take, All-drop, All-push, all_pairs_push}
use Rattle.std.proofs.lemmas.List.{length-set}
use Rattle.std.specs.Prelude.{◌==◌, ◌↔◌}
use Rattle.std.specs.List.{list_all}
use Rattle.std.proofs.lemmas.List.Sums.{AllPass-from_list_all, list_all-from_AllPass}
use Rattle.cmwq_lemmas.proofs.Lists.{count_append}
use Rattle.cmwq_flush.specs.Colouring.{AreUnused}
use Rattle.cmwq_flush.specs.declared.openings.Row.{Row}
use Rattle.cmwq_flush.specs.Rows.{ComesBefore, has_colour, colour_count, IsTally}

-- one row less: its colour's count falls by one
pub count_of-remove : (c : ℕ) (rows : List Row) (i : ℕ) (d : Row) → i < length rows
    → colour_count c (remove rows i) + cond (has_colour c (get_or rows i d)) 1 0 ≡ colour_count c rows
count_of-remove c rows i d lt = sum_by-remove (λ r. cond (has_colour c r) 1 0) rows i d lt

exact_after : (rows : List Row) (counts : List ℕ) (i : ℕ) (r : Row) → i < length rows → r ≡ get_or rows i r
    → IsTally rows counts → (c : ℕ) → c < 16 → (c ≡ r.colour) ⊎ (c ≡ r.colour → ⊥)
    → slice_index (set counts r.colour (slice_index counts r.colour - 1)) c ≡ colour_count c (remove rows i)
exact_after rows counts i r lt at is c below which =
    let counted : colour_count c (remove rows i) + cond (has_colour c r) 1 0 ≡ colour_count c rows =
    rw at (count_of-remove c rows i r lt) in
    let was = is.exact c below in
    let size : r.colour < length counts = omega (arith, is.sixteen, rw (← at) at (is.coloured i r lt)) in
    ⊎_elim (λ (same : c ≡ r.colour).
    let hit : has_colour c r ≡ true = grind (arith, nat_tests) in
    let less : colour_count c (remove rows i) + 1 ≡ colour_count c rows = rw hit at counted in
    let now = get_or-set_same counts r.colour (slice_index counts r.colour - 1) 0 size in
    let was_there : slice_index counts r.colour ≡ slice_index counts c = ap (slice_index counts) (sym same) in
    ap (slice_index (set counts r.colour (slice_index counts r.colour - 1))) same ∙ omega arith)
    (λ (differs : c ≡ r.colour → ⊥).
    let miss : has_colour c r ≡ false = grind (arith, nat_tests) in
    let kept : colour_count c (remove rows i) + 0 ≡ colour_count c rows = rw miss at counted in
    get_or-set_other counts r.colour c _ 0 differs ∙ omega arith) which

pub IsTally-remove : (rows : List Row) (counts : List ℕ) (i : ℕ) (r : Row) → i < length rows → r ≡ get_or rows i r
    → IsTally rows counts → IsTally (remove rows i) (set counts r.colour (slice_index counts r.colour - 1))
IsTally-remove rows counts i r lt at is = record {
  sixteen = length-set counts r.colour (slice_index counts r.colour - 1) ∙ is.sixteen;
  rising = all_pairs_remove ComesBefore rows i lt is.rising;
  coloured = let IsColoured : Row → Type 0 = λ s. s.colour < 16 in
      All-append IsColoured _ _ (All-take IsColoured i rows is.coloured) (All-drop IsColoured (suc i) rows is.coloured);
  exact = λ c below. exact_after rows counts i r lt at is c below (cases_eq c r.colour);
}

-- one row more
count_of-push : (c : ℕ) (rows : List Row) (r : Row) (b : Bool) → has_colour c r ≡ b
    → colour_count c (rows ++ r ∷ []) ≡ colour_count c rows + cond b 1 0
count_of-push c rows r b e = grind (arith, count_append)

exact_push : (rows : List Row) (counts : List ℕ) (r : Row) → r.colour < 16 → IsTally rows counts → (c : ℕ) → c < 16
    → (c ≡ r.colour) ⊎ (c ≡ r.colour → ⊥) → slice_index (set counts r.colour (slice_index counts r.colour + 1)) c
    ≡ colour_count c (rows ++ r ∷ [])
exact_push rows counts r low is c below which =
    let was = is.exact c below in
    let size : r.colour < length counts = omega (arith, is.sixteen) in
    ⊎_elim (λ (same : c ≡ r.colour).
    let hit : has_colour c r ≡ true = grind (arith, nat_tests) in
    let more = count_of-push c rows r true hit in
    let now = get_or-set_same counts r.colour (slice_index counts r.colour + 1) 0 size in
    let was_there : slice_index counts r.colour ≡ slice_index counts c = ap (slice_index counts) (sym same) in
    ap (slice_index (set counts r.colour (slice_index counts r.colour + 1))) same ∙ omega arith)
    (λ (differs : c ≡ r.colour → ⊥).
    let miss : has_colour c r ≡ false = grind (arith, nat_tests) in
    let kept = count_of-push c rows r false miss in
    get_or-set_other counts r.colour c _ 0 differs ∙ omega arith) which

pub IsTally-push : (rows : List Row) (counts : List ℕ) (r : Row) → All (λ s. s.number < r.number) rows → r.colour < 16
    → IsTally rows counts → IsTally (rows ++ r ∷ []) (set counts r.colour (slice_index counts r.colour + 1))
IsTally-push rows counts r later low is = record {
  sixteen = length-set counts r.colour (slice_index counts r.colour + 1) ∙ is.sixteen;
  rising = all_pairs_push ComesBefore rows r is.rising later;
  coloured = let IsColoured : Row → Type 0 = λ s. s.colour < 16 in All-push IsColoured rows r is.coloured low;
  exact = λ c below. exact_push rows counts r low is c below (cases_eq c r.colour);
}

-- what counts that are 0 say of rows
pub clear_told : (rows : List Row) (counts colours : List ℕ) → IsTally rows counts → All (λ c. c < 16) colours
    → (list_all (λ c. slice_index counts c == 0) colours ≡ true) ↔ AreUnused rows colours
clear_told rows counts colours is low = (
  (λ told k d lt. let here = AllPass-from_list_all (λ c. slice_index counts c == 0) colours told k d lt in
      rw (is.exact (get_or colours k d) (low k d lt)) at here),
  (λ unused. list_all-from_AllPass (λ c. slice_index counts c == 0) colours
      (λ k d lt. rw (is.exact (get_or colours k d) (low k d lt)) (unused k d lt))),
)
