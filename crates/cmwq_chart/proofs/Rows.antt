-- Tables with a row for each of some things, in their order.
use Rattle.std.proofs.Common.{◌≡◌, ℕ, ◌+◌, ◌<◌, Bool, true, false, ◌==◌, List, [], ◌∷◌, ◌++◌, length, map, filter}
use Rattle.std.proofs.Common.{get_or, take, if◌then◌else◌, append-nil, eqb-true, eq-eqb, refl, sym, ap, ◌∙◌, subst}
use Rattle.std.proofs.Common.{arith, All}
use Rattle.std.specs.Prelude.{slice_set}
use Rattle.std.proofs.Math.Seq.{map-set_same}
use Rattle.std.proofs.lemmas.List.{get_or-map, get_or-set_other, length-map, length-set, map-append}
use Rattle.std.proofs.lemmas.List.Elements.{filter_more, All-head, All-tail, All-weaker}
use Rattle.std.proofs.lemmas.Grind.{get_or-set_at}
use Rattle.cmwq_chart.specs.Intervals.{AreRows}

pub record StandsAt {X : Type 0} (xs : List X) (n : ℕ) (x : X) : Type 0 where
  pub within : n < length xs
  pub there : (d : X) → get_or xs n d ≡ x

module _ {X Y : Type 0} {owner : Y → X} {IsKept : Y → Type 0} {xs : List X} {rows : List Y}
    (are : AreRows owner IsKept xs rows) where
  long : length rows ≡ length xs
  long = sym (length-map rows owner) ∙ ap length are.owners

  owner_at : (k : ℕ) (y : Y) → k < length rows → owner (get_or rows k y) ≡ get_or xs k (owner y)
  owner_at k y less = sym (get_or-map owner rows k y (owner y) less) ∙ ap (λ l. get_or l k (owner y)) are.owners

  -- the row of one of them
  pub row_within : {n : ℕ} {x : X} → StandsAt xs n x → n < length rows
  row_within at = omega (arith, at.within, long)

  pub row_of : {n : ℕ} {x : X} {own : Y} → StandsAt xs n x → own ≡ get_or rows n own → (owner own ≡ x) × IsKept own
  row_of {n} {x} {own} at read = (
    ap owner read ∙ owner_at n own (row_within at) ∙ at.there (owner own),
    subst IsKept (sym read) (are.kept n own (row_within at)),
  )

  -- is written anew, where each has the number of where it stands
  pub row_written : (IsNext : Y → Type 0) (number : X → ℕ)
      → ((k : ℕ) (d : X) → k < length xs → number (get_or xs k d) ≡ k) → (n : ℕ) (own next : Y) → n < length rows
      → own ≡ get_or rows n own → owner next ≡ owner own → IsNext next
      → ((y : Y) → (number (owner y) == n) ≡ false → IsKept y → IsNext y)
      → AreRows owner IsNext xs (slice_set rows n next)
  row_written IsNext number numbers n own next less read same is others = record {
    owners = map-set_same owner rows n next own (same ∙ ap owner read) ∙ are.owners;
    kept = λ k e within. at k e (omega (arith, length-set rows n next)) (k == n) refl;
  }
    where
      at : (k : ℕ) (e : Y) → k < length rows → (b : Bool) → (k == n) ≡ b → IsNext (get_or (slice_set rows n next) k e)
      at k e within true here = subst IsNext (sym (get_or-set_at rows n k next e (eqb-true k n here) less)) is
      at k e within false there =
          subst IsNext (sym (get_or-set_other rows n k next e (λ one. cc (there, eq-eqb k n one))))
          (others (get_or rows k e)
          (ap (λ i. i == n) (ap number (owner_at k e within) ∙ numbers k (owner e) (omega (arith, long))) ∙ there)
          (are.kept k e within))

  -- or all rows stay as they are
  pub rows_stay : (IsNext : Y → Type 0) → ((y : Y) → IsKept y → IsNext y) → AreRows owner IsNext xs rows
  rows_stay IsNext stays = record { owners = are.owners; kept = All-weaker IsKept IsNext stays rows are.kept }

-- ---- those of the rows that are shown
module _ {X Y : Type 0} (is_shown : Y → Bool) (owner : Y → X) where
  pub one_shown : (rows : List Y) (k : ℕ) (y : Y) → k < length rows → y ≡ get_or rows k y → is_shown y ≡ true
      → map owner (filter is_shown (take (k + 1) rows)) ≡ map owner (filter is_shown (take k rows)) ++ owner y ∷ []
  one_shown rows k y less read shown =
      ap (map owner) (filter_more is_shown rows k y less
      ∙ ap (λ z. filter is_shown (take k rows) ++ (if is_shown z then z ∷ [] else [])) (sym read)
      ∙ ap (λ b. filter is_shown (take k rows) ++ (if b then y ∷ [] else [])) shown)
      ∙ map-append owner (filter is_shown (take k rows)) (y ∷ [])

  pub none_shown : (rows : List Y) (k : ℕ) (y : Y) → k < length rows → y ≡ get_or rows k y → is_shown y ≡ false
      → map owner (filter is_shown (take (k + 1) rows)) ≡ map owner (filter is_shown (take k rows))
  none_shown rows k y less read hidden =
      ap (map owner) (filter_more is_shown rows k y less
      ∙ ap (λ z. filter is_shown (take k rows) ++ (if is_shown z then z ∷ [] else [])) (sym read)
      ∙ ap (λ b. filter is_shown (take k rows) ++ (if b then y ∷ [] else [])) hidden
      ∙ append-nil (filter is_shown (take k rows)))

  -- they are those of all that the rows say are shown
  pub all_shown : (shows : X → Bool) (rows : List Y) → All (λ y. is_shown y ≡ shows (owner y)) rows
      → map owner (filter is_shown rows) ≡ filter shows (map owner rows)
  all_shown shows [] are = refl
  all_shown shows (y ∷ rows) are =
      let same = All-head (λ y. is_shown y ≡ shows (owner y)) y rows are in
      let rest = all_shown shows rows (All-tail (λ y. is_shown y ≡ shows (owner y)) y rows are) in
      grind (arith, same, rest)
