-- Bookings that are sorted by the tick and the number stand in the order in which they fire.
use Rattle.cmwq_resume.specs.Common.{◌≡◌, ◌+◌, ◌==◌, ℕ, Bool, true, false, List, length, cond, refl, inl, inr}
use Rattle.cmwq_resume.specs.Common.{arith, nat_lt, nat_tests, eqb-true, sym, Booking}
use Rattle.std.specs.List.{AllAdjacentBelow}
use Rattle.std.specs.List.Sorted.{IsSortedByKey}
use Rattle.std.specs.declared.cmp.Ordering.{Ordering}
use Rattle.std.specs.declared.cmp.Ordering.TheVariants.{Less, Equal, Greater}
use Rattle.std.specs.Ordering.{is_lt, nat_cmp, ordering_then}
use Rattle.std.specs.Prelude.{slice_index_or}
use Rattle.cmwq_resume.specs.Leavings.{IsNoLater}

abbrev pub due_and_number : Booking → ℕ × ℕ
due_and_number b = (b.due, b.number)

abbrev pub pair_cmp : ℕ × ℕ → ℕ × ℕ → Ordering
pair_cmp x y = ordering_then (nat_cmp x.0 y.0) (nat_cmp x.1 y.1)

no_later : (a b : Booking) → is_lt (pair_cmp (due_and_number b) (due_and_number a)) ≡ false → IsNoLater a b
no_later a b h = at (nat_lt b.due a.due) (b.due == a.due) (nat_lt b.number a.number) refl refl refl h
  where
    at : (x y z : Bool) → nat_lt b.due a.due ≡ x → (b.due == a.due) ≡ y → nat_lt b.number a.number ≡ z
        → is_lt (ordering_then (cond x Less (cond y Equal Greater))
        (cond z Less (cond (b.number == a.number) Equal Greater))) ≡ false → IsNoLater a b
    at true y z hx hy hz h = cc
    at false true true hx hy hz h = cc
    at false true false hx hy hz h = inr (sym (eqb-true b.due a.due hy), grind (arith, nat_tests, hz))
    at false false z hx hy hz h = inl (grind (arith, nat_tests, hx, hy))

pub no_later_sorted : (xs : List Booking) → IsSortedByKey due_and_number pair_cmp xs
    → AllAdjacentBelow IsNoLater xs (length xs)
no_later_sorted xs sorted k d less =
    no_later (slice_index_or xs k d) (slice_index_or xs (k + 1) d) (sorted k d (omega arith) less)
