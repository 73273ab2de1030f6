-- The rows of items, as they are kept: the numbers, and beside them the places. The row of an item stands at the item's
-- number.
use Rattle.std.specs.Prelude.{◌≡◌, ◌+◌, ◌<◌, ◌^◌, ◌∷◌}
use Rattle.cmwq_model.specs.declared.record.Place.{Place}
use Rattle.cmwq_pwq.specs.Common.{ℕ, List, [], length, Queueing}

-- those of the items from i on
abbrev pub queueing_rows_from : ℕ → List ℕ → List Place → List Queueing
queueing_rows_from i (n ∷ numbers) (p ∷ places) = record { item = record { 0 = i }; place = p; number = n }
    ∷ queueing_rows_from (i + 1) numbers places
queueing_rows_from i _ _ = []

pub record AreRows (numbers : List ℕ) (places : List Place) : Type 0 where
  pub many : length places ≡ length numbers
  pub few : length numbers < 2 ^ 16
