-- The rows of nodes, as they are kept: the numbers, and beside them the colours.
use Rattle.std.specs.Prelude.{◌∷◌}
use Rattle.cmwq_flush.specs.Common.{ℕ, List, []}
use Rattle.cmwq_flush.specs.declared.openings.Row.{Row}

abbrev pub node_rows_from : List ℕ → List ℕ → List Row
node_rows_from (n ∷ numbers) (c ∷ colours) = record { number = n; colour = c } ∷ node_rows_from numbers colours
node_rows_from _ _ = []
