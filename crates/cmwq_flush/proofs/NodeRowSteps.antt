-- The rows of nodes, as they are kept.
use Rattle.std.proofs.Common.{◌≡◌, ℕ, zero, suc, ◌<◌, List, [], ◌∷◌, length, get_or, set, refl, ap, ap₂, arith}
use Rattle.cmwq_flush.specs.declared.openings.Row.{Row}
use Rattle.cmwq_flush.specs.NodeRows.{node_rows_from}
use Rattle.cmwq_flush.specs.Openings.{node_row}

pub length-rows_from : (ns cs : List ℕ) → length cs ≡ length ns → length (node_rows_from ns cs) ≡ length ns
length-rows_from [] cs e = refl
length-rows_from (n ∷ ns) [] e = absurd (omega arith)
length-rows_from (n ∷ ns) (c ∷ cs) e = ap suc (length-rows_from ns cs (omega arith))

pub node_within : (ns cs : List ℕ) (v : ℕ) → length cs ≡ length ns → v < length (node_rows_from ns cs) → v < length ns
node_within ns cs v e low = rw (← length-rows_from ns cs e) low

pub node_read : (r : Row) (ns cs : List ℕ) (v : ℕ) → length cs ≡ length ns → v < length ns
    → r.number ≡ get_or ns v r.number → r.colour ≡ get_or cs v r.colour → r ≡ node_row (node_rows_from ns cs) v
node_read r [] cs v e low number colour = absurd (omega arith)
node_read r (n ∷ ns) [] v e low number colour = absurd (omega arith)
node_read r (n ∷ ns) (c ∷ cs) zero e low number colour =
    ap₂ (λ (m k : ℕ). let s : Row = record { number = m; colour = k } in s) number colour
node_read r (n ∷ ns) (c ∷ cs) (suc v) e low number colour =
    node_read r ns cs v (omega arith) (omega arith) number colour

pub node_put : (r : Row) (ns cs : List ℕ) (v : ℕ) → length cs ≡ length ns → v < length ns
    → node_rows_from (set ns v r.number) (set cs v r.colour) ≡ set (node_rows_from ns cs) v r
node_put r [] cs v e low = absurd (omega arith)
node_put r (n ∷ ns) [] v e low = absurd (omega arith)
node_put r (n ∷ ns) (c ∷ cs) zero e low = refl
node_put r (n ∷ ns) (c ∷ cs) (suc v) e low =
    ap (λ rs. (record { number = n; colour = c }) ∷ rs) (node_put r ns cs v (omega arith) (omega arith))
