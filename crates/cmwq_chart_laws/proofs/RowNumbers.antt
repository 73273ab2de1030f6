-- Rows have numbers of their own, below a limit.
use Rattle.std.proofs.Common.{◌≡◌, ℕ, ◌+◌, ◌*◌, ◌<◌, Bool, true, false, refl, ap, arith}
use Rattle.std.specs.Prelude.{if◌then◌else◌}
use Rattle.cmwq_model.specs.declared.id.CallerId.{CallerId}
use Rattle.cmwq_model.specs.declared.id.WorkerId.{WorkerId}
use Rattle.cmwq_model.specs.declared.record.Place.{Place}
use Rattle.cmwq_chart_text.specs.declared.figures.Row.{Row}
use Rattle.cmwq_chart_text.specs.declared.figures.Row.TheVariants as row
use Rattle.cmwq_chart_text.specs.Figures.{most_rows, row_number}
use Rattle.cmwq_chart_laws.specs.Drawn.{IsRow, RowsAreToldApart}

abbrev of_level : Bool → ℕ
of_level high = if high then 256 else 0

of_level_few : (b : Bool) → of_level b < 257
of_level_few true = omega arith
of_level_few false = omega arith

pub row_within : (r : Row) → IsRow r → row_number r < most_rows
row_within (row.Caller c) is = let h : c.0 < 256 = is in omega arith
row_within (row.Worker w) is =
    let h : w.pool.cpu.0 < 256 = is.0 in let k : w.index < 256 = is.1 in
    let few = of_level_few w.pool.high in omega arith
row_within (row.Place p) is = let h : p.queue.0 < 256 = is.0 in let k : p.cpu.0 < 256 = is.1 in omega arith

same_caller : (c d : CallerId) → c.0 ≡ d.0 → c ≡ d
same_caller c d h = ap (λ (n : ℕ). let made : CallerId = record { 0 = n } in made) h

abbrev worker_from : ℕ → Bool → ℕ → WorkerId
worker_from c high n = record { pool = record { cpu = record { 0 = c }; high = high }; index = n }

same_worker_from : (c d : ℕ) (a b : Bool) (m n : ℕ) → c ≡ d → a ≡ b → m ≡ n → worker_from c a m ≡ worker_from d b n
same_worker_from c d a b m n h k l = rw (h, k, l) refl

worker_numbers : (c d : ℕ) (a b : Bool) (m n : ℕ) → m < 256 → n < 256
    → 256 + 512 * c + of_level a + m ≡ 256 + 512 * d + of_level b + n
    → worker_from c a m ≡ worker_from d b n
worker_numbers c d true true m n h k same = same_worker_from c d true true m n (omega arith) refl (omega arith)
worker_numbers c d false false m n h k same = same_worker_from c d false false m n (omega arith) refl (omega arith)
worker_numbers c d true false m n h k same = absurd (omega arith)
worker_numbers c d false true m n h k same = absurd (omega arith)

abbrev place_from : ℕ → ℕ → Place
place_from q c = record { queue = record { 0 = q }; cpu = record { 0 = c } }

same_place_from : (q t c d : ℕ) → q ≡ t → c ≡ d → place_from q c ≡ place_from t d
same_place_from q t c d h k = rw (h, k) refl

pub rows_are_told_apart : RowsAreToldApart
rows_are_told_apart (row.Caller c) (row.Caller d) h k same = ap row.Caller (same_caller c d same)
rows_are_told_apart (row.Worker v) (row.Worker w) h k same =
    ap row.Worker (worker_numbers v.pool.cpu.0 w.pool.cpu.0 v.pool.high w.pool.high v.index w.index h.1 k.1 same)
rows_are_told_apart (row.Place p) (row.Place q) h k same =
    let a : p.cpu.0 < 256 = h.1 in let b : q.cpu.0 < 256 = k.1 in
    ap row.Place (same_place_from p.queue.0 q.queue.0 p.cpu.0 q.cpu.0 (omega arith) (omega arith))
rows_are_told_apart (row.Caller c) (row.Worker w) h k same = let a : c.0 < 256 = h in absurd (omega arith)
rows_are_told_apart (row.Worker w) (row.Caller c) h k same = let a : c.0 < 256 = k in absurd (omega arith)
rows_are_told_apart (row.Caller c) (row.Place p) h k same = let a : c.0 < 256 = h in absurd (omega arith)
rows_are_told_apart (row.Place p) (row.Caller c) h k same = let a : c.0 < 256 = k in absurd (omega arith)
rows_are_told_apart (row.Worker w) (row.Place p) h k same =
    let a : w.pool.cpu.0 < 256 = h.0 in let b : w.index < 256 = h.1 in
    let few = of_level_few w.pool.high in absurd (omega arith)
rows_are_told_apart (row.Place p) (row.Worker w) h k same =
    let a : w.pool.cpu.0 < 256 = k.0 in let b : w.index < 256 = k.1 in
    let few = of_level_few w.pool.high in absurd (omega arith)
