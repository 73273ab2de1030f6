-- The rows of items, as they are kept.
use Rattle.std.proofs.Common.{◌≡◌, ℕ, zero, suc, ◌+◌, ◌<◌, List, [], ◌∷◌, length, get_or, set, refl, sym, ap, ap₂, ◌∙◌}
use Rattle.std.proofs.Common.{arith}
use Rattle.cmwq_model.specs.declared.record.Place.{Place}
use Rattle.cmwq_model.specs.declared.record.Queueing.{Queueing}
use Rattle.cmwq_pwq.specs.Rows.{AreRows, queueing_rows_from}
use Rattle.cmwq_pwq.specs.Waiting.{row_of}

queueing : ℕ → Place → ℕ → Queueing
queueing i p n = record { item = record { 0 = i }; place = p; number = n }

same_queueing : (x y : Queueing) → x.item.0 ≡ y.item.0 → x.place ≡ y.place → x.number ≡ y.number → x ≡ y
unfolding queueing
same_queueing x y item place number = ap (λ i. queueing i x.place x.number) item
    ∙ ap₂ (λ p n. queueing y.item.0 p n) place number

pub length-rows_from : (i : ℕ) (ns : List ℕ) (ps : List Place) → length ps ≡ length ns
    → length (queueing_rows_from i ns ps) ≡ length ns
length-rows_from i [] ps e = refl
length-rows_from i (n ∷ ns) [] e = absurd (omega arith)
length-rows_from i (n ∷ ns) (p ∷ ps) e = ap suc (length-rows_from (i + 1) ns ps (omega arith))

pub row_within : (ns : List ℕ) (ps : List Place) (k : ℕ) → AreRows ns ps → k < length (queueing_rows_from 0 ns ps)
    → k < length ns
row_within ns ps k are low = rw (← length-rows_from 0 ns ps are.many) low

pub row_read : (x : Queueing) (ns : List ℕ) (ps : List Place) (k i : ℕ) → length ps ≡ length ns → k < length ns
    → x.item.0 ≡ i + k → x.place ≡ get_or ps k x.place → x.number ≡ get_or ns k x.number
    → x ≡ row_of (queueing_rows_from i ns ps) k
row_read x [] ps k i e low item place number = absurd (omega arith)
row_read x (n ∷ ns) [] k i e low item place number = absurd (omega arith)
row_read x (n ∷ ns) (p ∷ ps) zero i e low item place number =
    same_queueing x (record { item = record { 0 = i }; place = p; number = n }) (omega arith) place number
row_read x (n ∷ ns) (p ∷ ps) (suc k) i e low item place number =
    row_read x ns ps k (i + 1) (omega arith) (omega arith) (omega arith) place number

pub rows_put : (x : Queueing) (ns : List ℕ) (ps : List Place) (k i : ℕ) → length ps ≡ length ns → k < length ns
    → x.item.0 ≡ i + k → queueing_rows_from i (set ns k x.number) (set ps k x.place)
    ≡ set (queueing_rows_from i ns ps) k x
rows_put x [] ps k i e low item = absurd (omega arith)
rows_put x (n ∷ ns) [] k i e low item = absurd (omega arith)
rows_put x (n ∷ ns) (p ∷ ps) zero i e low item =
    ap (λ y. y ∷ queueing_rows_from (i + 1) ns ps)
    (sym (same_queueing x (record { item = record { 0 = i }; place = x.place; number = x.number }) (omega arith) refl
    refl))
rows_put x (n ∷ ns) (p ∷ ps) (suc k) i e low item =
    ap (λ ys. (record { item = record { 0 = i }; place = p; number = n }) ∷ ys)
    (rows_put x ns ps k (i + 1) (omega arith) (omega arith) (omega arith))
