-- One caller or worker more.
use Rattle.std.proofs.Common.{ℕ, suc, zero, ◌≡◌, ◌+◌, List, [], ◌∷◌, ◌++◌, min, ap, sym, ◌∙◌, append_assoc, arith}
use Rattle.std.proofs.Common.{add-one}
use Rattle.std.specs.List.{range_with_len, flat_map}
use Rattle.std.proofs.lemmas.List.{append-nil}
use Rattle.std.proofs.lemmas.List.FromFn.{map-range_with_len_more}
use Rattle.std.proofs.lemmas.Grind.{flat_map-append}
use Rattle.cmwq_model.specs.declared.id.PoolId.{PoolId}
use Rattle.cmwq_play.specs.declared.place.WorkerAt.{WorkerAt}
use Rattle.cmwq_play.specs.Firsts.{caller_at, callers_from, lent_from, of_cpu, of_pool, worker_at, workers_from}

pub callers_more : (n : ℕ) → callers_from (n + 1) ≡ callers_from n ++ caller_at n ∷ []
callers_more n = map-range_with_len_more caller_at 0 n n (omega arith)

pub lent_more : (first n : ℕ) → lent_from first (n + 1) ≡ lent_from first n ++ min (first + n) 255 ∷ []
lent_more first n = map-range_with_len_more (λ k. min (first + k) 255) 0 n n (omega arith)

-- the workers so far, with one more of a pool
pub pool_more : (before : List WorkerAt) (pool : PoolId) (n : ℕ)
    → before ++ of_pool (n + 1) pool ≡ (before ++ of_pool n pool) ++ worker_at pool n ∷ []
pool_more before pool n =
    ap (λ xs. before ++ xs) (map-range_with_len_more (worker_at pool) 0 n n (omega arith))
    ∙ sym (append_assoc before (of_pool n pool) (worker_at pool n ∷ []))

-- so many numbers and one more
range_more : (a n : ℕ) → range_with_len a (suc n) ≡ range_with_len a n ++ (a + n) ∷ []
range_more a zero = ap (λ k. k ∷ []) (omega arith)
range_more a (suc n) =
    ap (λ xs. a ∷ xs) (range_more (a + 1) n ∙ ap (λ k. range_with_len (a + 1) n ++ k ∷ []) (omega arith))

-- the numbers below one more
pub range_next : (n : ℕ) → range_with_len 0 (suc n) ≡ range_with_len 0 n ++ n ∷ []
range_next n = range_more 0 n ∙ ap (λ k. range_with_len 0 n ++ k ∷ []) (omega arith)

pub workers_more : (n count : ℕ) → workers_from (n + 1) count ≡ workers_from n count ++ of_cpu count n
workers_more n count =
    ap (λ m. flat_map (of_cpu count) (range_with_len 0 m)) (add-one n)
    ∙ ap (flat_map (of_cpu count)) (range_next n)
    ∙ flat_map-append (of_cpu count) (range_with_len 0 n) (n ∷ [])
    ∙ ap (λ xs. workers_from n count ++ xs) (append-nil (of_cpu count n))
