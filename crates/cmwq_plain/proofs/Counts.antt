-- Counts over the workers of pools and CPUs, one more at a time.
use Rattle.cmwq_plain.specs.Common.{◌≡◌, ℕ, ◌+◌, Bool, [], ◌∷◌, ◌++◌, map, count_by, if◌then◌else◌, refl, ap, ◌∙◌}
use Rattle.cmwq_plain.specs.Common.{arith, add-one, zero-add, flat_map, range_with_len, append-nil, PoolId, WorkerId}
use Rattle.cmwq_plain.specs.Common.{Layout, worker_at, cpu_workers}
use Rattle.std.proofs.lemmas.List.Concat.{flat_map-append}
use Rattle.std.proofs.lemmas.List.FromFn.{sum_by-map-range_with_len_more}
use Rattle.cmwq_lemmas.proofs.Lists.{range_more, count_append}

pub pool_none : (q : WorkerId → Bool) (p : PoolId) → count_by q (map (worker_at p) (range_with_len 0 0)) ≡ 0
pool_none q p = refl

pub pool_step : (q : WorkerId → Bool) (p : PoolId) (k : ℕ) → count_by q (map (worker_at p) (range_with_len 0 (k + 1)))
    ≡ count_by q (map (worker_at p) (range_with_len 0 k)) + (if q (worker_at p k) then 1 else 0)
pool_step q p k = sum_by-map-range_with_len_more (λ w. if q w then 1 else 0) (worker_at p) 0 k k (omega arith)

pub ruleset pool_steps = (pool_none, pool_step)

pub cpu_none : (q : WorkerId → Bool) (s : Layout) → count_by q (flat_map (cpu_workers s) (range_with_len 0 0)) ≡ 0
cpu_none q s = refl

pub cpu_step : (q : WorkerId → Bool) (s : Layout) (c : ℕ)
    → count_by q (flat_map (cpu_workers s) (range_with_len 0 (c + 1)))
    ≡ count_by q (flat_map (cpu_workers s) (range_with_len 0 c)) + count_by q (cpu_workers s c)
cpu_step q s c =
    let longer : range_with_len 0 (c + 1) ≡ range_with_len 0 c ++ c ∷ [] =
    ap (range_with_len 0) (add-one c) ∙ range_more 0 c ∙ ap (λ m. range_with_len 0 c ++ m ∷ []) (zero-add c) in
    let more : flat_map (cpu_workers s) (range_with_len 0 (c + 1)) ≡ flat_map (cpu_workers s) (range_with_len 0 c)
    ++ cpu_workers s c =
    ap (flat_map (cpu_workers s)) longer ∙ flat_map-append (cpu_workers s) (range_with_len 0 c) (c ∷ [])
    ∙ ap (λ l. flat_map (cpu_workers s) (range_with_len 0 c) ++ l) (append-nil (cpu_workers s c)) in
    ap (count_by q) more ∙ count_append q (flat_map (cpu_workers s) (range_with_len 0 c)) (cpu_workers s c)

pub ruleset cpu_steps = (cpu_none, cpu_step)
