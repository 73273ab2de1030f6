-- Where each worker and each caller stands among all of a layout.
use Rattle.std.proofs.Common.{◌≡◌, ℕ, ◌+◌, ◌-◌, ◌*◌, ◌<◌, ◌≤◌, Bool, true, false, ◌⊎◌, inl, inr, List, ◌++◌, length}
use Rattle.std.proofs.Common.{zero, suc, get_or, if◌then◌else◌, sym, ap, ◌∙◌, subst, arith, append-nil, zero-add, []}
use Rattle.std.proofs.Common.{◌∷◌}
use Rattle.std.specs.Prelude.{flat_map}
use Rattle.std.specs.List.{range_with_len}
use Rattle.std.proofs.Math.Nat.{mul-le-mul_left}
use Rattle.std.proofs.lemmas.Bool.{cases_lt}
use Rattle.std.proofs.lemmas.List.{get_or_append_left, get_or-append_right, length-append}
use Rattle.std.proofs.lemmas.List.FromFn.{get_or-map-range_with_len, length-map-range_with_len}
use Rattle.std.proofs.lemmas.Grind.{flat_map-append}
use Rattle.cmwq_model.specs.declared.id.CallerId.{CallerId}
use Rattle.cmwq_model.specs.declared.id.PoolId.{PoolId}
use Rattle.cmwq_model.specs.declared.id.WorkerId.{WorkerId}
use Rattle.cmwq_model.specs.Prelude.{Layout, cpu_workers, pool_workers, worker_at, workers}
use Rattle.cmwq_lemmas.proofs.Lists.{range_more}
use Rattle.cmwq_chart.specs.CallerWaits.{all_callers, caller_of_number}
use Rattle.cmwq_chart.specs.Intervals.{worker_number}

-- ---- parts that are all equally long, one after the other
module _ {B : Type 0} (f : ℕ → List B) (m : ℕ) (long : (c : ℕ) → length (f c) ≡ m) where
  parts_more : (n : ℕ) → flat_map f (range_with_len 0 (suc n)) ≡ flat_map f (range_with_len 0 n) ++ f n
  parts_more n =
      ap (flat_map f) (range_more 0 n) ∙ flat_map-append f (range_with_len 0 n) ((0 + n) ∷ [])
      ∙ ap (λ k. flat_map f (range_with_len 0 n) ++ (f k ++ [])) (zero-add n)
      ∙ ap (λ l. flat_map f (range_with_len 0 n) ++ l) (append-nil (f n))

  pub length_parts : (n : ℕ) → length (flat_map f (range_with_len 0 n)) ≡ m * n
  length_parts zero = omega arith
  length_parts (suc n) = ap length (parts_more n) ∙ length-append (flat_map f (range_with_len 0 n)) (f n)
      ∙ omega (arith, length_parts n, long n)

  -- the element that stands at j in part c
  pub in_part : (n c j : ℕ) (d : B) → c < n → j < m → get_or (flat_map f (range_with_len 0 n)) (m * c + j) d
      ≡ get_or (f c) j d
  in_part zero c j d within short = absurd (omega arith)
  in_part (suc n) c j d within short = ap (λ l. get_or l (m * c + j) d) (parts_more n)
      ∙ here (λ before. in_part n c j d before short) (cases_lt c n)
    where
      here : (c < n → get_or (flat_map f (range_with_len 0 n)) (m * c + j) d ≡ get_or (f c) j d) → (c < n) ⊎ (n ≤ c)
          → get_or (flat_map f (range_with_len 0 n) ++ f n) (m * c + j) d ≡ get_or (f c) j d
      here earlier (inl before) =
          let room : m * (c + 1) ≤ m * n = mul-le-mul_left m (omega arith) in
          get_or_append_left (flat_map f (range_with_len 0 n)) (f n) d (m * c + j) (omega (arith, length_parts n))
          ∙ earlier before
      here earlier (inr last) =
          let same : n ≡ c = omega arith in
          subst (λ k. get_or (flat_map f (range_with_len 0 k) ++ f k) (m * c + j) d ≡ get_or (f c) j d) (sym same)
          (get_or-append_right (flat_map f (range_with_len 0 c)) (f c) (m * c) (m * c + j) d (length_parts c)
          (omega arith) ∙ ap (λ i. get_or (f c) i d) (omega arith))

  -- where those of each part have the numbers from that of its first on, all have the numbers of where they stand
  pub numbered : (number : B → ℕ) → ((c j : ℕ) (d : B) → j < m → number (get_or (f c) j d) ≡ m * c + j)
      → (n k : ℕ) (d : B) → k < m * n → number (get_or (flat_map f (range_with_len 0 n)) k d) ≡ k
  numbered number each zero k d within = absurd (omega arith)
  numbered number each (suc n) k d within = ap (λ l. number (get_or l k d)) (parts_more n)
      ∙ here (λ before. numbered number each n k d before) (cases_lt k (m * n))
    where
      here : (k < m * n → number (get_or (flat_map f (range_with_len 0 n)) k d) ≡ k) → (k < m * n) ⊎ (m * n ≤ k)
          → number (get_or (flat_map f (range_with_len 0 n) ++ f n) k d) ≡ k
      here earlier (inl before) =
          ap number (get_or_append_left (flat_map f (range_with_len 0 n)) (f n) d k (omega (arith, length_parts n)))
          ∙ earlier before
      here earlier (inr last) =
          ap number (get_or-append_right (flat_map f (range_with_len 0 n)) (f n) (m * n) k d (length_parts n) last)
          ∙ each n (k - m * n) d (omega arith) ∙ omega arith

-- ---- workers
module _ (s : Layout) where
  in_pool : (p : PoolId) (j : ℕ) (d : WorkerId) → j < s.workers → get_or (pool_workers s p) j d ≡ worker_at p j
  in_pool p j d less = get_or-map-range_with_len (worker_at p) 0 s.workers j j d less (zero-add j)

  pool_long : (p : PoolId) → length (pool_workers s p) ≡ s.workers
  pool_long p = length-map-range_with_len (worker_at p) 0 s.workers

  abbrev pool_on : ℕ → Bool → PoolId
  pool_on c high = record { cpu = record { 0 = c }; high = high }

  cpu_long : (c : ℕ) → length (cpu_workers s c) ≡ 2 * s.workers
  cpu_long c = length-append (pool_workers s (pool_on c false)) (pool_workers s (pool_on c true))
      ∙ omega (arith, pool_long (pool_on c false), pool_long (pool_on c true))

  in_first : (c j : ℕ) (d : WorkerId) → j < s.workers → get_or (cpu_workers s c) j d ≡ worker_at (pool_on c false) j
  in_first c j d less =
      get_or_append_left (pool_workers s (pool_on c false)) (pool_workers s (pool_on c true)) d j
      (omega (arith, pool_long (pool_on c false))) ∙ in_pool (pool_on c false) j d less

  in_second : (c j : ℕ) (d : WorkerId) → j < s.workers
      → get_or (cpu_workers s c) (s.workers + j) d ≡ worker_at (pool_on c true) j
  in_second c j d less =
      get_or-append_right (pool_workers s (pool_on c false)) (pool_workers s (pool_on c true)) s.workers
      (s.workers + j) d
      (pool_long (pool_on c false)) (omega arith)
      ∙ ap (λ i. get_or (pool_workers s (pool_on c true)) i d) (omega arith) ∙ in_pool (pool_on c true) j d less

  number_in_cpu : (c j : ℕ) (d : WorkerId) → j < 2 * s.workers
      → worker_number s.workers (get_or (cpu_workers s c) j d) ≡ 2 * s.workers * c + j
  number_in_cpu c j d less = here (cases_lt j s.workers)
    where
      here : (j < s.workers) ⊎ (s.workers ≤ j)
          → worker_number s.workers (get_or (cpu_workers s c) j d) ≡ 2 * s.workers * c + j
      here (inl first) = ap (worker_number s.workers) (in_first c j d first) ∙ omega arith
      here (inr second) =
          let rest : s.workers + (j - s.workers) ≡ j = omega arith in
          ap (λ i. worker_number s.workers (get_or (cpu_workers s c) i d)) (sym rest)
          ∙ ap (worker_number s.workers) (in_second c (j - s.workers) d (omega arith)) ∙ omega arith

  pub workers_long : length (workers s) ≡ 2 * s.workers * s.cpus
  workers_long = length_parts (cpu_workers s) (2 * s.workers) cpu_long s.cpus

  -- each stands at its number, and has the number of where it stands
  pub worker_numbers : (k : ℕ) (d : WorkerId) → k < length (workers s)
      → worker_number s.workers (get_or (workers s) k d) ≡ k
  worker_numbers k d less =
      numbered (cpu_workers s) (2 * s.workers) cpu_long (worker_number s.workers) number_in_cpu s.cpus k d
      (omega (arith, workers_long))

  in_cpu : (high : Bool) (c x : ℕ) (d : WorkerId) → x < s.workers
      → (get_or (cpu_workers s c) ((if high then s.workers else 0) + x) d ≡ worker_at (pool_on c high) x)
      × ((if high then s.workers else 0) + x < 2 * s.workers)
  in_cpu true c x d less = (in_second c x d less, omega arith)
  in_cpu false c x d less = (ap (λ i. get_or (cpu_workers s c) i d) (omega arith) ∙ in_first c x d less, omega arith)

  pub worker_there : (w d : WorkerId) → w.pool.cpu.0 < s.cpus → w.index < s.workers
      → get_or (workers s) (worker_number s.workers w) d ≡ w
  worker_there w d cpu index =
      let at = in_cpu w.pool.high w.pool.cpu.0 w.index d index in
      ap (λ i. get_or (workers s) i d) (omega arith)
      ∙ in_part (cpu_workers s) (2 * s.workers) cpu_long s.cpus w.pool.cpu.0
      ((if w.pool.high then s.workers else 0) + w.index) d cpu at.1 ∙ at.0

  pub worker_within : (w : WorkerId) → w.pool.cpu.0 < s.cpus → w.index < s.workers
      → worker_number s.workers w < length (workers s)
  worker_within w cpu index =
      let room : 2 * s.workers * (w.pool.cpu.0 + 1) ≤ 2 * s.workers * s.cpus =
      mul-le-mul_left (2 * s.workers) (omega arith) in
      omega (arith, (in_cpu w.pool.high w.pool.cpu.0 w.index w index).1, workers_long)

  -- ---- callers
  pub callers_long : length (all_callers s) ≡ s.callers
  callers_long = length-map-range_with_len caller_of_number 0 s.callers

  pub caller_there : (k : ℕ) (d : CallerId) → k < s.callers → get_or (all_callers s) k d ≡ caller_of_number k
  caller_there k d less = get_or-map-range_with_len caller_of_number 0 s.callers k k d less (zero-add k)
