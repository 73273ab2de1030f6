-- Counts that differ at one element, and that element among numbers and among a layout's workers.
use Rattle.cmwq_theory_steps.specs.Common.{◌≡◌, ◌<◌, ◌+◌, ◌==◌, ℕ, Bool, true, false, cond, ◌&&◌, List, [], ◌∷◌, map}
use Rattle.cmwq_theory_steps.specs.Common.{count_by, refl, sym, ap, ap₂, ◌∙◌, arith, flat_map, range_with_len, PoolId}
use Rattle.cmwq_theory_steps.specs.Common.{WorkerId, Layout, indices, same_pool, same_worker, worker_at, pool_workers}
use Rattle.cmwq_theory_steps.specs.Common.{cpu_workers, workers, count_by-cons}
use Rattle.cmwq_lemmas.proofs.Lists.{All_each, count_append, count_by-none}
use Rattle.cmwq_lemmas.proofs.Passing.{once_there}

-- ---- two tests that agree but for one element

module _ {X : Type 0} where
  count_points : (is f g : X → Bool) (a b : Bool) (xs : List X) → ((x : X) → is x ≡ true → f x ≡ a)
      → ((x : X) → is x ≡ true → g x ≡ b) → ((x : X) → is x ≡ false → f x ≡ g x)
      → count_by g xs + cond a (count_by is xs) 0 ≡ count_by f xs + cond b (count_by is xs) 0
  count_points is f g a b [] hf hg same = grind arith
  count_points is f g a b (x ∷ xs) hf hg same =
      grind (
        arith,
        count_by-cons g x xs,
        count_by-cons is x xs,
        count_by-cons f x xs,
        hf x,
        hg x,
        same x,
        count_points is f g a b xs hf hg same,
      )

  -- the one element is there once
  pub count_point : (is f g : X → Bool) (a b : Bool) (xs : List X) → count_by is xs ≡ 1
      → ((x : X) → is x ≡ true → f x ≡ a) → ((x : X) → is x ≡ true → g x ≡ b) → ((x : X) → is x ≡ false → f x ≡ g x)
      → count_by g xs + cond a 1 0 ≡ count_by f xs + cond b 1 0
  count_point is f g a b xs once hf hg same =
      ap (λ k. count_by g xs + cond a k 0) (sym once) ∙ count_points is f g a b xs hf hg same
      ∙ ap (λ k. count_by f xs + cond b k 0) once

count_by-map : {X Y : Type 0} (p : Y → Bool) (f : X → Y) (xs : List X)
    → count_by p (map f xs) ≡ count_by (λ x. p (f x)) xs
count_by-map p f [] = refl
count_by-map p f (x ∷ xs) = count_by-cons p (f x) (map f xs) ∙ ap (λ n. cond (p (f x)) 1 0 + n) (count_by-map p f xs)
    ∙ sym (count_by-cons (λ y. p (f y)) x xs)

-- ---- a number among those of a range

abbrev pub is_number : ℕ → ℕ → Bool
is_number n m = m == n

pub number_once : (i n : ℕ) → i < n → count_by (is_number i) (range_with_len 0 n) ≡ 1
number_once i n less = once_there i 0 n (omega arith) (omega arith)

-- ---- a worker among those of a layout

abbrev pub is_worker : WorkerId → WorkerId → Bool
is_worker w v = same_worker v w

pool_once : (s : Layout) (w : WorkerId) (p : PoolId) (b : Bool) → w.index < s.workers → same_pool p w.pool ≡ b
    → count_by (is_worker w) (pool_workers s p) ≡ cond b 1 0
pool_once s w p b less h = count_by-map (is_worker w) (worker_at p) (indices s)
    ∙ ap (λ c. count_by (λ x. c && (x == w.index)) (indices s)) h ∙ at b
  where
    at : (b : Bool) → count_by (λ x. b && (x == w.index)) (indices s) ≡ cond b 1 0
    at true = number_once w.index s.workers less
    at false = count_by-none _ (indices s) (All_each _ (indices s) (λ n. refl))

cpu_once : (s : Layout) (w : WorkerId) (c : ℕ) → w.index < s.workers → count_by (is_worker w) (cpu_workers s c)
    ≡ cond (c == w.pool.cpu.0) 1 0
cpu_once s w c less =
    let normal : PoolId = record { cpu = record { 0 = c }; high = false } in
    let high : PoolId = record { cpu = record { 0 = c }; high = true } in
    grind (
      arith,
      count_append (is_worker w) (pool_workers s normal) (pool_workers s high),
      pool_once s w normal _ less refl,
      pool_once s w high _ less refl,
    )

cpus_once : (s : Layout) (w : WorkerId) (cs : List ℕ) → w.index < s.workers
    → count_by (is_worker w) (flat_map (cpu_workers s) cs) ≡ count_by (is_number w.pool.cpu.0) cs
cpus_once s w [] less = refl
cpus_once s w (c ∷ cs) less =
    count_append (is_worker w) (cpu_workers s c) (flat_map (cpu_workers s) cs)
    ∙ ap₂ (λ m n. m + n) (cpu_once s w c less) (cpus_once s w cs less)
    ∙ sym (count_by-cons (is_number w.pool.cpu.0) c cs)

pub worker_once : (s : Layout) (w : WorkerId) → w.pool.cpu.0 < s.cpus → w.index < s.workers
    → count_by (is_worker w) (workers s) ≡ 1
worker_once s w cpu index = cpus_once s w (range_with_len 0 s.cpus) index ∙ number_once w.pool.cpu.0 s.cpus cpu
