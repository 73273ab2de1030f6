-- The workers of a layout by their numbers: each has its own, and they stand in that order before the first move.
use Rattle.std.specs.Prelude.{if◌then◌else◌, flat_map}
use Rattle.std.specs.List.{range_with_len}
use Rattle.std.proofs.Common.{◌≡◌, ◌∙◌, ◌+◌, ◌*◌, ◌<◌, ◌≤◌, ◌++◌, ◌∷◌, ℕ, zero, suc, Bool, true, false, not, List, []}
use Rattle.std.proofs.Common.{Option, Some}
use Rattle.std.proofs.Common.{None, length, map, slice_get, nat_lt, refl, sym, ap, subst, arith}
use Rattle.std.proofs.Math.Nat.{suc-mul}
use Rattle.std.proofs.lemmas.Bool.{le-ltb, lt-ltb, ltb-false, ltb-true}
use Rattle.cmwq_model.specs.Prelude.{Layout}
use Rattle.cmwq_model.specs.declared.id.PoolId.{PoolId}
use Rattle.cmwq_model.specs.declared.id.WorkerId.{WorkerId}
use Rattle.cmwq_rt.specs.Places.{after_worker, first_worker, next_after, worker_by_number}
use Rattle.cmwq_play.specs.Firsts.{of_cpu, of_pool, pool_of, worker_at, workers_from}
use Rattle.cmwq_play.specs.declared.place.WorkerAt.{WorkerAt}

-- ---- numbers

-- how many pools stand before that of the worker
abbrev one_if : Bool → ℕ
one_if b = if b then 1 else 0

abbrev pools_before : WorkerId → ℕ
pools_before w = w.pool.cpu.0 + w.pool.cpu.0 + one_if w.pool.high

abbrev number_of : Layout → WorkerId → ℕ
number_of s w = pools_before w * s.workers + w.index

-- the worker is inside the layout, and this is its number
pub record IsNumbered (s : Layout) (k : ℕ) (w : WorkerId) : Type 0 where
  pub cpu : nat_lt w.pool.cpu.0 s.cpus ≡ true
  pub index : nat_lt w.index s.workers ≡ true
  pub number : number_of s w ≡ k

module _ (s : Layout) (some_cpus : 0 < s.cpus) (some_workers : 0 < s.workers) where
  -- the first of the next pool has the next number
  next_pool : (k : ℕ) (w x : WorkerId) → IsNumbered s k w → nat_lt (w.index + 1) s.workers ≡ false
      → nat_lt x.pool.cpu.0 s.cpus ≡ true → x.index ≡ 0 → pools_before x ≡ suc (pools_before w)
      → IsNumbered s (suc k) x
  next_pool k w x is last there first more = record {
    cpu = there;
    index = ap (λ n. nat_lt n s.workers) first ∙ lt-ltb 0 s.workers some_workers;
    number =
        (let all = ltb-false (w.index + 1) s.workers last in
        let less = ltb-true w.index s.workers is.index in
        let old = is.number in
        let product : pools_before x * s.workers ≡ pools_before w * s.workers + s.workers =
        ap (λ n. n * s.workers) more ∙ suc-mul (pools_before w) s.workers in
        omega (arith, product, old, all, less, first));
  }

  next_numbered : (k : ℕ) (w x : WorkerId) → IsNumbered s k w → after_worker s w ≡ Some x → IsNumbered s (suc k) x
  next_numbered k w x is = in_pool (nat_lt (w.index + 1) s.workers) refl
    where
      next_cpu : WorkerId
      next_cpu = record { pool = record { cpu = record { 0 = w.pool.cpu.0 + 1 }; high = false }; index = 0 }

      by_cpu : nat_lt (w.index + 1) s.workers ≡ false → w.pool.high ≡ true → (b : Bool)
          → nat_lt (w.pool.cpu.0 + 1) s.cpus ≡ b
          → (if b then Some (record {
            pool = record { cpu = record { 0 = w.pool.cpu.0 + 1 }; high = false };
            index =
                0;
          })
          else None) ≡ Some x → IsNumbered s (suc k) x
      by_cpu last high true there one =
          let pools : pools_before next_cpu ≡ suc (pools_before w) =
          (let two : one_if w.pool.high ≡ 1 = ap one_if high in omega (arith, two)) in
          let same : next_cpu ≡ x = cc one in
          subst (IsNumbered s (suc k)) same (next_pool k w next_cpu is last there refl pools)
      by_cpu last high false there none = absurd (cc none)

      by_high : nat_lt (w.index + 1) s.workers ≡ false → (b : Bool) → w.pool.high ≡ b
          → (if not b then Some (record { pool = record { cpu = w.pool.cpu; high = true }; index = 0 })
          else if nat_lt (w.pool.cpu.0 + 1) s.cpus
          then Some (record { pool = record { cpu = record { 0 = w.pool.cpu.0 + 1 }; high = false }; index = 0 })
          else None) ≡ Some x → IsNumbered s (suc k) x
      by_high last true high one = by_cpu last high (nat_lt (w.pool.cpu.0 + 1) s.cpus) refl one
      by_high last false high one =
          let other : WorkerId = record { pool = record { cpu = w.pool.cpu; high = true }; index = 0 } in
          let pools : pools_before other ≡ suc (pools_before w) =
          (let none : one_if w.pool.high ≡ 0 = ap one_if high in omega (arith, none)) in
          let same : other ≡ x = cc one in
          subst (IsNumbered s (suc k)) same (next_pool k w other is last is.cpu refl pools)

      in_pool : (b : Bool) → nat_lt (w.index + 1) s.workers ≡ b
          → (if b then Some (record w { index = w.index + 1 })
          else if not w.pool.high then Some (record { pool = record { cpu = w.pool.cpu; high = true }; index = 0 })
          else if nat_lt (w.pool.cpu.0 + 1) s.cpus
          then Some (record { pool = record { cpu = record { 0 = w.pool.cpu.0 + 1 }; high = false }; index = 0 })
          else None) ≡ Some x → IsNumbered s (suc k) x
      in_pool true less one =
          let next : WorkerId = record w { index = w.index + 1 } in
          let same : next ≡ x = cc one in
          let old = is.number in
          subst (IsNumbered s (suc k)) same
          (record { cpu = is.cpu; index = less; number = omega (arith, old) })
      in_pool false last one = by_high last w.pool.high refl one

  pub numbered : (k : ℕ) (w : WorkerId) → worker_by_number s k ≡ Some w → IsNumbered s k w
  numbered zero w is =
      let same : first_worker ≡ w = cc is in
      subst (IsNumbered s 0) same
      (record {
        cpu = lt-ltb 0 s.cpus some_cpus;
        index = lt-ltb 0 s.workers some_workers;
        number = omega arith;
      })
  numbered (suc k) w is = at (λ v was. numbered k v was) (worker_by_number s k) refl is
    where
      at : ((v : WorkerId) → worker_by_number s k ≡ Some v → IsNumbered s k v) → (o : Option WorkerId)
          → worker_by_number s k ≡ o → next_after s o ≡ Some w → IsNumbered s (suc k) w
      at before None was some = absurd (cc some)
      at before (Some v) was some = next_numbered k v w (before v was) some

  -- each has its own
  pub one_number : (j k : ℕ) (w : WorkerId) → worker_by_number s j ≡ Some w → worker_by_number s k ≡ Some w → j ≡ k
  one_number j k w a b = sym (numbered j w a).number ∙ (numbered k w b).number

-- ---- workers in their order

-- idle workers that stand in order, from this one on up to that before the last
WalksTo : Layout → Option WorkerId → List WorkerAt → Option WorkerId → Type 0
WalksTo s o [] last = o ≡ last
WalksTo s o (x ∷ xs) last = (o ≡ Some x.id) × (x.run ≡ None) × WalksTo s (next_after s o) xs last

walk_on : (s : Layout) (o m last : Option WorkerId) (xs ys : List WorkerAt) → WalksTo s o xs m → WalksTo s m ys last
    → WalksTo s o (xs ++ ys) last
unfolding WalksTo
walk_on s o m last [] ys same rest = subst (λ (x : Option WorkerId). WalksTo s x ys last) (sym same) rest
walk_on s o m last (x ∷ xs) ys (is, idle, walk) rest = (is, idle, walk_on s (next_after s o) m last xs ys walk rest)

-- what comes after the last of a pool
after_pool : Layout → PoolId → Option WorkerId
after_pool s p =
    if not p.high then Some (record { pool = record { cpu = p.cpu; high = true }; index = 0 })
    else (if nat_lt (p.cpu.0 + 1) s.cpus
    then Some (record { pool = record { cpu = record { 0 = p.cpu.0 + 1 }; high = false }; index = 0 }) else None)

after_cpu : Layout → ℕ → Option WorkerId
after_cpu s c = if nat_lt (c + 1) s.cpus
    then Some (record { pool = record { cpu = record { 0 = c + 1 }; high = false }; index = 0 }) else None

module _ (s : Layout) where
  within_pool : (w : WorkerId) → w.index + 1 < s.workers → after_worker s w ≡ Some (record w { index = w.index + 1 })
  within_pool w less = rw (lt-ltb (w.index + 1) s.workers less) refl

  past_pool : (w : WorkerId) → s.workers ≤ w.index + 1 → after_worker s w ≡ after_pool s w.pool
  unfolding after_pool
  past_pool w over = rw (le-ltb (w.index + 1) s.workers over) refl

  pool_walk : (p : PoolId) (n i : ℕ) → i + suc n ≡ s.workers
      → WalksTo s (Some (record { pool = p; index = i })) (map (worker_at p) (range_with_len i (suc n)))
      (after_pool s p)
  unfolding WalksTo
  pool_walk p zero i long = (refl, refl, past_pool (record { pool = p; index = i }) (omega arith))
  pool_walk p (suc n) i long =
      let next = within_pool (record { pool = p; index = i }) (omega arith) in
      let sum : (i + 1) + suc n ≡ s.workers = omega arith in (
        refl,
        refl,
        subst
            (λ (o : Option WorkerId).
            WalksTo s o (map (worker_at p) (range_with_len (i + 1) (suc n))) (after_pool s p))
            (sym next) (pool_walk p n (i + 1) sum),
      )

  all_of_pool : (p : PoolId) → 0 < s.workers
      → WalksTo s (Some (record { pool = p; index = 0 })) (of_pool s.workers p) (after_pool s p)
  all_of_pool p some = at s.workers refl
    where
      at : (n : ℕ) → s.workers ≡ n
          → WalksTo s (Some (record { pool = p; index = 0 })) (of_pool n p) (after_pool s p)
      at zero none = absurd (omega (arith, some, none))
      at (suc n) is = pool_walk p n 0 (let same = is in omega (arith, same))

  all_of_cpu : (c : ℕ) → 0 < s.workers
      → WalksTo s (Some (record { pool = pool_of c false; index = 0 })) (of_cpu s.workers c) (after_cpu s c)
  unfolding after_pool after_cpu
  all_of_cpu c some =
      walk_on s (Some (record { pool = pool_of c false; index = 0 }))
      (Some (record { pool = pool_of c true; index = 0 })) (after_cpu s c) (of_pool s.workers (pool_of c false))
      (of_pool s.workers (pool_of c true)) (all_of_pool (pool_of c false) some) (all_of_pool (pool_of c true) some)

  last_cpu : (c : ℕ) → s.cpus ≤ c + 1 → WalksTo s (after_cpu s c) [] None
  unfolding WalksTo after_cpu
  last_cpu c over = rw (le-ltb (c + 1) s.cpus over) refl

  next_cpu : (c : ℕ) → c + 1 < s.cpus → after_cpu s c ≡ Some (record { pool = pool_of (c + 1) false; index = 0 })
  unfolding after_cpu
  next_cpu c less = rw (lt-ltb (c + 1) s.cpus less) refl

  cpus_walk : (n c : ℕ) → c + suc n ≡ s.cpus → 0 < s.workers
      → WalksTo s (Some (record { pool = pool_of c false; index = 0 }))
      (flat_map (of_cpu s.workers) (range_with_len c (suc n))) None
  cpus_walk zero c long some =
      walk_on s _ (after_cpu s c) None (of_cpu s.workers c) [] (all_of_cpu c some) (last_cpu c (omega arith))
  cpus_walk (suc n) c long some =
      let sum : (c + 1) + suc n ≡ s.cpus = omega arith in
      walk_on s _ (after_cpu s c) None (of_cpu s.workers c) (flat_map (of_cpu s.workers)
      (range_with_len (c + 1) (suc n)))
      (all_of_cpu c some)
      (subst (λ (o : Option WorkerId). WalksTo s o (flat_map (of_cpu s.workers) (range_with_len (c + 1) (suc n))) None)
      (sym (next_cpu c (omega arith))) (cpus_walk n (c + 1) sum some))

  all_walk : 0 < s.cpus → 0 < s.workers → WalksTo s (Some first_worker) (workers_from s.cpus s.workers) None
  all_walk some_cpus some = at s.cpus refl
    where
      at : (n : ℕ) → s.cpus ≡ n → WalksTo s (Some first_worker) (workers_from n s.workers) None
      at zero none = absurd (omega (arith, some_cpus, none))
      at (suc n) is = cpus_walk n 0 (let same = is in omega (arith, same)) some

  -- by their places
  walked : (xs : List WorkerAt) (k : ℕ) → WalksTo s (worker_by_number s k) xs None → (j : ℕ) (at : WorkerAt)
      → slice_get xs j ≡ Some at → (worker_by_number s (k + j) ≡ Some at.id) × (at.run ≡ None)
  unfolding WalksTo
  walked [] k walk j at is = absurd (cc is)
  walked (x ∷ xs) k (here, idle, walk) zero at is =
      let same : x ≡ at = cc is in
      let place : k ≡ k + 0 = omega arith in
      subst (λ (y : WorkerAt). (worker_by_number s (k + 0) ≡ Some y.id) × (y.run ≡ None)) same
      (subst (λ (n : ℕ). worker_by_number s n ≡ Some x.id) place here, idle)
  walked (x ∷ xs) k (here, idle, walk) (suc j) at is =
      let place : suc k + j ≡ k + suc j = omega arith in
      subst (λ (n : ℕ). (worker_by_number s n ≡ Some at.id) × (at.run ≡ None)) place (walked xs (suc k) walk j at is)

  walked_all : (xs : List WorkerAt) (k : ℕ) → WalksTo s (worker_by_number s k) xs None
      → worker_by_number s (k + length xs) ≡ None
  unfolding WalksTo
  walked_all [] k walk =
      let place : k ≡ k + 0 = omega arith in
      subst (λ (n : ℕ). worker_by_number s n ≡ None) place walk
  walked_all (x ∷ xs) k (here, idle, walk) =
      let place : suc k + length xs ≡ k + suc (length xs) = omega arith in
      subst (λ (n : ℕ). worker_by_number s n ≡ None) place (walked_all xs (suc k) walk)

  pub workers_stand : 0 < s.cpus → 0 < s.workers → (j : ℕ) (at : WorkerAt)
      → slice_get (workers_from s.cpus s.workers) j ≡ Some at
      → (worker_by_number s j ≡ Some at.id) × (at.run ≡ None)
  workers_stand some_cpus some j at is =
      let place : 0 + j ≡ j = omega arith in
      subst (λ (n : ℕ). (worker_by_number s n ≡ Some at.id) × (at.run ≡ None)) place
      (walked (workers_from s.cpus s.workers) 0 (all_walk some_cpus some) j at is)

  pub workers_end : 0 < s.cpus → 0 < s.workers → worker_by_number s (length (workers_from s.cpus s.workers)) ≡ None
  workers_end some_cpus some =
      let place : 0 + length (workers_from s.cpus s.workers) ≡ length (workers_from s.cpus s.workers) = omega arith in
      subst (λ (n : ℕ). worker_by_number s n ≡ None) place
      (walked_all (workers_from s.cpus s.workers) 0 (all_walk some_cpus some))
