-- The places of callers and workers.
use Rattle.cmwq_rt.specs.Common.{◌≡◌, ℕ, ◌+◌, ◌<◌, ◌≤◌, List, Bool, true, false, not, refl, ap, arith, Option, Some}
use Rattle.cmwq_rt.specs.Common.{None, nat_lt, if◌then◌else◌, WorkerId, Counts, Layout, layout_of, is_layout}
use Rattle.std.proofs.lemmas.Bool.{ltb-true}
use Rattle.cmwq_model.proofs.Limits.{limits_of}
use Rattle.cmwq_model.specs.Prelude.{most_workers}
use Rattle.cmwq_model.specs.declared.shape.QueueShape.{QueueShape}
use Rattle.cmwq_rt.specs.Places.{AreCounts, IsNextPlace, after_worker, lane, most_workers_in_all, place}

pub counts_are : (s : Layout) (n : Counts) (queues : List QueueShape) → layout_of n queues ≡ s → is_layout s ≡ true
    → AreCounts s n
counts_are s n queues is inside =
    let limits = limits_of s inside in
    record {
      cpus = ap (λ (l : Layout). l.cpus) is;
      workers = ap (λ (l : Layout). l.workers) is;
      callers = ap (λ (l : Layout). l.callers) is;
      few_cpus = limits.cpus;
      few_workers = limits.workers;
      few_callers = limits.callers;
    }

lane_few : (h : Bool) → lane h ≤ most_workers
lane_few true = omega arith
lane_few false = omega arith

-- never more workers are given out than there may be
pub few_given : (s : Layout) (n : Counts) (next : Option WorkerId) (given : ℕ) → AreCounts s n
    → IsNextPlace s next given → given ≤ most_workers_in_all
few_given s n None given are is = is
few_given s n (Some w) given are is =
    let e = lane_few w.pool.high in let c = is.0 in let i = is.1 in let p = is.2 in let cpus = are.few_cpus.1 in
    let workers = are.few_workers.1 in omega arith

-- after the worker that is given out stands the next one
pub next_place : (s : Layout) (n : Counts) (w : WorkerId) (given : ℕ) → AreCounts s n → w.pool.cpu.0 < s.cpus
    → w.index < s.workers → given ≤ place w → IsNextPlace s (after_worker s w) (given + 1)
next_place s n w given are cpu index before = same_pool_next (nat_lt (w.index + 1) s.workers) refl
  where
    few : given + 1 ≤ most_workers_in_all
    few = let e = lane_few w.pool.high in let cpus = are.few_cpus.1 in let workers = are.few_workers.1 in omega arith

    next_cpu : (b : Bool) → nat_lt (w.pool.cpu.0 + 1) s.cpus ≡ b
        → IsNextPlace s
        (if b then Some
        (record { pool = record { cpu = record { 0 = w.pool.cpu.0 + 1 }; high = false }; index = 0 }) else None)
        (given + 1)
    next_cpu true is = (
      ltb-true (w.pool.cpu.0 + 1) s.cpus is,
      are.few_workers.0,
      (let e = lane_few w.pool.high in let workers = are.few_workers.1 in omega arith),
    )
    next_cpu false is = few

    high_pool : (h : Bool) → w.pool.high ≡ h
        → IsNextPlace s (if not h then Some (record { pool = record { cpu = w.pool.cpu; high = true }; index = 0 })
        else (if nat_lt (w.pool.cpu.0 + 1) s.cpus
        then Some (record { pool = record { cpu = record { 0 = w.pool.cpu.0 + 1 }; high = false }; index = 0 })
        else None)) (given + 1)
    high_pool true is = next_cpu (nat_lt (w.pool.cpu.0 + 1) s.cpus) refl
    high_pool false is =
        let low : lane w.pool.high ≡ 0 = ap lane is in
        let workers = are.few_workers.1 in
        (cpu, are.few_workers.0, omega arith)

    same_pool_next : (b : Bool) → nat_lt (w.index + 1) s.workers ≡ b
        → IsNextPlace s (if b then Some (record w { index = w.index + 1 })
        else (if not w.pool.high then Some (record { pool = record { cpu = w.pool.cpu; high = true }; index = 0 })
        else (if nat_lt (w.pool.cpu.0 + 1) s.cpus
        then Some (record { pool = record { cpu = record { 0 = w.pool.cpu.0 + 1 }; high = false }; index = 0 })
        else None))) (given + 1)
    same_pool_next true is = (cpu, ltb-true (w.index + 1) s.workers is, omega arith)
    same_pool_next false is = high_pool w.pool.high refl
