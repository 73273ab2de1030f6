-- States of one size have tables that are as long.
use Rattle.cmwq_state.specs.Common.{◌≡◌, ℕ, ◌<◌, ◌≤◌, List, length, sym, ap, ◌∙◌, arith, ⊎_elim}
use Rattle.cmwq_state.specs.Common.{cases_lt, Entry, Layout, PoolState, no_pool, pool_numbered, slots_for_workers}
use Rattle.cmwq_state.specs.Common.{pool_of}
use Rattle.std.proofs.lemmas.List.{get_or_past}
use Rattle.cmwq_pool.specs.Pools.{AreOfOneShape}
use Rattle.cmwq_state.specs.Tables.{ArePools}
use Rattle.cmwq_state.specs.State.{AreOfOneSize}
use Rattle.cmwq_state.proofs.Listing.{pool_of_place}

-- ---- pools

record IsPoolOf (s : Layout) (past : List Entry) (l : PoolState) : Type 0 where
  items : l.items ≡ s.items
  workers : length l.slots ≡ s.workers

pool_at_place : (s : Layout) (past : List Entry) (pools : List PoolState) (k : ℕ) → ArePools s past pools
    → k < length pools → IsPoolOf s past (pool_numbered pools k)
pool_at_place s past pools k are low =
    let place = pool_of_place k in
    let many = are.many in
    let inside : place.pool.cpu.0 < s.cpus = grind (arith, place.place) in
    let is : pool_numbered pools k ≡ pool_of s past place.pool =
    ap (pool_numbered pools) (sym place.place) ∙ are.each place.pool inside in
    record {
      items = ap (λ (l : PoolState). l.items) is;
      workers = ap (λ (l : PoolState). length l.slots) is ∙ slots_for_workers s past place.pool;
    }

pub pools_of_one_shape : (s t : Layout) (past other : List Entry) (pools others : List PoolState) → AreOfOneSize s t
    → ArePools s past pools → ArePools t other others → AreOfOneShape pools others
pools_of_one_shape s t past other pools others size are they = record {
  many = many;
  items = λ k. ⊎_elim
      (λ low. (pool_at_place s past pools k are low).items
      ∙ (size.items ∙ sym (pool_at_place t other others k they (omega (arith, low, many))).items))
      (λ more. ap (λ (l : PoolState). l.items) (none k more)) (cases_lt k (length pools));
  workers = λ k. ⊎_elim
      (λ low. (pool_at_place s past pools k are low).workers
      ∙ (size.workers ∙ sym (pool_at_place t other others k they (omega (arith, low, many))).workers))
      (λ more. ap (λ (l : PoolState). length l.slots) (none k more)) (cases_lt k (length pools));
}
  where
    many : length pools ≡ length others
    many = omega (arith, are.many, they.many, size.cpus)

    none : (k : ℕ) → length pools ≤ k → pool_numbered pools k ≡ pool_numbered others k
    none k more = get_or_past pools k no_pool more ∙ sym (get_or_past others k no_pool (omega (arith, more, many)))
