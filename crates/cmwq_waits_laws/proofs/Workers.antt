-- Where runs that wait have all workers of a pool, none of its workers starts anything.
use Rattle.std.proofs.Common.{◌≡◌, ◌∙◌, ◌<◌, ◌≤◌, ◌==◌, ℕ, true, false, List, ◌∷◌, Option, Some, length}
use Rattle.std.proofs.Common.{ap, arith, count_by, eqb-true, filter, map, subst, sym, ⊎_elim}
use Rattle.std.specs.Prelude.{is_some}
use Rattle.std.specs.Option.{option_map_or}
use Rattle.std.specs.List.{list_any}
unfoldable use Rattle.std.specs.List.{IsDistinct}
use Rattle.std.proofs.lemmas.Bool.{both_ways, false_from_ne_true, leb-true, or_cases}
use Rattle.std.proofs.lemmas.List.{length-map}
use Rattle.std.proofs.lemmas.Option.{same_Some}
use Rattle.std.proofs.lemmas.List.Sums.{length-filter}
use Rattle.std.proofs.lemmas.List.Kept.{AllPairs-filter}
use Rattle.std.proofs.lemmas.Map.Steps.{length-le_from_distinct_below}
use Rattle.cmwq_lemmas.proofs.Lists.{all_mapped}
use Rattle.cmwq_lemmas.proofs.Members.{In, all_in, contained_in, in_any, in_filter, in_map, of_in}
use Rattle.cmwq_model.specs.Prelude.{IsLegal, Layout, has_run, item_run, pool_at, run, same_pool, starts}
use Rattle.cmwq_model.specs.Prelude.{number_started, same_who, still_open}
use Rattle.cmwq_model.specs.declared.entry.Entry.{Entry}
use Rattle.cmwq_model.specs.declared.id.PoolId.{PoolId}
use Rattle.cmwq_model.specs.declared.id.Who.{Who}
use Rattle.cmwq_model.specs.declared.id.Who.TheVariants.{Worker}
use Rattle.cmwq_model.specs.declared.id.WorkerId.{WorkerId}
use Rattle.cmwq_model.specs.declared.record.Queueing.{Queueing}
use Rattle.cmwq_model.specs.declared.record.Start.{Start}
use Rattle.cmwq_theory_steps.proofs.Ended.{found_open}
use Rattle.cmwq_theory_steps.proofs.Entries.{is_at-true}
use Rattle.cmwq_theory_steps.proofs.ItemRuns.{same_worker_itself}
use Rattle.cmwq_theory_steps.proofs.Pools.{same_pool-true}
use Rattle.cmwq_theory_steps.proofs.RunsActive.{listed_pool}
use Rattle.cmwq_theory_steps.proofs.Starts.{starts_next}
use Rattle.cmwq_theory_steps.proofs.StartsListed.{IsFound, starts_listed}
use Rattle.cmwq_refinement.proofs.PoolNext.{worker_fits}
use Rattle.cmwq_waits.specs.HeldUp.{have_all_workers, is_in_pool}
use Rattle.cmwq_waits.specs.Looks.{IsSeen}
use Rattle.cmwq_waits.specs.Refused.{AreApart}
use Rattle.cmwq_waits.specs.declared.run_wait.RunWait.{RunWait}
use Rattle.cmwq_waits_laws.proofs.Apart.{differ, is_run, mapped_distinct}

-- an idle worker of the pool
pub record IsIdle (s : Layout) (past : List Entry) (p : PoolId) (v : WorkerId) : Type 0 where
  pub pool : v.pool ≡ p
  pub there : v.index < s.workers
  pub idle : has_run past v ≡ false

-- the index of the worker that has the run
abbrev index : List Entry → RunWait → ℕ
index past w = option_map_or (λ (start : Start). start.worker.index) (item_run past w.run.item.0) 0

worker_of : (p : PoolId) (v : WorkerId) (n : ℕ) → v.pool ≡ p → v.index ≡ n → v ≡ record { pool = p; index = n }
worker_of p v n pool same = λ i. record { pool = pool i; index = same i }

module _ (s : Layout) (past : List Entry) (legal : IsLegal s past) (p : PoolId) where
  -- the run of a worker of the pool
  record RunsIn (w : RunWait) : Type 0 where
    runs : run past (record { pool = p; index = index past w }) ≡ Some w.run.number
    there : index past w < s.workers

  runs_in : (w : RunWait) → IsSeen past w → same_pool (pool_at s w.run.place) p ≡ true → RunsIn w
  runs_in w seen pool =
      let r = is_run s past w.run legal (contained_in (still_open past) w.run seen.is_open) seen.has_started in
      let same : r.start.worker.index ≡ index past w =
      sym (ap (λ (o : Option Start). option_map_or (λ (start : Start). start.worker.index) o 0) r.is_its) in
      let worker =
      worker_of p r.start.worker (index past w) (sym r.pool ∙ same_pool-true (pool_at s w.run.place) p pool) same in
      record {
        runs = subst (λ (v : WorkerId). run past v ≡ Some w.run.number) worker r.runs;
        there = subst (λ n. n < s.workers) same r.there;
      }

  -- so many as all its workers are not there where a worker is idle
  module _ (v : WorkerId) (idle : IsIdle s past p v) where
    not_idle : (w : RunWait) → RunsIn w → (v.index == index past w) ≡ false
    not_idle w r = false_from_ne_true _ (λ same.
        let worker = worker_of p v (index past w) idle.pool (eqb-true v.index (index past w) same) in
        let runs : run past v ≡ Some w.run.number = ap (run past) worker ∙ r.runs in
        both_ways _ idle.idle (ap is_some runs))

    fewer_runs : (ws : List RunWait) → AreApart ws → ((w : RunWait) → In w ws → RunsIn w) → length ws < s.workers
    unfolding IsDistinct
    fewer_runs ws apart runs =
        let distinct : IsDistinct (λ v w. index past v == index past w) ws =
        differ (index past) ws apart
        (λ a b here there same. same_number a b (runs a here).runs (runs b there).runs same) in
        let few =
        length-le_from_distinct_below (v.index ∷ map (index past) ws) s.workers (
          all_mapped (index past) (λ n. (v.index == n) ≡ false) ws (all_in _ ws (λ w here. not_idle w (runs w here))),
          mapped_distinct (index past) ws distinct,
        )
        below in
        omega (arith, few, length-map ws (index past))
      where
        same_number : (a b : RunWait) → run past (record { pool = p; index = index past a }) ≡ Some a.run.number
            → run past (record { pool = p; index = index past b }) ≡ Some b.run.number
            → index past a ≡ index past b → a.run.number ≡ b.run.number
        same_number a b runs_a runs_b same =
            same_Some a.run.number b.run.number
            (sym runs_a ∙ ap (λ n. run past (record { pool = p; index = n })) same ∙ runs_b)

        below : (q : ℕ) → list_any (λ n. q == n) (v.index ∷ map (index past) ws) ≡ true → q < s.workers
        below q some = ⊎_elim
            (λ is. subst (λ n. n < s.workers) (sym (eqb-true q v.index is)) idle.there)
            (λ later. let n = in_any (λ n. q == n) (map (index past) ws) later in
            let w = in_map (index past) ws n.0 n.1 in
            subst (λ m. m < s.workers) (w.2 ∙ sym (eqb-true q n.0 n.2)) (runs w.0 w.1).there)
            (or_cases (q == v.index) _ some)

-- ---- where they have all workers, none is idle, and so none starts anything

none_idle : (s : Layout) (past : List Entry) (ws : List RunWait) (x : Queueing) (v : WorkerId) → IsLegal s past
    → AreApart ws → ((w : RunWait) → In w ws → IsSeen past w) → have_all_workers s ws x.place ≡ true
    → IsIdle s past (pool_at s x.place) v → ⊥
none_idle s past ws x v legal apart seen all idle =
    let there = is_in_pool s x.place in
    let few =
    fewer_runs s past legal (pool_at s x.place) v idle (filter there ws)
    (AllPairs-filter (λ (a b : RunWait). a.run.number ≡ b.run.number → ⊥) there ws apart)
    (λ w here. let k = in_filter there ws w here in runs_in s past legal (pool_at s x.place) w (seen w k.0) k.1) in
    let many : s.workers ≤ count_by there ws = leb-true s.workers (count_by there ws) all in
    absurd (omega (arith, few, many, length-filter there ws))

pub none_starts : (s : Layout) (past : List Entry) (e : Entry) (ws : List RunWait) (x : Queueing)
    → IsLegal s (e ∷ past) → IsLegal s past → AreApart ws → ((w : RunWait) → In w ws → IsSeen past w)
    → In x (still_open past) → have_all_workers s ws x.place ≡ true → starts x.number e ≡ false
none_starts s past e ws x legal before apart seen here all = false_from_ne_true _ (λ starts_it.
    let listed = starts_listed s past e x.number legal starts_it in
    let next = starts_next s past e x.number legal (is_at-true (number_started e.reply) x.number starts_it) in
    let worker : next.worker ≡ listed.worker = cc (next.by_worker, listed.by_worker) in
    let queueing : listed.queueing ≡ x =
    same_Some listed.queueing x
    (sym listed.found ∙ of_in (IsFound past) (still_open past) x (found_open past) here) in
    none_idle s past ws x next.worker before apart seen all
    (record {
      pool = ap (λ (v : WorkerId). v.pool) worker
          ∙ sym
          (same_pool-true (pool_at s listed.queueing.place) listed.worker.pool
          (listed_pool s past listed.worker.pool listed.queueing listed.listed))
          ∙ ap (λ (y : Queueing). pool_at s y.place) queueing;
      there = worker_fits s past e next.worker legal
          (ap (λ (who : Who). same_who who (Worker next.worker)) next.by_worker ∙ same_worker_itself next.worker);
      idle = next.idle;
    }))
