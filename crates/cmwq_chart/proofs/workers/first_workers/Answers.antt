use Rattle.std.proofs.Common.{◌++◌, [], true, false, ap, ◌∙◌, append_assoc}
use Rattle.cmwq_model.specs.declared.id.PoolId.{PoolId}
use Rattle.cmwq_model.specs.Prelude.{Layout, cpu_workers, pool_workers}
use Rattle.cmwq_chart.proofs.Steps.{flat_more}
use Rattle.cmwq_chart.proofs.workers.first_workers.Goals as goal

pub loop-cpu-preserved : goal.loop-cpu-preserved
loop-cpu-preserved c =
    let s = c.args.shape.now in
    let workers = ap (λ (s : Layout). s.workers) c.counts-counts.ensures.counts in
    let first = rw workers at c.in_ok-push_pool.ensures.workers in
    let second = rw workers at c.in_ok-push_pool-2.ensures.workers in
    let pool : PoolId = record { cpu = record { 0 = c.loop-cpu.cpu }; high = false } in
    record {
      owners = flat_more (cpu_workers s) [] _ _ c.loop-cpu.cpu c.loop-cpu.invariant.owners
          (second ∙ ap (λ l. l ++ pool_workers s (record pool { high = true })) first
          ∙ append_assoc _ (pool_workers s pool) (pool_workers s (record pool { high = true })));
      kept = c.in_ok-push_pool-2.ensures.kept;
    }
