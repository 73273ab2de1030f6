use Rattle.std.proofs.Common.{◌++◌, [], ◌∷◌, map, sym, ap, ap₂, ◌∙◌, arith, append_assoc}
use Rattle.std.proofs.lemmas.List.{map-append}
use Rattle.std.proofs.lemmas.List.Elements.{All-same, All-push}
use Rattle.std.proofs.lemmas.List.FromFn.{map-range_with_len_more}
use Rattle.std.specs.List.{range_with_len}
use Rattle.cmwq_model.specs.Prelude.{worker_at}
use Rattle.cmwq_chart.specs.Intervals.{worker_in, IsWorkerKept}
use Rattle.cmwq_chart.proofs.workers.push_pool.Goals as goal

pub loop-index-preserved : goal.loop-index-preserved
loop-index-preserved c =
    let rows = c.loop-index.rows.items in
    let front = map worker_in c.args.rows.now.items in
    let index = c.loop-index.index in
    record {
      owners = ap (map worker_in) c.in_ok-push.ensures.items ∙ map-append worker_in rows (c.new.result ∷ [])
          ∙ ap₂ (λ l x. l ++ x ∷ []) c.loop-index.invariant.owners c.new.ensures.worker
          ∙ append_assoc front (map (worker_at c.args.pool) (range_with_len 0 index)) (worker_at c.args.pool index ∷ [])
          ∙ ap (λ l. front ++ l) (sym (map-range_with_len_more (worker_at c.args.pool) 0 index index (omega arith)));
      kept = All-same (IsWorkerKept []) _ _ c.in_ok-push.ensures.items
          (All-push (IsWorkerKept []) rows c.new.result c.loop-index.invariant.kept c.new.ensures.kept);
    }
