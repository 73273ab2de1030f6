use Rattle.std.proofs.Common.{◌++◌, option_to_list, refl, sym, ap, ap₂, ◌∙◌, arith}
use Rattle.cmwq_model.specs.declared.id.Who.TheVariants.{Caller, Worker}
use Rattle.cmwq_model.specs.Prelude.{Layout}
use Rattle.cmwq_chart.specs.Bars.{bars_in}
use Rattle.cmwq_chart.specs.Intervals.{IsCallerKept, IsWorkerKept}
use Rattle.cmwq_chart.specs.Signs.{sign_of, signs_of}
use Rattle.cmwq_chart.proofs.Kept.{caller_stands, caller_told, caller_untold, worker_stands, worker_told, worker_untold}
use Rattle.cmwq_chart.proofs.Rows.{row_of, row_within, rows_stay}
use Rattle.cmwq_chart.proofs.Steps.{length_past}
use Rattle.cmwq_chart.proofs.intervals.Intervals.take.Goals as goal

-- ---- of a caller
pub index_mut-requires : goal.index_mut-requires
index_mut-requires c =
    let less = row_within c.requires.kept.callers (caller_stands _ _ _ c.requires.legal _ c.in-Caller.is) in
    omega (arith, less, c.args.self.now.callers.ok.0, c.from.ensures)

pub take-requires : goal.take-requires
take-requires c =
    let row = row_of c.requires.kept.callers (caller_stands _ _ _ c.requires.legal _ c.in-Caller.is)
    (rw c.from.ensures at c.index_mut.ensures.value) in
    record { short = omega arith; caller = c.in-Caller.is ∙ ap Caller (sym row.0); kept = row.1 }

pub returns-in_ok-take-in-Caller : goal.returns-in_ok-take-in-Caller
unfolding signs_of bars_in
returns-in_ok-take-in-Caller c =
    let kept = c.requires.kept in
    record {
      shape = kept.shape;
      short = omega (arith, c.requires.short, length_past c.args.entries.now);
      callers = rw c.from.ensures
          (caller_told _ _ _ c.requires.legal c.index_mut.result.now _ c.in-Caller.is kept.callers
          (rw c.from.ensures at c.index_mut.ensures.value) c.in_ok-take-in-Caller.ensures.caller
          c.in_ok-take-in-Caller.ensures.kept);
      workers_are = rows_stay kept.workers_are _ (λ y is. worker_untold _ _ y (rw c.in-Caller.is refl) is);
      bars = c.in_ok-push_if_some-2.ensures ∙ ap₂ (λ l o. l ++ option_to_list o) kept.bars c.bar_begun.ensures;
      finishes = c.in_ok-update_finishes.ensures;
      signs = c.in_ok-push_if_some.ensures ∙ ap₂ (λ l o. l ++ option_to_list o) kept.signs
          (c.sign_of.ensures ∙ ap (sign_of c.args.entry) (sym (length_past c.args.entries.now)));
    }

-- ---- of a worker
pub index_mut-requires-in-Worker : goal.index_mut-requires-in-Worker
index_mut-requires-in-Worker c =
    let number = rw (ap (λ (s : Layout). s.workers) c.counts.ensures.counts) at c.worker_number-number.ensures in
    let less = row_within c.requires.kept.workers_are (worker_stands _ _ _ c.requires.legal _ c.in-Worker.is) in
    omega (arith, less, c.args.self.now.workers.ok.0, number)

pub take-requires-in-Worker : goal.take-requires-in-Worker
take-requires-in-Worker c =
    let number = rw (ap (λ (s : Layout). s.workers) c.counts.ensures.counts) at c.worker_number-number.ensures in
    let row = row_of c.requires.kept.workers_are (worker_stands _ _ _ c.requires.legal _ c.in-Worker.is)
    (rw number at c.index_mut-in-Worker.ensures.value) in
    record { short = omega arith; worker = c.in-Worker.is ∙ ap Worker (sym row.0); kept = row.1 }

pub returns-in_ok-take-in-Worker : goal.returns-in_ok-take-in-Worker
unfolding signs_of bars_in
returns-in_ok-take-in-Worker c =
    let kept = c.requires.kept in
    let number = rw (ap (λ (s : Layout). s.workers) c.counts.ensures.counts) at c.worker_number-number.ensures in
    record {
      shape = kept.shape;
      short = omega (arith, c.requires.short, length_past c.args.entries.now);
      callers = rows_stay kept.callers _ (λ y is. caller_untold _ _ y (rw c.in-Worker.is refl) is);
      workers_are = rw number
          (worker_told _ _ _ c.requires.legal c.index_mut-in-Worker.result.now _ c.in-Worker.is kept.workers_are
          (rw number at c.index_mut-in-Worker.ensures.value) c.in_ok-take-in-Worker.ensures.worker
          c.in_ok-take-in-Worker.ensures.kept);
      bars = c.in_ok-push_if_some-2.ensures ∙ ap₂ (λ l o. l ++ option_to_list o) kept.bars c.bar_begun.ensures;
      finishes = c.in_ok-update_finishes.ensures;
      signs = c.in_ok-push_if_some.ensures ∙ ap₂ (λ l o. l ++ option_to_list o) kept.signs
          (c.sign_of.ensures ∙ ap (sign_of c.args.entry) (sym (length_past c.args.entries.now)));
    }
