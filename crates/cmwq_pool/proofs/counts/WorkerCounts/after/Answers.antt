use Rattle.std.proofs.Common.{ap}
use Rattle.cmwq_pool.specs.declared.counts.WorkerCounts.{WorkerCounts}
use Rattle.cmwq_pool.specs.Slots.{slot_has_run, slot_is_holding, slot_is_idle, slot_is_occupied}
use Rattle.cmwq_pool.proofs.Workers.{count_after, count_fits, count_had, same_counts}
use Rattle.cmwq_pool.proofs.counts.WorkerCounts.after.Goals as goal

pub recounted-requires-clause-fits : goal.recounted-requires-clause-fits
recounted-requires-clause-fits c =
    count_fits slot_is_idle c.args.slots.now c.args.worker c.from.result c.args.slot.now c.args.self.idle
    c.is_idle.result c.is_idle-2.result c.requires.few c.requires.worker c.from.ensures
    (ap (λ (x : WorkerCounts). x.idle) c.requires.counted) c.is_idle.ensures c.is_idle-2.ensures

pub recounted-requires-clause-had : goal.recounted-requires-clause-had
recounted-requires-clause-had c =
    count_had slot_is_idle c.args.slots.now c.args.worker c.from.result c.args.slot.now c.args.self.idle
    c.is_idle.result c.is_idle-2.result c.requires.few c.requires.worker c.from.ensures
    (ap (λ (x : WorkerCounts). x.idle) c.requires.counted) c.is_idle.ensures c.is_idle-2.ensures

pub recounted-requires-2-clause-fits : goal.recounted-requires-2-clause-fits
recounted-requires-2-clause-fits c =
    count_fits slot_is_occupied c.args.slots.now c.args.worker c.from.result c.args.slot.now c.args.self.occupied
    c.is_occupied.result c.is_occupied-2.result c.requires.few c.requires.worker c.from.ensures
    (ap (λ (x : WorkerCounts). x.occupied) c.requires.counted) c.is_occupied.ensures c.is_occupied-2.ensures

pub recounted-requires-2-clause-had : goal.recounted-requires-2-clause-had
recounted-requires-2-clause-had c =
    count_had slot_is_occupied c.args.slots.now c.args.worker c.from.result c.args.slot.now c.args.self.occupied
    c.is_occupied.result c.is_occupied-2.result c.requires.few c.requires.worker c.from.ensures
    (ap (λ (x : WorkerCounts). x.occupied) c.requires.counted) c.is_occupied.ensures c.is_occupied-2.ensures

pub recounted-requires-3-clause-fits : goal.recounted-requires-3-clause-fits
recounted-requires-3-clause-fits c =
    count_fits slot_has_run c.args.slots.now c.args.worker c.from.result c.args.slot.now c.args.self.running
    c.has_run.result c.has_run-2.result c.requires.few c.requires.worker c.from.ensures
    (ap (λ (x : WorkerCounts). x.running) c.requires.counted) c.has_run.ensures c.has_run-2.ensures

pub recounted-requires-3-clause-had : goal.recounted-requires-3-clause-had
recounted-requires-3-clause-had c =
    count_had slot_has_run c.args.slots.now c.args.worker c.from.result c.args.slot.now c.args.self.running
    c.has_run.result c.has_run-2.result c.requires.few c.requires.worker c.from.ensures
    (ap (λ (x : WorkerCounts). x.running) c.requires.counted) c.has_run.ensures c.has_run-2.ensures

pub recounted-requires-4-clause-fits : goal.recounted-requires-4-clause-fits
recounted-requires-4-clause-fits c =
    count_fits slot_is_holding c.args.slots.now c.args.worker c.from.result c.args.slot.now c.args.self.holding
    c.is_holding.result c.is_holding-2.result c.requires.few c.requires.worker c.from.ensures
    (ap (λ (x : WorkerCounts). x.holding) c.requires.counted) c.is_holding.ensures c.is_holding-2.ensures

pub recounted-requires-4-clause-had : goal.recounted-requires-4-clause-had
recounted-requires-4-clause-had c =
    count_had slot_is_holding c.args.slots.now c.args.worker c.from.result c.args.slot.now c.args.self.holding
    c.is_holding.result c.is_holding-2.result c.requires.few c.requires.worker c.from.ensures
    (ap (λ (x : WorkerCounts). x.holding) c.requires.counted) c.is_holding.ensures c.is_holding-2.ensures

pub returns : goal.returns
returns c = same_counts _ _
    (count_after slot_is_idle c.args.slots.now c.args.worker c.from.result c.args.slot.now c.args.self.idle
    c.is_idle.result c.is_idle-2.result c.requires.few c.requires.worker c.from.ensures
    (ap (λ (x : WorkerCounts). x.idle) c.requires.counted) c.is_idle.ensures c.is_idle-2.ensures c.recounted.result
    c.recounted.ensures)
    (count_after slot_is_occupied c.args.slots.now c.args.worker c.from.result c.args.slot.now c.args.self.occupied
    c.is_occupied.result c.is_occupied-2.result c.requires.few c.requires.worker c.from.ensures
    (ap (λ (x : WorkerCounts). x.occupied) c.requires.counted) c.is_occupied.ensures c.is_occupied-2.ensures
    c.recounted-2.result c.recounted-2.ensures)
    (count_after slot_has_run c.args.slots.now c.args.worker c.from.result c.args.slot.now c.args.self.running
    c.has_run.result c.has_run-2.result c.requires.few c.requires.worker c.from.ensures
    (ap (λ (x : WorkerCounts). x.running) c.requires.counted) c.has_run.ensures c.has_run-2.ensures
    c.recounted-3.result c.recounted-3.ensures)
    (count_after slot_is_holding c.args.slots.now c.args.worker c.from.result c.args.slot.now c.args.self.holding
    c.is_holding.result c.is_holding-2.result c.requires.few c.requires.worker c.from.ensures
    (ap (λ (x : WorkerCounts). x.holding) c.requires.counted) c.is_holding.ensures c.is_holding-2.ensures
    c.recounted-4.result c.recounted-4.ensures)
