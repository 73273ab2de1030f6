use Rattle.std.proofs.Common.{◌∙◌, sym, refl, map}
use Rattle.std.specs.List.{range_with_len}
use Rattle.std.specs.Prelude.{nat_eq}
use Rattle.cmwq_pool.specs.Slots.{new_slot, slot_has_run, slot_is_holding, slot_is_occupied}
use Rattle.cmwq_pool.specs.Workers.{counts_of}
use Rattle.cmwq_lemmas.proofs.Truth.{and_false}
use Rattle.cmwq_pool.proofs.Workers.{idle_new, none_new, same_counts}
use Rattle.cmwq_pool.proofs.counts.WorkerCounts.new.Goals as goal

pub returns : goal.returns
returns c =
    let n = c.args.workers in
    same_counts (record { idle = c.min.result; occupied = 0; running = 0; holding = 0 })
    (counts_of (map new_slot (range_with_len 0 n)))
    (c.min.ensures ∙ sym (idle_new n)) (none_new slot_is_occupied n (λ x. and_false (nat_eq x 0)))
    (none_new slot_has_run n (λ x. refl)) (none_new slot_is_holding n (λ x. refl))
