-- What is wrong with a shape.
use Rattle.std.specs.Prelude.{◌≡◌, ◌+◌, false, length, nat_le, slice_get, Some}
use Rattle.cmwq_model.specs.Layout.{Layout, is_between, most_active, most_callers, most_cpus, most_items, most_queues}
use Rattle.cmwq_model.specs.Layout.{most_room, most_workers}
use Rattle.cmwq_model.specs.declared.shape.QueueShape.{QueueShape}
use Rattle.cmwq_service.specs.Serving.{own_callers}
use Rattle.cmwq_service.specs.declared.builder.Misfit.{Misfit}
use Rattle.cmwq_service.specs.declared.builder.Misfit.TheVariants.{Cpus, Workers, Callers, Items, Room, Queues}
use Rattle.cmwq_service.specs.declared.builder.Misfit.TheVariants.{MaxActive}

-- the number is that of the shape, and isn't inside its limits
abbrev pub Misfits : Layout → Misfit → Type 0
Misfits s (Cpus n) = (n ≡ s.cpus) × (is_between 1 most_cpus n ≡ false)
Misfits s (Workers n) = (n ≡ s.workers) × (is_between 1 most_workers n ≡ false)
Misfits s (Callers n) = (n + own_callers ≡ s.callers) × (is_between 1 most_callers s.callers ≡ false)
Misfits s (Items n) = (n ≡ s.items) × (is_between 1 most_items n ≡ false)
Misfits s (Room n) = (n ≡ s.room) × (nat_le n most_room ≡ false)
Misfits s (Queues n) = (n ≡ length s.queues) × (is_between 1 most_queues n ≡ false)
Misfits s (MaxActive k n) = (q : QueueShape) × (slice_get s.queues k ≡ Some q) × (n ≡ q.max_active)
    × (is_between 1 most_active n ≡ false)
