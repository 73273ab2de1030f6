-- What the service asks of the shape of its hub.
use Rattle.std.specs.Prelude.{◌<◌, length}
use Rattle.cmwq_rt.specs.Prelude.{Layout}

-- both items, both queues and the CPU are there
abbrev pub HasNumbers : Layout → Type 0
HasNumbers s = (1 < s.items) × (1 < length s.queues) × (0 < s.cpus)
