-- The pools that are to be looked at.
use Rattle.std.specs.Prelude.{◌<◌, ℕ}
use Rattle.cmwq_theory_wakes.specs.Reach.{Reach as Reached}
use Rattle.cmwq_theory_wakes.specs.Reach as reaches
use Rattle.cmwq_dispatch.specs.declared.reach.Reach.{Reach}
use Rattle.cmwq_dispatch.specs.declared.reach.Reach.TheVariants.{Nowhere, Only, Everywhere}

abbrev pub reach_as : Reach → Reached
reach_as Nowhere = reaches.nowhere
reach_as (Only p) = reaches.only p
reach_as Everywhere = reaches.everywhere

-- The pool is on a CPU that there is.
abbrev pub IsReachWithin : ℕ → Reached → Type 0
IsReachWithin cpus (reaches.only p) = p.cpu.0 < cpus
IsReachWithin cpus r = Unit {0}
