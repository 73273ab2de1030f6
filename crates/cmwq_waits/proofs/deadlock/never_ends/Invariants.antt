use Rattle.std.proofs.Common.{◌≡◌, vec_capacity}
use Rattle.cmwq_waits.specs.Narrowing.{IsNarrowed}
use Rattle.cmwq_waits.proofs.deadlock.never_ends.Given as goal

abbrev pub invariant-loop : goal.invariant-loop
invariant-loop l = IsNarrowed l.look l.fn.set.items l.set.items l.counter
    × (vec_capacity l.set ≡ vec_capacity l.fn.set) × (vec_capacity l.spare ≡ vec_capacity l.fn.spare)
