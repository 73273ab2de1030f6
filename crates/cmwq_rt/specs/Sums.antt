-- Counts of the waits that runs left out, and their sums.
use Rattle.std.specs.Prelude.{◌+◌, ◌-◌, ◌^◌}
use Rattle.std.proofs.Common.{min}
use Rattle.cmwq_rt.specs.Common.{ℕ}
use Rattle.cmwq_rt.specs.declared.left_out.LeftOut.{LeftOut}

-- the sum of two counts, which is no greater than a count may be
abbrev pub added : ℕ → ℕ → ℕ
added n m = min (n + m) (2 ^ 64 - 1)

-- none was left out
abbrev pub no_waits : LeftOut
no_waits = record { refused = 0; without_room = 0 }

-- these and the others
abbrev pub plus : LeftOut → LeftOut → LeftOut
plus l m = record { refused = added l.refused m.refused; without_room = added l.without_room m.without_room }

-- one more, which was refused
abbrev pub one_refused : LeftOut → LeftOut
one_refused l = record l { refused = added l.refused 1 }

-- one more, for which there was no room
abbrev pub one_without_room : LeftOut → LeftOut
one_without_room l = record l { without_room = added l.without_room 1 }
