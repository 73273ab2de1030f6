-- There is room for the rest.
use Rattle.std.proofs.Common.{◌≡◌, map, take, ◌≤◌, length}
use Rattle.cmwq_c.specs.Resumed.{is_set}
use Rattle.cmwq_c.proofs.resume.flags_of.Given as goal

abbrev pub invariant-loop-number : goal.invariant-loop-number
invariant-loop-number l = record {
  made : l.flags.items ≡ map is_set (take l.number-index l.numbers);
  room : length l.numbers ≤ l.flags.cap;
}
