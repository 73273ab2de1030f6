-- There is room for the rest.
use Rattle.std.proofs.Common.{◌≡◌, map, take, ◌≤◌, length}
use Rattle.cmwq_c.specs.Resumed.{first_calls_numbers}
use Rattle.cmwq_c.proofs.resume.numbers_of.Given as goal

abbrev pub invariant-loop-call : goal.invariant-loop-call
invariant-loop-call l = record {
  made : l.numbers.items ≡ map first_calls_numbers (take l.call-index l.calls);
  room : length l.calls ≤ l.numbers.cap;
}
