-- There is room for the rest.
use Rattle.std.proofs.Common.{◌≡◌, map, take, ◌≤◌, length}
use Rattle.cmwq_c.specs.Numbers.{queue_of_numbers}
use Rattle.cmwq_c.proofs.numbers.queues_of.Given as goal

abbrev pub invariant-loop-queue : goal.invariant-loop-queue
invariant-loop-queue l = record {
  made : l.made.items ≡ map queue_of_numbers (take l.queue-index l.queues);
  room : length l.queues ≤ l.made.cap;
}
