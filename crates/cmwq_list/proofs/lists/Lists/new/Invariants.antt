use Rattle.std.proofs.Common.{◌≡◌, ◌<◌, ◌≤◌, ◌+◌, ℕ, length, get_or}
use Rattle.std.specs.Prelude.{All}
use Rattle.cmwq_list.proofs.lists.Lists.new.Given as goal

abbrev pub invariant-loop-sentinel : goal.invariant-loop-sentinel
invariant-loop-sentinel l = record {
  nexts : length l.next.items ≡ l.items + l.lists;
  prevs : length l.prev.items ≡ l.items + l.lists;
  low_nexts : All (λ x. x < l.items + l.lists) l.next.items;
  low_prevs : All (λ x. x < l.items + l.lists) l.prev.items;
  ends : (k : ℕ) → l.items ≤ k → k < l.sentinel → get_or l.next.items k 0 ≡ k;
  starts : (k : ℕ) → l.items ≤ k → k < l.sentinel → get_or l.prev.items k 0 ≡ k;
}
