use Rattle.cmwq_pwq.specs.Common.{◌≡◌, ◌+◌, ◌++◌, Bool, List, length, take, drop, vec_len, Queueing}
use Rattle.std.specs.Prelude.{slice_get}
use Rattle.std.specs.Vec.{vec_capacity}
use Rattle.cmwq_pwq.specs.Pwqs.{AreBelowMaxActive, Passes, width_by}
use Rattle.cmwq_pwq.proofs.pass.pass.Given as goal

-- what was passed by and still waits stands before what wasn't reached yet
abbrev pub invariant-loop-index : goal.invariant-loop-index
invariant-loop-index l = record {
  here : l.next ≡ slice_get l.initial.waiting.queueings l.index;
  items : l.waiting.items ≡ l.initial.waiting.items;
  places : l.waiting.places ≡ l.initial.waiting.places;
  many : vec_len l.counts ≡ vec_len l.initial.counts;
  activated_capacity : vec_capacity l.activated ≡ vec_capacity l.initial.activated;
  passed : (rest : List Queueing) × (l.waiting.queueings ≡ rest ++ drop l.index l.initial.waiting.queueings)
      × (length rest + vec_len l.activated ≡ l.index)
      × ((way : Queueing → Bool)
      → AreBelowMaxActive way (width_by l.queues l.most l.frozen) l.initial.counts.items l.initial.waiting.queueings
      → Passes way (take l.index l.initial.waiting.queueings) l.initial.counts.items l.counts.items rest
      l.activated.items);
}
