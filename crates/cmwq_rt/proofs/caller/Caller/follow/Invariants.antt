use Rattle.std.proofs.Common.{◌≡◌, ◌≤◌, take}
use Rattle.cmwq_rt.specs.Scripts.{HasFollowed}
use Rattle.cmwq_rt.proofs.caller.Caller.follow.Given as goal

abbrev pub invariant-loop-k : goal.invariant-loop-k
invariant-loop-k g l = HasFollowed g.N.HubName.layout (take l.k l.fn.script) l.full l.fn.self l.self × (l.full ≤ l.k)
    × (l.self.who ≡ l.fn.self.who)
