use Rattle.std.proofs.Common.{arith, rules}
use Rattle.cmwq_rt.proofs.Placing.{few_given}
use Rattle.cmwq_rt.proofs.participants.Participants.caller.Goals as goal

pub split_off-share-requires-clause-has_parts : goal.split_off-share-requires-clause-has_parts
split_off-share-requires-clause-has_parts g c =
    let i = c.self.invariant in
    let few = few_given g.N.HubName.layout c.self.inside.counts c.self.inside.next c.self.inside.workers i.0 i.5 in
    let callers = i.0.few_callers.1 in
    let given = i.2 in
    let counted = i.0.callers in
    let left = c.if-self.false in
    let parts = i.3 in
    omega (arith, few, callers, given, counted, parts, left)

pub returns-clause-given : goal.returns-clause-given
returns-clause-given g c = search rules
