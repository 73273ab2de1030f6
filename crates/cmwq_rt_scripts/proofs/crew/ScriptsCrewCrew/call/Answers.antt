use Rattle.cmwq_rt_scripts.specs.Common.{◌≡◌, List, Some, slice_get, subst, IfOk, Call, HasFollowed}
use Rattle.cmwq_rt_scripts.proofs.crew.ScriptsCrewCrew.call.Goals as goal

pub returns-clause-called : goal.returns-clause-called
returns-clause-called g c =
    let s = g.N.HubName.layout in
    let all = g.S.Scripts.scripts c.args.self.now.scripts.now in
    subst (λ v. IfOk c.follow-answer.result
    (λ full. (script : List Call) → slice_get all c.args.number ≡ Some script
    → HasFollowed s script full v c.follow-answer.new.caller)) c.requires.fresh c.follow-answer.ensures.followed
