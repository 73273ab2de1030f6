use Rattle.cmwq_resume.proofs.Plays.{plans_play}
use Rattle.cmwq_resume.proofs.laws.plans_play.Goals as goal

pub returns : goal.returns
returns c = plans_play
