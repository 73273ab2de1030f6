use Rattle.cmwq_resume.proofs.Resumed.{resumed_are_steady}
use Rattle.cmwq_resume.proofs.laws.resumed_are_steady.Goals as goal

pub returns : goal.returns
returns c = resumed_are_steady
