use Rattle.cmwq_resume.proofs.Resumed.{resumes_play}
use Rattle.cmwq_resume.proofs.laws.resumes_play.Goals as goal

pub returns : goal.returns
returns c = resumes_play
