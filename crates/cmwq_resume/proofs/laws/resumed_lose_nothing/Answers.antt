use Rattle.cmwq_resume.proofs.Lost.{resumed_lose_nothing}
use Rattle.cmwq_resume.proofs.laws.resumed_lose_nothing.Goals as goal

pub returns : goal.returns
returns c = resumed_lose_nothing
