use Rattle.cmwq_resume.proofs.Room.{resumes_have_room}
use Rattle.cmwq_resume.proofs.laws.resumes_have_room.Goals as goal

pub returns : goal.returns
returns c = resumes_have_room
