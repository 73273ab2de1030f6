use Rattle.cmwq_resume.proofs.NoMoreRoom.{resumes_fit_again, resumes_need_no_more_room}
use Rattle.cmwq_resume.proofs.laws.resumes_need_no_more_room.Goals as goal

pub returns : goal.returns
returns c = record { needs = resumes_need_no_more_room; fits = resumes_fit_again }
