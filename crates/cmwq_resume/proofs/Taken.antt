-- The calls that resume a legal history take it over: the laws together.
use Rattle.cmwq_resume.specs.Common.{◌≡◌, ◌<◌, ℕ, Bool, true, List, Entry, Layout, CallerId, Caller, IsLegal, []}
use Rattle.cmwq_model.specs.Prelude.{is_layout}
use Rattle.cmwq_resume.specs.Plays.{IsTakenOver, played}
use Rattle.cmwq_resume.specs.Resume.{resume_calls}
use Rattle.cmwq_resume.proofs.Lost.{resumed_lose_nothing}
use Rattle.cmwq_resume.proofs.Resumed.{resumes_play}

pub taken_over : (s : Layout) (c : CallerId) (again : ℕ → Bool) (old : List Entry) → is_layout s ≡ true
    → c.0 < s.callers → IsLegal s old → IsTakenOver s c again old (resume_calls s again old)
taken_over s c again old ok there legal =
    let k = resumes_play s c again old ok there legal in
    record {
      success = k.0;
      legal = k.1;
      resumes = k.2;
      lost =
          resumed_lose_nothing s again old (played s (Caller c) [] (resume_calls s again old)) legal k.2;
    }
