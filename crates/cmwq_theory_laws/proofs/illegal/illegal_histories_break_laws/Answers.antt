use Rattle.cmwq_theory_laws.proofs.Breaks.{run_in_two_workers, started_twice, started_unqueued, run_beyond_max_active}
use Rattle.cmwq_theory_laws.proofs.Breaks.{ended_early, unsettled, gone_but_open}
use Rattle.cmwq_theory_laws.proofs.illegal.illegal_histories_break_laws.Goals as goal

pub returns : goal.returns
returns c =
    record {
      one_worker = run_in_two_workers;
      one_start = started_twice;
      queued = started_unqueued;
      max_active =
          run_beyond_max_active;
      waits = ended_early;
      cancels = unsettled;
      gone = gone_but_open;
    }
