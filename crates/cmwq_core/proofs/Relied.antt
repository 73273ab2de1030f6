-- What a user relies on holds of every legal history.
use Rattle.cmwq_core.specs.Common.{List, Entry, Layout, IsLegal}
use Rattle.cmwq_theory_laws.proofs.OneWorker.{runs_in_one_worker}
use Rattle.cmwq_theory_laws.proofs.StartedOnce.{started_once, starts_earlier}
use Rattle.cmwq_theory_laws.proofs.WithinWidth.{within_width}
use Rattle.cmwq_theory_laws.proofs.StartsActive.{only_active_start}
use Rattle.cmwq_theory_laws.proofs.Width.{runs_within_active}
use Rattle.cmwq_theory_laws.proofs.WaitedFor.{waits_end_after}
use Rattle.cmwq_theory_laws.proofs.Settled.{cancels_settle}
use Rattle.cmwq_theory_laws.proofs.Gone.{gone_stay_empty}
use Rattle.cmwq_core.specs.Relied.{IsReliable}

pub reliable : (s : Layout) (past : List Entry) → IsLegal s past → IsReliable s past
reliable s past is = record {
  legal = is;
  one_worker = runs_in_one_worker s past is;
  started_once = started_once s past is;
  starts_earlier = starts_earlier s past is;
  within_width = within_width s past;
  starts_active = only_active_start s past is;
  runs_within = runs_within_active s past is;
  waits_end_after = waits_end_after s past is;
  cancels_settle = cancels_settle s past is;
  gone_empty = gone_stay_empty s past is;
}
