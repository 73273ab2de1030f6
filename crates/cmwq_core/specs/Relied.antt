-- What a user relies on, of the history of every book.
use Rattle.std.specs.Prelude.{◌≡◌}
use Rattle.cmwq_core.specs.Common.{ℕ, true, List, Entry, Layout, is_gone, IsLegal, OfEachEntry}
use Rattle.cmwq_theory_laws.specs.Headline.{RunsInOneWorker, StartedOnce, StartsEarlier, WithinWidthAfter, StartsActive}
use Rattle.cmwq_theory_laws.specs.Headline.{RunsWithinActive, WaitsEndAfter, CancelsSettle}
use Rattle.cmwq_theory_laws.specs.Gone.{NoneOpen, NoneBooked}

pub record IsReliable (s : Layout) (past : List Entry) : Type 0 where
  pub legal : IsLegal s past
  pub one_worker : RunsInOneWorker past
  pub started_once : StartedOnce past
  pub starts_earlier : StartsEarlier past
  pub within_width : OfEachEntry (WithinWidthAfter s) past
  pub starts_active : StartsActive s past
  pub runs_within : RunsWithinActive s past
  pub waits_end_after : WaitsEndAfter past
  pub cancels_settle : CancelsSettle past
  pub gone_empty : (q : ℕ) → is_gone past q ≡ true → NoneOpen past q × NoneBooked past q
