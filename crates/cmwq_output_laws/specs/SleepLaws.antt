-- A law of sleeps: where one goes on, its worker is asleep as the model says.
use Rattle.std.specs.Prelude.{◌≡◌, List, is_some}
use Rattle.cmwq_model.specs.declared.entry.Entry.{Entry}
use Rattle.cmwq_model.specs.declared.id.WorkerId.{WorkerId}
use Rattle.cmwq_model.specs.Prelude.{is_asleep}
use Rattle.cmwq_chart.specs.Sleeps.{asleep_since}

-- of any history, and so of each of its beginnings
abbrev pub SleepersAreAsleep : Type 0
SleepersAreAsleep = (past : List Entry) (w : WorkerId) → is_some (asleep_since past w) ≡ is_asleep past w
