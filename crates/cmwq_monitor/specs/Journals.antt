-- What was handed over to who writes a hub's history down.
use Rattle.cmwq_monitor.specs.Common.{List, Entry}

pub record Journaled : Type 0 where
  pub seen : List Entry
  pub batch : List Entry
