-- What is published of a hub: its entries, and whether each is shown to readers, which is so where it has some.
use Rattle.cmwq_publish.specs.Common.{Bool, List, Entry}

pub record Publication : Type 0 where
  pub entries : List Entry
  pub is_shown : Bool
