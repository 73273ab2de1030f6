-- A published history that has no name yet: which hub it will be, and how many readers it has.
use Rattle.cmwq_publish.specs.Common.{ℕ, [], Book, Layout}

pub record Unnamed : Type 0 where
  pub layout : Layout
  pub book : Book
  pub readers : ℕ

-- a layout and a log of no hub
abbrev pub no_layout : Layout
no_layout = record { cpus = 0; workers = 0; callers = 0; items = 0; room = 0; queues = [] }

abbrev pub unnamed_book : Book
unnamed_book = record { number = 0; log_name = 0; cells_name = 0 }
