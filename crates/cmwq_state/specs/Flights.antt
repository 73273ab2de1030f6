-- What an item runs, as a queueing.
use Rattle.cmwq_state.specs.Common.{ℕ, List, Option, Entry, Queueing, item_run, queueing_started}

abbrev pub run_open : List Entry → ℕ → Option Queueing
run_open past i = queueing_started past (item_run past i)
