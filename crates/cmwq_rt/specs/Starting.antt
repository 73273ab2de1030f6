-- What a worker is given to run.
use Rattle.std.specs.Prelude.{◌≡◌, ◌∷◌, ◌++◌}
use Rattle.cmwq_rt.specs.Common.{List, [], ItemId, Entry, past_of, View, StartsItem}

-- what the worker sees ends with an entry of its own, which starts a queueing of this item
abbrev pub HasStarted : View → ItemId → Type 0
HasStarted v item = (before : List Entry) × (e : Entry) × (v.seen ≡ before ++ e ∷ []) × (e.who ≡ v.who)
    × StartsItem (past_of before) e item
