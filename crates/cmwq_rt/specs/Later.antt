-- What a work function may have done to its worker, and what a worker's loop has done.
use Rattle.std.specs.Prelude.{◌≡◌, ◌≤◌}
use Rattle.cmwq_rt.specs.Common.{List, IsPrefix, Entry, View}

-- It is the same worker, which has made no fewer entries, and whatever began what it had seen begins what it sees now.
abbrev pub Later : View → View → Type 0
Later v w = (w.who ≡ v.who) × (v.serial ≤ w.serial)
    × ((front : List Entry) → IsPrefix front v.seen → IsPrefix front w.seen)
