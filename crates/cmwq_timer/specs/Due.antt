-- One timer: whether it may fire, and which of two fires before the other.
use Rattle.std.specs.Prelude.{ℕ, Bool, List, ◌&&◌, ◌||◌, not, ◌==◌, nat_lt, nat_le, slice_index}
use Rattle.cmwq_timer.specs.declared.timer.Timer.{Timer}

-- holds says of each queue how much holds it back
abbrev pub is_held : List ℕ → Timer → Bool
is_held holds t = nat_lt 0 (slice_index holds t.place.queue.0)

-- due, on a queue that isn't held back
abbrev pub timer_may_fire : ℕ → List ℕ → Timer → Bool
timer_may_fire now holds t = nat_le t.due now && not (is_held holds t)

-- by due, and then by the number of the booking
abbrev pub is_sooner : Timer → Timer → Bool
is_sooner t other = nat_lt t.due other.due || ((t.due == other.due) && nat_lt t.number other.number)
