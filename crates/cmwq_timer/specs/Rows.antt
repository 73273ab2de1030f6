-- The timers of all items: a row for each item, with its timer if it is booked.
use Rattle.std.specs.Prelude.{◌≡◌, ℕ, ◌<◌, Bool, false, ◌==◌, ◌+◌, ◌-◌, List, Option, Some, None, option_map, IsTrue}
use Rattle.std.specs.Prelude.{length, count_by, slice_index, slice_index_or, slice_set}
use Rattle.std.specs.List.{list_any}
use Rattle.cmwq_timer.specs.declared.timer.Timer.{Timer}
use Rattle.cmwq_timer.specs.declared.timers.TheConstants.{QUEUES}
use Rattle.cmwq_timer.specs.Due.{timer_may_fire, is_sooner}

abbrev pub TimerRows : Type 0
TimerRows = List (Option Timer)

abbrev pub timer_of : TimerRows → ℕ → Option Timer
timer_of rows i = slice_index_or rows i None

-- some item is booked on queue q
abbrev pub is_timer_on : ℕ → Option Timer → Bool
is_timer_on q None = false
is_timer_on q (Some t) = t.place.queue.0 == q

abbrev pub any_timer_on : TimerRows → ℕ → Bool
any_timer_on rows q = list_any (is_timer_on q) rows

-- of each queue, how many items are booked on it
pub record AreCounted (rows : TimerRows) (counts : List ℕ) : Type 0 where
  pub few : length rows < 65536
  pub many : length counts ≡ QUEUES
  pub exact : (q : ℕ) → q < QUEUES → slice_index counts q ≡ count_by (is_timer_on q) rows

-- an item more, or less, on the queue of a timer
abbrev pub timer_counts_with : Option Timer → List ℕ → List ℕ
timer_counts_with None counts = counts
timer_counts_with (Some t) counts = slice_set counts t.place.queue.0 (slice_index counts t.place.queue.0 + 1)

abbrev pub timer_counts_without : Option Timer → List ℕ → List ℕ
timer_counts_without None counts = counts
timer_counts_without (Some t) counts = slice_set counts t.place.queue.0 (slice_index counts t.place.queue.0 - 1)

abbrev pub HasCountOf : Option Timer → List ℕ → Type 0
HasCountOf None counts = Unit {0}
HasCountOf (Some t) counts = 0 < slice_index counts t.place.queue.0

abbrev pub HasRoomFor : Option Timer → List ℕ → Type 0
HasRoomFor None counts = Unit {0}
HasRoomFor (Some t) counts = (t.place.queue.0 < length counts) × (slice_index counts t.place.queue.0 < 65535)

-- the tick at which an item is due, if it is booked
abbrev pub due_of : TimerRows → ℕ → Option ℕ
due_of rows i = option_map (λ (t : Timer). t.due) (timer_of rows i)

-- item i is booked by this timer, which may fire
abbrev pub MayFire : ℕ → List ℕ → TimerRows → ℕ → Timer → Type 0
MayFire now holds rows i t = (timer_of rows i ≡ Some t) × IsTrue (timer_may_fire now holds t)

abbrev pub NoneMayFire : ℕ → List ℕ → TimerRows → Type 0
NoneMayFire now holds rows = (i : ℕ) (t : Timer) → ¬ (MayFire now holds rows i t)

-- item i may fire, and no item that may fire is sooner
pub record IsFirstToFire (now : ℕ) (holds : List ℕ) (rows : TimerRows) (i : ℕ) : Type 0 where
  pub timer : Timer
  pub may_fire : MayFire now holds rows i timer
  pub none_sooner : (j : ℕ) (other : Timer) → MayFire now holds rows j other → is_sooner other timer ≡ false
