-- What waits to become active, and how many are active of each queue on each CPU.
use Rattle.std.specs.Prelude.{◌≡◌, ◌+◌, ◌*◌, ◌-◌, ◌<◌, ◌≤◌, ◌&&◌, ◌==◌, if◌then◌else◌, ◌∷◌, ◌++◌}
use Rattle.cmwq_pwq.specs.Common.{ℕ, Bool, false, Option, Some, None, not, List, [], length, filter, count_by}
use Rattle.cmwq_pwq.specs.Common.{replicate, nat_lt, slice_index, slice_set, slice_index_or, All, AllByRecursion}
use Rattle.cmwq_pwq.specs.Common.{list_any, Queueing, is_of, no_queue, has_number, is_on, most_cpus}
use Rattle.cmwq_model.specs.declared.shape.QueueShape.{QueueShape}

-- what waits, and what the last pass made active, both in their order; the items' numbers are below items
pub record PwqState : Type 0 where
  pub items : ℕ
  pub counts : List ℕ
  pub waiting : List Queueing
  pub activated : List Queueing

-- the active ones of queue q on CPU c are counted at this place
abbrev pub place_of : ℕ → ℕ → ℕ
place_of q c = most_cpus * q + c

abbrev pub count_at : List ℕ → ℕ → ℕ → ℕ
count_at counts q c = slice_index counts (place_of q c)

abbrev pub count_of_same_pwq : List ℕ → Queueing → ℕ
count_of_same_pwq counts x = count_at counts x.place.queue.0 x.place.cpu.0

abbrev pub new_pwq_state : ℕ → ℕ → PwqState
new_pwq_state queues items =
    record { items = items; counts = replicate (most_cpus * queues) 0; waiting = []; activated = [] }

-- a queueing that is opened waits
abbrev pub pwqs_with_open : PwqState → Queueing → PwqState
pwqs_with_open l x = record l { waiting = l.waiting ++ x ∷ [] }

-- one that ends waits no more, and where it didn't wait it was active
abbrev pub is_waiting : PwqState → Queueing → Bool
is_waiting l x = list_any (has_number x.number) l.waiting

abbrev pub is_other_waiting : ℕ → Queueing → Bool
is_other_waiting n x = not (x.number == n)

abbrev pub pwqs_without_open : PwqState → Queueing → PwqState
pwqs_without_open l x =
    if is_waiting l x then record l { waiting = filter (is_other_waiting x.number) l.waiting }
    else record l
    { counts = slice_set l.counts (place_of x.place.queue.0 x.place.cpu.0) (count_of_same_pwq l.counts x - 1) }

-- after a queueing ended, and after one was opened, where there was one
abbrev pub pwqs_after_end : Option Queueing → PwqState → PwqState
pwqs_after_end None l = l
pwqs_after_end (Some x) l = pwqs_without_open l x

abbrev pub pwqs_after_opening : Option Queueing → PwqState → PwqState
pwqs_after_opening None l = l
pwqs_after_opening (Some x) l = pwqs_with_open l x

-- what waits with the number of the queueing is of the same item
abbrev pub IsNumberOfItem : Queueing → List Queueing → Type 0
IsNumberOfItem x xs = AllByRecursion (λ y. y.number ≡ x.number → y.item.0 ≡ x.item.0) xs

-- each call may be made: what ends is of an item that there is, and is counted if it doesn't wait
pub record MayEnd (x : Queueing) (l : PwqState) : Type 0 where
  pub item : x.item.0 < l.items
  pub number : IsNumberOfItem x l.waiting
  pub place : place_of x.place.queue.0 x.place.cpu.0 < length l.counts
  pub counted : is_waiting l x ≡ false → 0 < count_of_same_pwq l.counts x

abbrev pub MayEndInPwqs : Option Queueing → PwqState → Type 0
MayEndInPwqs None l = Unit {0}
MayEndInPwqs (Some x) l = MayEnd x l

-- what is opened is of an item that there is, of which nothing waits, at a place that is counted
pub record MayOpen (x : Queueing) (l : PwqState) : Type 0 where
  pub item : x.item.0 < l.items
  pub cpu : x.place.cpu.0 < most_cpus
  pub place : place_of x.place.queue.0 x.place.cpu.0 < length l.counts
  pub free : list_any (is_of x.item.0) l.waiting ≡ false

abbrev pub MayOpenInPwqs : Option Queueing → PwqState → Type 0
MayOpenInPwqs None l = Unit {0}
MayOpenInPwqs (Some x) l = MayOpen x l

-- an item of which none waited has none that waits now
abbrev pub NoneWaitsAnew : List Queueing → List Queueing → Type 0
NoneWaitsAnew old new = (i : ℕ) → list_any (is_of i) old ≡ false → list_any (is_of i) new ≡ false

-- how wide queue q is, by max_active of each queue and whether the freezable ones are frozen
abbrev pub width_by : List QueueShape → List ℕ → Bool → ℕ → ℕ
width_by queues most frozen q = if (slice_index_or queues q no_queue).freezable && frozen then 0 else slice_index most q

-- What is below max_active, by what is counted: a queueing of the list is below max_active where fewer than the width
-- are active on its pool workqueue, with those before it in the list that are below max_active.
abbrev pub AreBelowMaxActive : (Queueing → Bool) → (ℕ → ℕ) → List ℕ → List Queueing → Type 0
AreBelowMaxActive way wide counts xs = (done : List Queueing) (x : Queueing) (rest : List Queueing)
    → xs ≡ done ++ x ∷ rest
    → way x ≡ nat_lt (count_of_same_pwq counts x + count_by (is_on x.place.queue.0 x.place.cpu.0) (filter way done))
    (wide x.place.queue.0)

-- those that are below max_active become active and are counted, and the others go on waiting
pub record Passes (way : Queueing → Bool) (xs : List Queueing) (old new : List ℕ) (rest taken : List Queueing) : Type 0
  where
    pub kept : rest ≡ filter (λ x. not (way x)) xs
    pub activated : taken ≡ filter way xs
    pub many : length new ≡ length old
    pub counts : (q c : ℕ) → c < most_cpus → place_of q c < length old
        → count_at new q c ≡ count_at old q c + count_by (is_on q c) (filter way xs)

-- The pool workqueues after the pass are those before it with what is below max_active made active.
pub record IsPassed (wide : ℕ → ℕ) (old new : PwqState) : Type 0 where
  pub passes : (way : Queueing → Bool) → AreBelowMaxActive way wide old.counts old.waiting
      → Passes way old.waiting old.counts new.counts new.waiting new.activated
  pub many : length new.counts ≡ length old.counts
  pub items : new.items ≡ old.items
  pub sorted : length new.waiting + length new.activated ≡ length old.waiting

-- the width or more are active beside the queueing, at a place that is counted
pub record IsBehind (wide : ℕ → ℕ) (counts : List ℕ) (x : Queueing) : Type 0 where
  pub cpu : x.place.cpu.0 < most_cpus
  pub counted : place_of x.place.queue.0 x.place.cpu.0 < length counts
  pub behind : wide x.place.queue.0 ≤ count_of_same_pwq counts x

abbrev pub AreBehind : (ℕ → ℕ) → List ℕ → List Queueing → Type 0
AreBehind wide counts xs = AllByRecursion (IsBehind wide counts) xs

-- the queueing is of a queue that there is, on one of four CPUs
abbrev pub IsPlaced : ℕ → Queueing → Type 0
IsPlaced queues x = (x.place.queue.0 < queues) × (x.place.cpu.0 < most_cpus)

abbrev pub ArePlaced : ℕ → List Queueing → Type 0
ArePlaced queues xs = All (IsPlaced queues) xs

abbrev pub IsPlacedIf : ℕ → Option Queueing → Type 0
IsPlacedIf queues None = Unit {0}
IsPlacedIf queues (Some x) = IsPlaced queues x

-- there is a list for each pwq, and room for all that may become active at once
pub record IsPwqState (items lists : ℕ) (counts : List ℕ) (activated_room : ℕ) : Type 0 where
  pub places : lists ≡ length counts
  pub activates : items < activated_room
