-- What waits, as contracts see it, and how it is kept: a row for each item, with the items of which one waits in a
-- list, by number, and those of each pwq in a list of its own.
use Rattle.std.specs.Prelude.{◌≡◌, ◌<◌, ◌++◌, ◌∷◌, slice_index_or, nat_eq}
use Rattle.cmwq_pwq.specs.Common.{ℕ, Bool, true, false, not, List, length, filter, AllByRecursion, Queueing, is_of}
use Rattle.cmwq_pwq.specs.Common.{is_on, most_cpus}
use Rattle.cmwq_pwq.specs.Pwqs.{place_of}
use Rattle.cmwq_list.specs.Lists.{Listed, list_at}

-- what waits, by number; the items' numbers are below items, and there is a list for each of so many places of pwqs
pub record WaitingState : Type 0 where
  pub items : ℕ
  pub places : ℕ
  pub queueings : List Queueing

-- one is not of this item
abbrev pub is_of_other : ℕ → Queueing → Bool
is_of_other i x = not (is_of i x)

-- the first of a list that is of queue q on CPU c is taken out
pub record IsFirstTaken (q c : ℕ) (old new : List Queueing) (x : Queueing) : Type 0 where
  pub before : List Queueing
  pub after : List Queueing
  pub stood : old ≡ before ++ x ∷ after
  pub left : new ≡ before ++ after
  pub is_there : is_on q c x ≡ true
  pub none_before : AllByRecursion (λ y. is_on q c y ≡ false) before

-- what stands in the row of an item of which nothing ever waited
abbrev pub no_queueing : Queueing
no_queueing =
    record { item = record { 0 = 0 }; place = record { queue = record { 0 = 0 }; cpu = record { 0 = 0 } }; number = 0 }

abbrev pub row_of : List Queueing → ℕ → Queueing
row_of rows i = slice_index_or rows i no_queueing

-- item i has a row of its own, which tells a place on a CPU that may be
pub record HasOwnRow (rows : List Queueing) (i : ℕ) : Type 0 where
  pub inside : i < length rows
  pub item : (row_of rows i).item.0 ≡ i
  pub cpu : (row_of rows i).place.cpu.0 < most_cpus

-- whether the row of item i is of the pwq at place p
abbrev pub is_at_place : List Queueing → ℕ → ℕ → Bool
is_at_place rows p i = nat_eq (place_of (row_of rows i).place.queue.0 (row_of rows i).place.cpu.0) p

-- the list at each place has the items of all that wait there, in their order
pub record AreWaitingKept (rows : List Queueing) (all pwqs : Listed) : Type 0 where
  pub items : all.items ≡ length rows
  pub items_of_pwqs : pwqs.items ≡ length rows
  pub one : length all.lists ≡ 1
  pub each : AllByRecursion (HasOwnRow rows) (list_at all.lists 0)
  pub of_pwqs : (p : ℕ) → p < length pwqs.lists
      → list_at pwqs.lists p ≡ filter (is_at_place rows p) (list_at all.lists 0)
