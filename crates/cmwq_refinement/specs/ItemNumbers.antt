-- The open numbers of items refine their open queueings.
use Rattle.std.specs.Prelude.{◌≡◌, ◌<◌, ◌↔◌, ◌∷◌, ◌++◌}
use Rattle.cmwq_refinement.specs.Common.{ℕ, List, [], length, map, filter, replicate, Contains, Option, Some, None}
use Rattle.cmwq_refinement.specs.Common.{option_map, option_to_list, range_with_len, ItemId, Entry, Queueing, Start}
use Rattle.cmwq_refinement.specs.Common.{Layout, still_open, opening, is_of, unstarted_queueing, item_run, waits_for}
use Rattle.cmwq_refinement.specs.Common.{IsLegal, ending, numbers_open, IsItemReady}
use Rattle.cmwq_model.specs.declared.call.Call.TheVariants as call
use Rattle.cmwq_flush.specs.ItemNumbers.{numbers_with, numbers_without, item_waits_for}
use Rattle.cmwq_refinement.specs.ByNumber.{number_of_queueing}

-- the numbers of an item's open queueings, and of those of each item
abbrev pub item_numbers : List Entry → ℕ → List ℕ
item_numbers past i = map number_of_queueing (filter (is_of i) (still_open past))

abbrev pub numbers_of : Layout → List Entry → List (List ℕ)
numbers_of s past = map (item_numbers past) (range_with_len 0 s.items)

-- the numbers after a queueing ended, and after one was opened
abbrev pub numbers_after_end : Option Queueing → List (List ℕ) → List (List ℕ)
numbers_after_end None opened = opened
numbers_after_end (Some x) opened = numbers_without opened x.item.0 x.number

abbrev pub numbers_after_opening : Option Queueing → List (List ℕ) → List (List ℕ)
numbers_after_opening None opened = opened
numbers_after_opening (Some x) opened = numbers_with opened x.item.0 x.number

abbrev pub numbers_after : List Entry → Entry → List (List ℕ) → List (List ℕ)
numbers_after past e opened = numbers_after_opening (opening past e) (numbers_after_end (ending past e) opened)

-- at first no number is open, and each entry's calls make the numbers those of the longer history
abbrev pub NumbersAtFirst : Type 0
NumbersAtFirst = (s : Layout) → numbers_of s [] ≡ replicate s.items []

abbrev pub NumbersRefine : Type 0
NumbersRefine = (s : Layout) (past : List Entry) (e : Entry) → IsLegal s (e ∷ past)
    → numbers_of s (e ∷ past) ≡ numbers_after past e (numbers_of s past)

-- what they answer of a ticket that waits for an item is what the definitions say
abbrev pub ItemsWaitForLeast : Type 0
ItemsWaitForLeast = (s : Layout) (past : List Entry) (i : ItemId) (t : ℕ) → i.0 < s.items
    → (item_waits_for (numbers_of s past) i.0 t ≡ waits_for past t (call.FlushItem i))
    × (item_waits_for (numbers_of s past) i.0 t ≡ waits_for past t (call.FlushDelayed i))

abbrev pub ReadyItemsWaitForNothing : Type 0
ReadyItemsWaitForNothing = (s : Layout) (past : List Entry) (i : ItemId) (t : ℕ) → i.0 < s.items
    → (IsItemReady (numbers_of s past) i.0 t ↔ (waits_for past t (call.FlushItem i) ≡ None))
    × (IsItemReady (numbers_of s past) i.0 t ↔ (waits_for past t (call.FlushDelayed i) ≡ None))

-- an item has two open queueings at most: its run, and after that one which hasn't started
abbrev pub RunThenUnstarted : Type 0
RunThenUnstarted = (s : Layout) (past : List Entry) (i : ℕ) → IsLegal s past
    → item_numbers past i ≡ option_to_list (option_map (λ (start : Start). start.number) (item_run past i))
    ++ option_to_list (option_map number_of_queueing (unstarted_queueing past i))

-- each call that applies an entry to the numbers may be made where it is made: what the call requires holds
abbrev pub MayEndInNumbers : Option Queueing → List (List ℕ) → Type 0
MayEndInNumbers None opened = Unit {0}
MayEndInNumbers (Some x) opened = Contains (numbers_open opened x.item.0) x.number

abbrev pub MayOpenInNumbers : Option Queueing → List (List ℕ) → Type 0
MayOpenInNumbers None opened = Unit {0}
MayOpenInNumbers (Some x) opened = (x.item.0 < length opened) × (length (numbers_open opened x.item.0) < 2)

pub record MayApplyToNumbers (past : List Entry) (e : Entry) (numbers : List (List ℕ)) : Type 0 where
  pub ended : MayEndInNumbers (ending past e) numbers
  pub opened : MayOpenInNumbers (opening past e) (numbers_after_end (ending past e) numbers)

-- so it is in a legal history
abbrev pub EntriesApplyToNumbers : Type 0
EntriesApplyToNumbers = (s : Layout) (past : List Entry) (e : Entry) → IsLegal s (e ∷ past)
    → MayApplyToNumbers past e (numbers_of s past)
