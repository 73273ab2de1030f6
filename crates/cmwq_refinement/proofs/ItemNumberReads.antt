-- What the open numbers of items answer is what the definitions say.
use Rattle.cmwq_refinement.specs.Common.{◌≡◌, ◌<◌, ◌↔◌, ℕ, ◌&&◌, List, find, None, nat_le, sym, ap, ◌∙◌, option_map}
use Rattle.cmwq_refinement.specs.Common.{lt-leb, leb-false, ItemId, Entry, Layout, still_open, is_of, waits_for}
use Rattle.cmwq_refinement.specs.Common.{numbers_open, is_up_to, IsItemReady}
use Rattle.cmwq_refinement.proofs.Numbers.{all_unfound, find_number, number_of_queueing}
use Rattle.cmwq_model.specs.declared.call.Call.TheVariants as call
use Rattle.cmwq_flush.specs.ItemNumbers.{item_waits_for}
use Rattle.cmwq_refinement.specs.ItemNumbers.{numbers_of}
use Rattle.cmwq_refinement.proofs.ItemNumberSteps.{item_row}

module _ (s : Layout) (past : List Entry) (i : ItemId) (t : ℕ) (there : i.0 < s.items) where
  waits : item_waits_for (numbers_of s past) i.0 t
      ≡ option_map number_of_queueing (find (λ x. is_of i.0 x && nat_le x.number t) (still_open past))
  waits = ap (find (is_up_to t)) (item_row s past i.0 there)
      ∙ sym (find_number number_of_queueing (is_of i.0) (is_up_to t) (still_open past))

  pub items_wait_for_least : (item_waits_for (numbers_of s past) i.0 t ≡ waits_for past t (call.FlushItem i))
      × (item_waits_for (numbers_of s past) i.0 t ≡ waits_for past t (call.FlushDelayed i))
  items_wait_for_least = (waits, waits)

pub ready_items_wait_for_nothing : (s : Layout) (past : List Entry) (i : ItemId) (t : ℕ) → i.0 < s.items
    → (IsItemReady (numbers_of s past) i.0 t ↔ (waits_for past t (call.FlushItem i) ≡ None))
    × (IsItemReady (numbers_of s past) i.0 t ↔ (waits_for past t (call.FlushDelayed i) ≡ None))
ready_items_wait_for_nothing s past i t there =
    let ready =
    all_unfound (λ n. t < n) (is_up_to t) (numbers_open (numbers_of s past) i.0) (λ n less. lt-leb n t less)
    (λ n h. leb-false n t h) in
    let least = items_wait_for_least s past i t there in
    (rw (← least.0) ready, rw (← least.1) ready)
