-- The rows of timers, entry by entry.
use Rattle.cmwq_refinement.specs.Common.{◌≡◌, ◌≢◌, ◌<◌, ◌≤◌, ℕ, true, false, List, [], ◌∷◌, length, map, replicate, set}
use Rattle.cmwq_refinement.specs.Common.{Option, Some, None, refl, sym, ap, ◌∙◌, arith, ⊎_elim, option_map}
use Rattle.cmwq_refinement.specs.Common.{option_and_then, range_with_len, length-set, get_or-set_same, get_or-set_other}
use Rattle.cmwq_refinement.specs.Common.{get_or_past, fill_by_all, length-map-range_with_len, get_or-map-range_with_len}
use Rattle.cmwq_refinement.specs.Common.{option_or, cases_eq, eq-eqb, ne_eqb, Call, Entry, Booking, Layout, item_called}
use Rattle.cmwq_refinement.specs.Common.{item_fired, item_of, settles, due_in, booked_by, booking_of, booking, due_of}
use Rattle.cmwq_refinement.specs.Common.{timer_of, and_false}
use Rattle.cmwq_refinement.proofs.Numbers.{rows_alike}
use Rattle.cmwq_model.specs.declared.call.Call.TheVariants as call
use Rattle.cmwq_refinement.specs.Timers.{timer_for, timer_row, timers_of, due_in_bookings}
use Rattle.cmwq_theory_steps.proofs.Standing.{due_settles}

module _ {X : Type 0} where
  -- one place of a table that a function makes
  pub set_row : (f g : ℕ → X) (n i : ℕ) (v : X) → g i ≡ v → ((j : ℕ) → j ≢ i → g j ≡ f j)
      → map g (range_with_len 0 n) ≡ set (map f (range_with_len 0 n)) i v
  set_row f g n i v here others =
      sym (fill_by_all g (set (map f (range_with_len 0 n)) i v) n v
      (length-set (map f (range_with_len 0 n)) i v ∙ length-map-range_with_len f 0 n) (λ k less. ⊎_elim
      (λ same. grind (arith, get_or-set_same (map f (range_with_len 0 n)) i v v, length-map-range_with_len f 0 n))
      (λ differs. get_or-set_other (map f (range_with_len 0 n)) i k v v differs
      ∙ get_or-map-range_with_len f 0 n k k v less (omega arith) ∙ sym (others k differs)) (cases_eq k i)))

  pub same_rows : (f g : ℕ → X) (xs : List ℕ) → ((j : ℕ) → g j ≡ f j) → map g xs ≡ map f xs
  same_rows f g [] h = refl
  same_rows f g (x ∷ xs) h = grind (arith, same_rows f g xs h, h x)

-- ---- what an entry books

booked_by_call : (c : Call) (n due : ℕ) (b : Booking) → booked_by c n due ≡ Some b
    → (item_called c ≡ Some b.item.0) × (b.number ≡ n)
booked_by_call (call.Delay i q k t) n due b h = grind (arith, h)
booked_by_call (call.Modify i q k t) n due b h = grind (arith, h)
booked_by_call c n due b h = cc

pub record Books (e : Entry) (n : ℕ) (b : Booking) : Type 0 where
  pub settled : settles e.reply ≡ true
  pub item : item_of e ≡ Some b.item.0
  pub number : b.number ≡ n

pub booking_books : (e : Entry) (n : ℕ) (b : Booking) → booking_of e n ≡ Some b → Books e n b
booking_books e n b h = with_due (due_in e.reply) refl h
  where
    with_due : (o : Option ℕ) → due_in e.reply ≡ o → option_and_then (booked_by e.call n) o ≡ Some b → Books e n b
    with_due None is found = cc
    with_due (Some due) is found =
        let k = booked_by_call e.call n due b found in
        record {
          settled = due_settles e.reply due is;
          item = ap (λ o. option_or o (item_fired e.reply)) k.0;
          number =
              k.1;
        }

-- ---- the rows

-- where an entry settles an item, its row is what the entry books
row_settled : (s : Layout) (past : List Entry) (e : Entry) (i : ℕ) (o : Option Booking) → settles e.reply ≡ true
    → item_of e ≡ Some i → booking_of e (length past) ≡ o
    → timers_of s (e ∷ past) ≡ set (timers_of s past) i (option_map timer_for o)
unfolding booking
row_settled s past e i o settled item is =
    set_row (timer_row past) (timer_row (e ∷ past)) s.items i (option_map timer_for o)
    (rw (settled, item, eq-eqb i i refl, is) refl)
    (λ j differs. rw (item, ne_eqb i j (λ same. differs (sym same)), and_false) refl)

pub bookings_set_timers : (s : Layout) (past : List Entry) (e : Entry) (b : Booking)
    → booking_of e (length past) ≡ Some b
    → timers_of s (e ∷ past) ≡ set (timers_of s past) b.item.0 (Some (timer_for b))
bookings_set_timers s past e b h = let k = booking_books e (length past) b h in
    row_settled s past e b.item.0 (Some b) k.settled k.item h

pub settled_timers_are_taken_back : (s : Layout) (past : List Entry) (e : Entry) (i : ℕ) → settles e.reply ≡ true
    → booking_of e (length past) ≡ None → item_of e ≡ Some i
    → timers_of s (e ∷ past) ≡ set (timers_of s past) i None
settled_timers_are_taken_back s past e i settled none item = row_settled s past e i None settled item none

pub others_keep_timers : (s : Layout) (past : List Entry) (e : Entry) → settles e.reply ≡ false
    → timers_of s (e ∷ past) ≡ timers_of s past
unfolding booking
others_keep_timers s past e h =
    same_rows (timer_row past) (timer_row (e ∷ past)) (range_with_len 0 s.items) (λ j. rw h refl)

pub rows_for_items : (s : Layout) (past : List Entry) → length (timers_of s past) ≡ s.items
rows_for_items s past = length-map-range_with_len (timer_row past) 0 s.items

pub no_timers_at_first : (s : Layout) → timers_of s [] ≡ replicate s.items None
unfolding booking
no_timers_at_first s = rows_alike (timer_row []) None s.items (λ i. refl)

pub row_at : (s : Layout) (past : List Entry) (i : ℕ) → i < s.items → timer_of (timers_of s past) i ≡ timer_row past i
row_at s past i less = get_or-map-range_with_len (timer_row past) 0 s.items i i None less (omega arith)

pub row_past : (s : Layout) (past : List Entry) (i : ℕ) → s.items ≤ i → timer_of (timers_of s past) i ≡ None
row_past s past i more = get_or_past (timers_of s past) i None (rw (rows_for_items s past) more)

pub timers_are_due_as_booked : (s : Layout) (past : List Entry) (i : ℕ) → i < s.items
    → due_of (timers_of s past) i ≡ due_in_bookings past i
timers_are_due_as_booked s past i less = grind (arith, row_at s past i less)
