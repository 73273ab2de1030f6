-- The bookings that stand after a call.
use Rattle.std.specs.Prelude.{◌<◌, ◌&&◌, ◌++◌}
use Rattle.cmwq_alike.specs.Common.{map-append}
use Rattle.cmwq_alike.specs.Common.{◌≡◌, ℕ, Bool, true, false, not, List, [], ◌∷◌, length, filter, map, Option, Some}
use Rattle.cmwq_alike.specs.Common.{None, option_map, option_and_then, option_or, option_to_list, is_at}
use Rattle.cmwq_alike.specs.Common.{arith, refl, sym, ap, ap₂, ◌∙◌, AllByRecursion, All_map, All_append, all_in, Entry}
use Rattle.cmwq_alike.specs.Common.{Layout, Booking, filter-append, filter_same, filter_twice}
use Rattle.cmwq_alike.specs.Common.{booking_of, settles, due_in, is_of_item, item_fired, stands, number_booked}
use Rattle.cmwq_alike.specs.Common.{standing_bookings, nat_tests, eq-eqb, cond}
use Rattle.cmwq_model.specs.Prelude.{booked_by}
unfoldable use Rattle.cmwq_model.specs.Prelude.{bookings}
use Rattle.cmwq_lemmas.proofs.Lists.{of_option}
use Rattle.cmwq_alike.specs.Alike.{call_by, unnumbered, next_by, IsStep}
use Rattle.cmwq_theory_steps.proofs.Standing.{booking_after, made_for, due_settles}
use Rattle.cmwq_alike.proofs.Lemmas.{filter_mapped}
use Rattle.cmwq_alike.proofs.Opens.{same_item}
use Rattle.cmwq_alike.proofs.Rest.{settles_by, due_by, made_by}

-- what an entry books has its number, and is settled by it
record IsMade (e : Entry) (n : ℕ) (b : Booking) : Type 0 where
  number : b.number ≡ n
  settled : (settles e.reply && is_of_item b.item.0 e) ≡ true

made : (e : Entry) (n : ℕ) (b : Booking) (o : Option ℕ) → due_in e.reply ≡ o
    → option_and_then (booked_by e.call n) o ≡ Some b → IsMade e n b
made e n b None is h = absurd (grind arith)
made e n b (Some d) is h =
    let k = made_for e.call n d b h in
    record {
      number = k.number;
      settled = ap₂ (λ a c. a && c) (due_settles e.reply d is)
          (ap (λ o. is_at (option_or o (item_fired e.reply)) b.item.0) k.item ∙ eq-eqb b.item.0 b.item.0 refl);
    }

is_made : (e : Entry) (n : ℕ) (b : Booking) → booking_of e n ≡ Some b → IsMade e n b
is_made e n b h = made e n b (due_in e.reply) refl h

bookings_below : (past : List Entry) → AllByRecursion (λ (b : Booking). b.number < length past) (bookings past)
unfolding bookings
bookings_below [] = tt
bookings_below (e ∷ past) =
    All_append _ (bookings past) (option_to_list (booking_of e (length past)))
    (All_map _ _ (bookings past) (λ b less. omega arith) (bookings_below past))
    (of_option _ (booking_of e (length past)) (λ b h. omega (arith, (is_made e (length past) b h).number)))

abbrev pub is_unsettled : Entry → Booking → Bool
is_unsettled e b = not (settles e.reply && is_of_item b.item.0 e)

not_new : (e : Entry) (n m : ℕ) (o : Option Booking) → booking_of e n ≡ o → m < n
    → is_at (option_map number_booked o) m ≡ false
not_new e n m None h less = refl
not_new e n m (Some b) h less = let is = (is_made e n b h).number in grind (arith, nat_tests)

stands_on : (past : List Entry) (e : Entry) (b : Booking) → b.number < length past
    → stands (e ∷ past) b ≡ (stands past b && is_unsettled e b)
stands_on past e b less = at (settles e.reply && is_of_item b.item.0 e) refl
  where
    at : (c : Bool) → (settles e.reply && is_of_item b.item.0 e) ≡ c
        → stands (e ∷ past) b ≡ (stands past b && is_unsettled e b)
    at true h = ap (λ o. is_at (option_map number_booked o) b.number) (booking_after past e b.item.0 true h)
        ∙ (not_new e (length past) b.number (booking_of e (length past)) refl less ∙ sym (ends (stands past b) _ h))
      where
        ends : (p c : Bool) → c ≡ true → (p && not c) ≡ false
        ends p c h = grind arith
    at false h = ap (λ o. is_at (option_map number_booked o) b.number) (booking_after past e b.item.0 false h)
        ∙ sym (stays (stands past b) _ h)
      where
        stays : (p c : Bool) → c ≡ false → (p && not c) ≡ p
        stays p c h = grind arith

new_stands : (past : List Entry) (e : Entry) (o : Option Booking) → booking_of e (length past) ≡ o
    → filter (stands (e ∷ past)) (option_to_list o) ≡ option_to_list o
new_stands past e None h = refl
new_stands past e (Some b) h =
    let is = is_made e (length past) b h in
    ap (λ c. cond c (b ∷ []) [])
    (ap (λ o. is_at (option_map number_booked o) b.number) (booking_after past e b.item.0 true is.settled ∙ h)
    ∙ eq-eqb b.number b.number refl)

-- what stands after an entry: what stood and isn't settled, and what is booked
pub standing_go_on : (past : List Entry) (e : Entry)
    → standing_bookings (e ∷ past) ≡ filter (is_unsettled e) (standing_bookings past)
    ++ option_to_list (booking_of e (length past))
unfolding bookings
standing_go_on past e =
    filter-append (stands (e ∷ past)) (bookings past) (option_to_list (booking_of e (length past)))
    ∙ ap₂ (λ xs ys. xs ++ ys)
    (filter_same (stands (e ∷ past)) (λ b. stands past b && is_unsettled e b) (bookings past)
    (All_map (λ (b : Booking). b.number < length past) _ (bookings past) (λ b less. stands_on past e b less)
    (bookings_below past))
    ∙ sym (filter_twice (is_unsettled e) (stands past) (bookings past)))
    (new_stands past e (booking_of e (length past)) refl)

module _ {s : Layout} {f : ℕ → ℕ} {past other : List Entry} {e d : Entry} (k : IsStep s f past other e d) where
  same_unsettled : (b : Booking) → is_unsettled d b ≡ is_unsettled e b
  same_unsettled b = ap₂ (λ a o. not (a && is_at o b.item.0))
      (ap settles k.same.reply ∙ settles_by (next_by f past other) e.reply) (same_item k)

  same_booked : option_map unnumbered (booking_of d (length other)) ≡ option_map unnumbered (booking_of e (length past))
  same_booked = rw (k.same.call, k.same.reply, due_by (next_by f past other) e.reply) (at (due_in e.reply))
    where
      at : (o : Option ℕ) → option_map unnumbered
          (option_and_then (booked_by (call_by (next_by f past other) e.call) (length other)) o)
          ≡ option_map unnumbered (option_and_then (booked_by e.call (length past)) o)
      at None = refl
      at (Some due) = made_by (next_by f past other) e.call (length past) (length other) due

  listed : (o : Option Booking) → map unnumbered (option_to_list o) ≡ option_to_list (option_map unnumbered o)
  listed None = refl
  listed (Some b) = refl

  plain : (p : Entry) (xs : List Booking)
      → map unnumbered (filter (is_unsettled p) xs) ≡ filter (is_unsettled p) (map unnumbered xs)
  plain p xs = sym (filter_mapped unnumbered (is_unsettled p) (is_unsettled p) xs (all_in _ xs (λ b i. refl)))

  unnumbered_go_on : (p : List Entry) (c : Entry) → map unnumbered (standing_bookings (c ∷ p))
      ≡ filter (is_unsettled c) (map unnumbered (standing_bookings p))
      ++ option_to_list (option_map unnumbered (booking_of c (length p)))
  unnumbered_go_on p c =
      ap (map unnumbered) (standing_go_on p c)
      ∙ (map-append unnumbered (filter (is_unsettled c) (standing_bookings p))
      (option_to_list (booking_of c (length p)))
      ∙ ap₂ (λ xs ys. xs ++ ys) (plain c (standing_bookings p)) (listed (booking_of c (length p))))

  pub standing_stay : map unnumbered (standing_bookings (d ∷ other)) ≡ map unnumbered (standing_bookings (e ∷ past))
  standing_stay =
      unnumbered_go_on other d
      ∙ (ap₂ (λ xs ys. xs ++ ys)
      (ap (filter (is_unsettled d)) k.alike.standing
      ∙ filter_same (is_unsettled d) (is_unsettled e) (map unnumbered (standing_bookings past))
      (all_in _ (map unnumbered (standing_bookings past)) (λ b i. same_unsettled b)))
      (ap option_to_list same_booked)
      ∙ sym (unnumbered_go_on past e))
