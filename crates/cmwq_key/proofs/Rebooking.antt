-- Of two histories of which the same is told, the bookings that stand are the same but for their numbers, and in the
-- same order.
use Rattle.std.proofs.Common.{ℕ, suc, ◌≡◌, ◌==◌, ◌+◌, ◌<◌, ◌≤◌, ◌&&◌, Bool, true, false, List, [], ◌∷◌, ◌++◌, length}
use Rattle.std.proofs.Common.{map, Option, Some, None, option_to_list, ap, sym, ◌∙◌, refl, arith, subst, ⊎_elim, ◌⊎◌}
use Rattle.std.proofs.Common.{inl, inr, nat_lt}
use Rattle.std.specs.Prelude.{option_map}
use Rattle.std.specs.List.{AllByRecursion}
use Rattle.std.proofs.lemmas.Bool.{lt-ltb, ltb-true}
use Rattle.std.proofs.lemmas.Option.{same_Some}
use Rattle.cmwq_lemmas.proofs.Lists.{All_map}
use Rattle.cmwq_lemmas.proofs.Members.{In, all_more, in_map, in_mapped, of_in}
use Rattle.cmwq_lemmas.proofs.Numbers.{rises_more}
use Rattle.cmwq_lemmas.proofs.Rising.{RisesBy, rises_filter}
use Rattle.cmwq_model.specs.Bookings.{bookings}
use Rattle.cmwq_model.specs.Prelude.{IsLegal, Layout, booking, booking_of, number_booked, standing_bookings, stands}
use Rattle.cmwq_model.specs.declared.entry.Entry.{Entry}
use Rattle.cmwq_model.specs.declared.record.Booking.{Booking}
use Rattle.cmwq_refinement.proofs.FirstDue.{in_standing, standing_fits, standing_is}
use Rattle.cmwq_refinement.proofs.TimerSteps.{booking_books}
use Rattle.cmwq_key.specs.Alike.{ListsMatch}
use Rattle.cmwq_key.specs.Numbered.{Gathered, booked_in, booked_numbers, gathered, rank}
use Rattle.cmwq_key.proofs.Gathering.{booking_item, in_each}
use Rattle.cmwq_key.proofs.Listed.{each_in}
use Rattle.cmwq_key.proofs.Ranking.{of_rank, of_rank_is, rank_order}
use Rattle.cmwq_key.proofs.Renumbering.{rising_map, rising_same}
use Rattle.cmwq_key.proofs.Splitting.{match_back, match_in}
use Rattle.cmwq_key.proofs.Telling.{IsSameBooking, IsSameHistory}

-- ---- bookings rise by their numbers

bookings_below : (past : List Entry) → AllByRecursion (λ b. b.number < length past) (bookings past)
unfolding bookings
bookings_below [] = tt
bookings_below (e ∷ past) =
    all_more (λ b. b.number < suc (length past)) (bookings past) (booking_of e (length past))
    (All_map (λ b. b.number < length past) (λ b. b.number < suc (length past)) (bookings past) (λ b less. omega arith)
    (bookings_below past))
    (λ b is. omega (arith, (booking_books e (length past) b is).number))

bookings_rise : (past : List Entry) → RisesBy number_booked (bookings past)
unfolding bookings
bookings_rise [] = tt
bookings_rise (e ∷ past) =
    rises_more number_booked (length past) (bookings past) (booking_of e (length past)) (bookings_rise past)
    (bookings_below past) (λ b is. (booking_books e (length past) b is).number)

standing_rise : (past : List Entry) → RisesBy number_booked (standing_bookings past)
standing_rise past = rises_filter number_booked (stands past) (bookings past) (bookings_rise past)

-- ---- those that stand are those that are gathered

module _ (s : Layout) (past : List Entry) (legal : IsLegal s past) where
  standing_booked : (b : Booking) → In b (standing_bookings past) → In b (booked_in s past)
  standing_booked b i =
      each_in (booking past) s.items b.item.0 b (standing_fits s past b legal i).item (standing_is past b i)

  booked_stands : (b : Booking) → In b (booked_in s past) → In b (standing_bookings past)
  booked_stands b i = let r = in_each (booking past) s.items b i in in_standing past r.0 b r.1

  booked_are : ((gathered s past).bookings ≡ booked_in s past)
      × ((gathered s past).booked ≡ booked_numbers (booked_in s past))
  unfolding gathered
  booked_are = (refl, refl)

  booked_numbered : (b : Booking) → In b (booked_in s past) → In b.number (gathered s past).booked
  booked_numbered b i =
      subst (λ ns. In b.number ns) (sym booked_are.1) (in_mapped number_booked (booked_in s past) b i)

module _ (s : Layout) (past other : List Entry) (legal : IsLegal s past) (other_legal : IsLegal s other)
    (same : IsSameHistory s past other (gathered s past) (gathered s other)) where
  abbrev IsSameBooked : Booking → Booking → Type 0
  IsSameBooked = IsSameBooking s past other (gathered s past) (gathered s other)

  booked : ListsMatch IsSameBooked (booked_in s past) (booked_in s other)
  booked =
      subst (λ xs. ListsMatch IsSameBooked xs (booked_in s other)) (booked_are s past legal).0
      (subst (λ ys. ListsMatch IsSameBooked (gathered s past).bookings ys) (booked_are s other other_legal).0
      same.bookings)

  rebooked : ℕ → ℕ
  rebooked n = of_rank (gathered s other).booked (rank (gathered s past).booked n)

  rebooking : Booking → Booking
  rebooking b = record b { number = rebooked b.number }

  booking_is : (b c : Booking) → c.item ≡ b.item → c.place ≡ b.place → c.due ≡ b.due → c.number ≡ rebooked b.number
      → c ≡ rebooking b
  unfolding rebooking
  booking_is b c i p d n =
      ap (λ j. record { item = j; place = c.place; due = c.due; number = c.number }) i
      ∙ ap (λ r. record { item = b.item; place = r; due = c.due; number = c.number }) p
      ∙ ap (λ t. record { item = b.item; place = b.place; due = t; number = c.number }) d
      ∙ ap (λ k. record { item = b.item; place = b.place; due = b.due; number = k }) n

  record AreBookingCounterparts (b c : Booking) : Type 0 where
    here : In b (standing_bookings past)
    there : In c (standing_bookings other)
    is : c ≡ rebooking b
    ranks : rank (gathered s past).booked b.number ≡ rank (gathered s other).booked c.number

  of_booked : (b c : Booking) → In b (booked_in s past) → In c (booked_in s other) → IsSameBooked b c
      → AreBookingCounterparts b c
  unfolding rebooked
  of_booked b c i j alike =
      record {
        here = booked_stands s past legal b i;
        there = booked_stands s other other_legal c j;
        is = booking_is b c alike.item alike.place alike.due
            (sym (of_rank_is (gathered s other).booked (rank (gathered s past).booked b.number) c.number
            (booked_numbered s other other_legal c j) (sym alike.rank)));
        ranks = alike.rank;
      }

  booking_counterpart : (b : Booking) → In b (standing_bookings past) → (c : Booking) × AreBookingCounterparts b c
  booking_counterpart b i =
      let k = standing_booked s past legal b i in
      let c = match_in IsSameBooked (booked_in s past) (booked_in s other) b booked k in
      (c.0, of_booked b c.0 k c.1 c.2)

  counterpart_of : (c : Booking) → In c (standing_bookings other) → (b : Booking) × AreBookingCounterparts b c
  counterpart_of c j =
      let k = standing_booked s other other_legal c j in
      let b = match_back IsSameBooked (booked_in s past) (booked_in s other) c booked k in
      (b.0, of_booked b.0 c b.1 k b.2)

  keeps : (b c : Booking) → In b (standing_bookings past) → In c (standing_bookings past) → b.number < c.number
      → (rebooking b).number < (rebooking c).number
  unfolding rebooking
  keeps b c i j less =
      let x = booking_counterpart b i in
      let y = booking_counterpart c j in
      let here =
      rank_order (gathered s past).booked b.number c.number
      (booked_numbered s past legal b (standing_booked s past legal b i))
      (booked_numbered s past legal c (standing_booked s past legal c j)) in
      let there =
      rank_order (gathered s other).booked x.0.number y.0.number
      (booked_numbered s other other_legal x.0 (standing_booked s other other_legal x.0 x.1.there))
      (booked_numbered s other other_legal y.0 (standing_booked s other other_legal y.0 y.1.there)) in
      let order : nat_lt x.0.number y.0.number ≡ true =
      sym there ∙ ap (λ r. nat_lt r (rank (gathered s other).booked y.0.number)) (sym x.1.ranks)
      ∙ ap (nat_lt (rank (gathered s past).booked b.number)) (sym y.1.ranks) ∙ here
      ∙ lt-ltb b.number c.number less in
      let lt = ltb-true x.0.number y.0.number order in
      let first : x.0.number ≡ rebooked b.number = ap number_booked x.1.is in
      let second : y.0.number ≡ rebooked c.number = ap number_booked y.1.is in
      omega arith

  standing_are : standing_bookings other ≡ map rebooking (standing_bookings past)
  standing_are =
      rising_same number_booked (map rebooking (standing_bookings past)) (standing_bookings other)
      (rising_map number_booked rebooking (standing_bookings past) (standing_rise past) keeps) (standing_rise other)
      (λ z i.
      let b = in_map rebooking (standing_bookings past) z i in
      let c = booking_counterpart b.0 b.1 in
      subst (λ w. In w (standing_bookings other)) (c.1.is ∙ b.2) c.1.there)
      (λ z i.
      let b = counterpart_of z i in
      subst (λ w. In w (map rebooking (standing_bookings past))) (sym b.1.is)
      (in_mapped rebooking (standing_bookings past) b.0 b.1.here))

  abbrev pub without_number : Booking → Booking
  without_number b = record b { number = 0 }

  same_without : (b : Booking) → without_number (rebooking b) ≡ without_number b
  unfolding rebooking
  same_without b = refl

  same_item : (b : Booking) → (rebooking b).item.0 ≡ b.item.0
  unfolding rebooking
  same_item b = refl

  map_without : (bs : List Booking) → map without_number (map rebooking bs) ≡ map without_number bs
  map_without [] = refl
  map_without (b ∷ bs) = let head = same_without b in let tail = map_without bs in cc

  pub standing : map without_number (standing_bookings other) ≡ map without_number (standing_bookings past)
  standing = ap (map without_number) standing_are ∙ map_without (standing_bookings past)

  pub bookings_are : (i : ℕ) → option_map without_number (booking other i) ≡ option_map without_number (booking past i)
  bookings_are i = by (booking past i) (booking other i) refl refl
    where
      by : (o u : Option Booking) → booking past i ≡ o → booking other i ≡ u
          → option_map without_number u ≡ option_map without_number o
      by (Some b) u is it =
          let c = booking_counterpart b (in_standing past i b is) in
          let item : c.0.item.0 ≡ i = ap (λ (d : Booking). d.item.0) c.1.is ∙ same_item b ∙ booking_item past i b is in
          let found = ap (booking other) (sym item) ∙ standing_is other c.0 c.1.there in
          ap (option_map without_number) (sym it ∙ found) ∙ ap (λ d. Some (without_number d)) c.1.is
          ∙ ap Some (same_without b)
      by None None is it = refl
      by None (Some c) is it =
          let b = counterpart_of c (in_standing other i c it) in
          let item : b.0.item.0 ≡ i =
          sym (same_item b.0) ∙ ap (λ (d : Booking). d.item.0) (sym b.1.is) ∙ booking_item other i c it in
          let found = ap (booking past) (sym item) ∙ standing_is past b.0 b.1.here in
          absurd (cc (sym is ∙ found))
