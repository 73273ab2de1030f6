-- A booking that stands is the booking of its item.
use Rattle.cmwq_theory_steps.specs.Common.{place_called, ◌≡◌, ◌<◌, ℕ, Bool, true, false, ◌&&◌, List, [], ◌∷◌, length}
use Rattle.cmwq_theory_steps.specs.Common.{filter, Option, Some, None, option_to_list, refl, sym, ap, ap₂, ◌∙◌, subst}
use Rattle.cmwq_theory_steps.specs.Common.{arith, option_map, option_and_then, if◌then◌else◌, option_or, AllByRecursion}
use Rattle.cmwq_theory_steps.specs.Common.{eq-eqb, eqb-true, ItemId, Who, Call, Reply, Entry, Booking, Layout, is_at}
use Rattle.cmwq_theory_steps.specs.Common.{item_called, item_fired, is_of_item, settles, due_in, booking, booking_of}
use Rattle.cmwq_theory_steps.specs.Common.{booked_by, bookings, standing_bookings, stands, number_booked, first_due}
use Rattle.cmwq_theory_steps.specs.Common.{may_fire, is_soonest, All_map, All_append, All_filter}
use Rattle.cmwq_model.specs.declared.call.Call.TheVariants as call
use Rattle.cmwq_model.specs.declared.reply.Reply.TheVariants as reply
use Rattle.cmwq_theory_steps.specs.Reasons.{FiresBooking}
use Rattle.cmwq_lemmas.proofs.Members.{In, all_in, in_option}
use Rattle.cmwq_theory_steps.proofs.Activated.{find_holds}
use Rattle.cmwq_theory_steps.proofs.Causes.{Cause}
use Rattle.cmwq_theory_steps.proofs.Causes as cause

-- the booking of an item after one more entry
pub booking_after : (past : List Entry) (e : Entry) (i : ℕ) (b : Bool) → (settles e.reply && is_of_item i e) ≡ b
    → booking (e ∷ past) i ≡ (if b then booking_of e (length past) else booking past i)
unfolding booking
booking_after past e i b h = ap (λ c. if c then booking_of e (length past) else booking past i) h

-- what an entry books has the entry's number, is of its item, and is settled by its reply
record IsMade (e : Entry) (n : ℕ) (b : Booking) : Type 0 where
  number : b.number ≡ n
  item : is_of_item b.item.0 e ≡ true
  settled : settles e.reply ≡ true

pub due_settles : (r : Reply) (d : ℕ) → due_in r ≡ Some d → settles r ≡ true
due_settles (reply.Booked d) k h = refl
due_settles r k h = grind arith

pub record IsFor (c : Call) (n : ℕ) (b : Booking) : Type 0 where
  pub number : b.number ≡ n
  pub item : item_called c ≡ Some b.item.0
  pub place : place_called c ≡ Some b.place

pub made_for : (c : Call) (n d : ℕ) (b : Booking) → booked_by c n d ≡ Some b → IsFor c n b
made_for (call.Delay i q p t) n d b h = grind arith
made_for c n d b h = grind arith

made : (e : Entry) (n : ℕ) (b : Booking) (o : Option ℕ) → due_in e.reply ≡ o → option_and_then (booked_by e.call n) o
    ≡ Some b → IsMade e n b
made e n b None is h = cc
made e n b (Some d) is h =
    let f = made_for e.call n d b h in
    record {
      number = f.number;
      item = ap (λ o. is_at (option_or o (item_fired e.reply)) b.item.0) f.item
          ∙ eq-eqb b.item.0 b.item.0 refl;
      settled = due_settles e.reply d is;
    }

-- of the bookings of an item the one whose number stands is its booking
record IsOwn (past : List Entry) (b : Booking) : Type 0 where
  older : b.number < length past
  own : stands past b ≡ true → booking past b.item.0 ≡ Some b

own_more : (e : Entry) (past : List Entry) (b : Booking) → IsOwn past b → IsOwn (e ∷ past) b
own_more e past b k =
    record { older = omega (arith, k.older); own = own (settles e.reply && is_of_item b.item.0 e) refl }
  where
    other : (o : Option Booking) → booking_of e (length past) ≡ o → is_at (option_map number_booked o) b.number ≡ true
        → ⊥
    other None is h = cc
    other (Some a) is h =
        absurd (omega (
          arith,
          (made e (length past) a (due_in e.reply) refl is).number,
          eqb-true a.number b.number h,
          k.older,
        ))

    own : (a : Bool) → (settles e.reply && is_of_item b.item.0 e) ≡ a → stands (e ∷ past) b ≡ true
        → booking (e ∷ past) b.item.0 ≡ Some b
    own true ha stood =
        absurd (other (booking_of e (length past)) refl
        (sym (ap (λ o. is_at (option_map number_booked o) b.number) (booking_after past e b.item.0 true ha)) ∙ stood))
    own false ha stood = let same = booking_after past e b.item.0 false ha in
        same ∙ k.own (sym (ap (λ o. is_at (option_map number_booked o) b.number) same) ∙ stood)

bookings_own : (past : List Entry) → AllByRecursion (IsOwn past) (bookings past)
unfolding bookings
bookings_own [] = tt
bookings_own (e ∷ past) =
    All_append (IsOwn (e ∷ past)) (bookings past) (option_to_list (booking_of e (length past)))
    (All_map (IsOwn past) (IsOwn (e ∷ past)) (bookings past) (own_more e past) (bookings_own past))
    (all_in _ (option_to_list (booking_of e (length past))) last)
  where
    last : (b : Booking) → In b (option_to_list (booking_of e (length past))) → IsOwn (e ∷ past) b
    last b there =
        let is = in_option (booking_of e (length past)) b there in
        let m = made e (length past) b (due_in e.reply) refl is in
        record {
          older = omega (arith, m.number);
          own =
              λ stood. booking_after past e b.item.0 true (ap₂ (λ a b. a && b) m.settled m.item) ∙ is;
        }

pub standing_own : (past : List Entry) → AllByRecursion (λ b. booking past b.item.0 ≡ Some b) (standing_bookings past)
standing_own past =
    All_filter (λ b. booking past b.item.0 ≡ Some b) (stands past) (bookings past)
    (All_map (IsOwn past) (λ b. stands past b ≡ true → booking past b.item.0 ≡ Some b) (bookings past) (λ b k. k.own)
    (bookings_own past))

pub due_own : (past : List Entry) (b : Booking) → first_due past ≡ Some b → booking past b.item.0 ≡ Some b
unfolding first_due
due_own past b h =
    (find_holds (λ a. booking past a.item.0 ≡ Some a) (is_soonest (filter (may_fire past) (standing_bookings past)))
    (filter (may_fire past) (standing_bookings past)) b
    (All_filter _ (may_fire past) (standing_bookings past)
    (All_map (λ a. booking past a.item.0 ≡ Some a) _ (standing_bookings past) (λ a own due. own)
    (standing_own past))) h).holds

pub fire_reason : (s : Layout) (past : List Entry) (who : Who) (c : Call) (r : Reply) (i : ItemId) (k : ℕ)
    → Cause s past who c r → r ≡ reply.Fired i k → FiresBooking past c i k
fire_reason s past who c r i k (cause.fires w b due) h =
    let same : b.item ≡ i = cc in
    record {
      fired = b;
      is_fire = refl;
      number = cc;
      is_due = due;
      item = same;
      stands =
          subst (λ (j : ItemId). booking past j.0 ≡ Some b) same (due_own past b due);
    }
fire_reason s past who c r i k other h = cc
