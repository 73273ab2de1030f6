-- What is kept of workers, items, time and serials after one more entry.
use Rattle.cmwq_theory_steps.specs.Common.{booked_by, item_of, ◌≡◌, ℕ, true, List, ◌∷◌, length, Option, Some, None}
use Rattle.cmwq_theory_steps.specs.Common.{refl, ap, ap₂, ◌∙◌, arith, option_map, option_and_then, is_some}
use Rattle.cmwq_theory_steps.specs.Common.{if◌then◌else◌, option_or, Who, Caller, Worker, Call, Reply, Entry, Booking}
use Rattle.cmwq_theory_steps.specs.Common.{Place, Layout, item_fired, is_by, now, due_in, booking, is_booked, is_asleep}
use Rattle.cmwq_theory_steps.specs.Common.{is_enlisted, opens, place_wanted, queued_at, IsLegal, same_who}
use Rattle.cmwq_theory_steps.specs.Common.{count_by-cons, eq-eqb}
use Rattle.cmwq_theory_steps.specs.StateSteps.{SleepersGoOn, EnlistedGoOn, BookingsGoOn, TimeGoesOn, SerialsGoOn}
use Rattle.cmwq_theory_steps.specs.StateSteps.{SerialsRise, BooksAsAsked, OpensAsAsked}
use Rattle.std.proofs.lemmas.Option.{same_Some}
use Rattle.cmwq_theory_steps.proofs.Pending.{Settling, of_booking, of_call, opens_settles, settling}
use Rattle.cmwq_theory_steps.proofs.Causes.{Cause, cause_of}
use Rattle.cmwq_theory_steps.proofs.Causes as cause
use Rattle.cmwq_theory_steps.specs.Histories.{one}
use Rattle.cmwq_theory_steps.proofs.ItemRuns.{same_worker_itself}

-- ---- by computation

pub sleepers_go_on : SleepersGoOn
unfolding is_asleep
sleepers_go_on past e w = refl

pub enlisted_go_on : EnlistedGoOn
unfolding is_enlisted
enlisted_go_on past e w = refl

pub bookings_go_on : BookingsGoOn
unfolding booking
bookings_go_on past e i = refl

pub time_goes_on : TimeGoesOn
unfolding now
time_goes_on past e = refl

pub serials_go_on : SerialsGoOn
serials_go_on past e who = count_by-cons (is_by who) e past

same_who_itself : (who : Who) → same_who who who ≡ true
same_who_itself (Caller c) = eq-eqb c.0 c.0 refl
same_who_itself (Worker w) = same_worker_itself w

pub serials_rise : SerialsRise
serials_rise past e = (
  omega (arith, ap one (same_who_itself e.who), serials_go_on past e e.who),
  λ who other. omega (arith, ap one other, serials_go_on past e who),
)

-- ---- what is booked

books_for : (s : Layout) (past : List Entry) (who : Who) (k : ℕ) (c : Call) (r : Reply) (d : ℕ) → Cause s past who c r
    → due_in r ≡ Some d → BooksAsAsked past (record { who = who; serial = k; call = c; reply = r }) d
books_for s past who k c r d (cause.delayed w i q p t some free idle) h =
    record {
      item = i;
      place = record { queue = q; cpu = p };
      is_item = refl;
      is_place = refl;
      books =
          ap (λ n. booked_by c (length past) n) (same_Some _ d h);
    }
books_for s past who k c r d (cause.modified_booked w i q p t some free idle) h =
    record {
      item = i;
      place = record { queue = q; cpu = p };
      is_item = refl;
      is_place = refl;
      books =
          ap (λ n. booked_by c (length past) n) (same_Some _ d h);
    }
books_for s past who k c r d (cause.modified_rebooked w i q p t some free was) h =
    record {
      item = i;
      place = record { queue = q; cpu = p };
      is_item = refl;
      is_place = refl;
      books =
          ap (λ n. booked_by c (length past) n) (same_Some _ d h);
    }
books_for s past who k c r d other h = cc

pub books_as_asked : (s : Layout) (past : List Entry) (e : Entry) (d : ℕ) → IsLegal s (e ∷ past)
    → due_in e.reply ≡ Some d → BooksAsAsked past e d
books_as_asked s past e d legal h = books_for s past e.who e.serial e.call e.reply d (cause_of s past e legal) h

-- ---- what is opened

opens_there : (past : List Entry) (e : Entry) (i : ℕ) (p : Place) → item_of e ≡ Some i
    → place_wanted past e.call i ≡ Some p → opens e.reply ≡ true → OpensAsAsked past e
opens_there past e i p item place h = record {
  item = i;
  place = p;
  is_item = item;
  is_place = place;
  opened = ap₂ (λ b o. if b then option_and_then (λ j. option_map (queued_at past j) (place_wanted past e.call j)) o
      else None) h item ∙ ap (option_map (queued_at past i)) place;
}

some_booking : (past : List Entry) (i : ℕ) → is_booked past i ≡ true → (b : Booking) × (booking past i ≡ Some b)
some_booking past i h = at (booking past i) h
  where
    at : (o : Option Booking) → is_some o ≡ true → (b : Booking) × (o ≡ Some b)
    at None h = cc
    at (Some b) h = (b, refl)

pub opens_as_asked : (s : Layout) (past : List Entry) (e : Entry) → IsLegal s (e ∷ past) → opens e.reply ≡ true
    → OpensAsAsked past e
opens_as_asked s past e legal h =
    of (settling s past e.who e.call e.reply (cause_of s past e legal) (opens_settles e.reply h))
  where
    of : Settling past e.who e.call e.reply → OpensAsAsked past e
    of (of_call i t p item place free pending o) =
        opens_there past e i p (ap (λ o. option_or o (item_fired e.reply)) item)
        (ap (λ o. option_or o (option_map (λ (b : Booking). b.place) (booking past i))) place) h
    of (of_booking i item none was due) = let b = some_booking past i was in
        opens_there past e i b.0.place item
        (ap₂ (λ o p. option_or o (option_map (λ (b : Booking). b.place) p)) none b.1) h
