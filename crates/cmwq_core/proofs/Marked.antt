-- The bits of an item, and the mark of an entry.
use Rattle.cmwq_core.specs.Common.{◌≡◌, ℕ, ◌+◌, ◌<◌, find, ◌==◌, ◌||◌, ◌&&◌, Bool, true, false, List, ◌∷◌, length}
use Rattle.cmwq_core.specs.Common.{Option, Some, None, is_some, refl, sym, ap, ap₂, ◌∙◌, subst, Contains, if◌then◌else◌}
use Rattle.cmwq_core.specs.Common.{option_and_then, option_map, option_or, eqb-true, same_Some, ItemId, Reply, Entry}
use Rattle.cmwq_core.specs.Common.{Queueing, Ticket, Layout, unended_tickets, is_at, is_of_item, item_of, item_at}
use Rattle.cmwq_core.specs.Common.{item_called, settles, booking, booking_of, is_booked, number_started}
use Rattle.cmwq_core.specs.Common.{number_finished, queueing_at, unstarted_queueing, is_pending, opening, IsLegal, bits}
use Rattle.cmwq_core.specs.Common.{found, in_contained, item_marked, ending, queueing_run, found_known, found_number}
use Rattle.cmwq_core.specs.Common.{run_is_active, IsEffect, item_number, Flight, with_started, with_unstarted}
use Rattle.cmwq_core.specs.Common.{without_run, flight_of, starting, found_unstarted, starts_next, next_unstarted}
use Rattle.cmwq_core.specs.Common.{legal_before}
use Rattle.cmwq_model.specs.declared.reply.Reply.TheVariants as reply
use Rattle.cmwq_state.proofs.Applied.{open_there}
use Rattle.cmwq_theory_steps.proofs.Marks.{others_stay, no_item}
use Rattle.cmwq_theory_steps.proofs.Standing.{booking_after}
use Rattle.cmwq_theory_steps.proofs.Fresh.{finishes_run}
use Rattle.cmwq_core.specs.Effects.{ended_from}
use Rattle.cmwq_refinement.proofs.FlightSteps as rows
use Rattle.cmwq_refinement.proofs.FlightRefine.{opened_row, starting_there}
use Rattle.cmwq_core.specs.Flights.{flight_standing, ended_at, started_at, opened_at}
use Rattle.cmwq_core.specs.History.{History, past_in, next_entry, IsMark, ticket_has_number}
use Rattle.cmwq_state.specs.declared.effect.Effect.{Effect}
use Rattle.cmwq_core.proofs.Effecting.{ends_from, entry_inside}
use Rattle.cmwq_state.proofs.Counting.{running}

-- whether the item runs and waits, after an effect
with_ended : (r : Reply) (o : Option Queueing) (i : ℕ) (f : Flight) → flight_standing (rows.row_ended r o i f)
    ≡ ended_at r o i (flight_standing f)
unfolding rows.row_ended
with_ended r None i f = refl
with_ended r (Some x) i f = by (x.item.0 == i) (is_some (number_finished r))
  where
    by : (b c : Bool) → flight_standing (if b then (if c then without_run f else with_unstarted None f) else f)
        ≡ (if b then (if c then record { runs = false; waits = is_some f.unstarted }
        else record { runs = is_some f.run; waits = false }) else flight_standing f)
    by true true = refl
    by true false = refl
    by false c = refl

with_started_at : (o : Option Queueing) (i : ℕ) (f : Flight) → flight_standing (rows.row_started o i f)
    ≡ started_at o i (flight_standing f)
unfolding rows.row_started
with_started_at None i f = refl
with_started_at (Some x) i f = by (x.item.0 == i)
  where
    by : (b : Bool) → flight_standing (if b then with_started f else f)
        ≡ (if b then record { runs = is_some f.unstarted; waits = false } else flight_standing f)
    by true = refl
    by false = refl

with_opened : (o : Option Queueing) (i : ℕ) (f : Flight) → flight_standing (rows.row_opened o i f)
    ≡ opened_at o i (flight_standing f)
unfolding rows.row_opened
with_opened None i f = refl
with_opened (Some x) i f = by (x.item.0 == i)
  where
    by : (b : Bool) → flight_standing (if b then with_unstarted (Some x) f else f)
        ≡ (if b then record { runs = is_some f.run; waits = true } else flight_standing f)
    by true = refl
    by false = refl

row_after : (s : Layout) (past : List Entry) (f : Effect) (i : ℕ) → IsEffect s past f
    → rows.row_opened f.opened i
    (rows.row_started f.started i (rows.row_ended f.entry.reply f.ended i (flight_of past i)))
    ≡ flight_of (f.entry ∷ past) i
unfolding rows.moved
row_after s past f i is =
    ap₂ (λ o r. rows.row_opened o i r) is.opened
    (ap₂ (λ o r. rows.row_started o i r) is.started
    (ap (λ o. rows.row_ended f.entry.reply o i (flight_of past i)) is.ended))
    ∙ opened_row s past f.entry is.legal i (opening past f.entry) refl

pub standing_after : (s : Layout) (past : List Entry) (f : Effect) (i : ℕ) → IsEffect s past f
    → opened_at f.opened i
    (started_at f.started i (ended_at f.entry.reply f.ended i (flight_standing (flight_of past i))))
    ≡ flight_standing (flight_of (f.entry ∷ past) i)
standing_after s past f i is =
    let first = rows.row_ended f.entry.reply f.ended i (flight_of past i) in
    ap (λ a. opened_at f.opened i (started_at f.started i a))
    (sym (with_ended f.entry.reply f.ended i (flight_of past i)))
    ∙ ap (opened_at f.opened i) (sym (with_started_at f.started i first))
    ∙ sym (with_opened f.opened i (rows.row_started f.started i first))
    ∙ ap flight_standing (row_after s past f i is)

some_if : {X : Type 0} (c : Bool) (a b : Option X) → (if c then is_some a else is_some b) ≡ is_some (if c then a else b)
some_if true a b = refl
some_if false a b = refl

at_own : (c : Bool) (o : Option ℕ) (i : ℕ) → is_at (if c then o else None) i ≡ (c && is_at o i)
at_own true o i = refl
at_own false o i = refl

pub booked_after : (s : Layout) (past : List Entry) (f : Effect) (i : ℕ) → IsEffect s past f
    → (if is_at (item_number f.settled) i then is_some f.booked else is_booked past i) ≡ is_booked (f.entry ∷ past) i
booked_after s past f i is =
    let e = f.entry in
    let own = settles e.reply && is_of_item i e in
    ap₂ (λ o b. if is_at o i then is_some b else is_booked past i) is.settled is.booked
    ∙ (ap (λ c. if c then is_some (booking_of e (length past)) else is_booked past i)
    (at_own (settles e.reply) (item_of e) i)
    ∙ (some_if own (booking_of e (length past)) (booking past i) ∙ sym (ap is_some (booking_after past e i own refl))))

-- the bits after an effect
pub bits_read : (s : Layout) (past : List Entry) (i : ℕ) → IsLegal s past
    → (if is_booked past i || is_some (flight_of past i).unstarted then 1 else 0) + (if is_some (flight_of past i).run
    then 2 else 0) ≡ bits past i
bits_read s past i legal =
    ap (λ b. (if is_pending past i then 1 else 0) + (if b then 2 else 0)) (running s past i legal)

-- ---- the item that an entry marks

item_in : (past : List Entry) (n : ℕ) (x : Queueing) → queueing_at past n ≡ Some x → item_at past n ≡ Some x.item.0
item_in past n x h = ap (item_at past) (sym (found_number past n x h)) ∙ (found_known past n x h).item

abbrev pub item_out : Option Queueing → Option ℕ
item_out o = option_map (λ (x : Queueing). x.item.0) o

start_found : (s : Layout) (past : List Entry) (e : Entry) (n : ℕ) → IsLegal s (e ∷ past) → IsLegal s past
    → number_started e.reply ≡ Some n → (x : Queueing) × (queueing_at past n ≡ Some x)
start_found s past e n legal before h =
    let k = starts_next s past e n legal h in (
      k.queueing,
      ap (queueing_at past) (sym k.number)
          ∙ found_unstarted past k.queueing.item.0 k.queueing
          (next_unstarted s past before k.worker.pool k.queueing k.is_next),
    )

pub marks_other : (s : Layout) (past : List Entry) (e : Entry) → IsLegal s (e ∷ past) → IsLegal s past
    → item_of e ≡ None → item_out (option_or (starting past e) (ending past e)) ≡ item_marked past e
marks_other s past e legal before none =
    by (number_started e.reply) refl
    ∙ sym (ap
    (λ o. option_or o (option_and_then (item_at past) (option_or (number_started e.reply) (number_finished e.reply))))
    none)
  where
    from : ending past e ≡ ended_from e.reply (queueing_run past e.who) None
    from = sym (ends_from s past e legal)
        ∙ ap (λ o. ended_from e.reply (queueing_run past e.who) (option_and_then (unstarted_queueing past) o)) none

    ends_none : (r : Reply) (o : Option Queueing) → number_finished r ≡ None → ended_from r o None ≡ None
    ends_none (reply.Finished n) o h = cc
    ends_none (reply.Cancelled n) o h = refl
    ends_none (reply.TicketCancelled k n) o h = refl
    ends_none (reply.Again k) o h = refl
    ends_none (reply.Rebooked d) o h = refl
    ends_none r o h = refl

    ends_run : (r : Reply) (n : ℕ) (o : Option Queueing) → number_finished r ≡ Some n → ended_from r o None ≡ o
    ends_run (reply.Finished m) n o h = refl
    ends_run r n o h = cc

    finished : (o : Option ℕ) → number_finished e.reply ≡ o
        → item_out (ending past e) ≡ option_and_then (item_at past) o
    finished None h = ap item_out (from ∙ ends_none e.reply (queueing_run past e.who) h)
    finished (Some n) h =
        let run_of = finishes_run s past e n legal h in
        let r = run_is_active s past run_of.worker n before run_of.is_run in
        let runs : queueing_run past e.who ≡ Some r.queueing = ap (queueing_run past) run_of.by_worker
        ∙ (ap (option_and_then (queueing_at past)) run_of.is_run ∙ r.found) in
        ap item_out (from ∙ (ends_run e.reply n (queueing_run past e.who) h ∙ runs))
        ∙ sym (item_in past n r.queueing r.found)

    by : (o : Option ℕ) → number_started e.reply ≡ o → item_out (option_or (starting past e) (ending past e))
        ≡ option_and_then (item_at past) (option_or (number_started e.reply) (number_finished e.reply))
    by None h = ap (λ o. item_out (option_or (option_and_then (queueing_at past) o) (ending past e))) h
        ∙ (finished (number_finished e.reply) refl
        ∙ ap (λ o. option_and_then (item_at past) (option_or o (number_finished e.reply))) (sym h))
    by (Some n) h =
        let k = start_found s past e n legal before h in
        let is_starting : starting past e ≡ Some k.0 = ap (option_and_then (queueing_at past)) h ∙ k.1 in
        ap (λ o. item_out (option_or o (ending past e))) is_starting
        ∙ (sym (item_in past n k.0 k.1)
        ∙ ap (λ o. option_and_then (item_at past) (option_or o (number_finished e.reply))) (sym h))

-- ---- the mark

same_next : (h : History) (e : Entry) → IsLegal h.layout (e ∷ past_in h) → e ≡ next_entry h e.who e.call
unfolding IsLegal
same_next h e legal = legal.1

-- what an entry starts is known, and the entry marks its item
pub record StartIsMarked (past : List Entry) (e : Entry) (n : ℕ) : Type 0 where
  pub queueing : Queueing
  pub is_known : queueing_at past n ≡ Some queueing
  pub is_marked : item_marked past e ≡ Some queueing.item.0

start_marked : (s : Layout) (past : List Entry) (e : Entry) (n : ℕ) → IsLegal s (e ∷ past)
    → number_started e.reply ≡ Some n → StartIsMarked past e n
start_marked s past e n legal h =
    let k = start_found s past e n legal (legal_before s past e legal) h in
    let none : item_of e ≡ None =
    ap₂ option_or (ap item_called (starts_next s past e n legal h).is_take) (no_item e.reply n h) in
    record {
      queueing = k.0;
      is_known = k.1;
      is_marked =
          ap₂ (λ o m. option_or o (option_and_then (item_at past) (option_or m (number_finished e.reply)))) none h
          ∙ item_in past n k.0 k.1;
    }

pub marks_nothing : (h : History) (e : Entry) → IsLegal h.layout (e ∷ past_in h) → item_marked (past_in h) e ≡ None
    → IsMark h e.who e.call (record { entry = e; item = None; bits = 0 })
marks_nothing h e legal none = record {
  is_next = same_next h e legal;
  item_is = sym none;
  starts = λ n is. let k = start_marked h.layout (past_in h) e n legal is in let bad : None ≡ Some k.queueing.item.0 =
      sym none ∙ k.is_marked in cc;
  bits_are = λ i. others_stay h.layout (past_in h) e i legal (ap (λ o. is_at o i) none);
}

bits_of_one : (s : Layout) (past : List Entry) (e : Entry) (i j : ℕ) (b : Bool) → (i == j) ≡ b → IsLegal s (e ∷ past)
    → item_marked past e ≡ Some i → bits (e ∷ past) j ≡ (if b then bits (e ∷ past) i else bits past j)
bits_of_one s past e i j true same legal is = ap (bits (e ∷ past)) (sym (eqb-true i j same))
bits_of_one s past e i j false other legal is = others_stay s past e j legal (ap (λ o. is_at o j) is ∙ other)

pub marks_one : (h : History) (e : Entry) (i b : ℕ) → IsLegal h.layout (e ∷ past_in h)
    → item_marked (past_in h) e ≡ Some i → b ≡ bits (e ∷ past_in h) i
    → IsMark h e.who e.call (record { entry = e; item = Some (record { 0 = i }); bits = b })
marks_one h e i b legal marked bits_are = record {
  is_next = same_next h e legal;
  item_is = sym marked;
  starts = λ n is.
      let k = start_marked h.layout (past_in h) e n legal is in
      record {
        queueing = k.queueing;
        is_known = k.is_known;
        is_its =
            ap (λ j. Some (let item : ItemId = record { 0 = j } in item))
            (same_Some i k.queueing.item.0 (sym marked ∙ k.is_marked));
      };
  bits_are = λ j. bits_of_one h.layout (past_in h) e i j (i == j) refl legal marked
      ∙ ap (λ n. if i == j then n else bits (past_in h) j) (sym bits_are);
}

-- ---- what is marked is there

pub item_there : (s : Layout) (past : List Entry) (e : Entry) (o : Option ItemId) (i j : ItemId) → IsLegal s (e ∷ past)
    → item_number o ≡ item_of e → o ≡ Some i → Some i ≡ Some j → j.0 < s.items
item_there s past e o i j legal is h same = entry_inside s past e legal j.0 (sym is ∙ ap item_number (h ∙ same))

pub queueing_there : (s : Layout) (past : List Entry) (f : Effect) (o : Option Queueing) (x : Queueing) (j : ItemId)
    → IsEffect s past f → o ≡ option_or f.started f.ended → o ≡ Some x → Some x.item ≡ Some j → j.0 < s.items
queueing_there s past f o x j is or h same =
    subst (λ (i : ItemId). i.0 < s.items) (same_Some x.item j same) (by f.started f.ended refl refl (sym or ∙ h))
  where
    before : IsLegal s past
    before = legal_before s past f.entry is.legal

    by : (a b : Option Queueing) → f.started ≡ a → f.ended ≡ b → option_or a b ≡ Some x → x.item.0 < s.items
    by (Some y) b ha hb k = starting_there s past f.entry is.legal x (sym is.started ∙ (ha ∙ k))
    by None b ha hb k = (open_there s past f x is before (hb ∙ k)).item

pub marked_as : (s : Layout) (past : List Entry) (f : Effect) (o : Option Queueing) (i : Option ItemId)
    (m : Option Queueing) → IsEffect s past f → item_number i ≡ item_of f.entry → i ≡ None
    → o ≡ option_or f.started f.ended → o ≡ m → item_out m ≡ item_marked past f.entry
marked_as s past f o i m is number none or h =
    ap item_out (sym h ∙ (or ∙ ap₂ option_or is.started is.ended))
    ∙ marks_other s past f.entry is.legal (legal_before s past f.entry is.legal) (sym number ∙ ap item_number none)

-- ---- the ticket with a number is unended

pub numbered_unended : (past : List Entry) (n : ℕ) (t : Ticket) → find (ticket_has_number n) (unended_tickets past)
    ≡ Some t → Contains (unended_tickets past) t
numbered_unended past n t h =
    in_contained (unended_tickets past) t (found (ticket_has_number n) (unended_tickets past) t h).0
