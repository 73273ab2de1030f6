-- A run that falls asleep changes nothing that is looked at, so that its wait is refused as before.
use Rattle.std.proofs.Common.{◌≡◌, ◌∙◌, ◌∷◌, ◌++◌, ◌<◌, ◌≤◌, ◌==◌, ◌&&◌, ◌||◌, ◌⊎◌, ⊎_elim, ℕ, suc, true, false}
use Rattle.std.proofs.Common.{List, [], Option, Some, None, append-nil, ap, ap₂, arith, cond, count_by, filter}
use Rattle.std.proofs.Common.{inl, inr}
use Rattle.std.proofs.Common.{length, map, nat_le, not, option_to_list, refl, sym}
use Rattle.std.specs.Prelude.{if◌then◌else◌, nat_lt, option_and_then, option_map}
use Rattle.std.specs.List.{list_any, sum_by}
use Rattle.std.specs.Option.{option_map_or}
use Rattle.std.proofs.lemmas.Bool.{both_ways, false_from_ne_true}
use Rattle.std.proofs.lemmas.Bool.Decides.{nat_tests}
use Rattle.std.proofs.lemmas.List.{map-append}
use Rattle.std.proofs.lemmas.Option.{same_Some}
use Rattle.cmwq_lemmas.proofs.Filters.{count_by-same, filter_same}
use Rattle.cmwq_lemmas.proofs.Lists.{All_each, filter_all}
use Rattle.cmwq_lemmas.proofs.Members.{In, all_in, in_append, in_filter}
use Rattle.cmwq_lemmas.proofs.Members.{in_option}
use Rattle.cmwq_lemmas.proofs.Truth.{and_false, or_true}
use Rattle.cmwq_model.specs.Prelude.{IsLegal, Layout, booking, is_ahead, is_at}
use Rattle.cmwq_model.specs.Prelude.{is_done}
use Rattle.cmwq_model.specs.Prelude.{is_below_max_active, is_drain_of, is_older_flush, is_live, is_of_item, is_started}
use Rattle.cmwq_model.specs.Prelude.{item_of, item_run, number_cancelled}
use Rattle.cmwq_model.specs.Prelude.{number_finished}
use Rattle.cmwq_model.specs.Prelude.{number_started, opening, opens, place_wanted, queued_at, replaces, settles}
use Rattle.cmwq_model.specs.Prelude.{start_in}
use Rattle.cmwq_model.specs.Prelude.{same_place, still_open, ticket_in, unended_tickets}
unfoldable use Rattle.cmwq_model.specs.Prelude.{is_active, serving_from}
use Rattle.cmwq_model.specs.declared.call.Call.{Call}
use Rattle.cmwq_model.specs.declared.call.Call.TheVariants as call
use Rattle.cmwq_model.specs.declared.entry.Entry.{Entry}
use Rattle.cmwq_model.specs.declared.id.ItemId.{ItemId}
use Rattle.cmwq_model.specs.declared.record.Booking.{Booking}
use Rattle.cmwq_model.specs.declared.record.Queueing.{Queueing}
use Rattle.cmwq_model.specs.declared.record.Start.{Start}
use Rattle.cmwq_model.specs.declared.reply.Reply.TheVariants as reply
use Rattle.cmwq_theory_steps.specs.Endings.{survives}
use Rattle.cmwq_model.specs.Widths.{keeps_widths}
use Rattle.cmwq_theory_steps.specs.RunSteps.{ends_run}
use Rattle.cmwq_theory_steps.specs.TicketSteps.{is_kept as stays_unended, moves_up, passes, ticket_asked}
use Rattle.cmwq_theory_steps.proofs.Endings.{open_go_on}
use Rattle.cmwq_theory_steps.proofs.Fresh.{not_started_yet}
use Rattle.cmwq_theory_steps.proofs.ItemSteps.{items_run_on, none_started}
use Rattle.cmwq_theory_steps.proofs.Joined.{active_go_on}
use Rattle.cmwq_theory_steps.proofs.Standing.{booking_after}
use Rattle.cmwq_theory_steps.proofs.TicketSteps.{overflowed_move_up, served_stay, unended_go_on}
use Rattle.cmwq_theory_steps.proofs.Widths.{max_same, width_same}
use Rattle.cmwq_waits.specs.HeldUp.{Scene, have_all_places, is_ahead_of_item, places_ahead}
use Rattle.cmwq_waits.specs.Refused.{is_turned_away, item_taken_back, queued, scene_after}
use Rattle.cmwq_waits.specs.Refused.{stays_open as is_left}
use Rattle.cmwq_waits.specs.declared.run_wait.RunWait.{RunWait}
use Rattle.cmwq_waits.proofs.Held.{inactive_later}
use Rattle.cmwq_waits_laws.proofs.Alike.{HaveSameRuns, places_alike, runs_alike, sum_mapped, workers_alike}
use Rattle.cmwq_waits_laws.proofs.Kept.{Keeps, all_places, all_workers, its_run}
use Rattle.cmwq_waits_laws.proofs.Staying.{open_known}

-- ---- what is inactive is not below max_active

active_below : (s : Layout) (past : List Entry) (x : Queueing) → is_live past x ≡ true
    → is_below_max_active s past x ≡ true → is_active s past x ≡ true
active_below s [] x live below = let none : nat_lt x.number 0 ≡ false = grind (arith, nat_tests) in grind arith
active_below s (e ∷ past) x live below =
    active_go_on s past e x
    ∙ (ap₂ (λ a b. a && (is_active s past x || b)) live below ∙ or_true (is_active s past x))

-- ---- numbers move: what is queued, and the ticket, get a number that is greater by one

abbrev pub moved : ℕ → ℕ → ℕ
moved last n = if n == last then suc last else n

moved_less : (last a b : ℕ) → a ≤ last → b ≤ last → nat_lt (moved last a) (moved last b) ≡ nat_lt a b
moved_less last a b below within = grind (arith, nat_tests)

pub moved_within : (last a b : ℕ) → a ≤ last → b ≤ last → nat_le a b ≡ true
    → nat_le (moved last a) (moved last b) ≡ true
moved_within last a b below within less = grind (arith, nat_tests)

pub moved_old : (last n : ℕ) → n < last → moved last n ≡ n
moved_old last n less = grind (arith, nat_tests)

pub moved_new : (last : ℕ) → moved last last ≡ suc last
moved_new last = grind (arith, nat_tests)

abbrev pub move : ℕ → Queueing → Queueing
move last x = record { item = x.item; place = x.place; number = moved last x.number }

move_old : (last : ℕ) (x : Queueing) → x.number < last → move last x ≡ x
move_old last x less = ap (λ n. record { item = x.item; place = x.place; number = n }) (moved_old last x.number less)

map_old : (last : ℕ) (xs : List Queueing) → ((x : Queueing) → In x xs → x.number < last) → map (move last) xs ≡ xs
map_old last [] less = refl
map_old last (x ∷ xs) less =
    ap₂ (λ y ys. y ∷ ys) (move_old last x (less x (inl refl))) (map_old last xs (λ y here. less y (inr here)))

ahead_moved : (last : ℕ) (x y : Queueing) → x.number ≤ last → y.number ≤ last
    → is_ahead (move last x) (move last y) ≡ is_ahead x y
ahead_moved last x y within also =
    ap (λ b. same_place y.place x.place && b) (moved_less last y.number x.number also within)

-- ---- a run falls asleep

module _ (s : Layout) (past : List Entry) (e : Entry) (legal : IsLegal s (e ∷ past)) (before : IsLegal s past)
    (slept : e.reply ≡ reply.Slept) where
  opens_none : opening past e ≡ None
  opens_none =
      ap (λ b. if b then option_and_then (λ i. option_map (queued_at past i) (place_wanted past e.call i)) (item_of e)
      else None) (ap opens slept)

  all_survive : (x : Queueing) → survives past e x ≡ true
  all_survive x = rw (ap number_finished slept, ap number_cancelled slept, ap replaces slept) refl

  same_open : still_open (e ∷ past) ≡ still_open past
  same_open =
      open_go_on s past e legal
      ∙ (ap₂ (λ xs ys. xs ++ ys)
      (filter_all (survives past e) (still_open past) (All_each _ (still_open past) all_survive))
      (ap option_to_list opens_none) ∙ append-nil (still_open past))

  pub same_started : (n : ℕ) → is_started (e ∷ past) n ≡ is_started past n
  same_started n = ap (λ o. is_at o n || is_started past n) (ap number_started slept)

  keeps : keeps_widths e.reply ≡ true
  keeps = ap keeps_widths slept

  still_inactive : (x : Queueing) → In x (still_open past) → is_active s past x ≡ false
      → is_active s (e ∷ past) x ≡ false
  still_inactive x here inactive =
      active_go_on s past e x
      ∙ (ap₂ (λ a b. is_live (e ∷ past) x && (a || b)) inactive not_below ∙ and_false (is_live (e ∷ past) x))
    where
      same_below : is_below_max_active s (e ∷ past) x ≡ is_below_max_active s past x
      same_below =
          ap₂ nat_lt (ap (count_by (is_ahead x)) same_open) (width_same s past e x.place.queue.0 keeps)

      not_below : is_below_max_active s (e ∷ past) x ≡ false
      not_below = false_from_ne_true _ (λ below.
          both_ways _ inactive
          (active_below s past x (in_filter (is_live past) _ x here).1 (sym same_below ∙ below)))

  same_unended : unended_tickets (e ∷ past) ≡ unended_tickets past
  same_unended =
      unended_go_on s past e legal
      ∙ (ap₂ (λ xs ys. xs ++ ys)
      (filter_all (stays_unended e) (unended_tickets past)
      (All_each _ (unended_tickets past) (λ t. let none = ap is_done slept in grind (arith, none))))
      (ap option_to_list gives_none) ∙ append-nil (unended_tickets past))
    where
      gives_none : ticket_in e (length past) ≡ None
      gives_none = let none = slept in grind (arith, none)

  same_booking : (i : ℕ) → booking (e ∷ past) i ≡ booking past i
  same_booking i = booking_after past e i false (ap (λ b. b && is_of_item i e) (ap settles slept))

  same_run : (i : ℕ) → item_run (e ∷ past) i ≡ item_run past i
  same_run i =
      items_run_on s past e i legal
      ∙ (ap (λ b. if b then start_in e else if ends_run e (item_run past i) then None else item_run past i)
      (none_started e.who past i (number_started e.reply) (ap number_started slept)) ∙ not_ended (item_run past i))
    where
      not_ended : (o : Option Start) → (if ends_run e o then None else o) ≡ o
      not_ended None = refl
      not_ended (Some start) = ap (λ o. if is_at o start.number then None else Some start) (ap number_finished slept)

  pub same_serving : (q n : ℕ) → n < length past → serving_from (e ∷ past) q n ≡ serving_from past q n
  same_serving q n less = by (serving_from past q n) refl
    where
      by : (o : Option ℕ) → serving_from past q n ≡ o → serving_from (e ∷ past) q n ≡ serving_from past q n
      by (Some b) is = served_stay past e q n b is ∙ sym is
      by None is =
          overflowed_move_up s past e q n legal less is
          ∙ (ap (λ b. if b then Some (length past) else None) none_moves ∙ sym is)
        where
          none_moves : moves_up past e q n ≡ false
          none_moves = ap
              (λ b. passes (is_older_flush q n) (if b then ticket_asked past e.who e.call else None)
              && (count_by (is_older_flush q n) (unended_tickets past) == 15)) (ap is_done slept)

  pub same_turned : (c : Call) → is_turned_away (e ∷ past) c ≡ is_turned_away past c
  same_turned (call.FlushDelayed i) =
      ap₂ (λ o ts. option_map_or (λ (b : Booking). list_any (is_drain_of b.place.queue.0) ts) o false)
      (same_booking i.0) same_unended
  same_turned c = refl

  -- ---- what is open once the call is made

  module _ (c : Call) where
    abbrev pub now : Scene
    now = scene_after s past c

    abbrev pub next : Scene
    next = scene_after s (e ∷ past) c

    abbrev last : ℕ
    last = length past

    abbrev left : List Queueing
    left = filter (is_left past (item_taken_back c)) (still_open past)

    left_known : (x : Queueing) → In x left → x.number < last
    left_known x here = open_known past x (in_filter (is_left past (item_taken_back c)) (still_open past) x here).0

    same_left : filter (is_left (e ∷ past) (item_taken_back c)) (still_open (e ∷ past)) ≡ left
    same_left =
        ap (filter (is_left (e ∷ past) (item_taken_back c))) same_open
        ∙ filter_same (is_left (e ∷ past) (item_taken_back c)) (is_left past (item_taken_back c)) (still_open past)
        (All_each _ (still_open past) (λ x.
        ap (λ b. not (option_map_or (λ (i : ItemId). (x.item.0 == i.0) && not b) (item_taken_back c) false))
        (same_started x.number)))

    moved_booked : (i : ℕ) (o : Option Booking)
        → option_to_list (option_map (λ (b : Booking). queued_at (e ∷ past) i b.place) o)
        ≡ map (move last) (option_to_list (option_map (λ (b : Booking). queued_at past i b.place) o))
    moved_booked i None = refl
    moved_booked i (Some b) =
        ap₂ (λ (run : Option Start) n. (record {
          item = record { 0 = i };
          place = record {
            queue = b.place.queue;
            cpu =
                option_map_or (λ (start : Start). start.worker.pool.cpu) run b.place.cpu;
          };
          number = n;
        }) ∷ []) (same_run i) (sym (moved_new last))

  moved_queued : (c : Call) → option_to_list (queued (e ∷ past) c)
      ≡ map (move (length past)) (option_to_list (queued past c))
  moved_queued (call.FlushDelayed i) =
      ap (λ (o : Option Booking).
      option_to_list (option_map (λ (b : Booking). queued_at (e ∷ past) i.0 b.place) o)) (same_booking i.0)
      ∙ moved_booked (call.FlushDelayed i) i.0 (booking past i.0)
  moved_queued c = refl

  queued_number : (c : Call) (x : Queueing) → queued past c ≡ Some x → x.number ≡ length past
  queued_number (call.FlushDelayed i) x is = by (booking past i.0) is
    where
      by : (o : Option Booking) → option_map (λ (b : Booking). queued_at past i.0 b.place) o ≡ Some x
          → x.number ≡ length past
      by None is = absurd (cc is)
      by (Some b) is =
          sym (ap (λ (y : Queueing). y.number) (same_Some (queued_at past i.0 b.place) x is))
  queued_number c x is = absurd (cc is)

  module _ (c : Call) where
    pub moved_opened : (next c).opened ≡ map (move (last c)) (now c).opened
    moved_opened =
        ap₂ (λ xs ys. xs ++ ys) (same_left c ∙ sym (map_old (last c) (left c) (left_known c))) (moved_queued c)
        ∙ sym (map-append (move (last c)) (left c) (option_to_list (queued past c)))

    -- what is open was so before, or is queued
    pub old_or_new : (x : Queueing) → In x (now c).opened → In x (still_open past) ⊎ (x.number ≡ length past)
    old_or_new x here =
        ⊎_elim (λ old. inl (in_filter (is_left past (item_taken_back c)) (still_open past) x old).0)
        (λ new. inr (queued_number c x (in_option (queued past c) x new)))
        (in_append (left c) (option_to_list (queued past c)) x here)

    pub within : (x : Queueing) → In x (now c).opened → x.number ≤ length past
    within x here =
        ⊎_elim (λ old. let known = open_known past x old in omega (arith, known)) (λ new. omega (arith, new))
        (old_or_new x here)

    -- ---- what the waits keep

    moved_unstarted : (x : Queueing) → In x (now c).opened → is_started past x.number ≡ false
        → is_started (e ∷ past) (moved (length past) x.number) ≡ false
    moved_unstarted x here unstarted =
        ⊎_elim
        (λ old. ap (is_started (e ∷ past)) (moved_old (length past) x.number (open_known past x old))
        ∙ (same_started x.number ∙ unstarted))
        (λ new. ap (λ n. is_started (e ∷ past) (moved (length past) n)) new
        ∙ (ap (is_started (e ∷ past)) (moved_new (length past))
        ∙ not_started_yet s (e ∷ past) (suc (length past)) legal (omega arith)))
        (old_or_new x here)

    moved_inactive : (x : Queueing) → In x (now c).opened → is_active s past x ≡ false
        → is_active s (e ∷ past) (move (length past) x) ≡ false
    moved_inactive x here inactive =
        ⊎_elim
        (λ old. ap (is_active s (e ∷ past)) (move_old (length past) x (open_known past x old))
        ∙ still_inactive x old inactive)
        (λ new. inactive_later s (e ∷ past) (move (length past) x)
        (let same = ap (moved (length past)) new ∙ moved_new (length past) in omega (arith, same)))
        (old_or_new x here)

    ahead_alike : (x : Queueing) (w : RunWait) → In x (now c).opened
        → places_ahead (next c) (move (length past) x) w ≡ places_ahead (now c) x w
    ahead_alike x w here =
        ap (count_by (is_ahead_of_item (move (length past) x) w.run.item.0)) moved_opened
        ∙ (sum_mapped (move (length past))
        (λ y. cond (is_ahead_of_item (move (length past) x) w.run.item.0 y) 1 0) (now c).opened
        ∙ count_by-same (λ y. is_ahead_of_item (move (length past) x) w.run.item.0 (move (length past) y))
        (is_ahead_of_item x w.run.item.0) (now c).opened
        (all_in _ (now c).opened (λ y there.
        ap (λ b. (y.item.0 == w.run.item.0) && b)
        (ahead_moved (length past) x y (within x here) (within y there)))))

    pub places_moved : (ws : List RunWait) (x : Queueing) → In x (now c).opened
        → have_all_places (next c) ws (move (length past) x) ≡ have_all_places (now c) ws x
    places_moved ws x here =
        ap₂ nat_le (max_same s past e x.place.queue.0 keeps)
        (λ i. sum_by (λ (w : RunWait). ahead_alike x w here i) ws)

    pub keeps_moved : (vs ws : List RunWait) → HaveSameRuns vs ws → (x : Queueing) → In x (now c).opened
        → Keeps (now c) vs x → Keeps (next c) ws (move (length past) x)
    keeps_moved vs ws same x here (its_run has) = its_run (sym (runs_alike vs ws same x.item.0) ∙ has)
    keeps_moved vs ws same x here (all_workers unstarted all) =
        all_workers (moved_unstarted x here unstarted) (sym (workers_alike vs ws same s x.place) ∙ all)
    keeps_moved vs ws same x here (all_places unstarted inactive all) =
        all_places (moved_unstarted x here unstarted) (moved_inactive x here inactive)
        (places_moved ws x here ∙ (sym (places_alike vs ws same (now c) x) ∙ all))
