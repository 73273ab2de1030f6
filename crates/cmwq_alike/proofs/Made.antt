-- Calls that are made of both.
use Rattle.std.specs.Prelude.{◌+◌, ◌&&◌, nat_le}
use Rattle.cmwq_alike.specs.Common.{length-map}
use Rattle.cmwq_alike.specs.Common.{◌≡◌, ℕ, true, not, List, ◌∷◌, suc, length, count_by, refl, sym, ap, ap₂, ◌∙◌, arith}
use Rattle.cmwq_alike.specs.Common.{range_with_len}
use Rattle.cmwq_alike.specs.Common.{All_each, all_in, of_in, count_by-same, Entry, Layout, Who, Call}
use Rattle.cmwq_alike.specs.Common.{still_open, unended_tickets, has_run, runs_asleep, is_booked, fits, workers}
use Rattle.cmwq_alike.specs.Common.{has_not_started, Caller, Worker}
unfoldable use Rattle.cmwq_model.specs.Prelude.{owed, IsLegal}
use Rattle.cmwq_model.specs.Prelude.{entry_for, has_time, most_time, room_needed}
use Rattle.cmwq_model.specs.declared.call.Call.TheVariants as call
use Rattle.cmwq_alike.specs.Alike.{queueing_by, ticket_by, call_by, next_by, IsAlike, IsStep, Asks, AnswersAreAlike}
use Rattle.cmwq_alike.specs.Alike.{CallsGoOnAlike, OwedAreAlike, RoomIsAlike}
use Rattle.cmwq_alike.proofs.Lemmas.{count_mapped}
use Rattle.cmwq_alike.proofs.Numbers.{old_stays}
use Rattle.cmwq_alike.proofs.Orders.{ticket_below}
use Rattle.cmwq_alike.proofs.Looks.{has_alike, asleep_alike, booked_alike}
use Rattle.cmwq_alike.proofs.Answered.{answers_are_alike}
use Rattle.cmwq_alike.proofs.Stays.{alike_go_on}

pub answers_alike : AnswersAreAlike
answers_alike s f past other who c legal a asks = answers_are_alike a legal who c asks

pub owed_alike : OwedAreAlike
unfolding owed
owed_alike s f past other legal a =
    let open_alike : count_by (has_not_started other) (still_open other)
    ≡ count_by (has_not_started past) (still_open past) =
    ap (count_by (has_not_started other)) a.opened
    ∙ count_mapped (queueing_by f) (has_not_started other) (has_not_started past) (still_open past)
    (all_in _ (still_open past) (λ x i. ap not (of_in _ (still_open past) x a.started i))) in
    let run_alike : count_by (has_run other) (workers s) ≡ count_by (has_run past) (workers s) =
    count_by-same (has_run other) (has_run past) (workers s) (All_each _ (workers s) (has_alike a legal)) in
    let sleep_alike : count_by (runs_asleep other) (workers s) ≡ count_by (runs_asleep past) (workers s) =
    count_by-same (runs_asleep other) (runs_asleep past) (workers s) (All_each _ (workers s) (asleep_alike a legal)) in
    let book_alike : count_by (is_booked other) (range_with_len 0 s.items)
    ≡ count_by (is_booked past) (range_with_len 0 s.items) =
    count_by-same (is_booked other) (is_booked past) (range_with_len 0 s.items)
    (All_each _ (range_with_len 0 s.items) (booked_alike a legal)) in
    let ticket_alike : length (unended_tickets other) ≡ length (unended_tickets past) =
    ap length a.tickets ∙ length-map (unended_tickets past) (ticket_by f) in
    rw (open_alike, run_alike, sleep_alike, book_alike, ticket_alike, a.frozen) refl

pub fits_alike : (s : Layout) (g : ℕ → ℕ) (who : Who) (c : Call) → fits s who (call_by g c) ≡ fits s who c
fits_alike s g (Caller l) c = grind arith
fits_alike s g (Worker w) c = grind arith

-- the call is renumbered alike
asked_alike : (f : ℕ → ℕ) (past other : List Entry) (c : Call) → Asks past c
    → call_by f c ≡ call_by (next_by f past other) c
asked_alike f past other (call.End n) h = ap (λ m. call.End m) (sym (old_stays f past other n (ticket_below past n h)))
asked_alike f past other c h = refl

pub step_of : (s : Layout) (f : ℕ → ℕ) (past other : List Entry) (who : Who) (c : Call) → IsLegal s past
    → IsLegal s other
    → IsAlike s f past other → Asks past c → fits s who c ≡ true
    → IsStep s f past other (entry_for s past who c) (entry_for s other who (call_by f c))
unfolding IsLegal
step_of s f past other who c legal other_legal a asks fit =
    record {
      alike = a;
      legal = (fit, refl, legal);
      other_legal = (fits_alike s f who c ∙ fit, refl, other_legal);
      same = record {
        who = refl;
        call = asked_alike f past other c asks;
        reply = answers_are_alike a legal who c asks;
      };
    }

pub calls_go_on : CallsGoOnAlike
calls_go_on s f past other who c legal other_legal a asks fit =
    alike_go_on s f past other _ _ (step_of s f past other who c legal other_legal a asks fit)

pub time_alike : {s : Layout} {f : ℕ → ℕ} {past other : List Entry} → IsAlike s f past other → (c : Call)
    → has_time other (call_by f c) ≡ has_time past c
time_alike a (call.Tick t) = ap (λ n. nat_le (n + t) most_time) a.time
time_alike a c = refl

-- what is needed with the next entry
pub needed_alike : (s : Layout) (f : ℕ → ℕ) (past other : List Entry) (e d : Entry) → IsStep s f past other e d
    → length other ≡ length past → room_needed s (d ∷ other) ≡ room_needed s (e ∷ past)
needed_alike s f past other e d k long =
    ap₂ (λ n m. n + m) (ap suc long)
    (owed_alike s (next_by f past other) _ _ k.legal (alike_go_on s f past other e d k))

pub room_alike : RoomIsAlike
room_alike s room f past other who c legal other_legal a asks fit long =
    ap₂ (λ b n. b && nat_le n room) (time_alike a c)
    (needed_alike s f past other _ _ (step_of s f past other who c legal other_legal a asks fit) long)
