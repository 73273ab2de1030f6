-- Each shape of a history is of entries of it.
use Rattle.std.proofs.Common.{◌≡◌, ℕ, zero, suc, ◌+◌, Bool, true, false, ◌&&◌, List, [], ◌∷◌, ◌++◌}
use Rattle.std.proofs.Common.{length, map, Option, Some, None, option_map, option_to_list, IfSome, refl}
use Rattle.std.proofs.Common.{sym, ap, ◌∙◌, subst, arith, nat_lt, eq-eqb, eqb-true, ⊎_elim}
use Rattle.std.specs.Prelude.{if◌then◌else◌, option_and_then, slice_set}
use Rattle.std.specs.Option.{option_map_or}
use Rattle.std.specs.List.{AllByRecursion, range_with_len}
use Rattle.std.proofs.lemmas.Bool.{and_parts}
use Rattle.std.proofs.lemmas.Option.{same_Some}
use Rattle.cmwq_lemmas.proofs.Lists.{All_append, All_flat, All_map, all_mapped}
use Rattle.cmwq_lemmas.proofs.Members.{In, all_in, contained_in, filter_in, of_in}
use Rattle.cmwq_model.specs.declared.call.Call.{Call}
use Rattle.cmwq_model.specs.declared.call.Call.TheVariants as call
use Rattle.cmwq_model.specs.declared.entry.Entry.{Entry}
use Rattle.cmwq_model.specs.declared.id.CallerId.{CallerId}
use Rattle.cmwq_model.specs.declared.id.Who.{Who}
use Rattle.cmwq_model.specs.declared.id.Who.TheVariants.{Caller, Worker}
use Rattle.cmwq_model.specs.declared.id.WorkerId.{WorkerId}
use Rattle.cmwq_model.specs.declared.record.Start.{Start}
use Rattle.cmwq_model.specs.declared.reply.Reply.{Reply}
use Rattle.cmwq_model.specs.declared.reply.Reply.TheVariants as reply
use Rattle.cmwq_model.specs.Prelude.{IsLegal, Layout, gives_ticket, is_at, is_by, is_done, item_of, number_finished}
use Rattle.cmwq_model.specs.Prelude.{number_started, past_of, worker_of}
use Rattle.cmwq_theory_laws.proofs.OneEntry.{same_who-true}
use Rattle.cmwq_chart.specs.declared.bars.Bar.{Bar}
use Rattle.cmwq_chart.specs.declared.levels.Level.{Level}
use Rattle.cmwq_chart.specs.declared.signs.Sign.{Sign}
use Rattle.cmwq_chart.specs.declared.signs.SignKind.{SignKind}
use Rattle.cmwq_chart.specs.declared.sleeps.Sleep.{Sleep}
use Rattle.cmwq_chart.specs.declared.waits.CallerWait.{CallerWait}
use Rattle.cmwq_chart.specs.declared.waits.WaitSign.{WaitSign}
use Rattle.cmwq_chart.specs.Bars.{bars_of}
use Rattle.cmwq_chart.specs.CallerWaits.{begun_in_row, callers_of, caller_waits_of, end_asked, free_row, is_end_answer}
use Rattle.cmwq_chart.specs.CallerWaits.{left_row, number_done, rows_after, sign_on, ticket_in_row, ticket_row}
use Rattle.cmwq_chart.specs.CallerWaits.{wait_ended}
use Rattle.cmwq_chart.specs.CallerWaits.{wait_in, wait_left, wait_over, wait_rows, wait_sign_of, wait_signs_by}
use Rattle.cmwq_chart.specs.CallerWaits.{wait_signs_of, waits_by, waits_ended, waits_left}
use Rattle.cmwq_chart.specs.Lanes.{lanes_of}
use Rattle.cmwq_chart.specs.Levels.{levels_of}
use Rattle.cmwq_chart.specs.Shapes.{places_in}
use Rattle.cmwq_chart.specs.Signs.{sign_at, sign_kind, sign_of, signs_of}
use Rattle.cmwq_chart.specs.Sleeps.{asleep_since, ends_sleep, since_after, sleep_ended, sleep_from, sleeps_by}
use Rattle.cmwq_chart.specs.Sleeps.{sleeps_ended, sleeps_of}
use Rattle.cmwq_chart_text.specs.declared.figures.Figure.{Figure}
use Rattle.cmwq_chart_text.specs.declared.figures.Figure.TheVariants as figure
use Rattle.cmwq_chart_text.specs.declared.page.Page.{Page}
use Rattle.cmwq_chart_text.specs.declared.part.What.{What}
use Rattle.cmwq_chart_text.specs.declared.part.What.TheVariants as what
use Rattle.cmwq_output_laws.specs.BarLaws.{EndsWell, HasOneBar, IsOfStart, begins_at}
use Rattle.cmwq_output_laws.proofs.LevelsStand.{levels_are_true}
use Rattle.cmwq_output_laws.proofs.OneBar.{bars_are_of_starts, starts_have_one_bar}
use Rattle.cmwq_chart_laws.specs.Causes.{HasEntryBy, IsCharted, IsFigureOf, NothingElseIsCharted}
use Rattle.cmwq_chart_laws.specs.Charts.{chart_figures, chart_page, chart_parts}
use Rattle.cmwq_chart_laws.specs.Drawn.{IsMeant}
use Rattle.cmwq_chart_laws.proofs.ChartRows.{charts_are_of_rows}
use Rattle.cmwq_chart_laws.proofs.Meant.{nothing_else_is_drawn}

-- ---- an entry of a history is one of a longer history
pub one_later : (a : Entry) (past : List Entry) (at : ℕ) (who : Who) (P : Entry → Type 0) → HasEntryBy past at who P
    → HasEntryBy (a ∷ past) at who P
one_later a past at who P h = record {
  entry = h.entry;
  before = h.before;
  stands = record { after = a ∷ h.stands.after; parts = ap (λ l. a ∷ l) h.stands.parts };
  place = h.place;
  by_who = h.by_who;
  is_so = h.is_so;
}

pub the_last : (e : Entry) (past : List Entry) (who : Who) (P : Entry → Type 0) → is_by who e ≡ true → P e
    → HasEntryBy (e ∷ past) (length past) who P
the_last e past who P is so = record {
  entry = e;
  before = past;
  stands = record { after = []; parts = refl };
  place = refl;
  by_who = same_who-true e.who who is;
  is_so = so;
}

-- ---- signs
abbrev IsSignOf : List Entry → Sign → Type 0
IsSignOf past g = HasEntryBy past g.at g.who (λ e. (sign_kind e.reply ≡ Some g.kind) × (g.item ≡ item_of e))

signs_caused : (past : List Entry) → AllByRecursion (IsSignOf past) (signs_of past)
unfolding signs_of
signs_caused [] = tt
signs_caused (e ∷ past) =
    All_append (IsSignOf (e ∷ past)) (signs_of past) (option_to_list (sign_of e (length past)))
    (All_map (IsSignOf past) (IsSignOf (e ∷ past)) (signs_of past)
    (λ g h. one_later e past g.at g.who (λ e. (sign_kind e.reply ≡ Some g.kind) × (g.item ≡ item_of e)) h)
    (signs_caused past))
    (here (sign_kind e.reply) refl)
  where
    here : (o : Option SignKind) → sign_kind e.reply ≡ o
        → AllByRecursion (IsSignOf (e ∷ past)) (option_to_list (option_map (sign_at e (length past)) o))
    here None is = tt
    here (Some kind) is = (
      record {
        entry = e;
        before = past;
        stands = record { after = []; parts = refl };
        place = refl;
        by_who = refl;
        is_so = (is, refl);
      },
      tt,
    )

-- ---- sleeps
abbrev pub Slept : Entry → Type 0
Slept e = e.reply ≡ reply.Slept

abbrev pub Woke : Entry → Type 0
Woke e = e.reply ≡ reply.Woke

asleep_caused : (past : List Entry) (w : WorkerId) → IfSome (asleep_since past w)
    (λ from. HasEntryBy past from (Worker w) Slept)
unfolding asleep_since
asleep_caused [] w = tt
asleep_caused (e ∷ past) w = by (later (asleep_since past w) (asleep_caused past w)) (is_by (Worker w) e) refl
  where
    later : (o : Option ℕ) → IfSome o (λ from. HasEntryBy past from (Worker w) Slept)
        → IfSome o (λ from. HasEntryBy (e ∷ past) from (Worker w) Slept)
    later None h = tt
    later (Some from) h = one_later e past from (Worker w) Slept h

    own : is_by (Worker w) e ≡ true → (r : Reply) → e.reply ≡ r → (o : Option ℕ)
        → IfSome o (λ from. HasEntryBy (e ∷ past) from (Worker w) Slept)
        → IfSome (since_after r (length past) o) (λ from. HasEntryBy (e ∷ past) from (Worker w) Slept)
    own is (reply.Started n) k o h = tt
    own is (reply.StartedEnlist n x) k o h = tt
    own is reply.Slept k o h = the_last e past (Worker w) Slept is k
    own is reply.Woke k o h = tt
    own is r k o h = h

    by : IfSome (asleep_since past w) (λ from. HasEntryBy (e ∷ past) from (Worker w) Slept) → (b : Bool)
        → is_by (Worker w) e ≡ b → IfSome (if b then since_after e.reply (length past) (asleep_since past w)
        else asleep_since past w) (λ from. HasEntryBy (e ∷ past) from (Worker w) Slept)
    by h true is = own is e.reply refl (asleep_since past w) h
    by h false is = h

abbrev pub IsSleepOf : List Entry → Sleep → Type 0
IsSleepOf past x = HasEntryBy past x.from (Worker x.worker) Slept
    × IfSome x.to (λ last. HasEntryBy past last (Worker x.worker) Woke)

sleep_later : (e : Entry) (past : List Entry) (x : Sleep) → IsSleepOf past x → IsSleepOf (e ∷ past) x
sleep_later e past x h = (one_later e past x.from (Worker x.worker) Slept h.0, ends x.to h.1)
  where
    ends : (o : Option ℕ) → IfSome o (λ last. HasEntryBy past last (Worker x.worker) Woke)
        → IfSome o (λ last. HasEntryBy (e ∷ past) last (Worker x.worker) Woke)
    ends None k = tt
    ends (Some last) k = one_later e past last (Worker x.worker) Woke k

is_woke : (r : Reply) → ends_sleep r ≡ true → r ≡ reply.Woke
is_woke reply.Woke h = refl
is_woke r h = cc

sleeps_ended_caused : (past : List Entry) (w : WorkerId) → AllByRecursion (IsSleepOf past) (sleeps_ended past w)
unfolding sleeps_ended
sleeps_ended_caused [] w = tt
sleeps_ended_caused (e ∷ past) w =
    All_append (IsSleepOf (e ∷ past)) (sleeps_ended past w) (option_to_list (sleep_ended past e w))
    (All_map (IsSleepOf past) (IsSleepOf (e ∷ past)) (sleeps_ended past w) (sleep_later e past)
    (sleeps_ended_caused past w))
    (by (is_by (Worker w) e && ends_sleep e.reply) refl (asleep_since past w) (asleep_caused past w))
  where
    by : (b : Bool) → (is_by (Worker w) e && ends_sleep e.reply) ≡ b → (o : Option ℕ)
        → IfSome o (λ from. HasEntryBy past from (Worker w) Slept) → AllByRecursion (IsSleepOf (e ∷ past))
        (option_to_list (if b then option_map (sleep_from w (Some (length past))) o else None))
    by true is None h = tt
    by true is (Some from) h =
        let k = and_parts (is_by (Worker w) e) (ends_sleep e.reply) is in
        ((one_later e past from (Worker w) Slept h, the_last e past (Worker w) Woke k.0 (is_woke e.reply k.1)), tt)
    by false is o h = tt

pub sleeps_caused : (past : List Entry) (w : WorkerId) → AllByRecursion (IsSleepOf past) (sleeps_by past w)
unfolding sleeps_by
sleeps_caused past w =
    All_append (IsSleepOf past) (sleeps_ended past w)
    (option_to_list (option_map (sleep_from w None) (asleep_since past w))) (sleeps_ended_caused past w)
    (left (asleep_since past w) (asleep_caused past w))
  where
    left : (o : Option ℕ) → IfSome o (λ from. HasEntryBy past from (Worker w) Slept)
        → AllByRecursion (IsSleepOf past) (option_to_list (option_map (sleep_from w None) o))
    left None h = tt
    left (Some from) h = ((h, tt), tt)

-- ---- waits

abbrev pub GivesTicket : Entry → Type 0
GivesTicket e = gives_ticket e.reply ≡ true

abbrev pub EndsIt : ℕ → Entry → Type 0
EndsIt from e = (e.call ≡ call.End from) × (e.reply ≡ reply.Done)

-- a ticket that waits in a row was given to the caller
abbrev IsRowOf : List Entry → CallerId → Option ℕ → Type 0
IsRowOf past c r = IfSome r (λ t. HasEntryBy past t (Caller c) GivesTicket)

row_later : (e : Entry) (past : List Entry) (c : CallerId) (r : Option ℕ) → IsRowOf past c r → IsRowOf (e ∷ past) c r
row_later e past c None h = tt
row_later e past c (Some t) h = one_later e past t (Caller c) GivesTicket h

all_set : {X : Type 0} (P : X → Type 0) (xs : List X) (n : ℕ) (x : X) → P x → AllByRecursion P xs
    → AllByRecursion P (slice_set xs n x)
all_set P [] n x h all = tt
all_set P (y ∷ xs) zero x h all = (h, all.1)
all_set P (y ∷ xs) (suc n) x h all = (all.0, all_set P xs n x h all.1)

rows_caused : (past : List Entry) (c : CallerId) → AllByRecursion (IsRowOf past c) (wait_rows past c)
unfolding wait_rows
rows_caused [] c = tt
rows_caused (e ∷ past) c =
    by (All_map (IsRowOf past c) (IsRowOf (e ∷ past) c) (wait_rows past c) (row_later e past c) (rows_caused past c))
    (is_by (Caller c) e) refl
  where
    begun : (rows : List (Option ℕ)) → AllByRecursion (IsRowOf (e ∷ past) c) rows → (b : Bool)
        → HasEntryBy (e ∷ past) (length past) (Caller c) GivesTicket → AllByRecursion (IsRowOf (e ∷ past) c)
        (if b then slice_set rows (free_row rows) (Some (length past)) else rows ++ Some (length past) ∷ [])
    begun rows all true h = all_set (IsRowOf (e ∷ past) c) rows (free_row rows) (Some (length past)) h all
    begun rows all false h = All_append (IsRowOf (e ∷ past) c) rows (Some (length past) ∷ []) all (h, tt)

    left : (rows : List (Option ℕ)) → AllByRecursion (IsRowOf (e ∷ past) c) rows → (row : ℕ) (b : Bool)
        → AllByRecursion (IsRowOf (e ∷ past) c) (if b then slice_set rows row None else rows)
    left rows all row true = all_set (IsRowOf (e ∷ past) c) rows row None tt all
    left rows all row false = all

    ended : (rows : List (Option ℕ)) → AllByRecursion (IsRowOf (e ∷ past) c) rows → (o : Option ℕ)
        → AllByRecursion (IsRowOf (e ∷ past) c) (option_map_or (λ t. left_row rows (ticket_row rows t)) o rows)
    ended rows all None = all
    ended rows all (Some t) = left rows all (ticket_row rows t) (nat_lt (ticket_row rows t) (length rows))

    own : (rows : List (Option ℕ)) → AllByRecursion (IsRowOf (e ∷ past) c) rows → is_by (Caller c) e ≡ true → (b : Bool)
        → gives_ticket e.reply ≡ b → AllByRecursion (IsRowOf (e ∷ past) c)
        (if b then begun_in_row rows (length past)
        else option_map_or (λ t. left_row rows (ticket_row rows t)) (number_done e) rows)
    own rows all is true gives =
        begun rows all (nat_lt (free_row rows) (length rows)) (the_last e past (Caller c) GivesTicket is gives)
    own rows all is false gives = ended rows all (number_done e)

    by : AllByRecursion (IsRowOf (e ∷ past) c) (wait_rows past c) → (b : Bool) → is_by (Caller c) e ≡ b
        → AllByRecursion (IsRowOf (e ∷ past) c)
        (if b then rows_after e (length past) (wait_rows past c) else wait_rows past c)
    by all true is = own (wait_rows past c) all is (gives_ticket e.reply) refl
    by all false is = all

-- the ticket in a row is one that waits there, and in the row of a ticket it is that ticket
pub in_row : (P : Option ℕ → Type 0) (rows : List (Option ℕ)) (row : ℕ) → AllByRecursion P rows
    → IfSome (ticket_in_row rows row) (λ t. P (Some t))
in_row P [] row all = tt
in_row P (None ∷ rows) zero all = tt
in_row P (Some t ∷ rows) zero all = all.0
in_row P (r ∷ rows) (suc row) all = in_row P rows row all.1

pub its_row : (rows : List (Option ℕ)) (t : ℕ) → IfSome (ticket_in_row rows (ticket_row rows t)) (λ u. u ≡ t)
unfolding ticket_row
its_row [] t = tt
its_row (r ∷ rows) t = by r (is_at r t) refl (its_row rows t)
  where
    by : (r : Option ℕ) (b : Bool) → is_at r t ≡ b → IfSome (ticket_in_row rows (ticket_row rows t)) (λ u. u ≡ t)
        → IfSome (ticket_in_row (r ∷ rows) (if b then 0 else 1 + ticket_row rows t)) (λ u. u ≡ t)
    by None true is h = cc
    by (Some m) true is h = eqb-true m t is
    by r false is h =
        let one : 1 + ticket_row rows t ≡ suc (ticket_row rows t) = omega arith in
        subst (λ k. IfSome (ticket_in_row (r ∷ rows) k) (λ u. u ≡ t)) (sym one) h

-- an entry that ends a ticket, and one that asks for its end
done_is : (r : Reply) → is_done r ≡ true → r ≡ reply.Done
done_is reply.Done h = refl
done_is r h = cc

pub asked_is : (c : Call) (t : ℕ) → end_asked c ≡ Some t → c ≡ call.End t
asked_is (call.End u) t h = ap call.End (same_Some u t h)
asked_is c t h = cc

pub is_ended : (e : Entry) (t : ℕ) → number_done e ≡ Some t → EndsIt t e
is_ended e t h = by (is_done e.reply) refl h
  where
    by : (b : Bool) → is_done e.reply ≡ b → (if b then end_asked e.call else None) ≡ Some t
        → (e.call ≡ call.End t) × (e.reply ≡ reply.Done)
    by true is k = (asked_is e.call t k, done_is e.reply is)
    by false is k = cc

abbrev pub IsWaitOf : List Entry → CallerWait → Type 0
IsWaitOf past x = HasEntryBy past x.from (Caller x.caller) GivesTicket
    × IfSome x.to (λ last. HasEntryBy past last (Caller x.caller) (EndsIt x.from))

wait_later : (e : Entry) (past : List Entry) (x : CallerWait) → IsWaitOf past x → IsWaitOf (e ∷ past) x
wait_later e past x h = (one_later e past x.from (Caller x.caller) GivesTicket h.0, ends x.to h.1)
  where
    ends : (o : Option ℕ) → IfSome o (λ last. HasEntryBy past last (Caller x.caller) (EndsIt x.from))
        → IfSome o (λ last. HasEntryBy (e ∷ past) last (Caller x.caller) (EndsIt x.from))
    ends None k = tt
    ends (Some last) k = one_later e past last (Caller x.caller) (EndsIt x.from) k

waits_ended_caused : (past : List Entry) (c : CallerId) → AllByRecursion (IsWaitOf past) (waits_ended past c)
unfolding waits_ended
waits_ended_caused [] c = tt
waits_ended_caused (e ∷ past) c =
    All_append (IsWaitOf (e ∷ past)) (waits_ended past c) (option_to_list (wait_ended past e c))
    (All_map (IsWaitOf past) (IsWaitOf (e ∷ past)) (waits_ended past c) (wait_later e past) (waits_ended_caused past c))
    (by (is_by (Caller c) e) refl (number_done e) refl)
  where
    over : is_by (Caller c) e ≡ true → (t row : ℕ) → number_done e ≡ Some t → (o : Option ℕ)
        → IfSome o (λ u. u ≡ t) → IfSome o (λ u. IsRowOf past c (Some u))
        → AllByRecursion (IsWaitOf (e ∷ past)) (option_to_list (option_map (wait_in c row (Some (length past))) o))
    over is t row done None same given = tt
    over is t row done (Some u) same given = (
      (
        one_later e past u (Caller c) GivesTicket given,
        the_last e past (Caller c) (EndsIt u) is (subst (λ k. EndsIt k e) (sym same) (is_ended e t done)),
      ),
      tt,
    )

    by : (b : Bool) → is_by (Caller c) e ≡ b → (o : Option ℕ) → number_done e ≡ o
        → AllByRecursion (IsWaitOf (e ∷ past)) (option_to_list (if b then option_and_then
        (λ t. wait_over (wait_rows past c) c (length past) (ticket_row (wait_rows past c) t)) o else None))
    by true is None done = tt
    by true is (Some t) done =
        over is t (ticket_row (wait_rows past c) t) done
        (ticket_in_row (wait_rows past c) (ticket_row (wait_rows past c) t)) (its_row (wait_rows past c) t)
        (in_row (IsRowOf past c) (wait_rows past c) (ticket_row (wait_rows past c) t) (rows_caused past c))
    by false is o done = tt

pub waits_caused : (past : List Entry) (c : CallerId) → AllByRecursion (IsWaitOf past) (waits_by past c)
unfolding waits_by
waits_caused past c =
    All_append (IsWaitOf past) (waits_ended past c) (waits_left (wait_rows past c) c) (waits_ended_caused past c)
    (All_flat (IsWaitOf past) (wait_left (wait_rows past c) c) (range_with_len 0 (length (wait_rows past c)))
    (λ row. left row (ticket_in_row (wait_rows past c) row)
    (in_row (IsRowOf past c) (wait_rows past c) row (rows_caused past c))))
  where
    left : (row : ℕ) (o : Option ℕ) → IfSome o (λ t. IsRowOf past c (Some t))
        → AllByRecursion (IsWaitOf past) (option_to_list (option_map (wait_in c row None) o))
    left row None h = tt
    left row (Some t) h = ((h, tt), tt)

-- ---- where the ends of waits were asked for

abbrev Asks : Bool → Entry → Type 0
Asks done e = (t : ℕ) × (e.call ≡ call.End t) × (is_end_answer e.reply ≡ true) × (done ≡ is_done e.reply)

abbrev IsWaitSignOf : List Entry → WaitSign → Type 0
IsWaitSignOf past x = HasEntryBy past x.at (Caller x.caller) (Asks x.is_done)

wait_signs_caused : (past : List Entry) (c : CallerId) → AllByRecursion (IsWaitSignOf past) (wait_signs_by past c)
unfolding wait_signs_by
wait_signs_caused [] c = tt
wait_signs_caused (e ∷ past) c =
    All_append (IsWaitSignOf (e ∷ past)) (wait_signs_by past c) (option_to_list (wait_sign_of past e c))
    (All_map (IsWaitSignOf past) (IsWaitSignOf (e ∷ past)) (wait_signs_by past c)
    (λ x h. one_later e past x.at (Caller x.caller) (Asks x.is_done) h) (wait_signs_caused past c))
    (by (is_by (Caller c) e) refl (is_end_answer e.reply) refl (end_asked e.call) refl)
  where
    on : is_by (Caller c) e ≡ true → is_end_answer e.reply ≡ true → (t : ℕ) → end_asked e.call ≡ Some t → (row : ℕ)
        (o : Option ℕ) → AllByRecursion (IsWaitSignOf (e ∷ past)) (option_to_list (option_map (λ (t : ℕ).
        record { caller = c; row = row; at = length past; is_done = is_done e.reply }) o))
    on is answers t asked row None = tt
    on is answers t asked row (Some u) = (
      the_last e past (Caller c) (Asks (is_done e.reply)) is (t, asked_is e.call t asked, answers, refl),
      tt,
    )

    by : (a : Bool) → is_by (Caller c) e ≡ a → (b : Bool) → is_end_answer e.reply ≡ b → (o : Option ℕ)
        → end_asked e.call ≡ o → AllByRecursion (IsWaitSignOf (e ∷ past))
        (option_to_list (if a then (if b then option_and_then
        (λ t. sign_on (wait_rows past c) e c (length past) (ticket_row (wait_rows past c) t)) o else None) else None))
    by true is true answers None asked = tt
    by true is true answers (Some t) asked =
        on is answers t asked (ticket_row (wait_rows past c) t)
        (ticket_in_row (wait_rows past c) (ticket_row (wait_rows past c) t))
    by true is false answers o asked = tt
    by false is b answers o asked = tt

-- ---- bars, in a legal history

abbrev pub Starts : ℕ → Entry → Type 0
Starts n e = number_started e.reply ≡ Some n

abbrev pub Finishes : ℕ → Entry → Type 0
Finishes n e = number_finished e.reply ≡ Some n

abbrev pub IsBarOf : List Entry → Bar → Type 0
IsBarOf past b = HasEntryBy past b.from (Worker b.worker) (Starts b.number)
    × IfSome b.to (λ last. HasEntryBy past last (Worker b.worker) (Finishes b.number))

abbrev start_of : WorkerId → ℕ → Start
start_of w n = record { worker = w; number = n }

start_is : (e : Entry) (w : WorkerId) (n : ℕ) (x : Who) (o : Option ℕ) → e.who ≡ x → number_started e.reply ≡ o
    → option_and_then (λ v. option_map (start_of v) o) (worker_of x)
    ≡ Some (start_of w n) → (e.who ≡ Worker w) × (number_started e.reply ≡ Some n)
start_is e w n (Caller c) o hx ho h = cc
start_is e w n (Worker v) None hx ho h = cc
start_is e w n (Worker v) (Some m) hx ho h =
    let same : start_of v m ≡ start_of w n = same_Some (start_of v m) (start_of w n) h in
    (hx ∙ ap (λ (s : Start). Worker s.worker) same, ho ∙ ap (λ (s : Start). Some s.number) same)

pub bars_caused : (s : Layout) (past : List Entry) → IsLegal s past → AllByRecursion (IsBarOf past) (bars_of past)
bars_caused s past legal =
    all_in (IsBarOf past) (bars_of past)
    (λ b i. one b i (of_in (IsOfStart past) (bars_of past) b (bars_are_of_starts past) i))
  where
    ends : (b : Bar) (o : Option ℕ) → EndsWell past b o
        → IfSome o (λ last. HasEntryBy past last (Worker b.worker) (Finishes b.number))
    ends b None h = tt
    ends b (Some last) h = record {
      entry = h.entry;
      before = h.before;
      stands = h.stands;
      place = h.place;
      by_who = h.by_worker;
      is_so = h.finishes;
    }

    one : (b : Bar) → In b (bars_of past) → IsOfStart past b → IsBarOf past b
    one b i of_start =
        let k = start_is of_start.entry b.worker b.number of_start.entry.who
        (number_started of_start.entry.reply) refl refl of_start.starts in
        let h : HasOneBar past of_start.entry of_start.before b.number =
        starts_have_one_bar s past legal of_start.entry of_start.before b.number of_start.stands k.1 in
        let it : In b (h.bar ∷ []) = subst (λ l. In b l) h.only
        (filter_in (begins_at (length of_start.before)) (bars_of past) b i
        (eq-eqb b.from (length of_start.before) (sym of_start.place))) in
        let same : h.bar ≡ b = ⊎_elim (λ e. e) (λ none. absurd none) it in (
          record {
            entry = of_start.entry;
            before = of_start.before;
            stands = of_start.stands;
            place = of_start.place;
            by_who = k.0;
            is_so = k.1;
          },
          ends b b.to (subst (λ (c : Bar). EndsWell past c c.to) same h.ends),
        )

-- ---- all figures of a legal history, and so all that are drawn

figures_caused : (s : Layout) (entries : List Entry) → IsLegal s (past_of entries)
    → AllByRecursion (IsFigureOf s (past_of entries)) (chart_figures s entries)
figures_caused s entries legal =
    let past : List Entry = past_of entries in
    let callers : List CallerId = callers_of s entries in
    let ws : List CallerWait = caller_waits_of past callers in
    let wss : List WaitSign = wait_signs_of past callers in
    let bs : List Bar = bars_of past in
    let ss : List Sleep = sleeps_of past (lanes_of s entries) in
    let gs : List Sign = signs_of past in
    let ls : List Level = levels_of s past (places_in s entries) in
    let P : Figure → Type 0 = IsFigureOf s past in
    All_append P (map figure.Wait ws ++ map figure.WaitSign wss ++ map figure.Bar bs ++ map figure.Sleep ss
    ++ map figure.Sign gs) (map figure.Level ls)
    (All_append P (map figure.Wait ws ++ map figure.WaitSign wss ++ map figure.Bar bs ++ map figure.Sleep ss)
    (map figure.Sign gs)
    (All_append P (map figure.Wait ws ++ map figure.WaitSign wss ++ map figure.Bar bs) (map figure.Sleep ss)
    (All_append P (map figure.Wait ws ++ map figure.WaitSign wss) (map figure.Bar bs)
    (All_append P (map figure.Wait ws) (map figure.WaitSign wss)
    (all_mapped figure.Wait P ws (All_flat (IsWaitOf past) (waits_by past) callers (waits_caused past)))
    (all_mapped figure.WaitSign P wss (All_flat (IsWaitSignOf past) (wait_signs_by past) callers
    (wait_signs_caused past))))
    (all_mapped figure.Bar P bs (bars_caused s past legal)))
    (all_mapped figure.Sleep P ss (All_flat (IsSleepOf past) (sleeps_by past) (lanes_of s entries)
    (sleeps_caused past))))
    (all_mapped figure.Sign P gs (signs_caused past)))
    (all_mapped figure.Level P ls (levels_are_true s past (places_in s entries)))

pub nothing_else_is_charted : NothingElseIsCharted
nothing_else_is_charted w s entries is legal =
    let p : Page = chart_page w entries in
    let figures : List Figure = chart_figures s entries in
    All_map (λ x. IsMeant p figures x.band x.what) (λ x. IsCharted s (past_of entries) x.what) (chart_parts w s entries)
    (λ x h. told x.band x.what h) (nothing_else_is_drawn p figures (charts_are_of_rows w s entries is legal))
  where
    told : (band : ℕ) (v : What) → IsMeant (chart_page w entries) (chart_figures s entries) band v
        → IsCharted s (past_of entries) v
    told band (what.Row r) h = tt
    told band (what.Number n height) h = tt
    told band (what.Figure f) h =
        of_in (IsFigureOf s (past_of entries)) (chart_figures s entries) f (figures_caused s entries legal)
        (contained_in (chart_figures s entries) f h.listed)
    told band (what.Caption bar) h = tt
    told band (what.Label sign) h = tt
