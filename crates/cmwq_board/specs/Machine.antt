-- What a board does, by one definition: each move makes a new core, and has an outcome.
use Rattle.std.specs.Prelude.{◌≡◌, ◌&&◌, ℕ, Bool, true, false, not, List, [], filter, if◌then◌else◌, length}
use Rattle.std.specs.Prelude.{nat_lt, Option, Some, None, Result, Ok, Err, option_and_then, slice_set}
use Rattle.std.specs.Option.{unwrap_or}
use Rattle.std.specs.Prelude.{⊤}
use Rattle.std.specs.List.{fold}
use Rattle.cmwq_core.specs.History.{History, is_done_waiting, next_entry, past_in}
use Rattle.cmwq_dispatch.specs.Asleep.{Asleep, IsUpAgain, SleepOn}
use Rattle.cmwq_dispatch.specs.Asleep as asleep
use Rattle.cmwq_dispatch.specs.Dispatched.{is_over}
use Rattle.cmwq_dispatch.specs.Naming.{names_completions}
use Rattle.cmwq_dispatch.specs.declared.wakes.Wakes.{Wakes}
use Rattle.cmwq_model.specs.Calls.{now}
use Rattle.cmwq_model.specs.Prelude.{gives_ticket, is_drain, number_finished, number_started, queueing_at}
use Rattle.cmwq_model.specs.Prelude.{runs_asleep, runs_awake}
use Rattle.cmwq_model.specs.Prelude.{unended_tickets}
use Rattle.cmwq_model.specs.declared.call.Call.{Call}
use Rattle.cmwq_model.specs.declared.call.Call.TheVariants as call
use Rattle.cmwq_model.specs.declared.id.CallerId.{CallerId}
use Rattle.cmwq_model.specs.declared.id.Who.{Who}
use Rattle.cmwq_model.specs.declared.id.Who.TheVariants.{Caller, Worker}
use Rattle.cmwq_model.specs.declared.id.WorkerId.{WorkerId}
use Rattle.cmwq_model.specs.declared.record.Queueing.{Queueing}
use Rattle.cmwq_model.specs.declared.record.Ticket.{Ticket}
use Rattle.cmwq_model.specs.declared.reply.Reply.{Reply}
use Rattle.cmwq_refinement.specs.Tickets.{tickets_held}
use Rattle.cmwq_board.specs.Boarded.{Boarded, firing_for, has_space, layout_of, most_made, past_of_board, with_asleep}
use Rattle.cmwq_board.specs.Fires.{fired, with_call}
use Rattle.cmwq_board.specs.Lent.{unended_drains, waits_by}
use Rattle.cmwq_board.specs.NewsAfter.{after_end, after_left, after_reply}
use Rattle.cmwq_board.specs.Steps.{advance_fault, call_fault, finish_fault, reply_now, retires_now, start_fault}
use Rattle.cmwq_board.specs.Waits.{begin_fault, begun_by, caller_at, end_fault, if_slept, leave_fault, lending_at}
use Rattle.cmwq_board.specs.Waits.{lending_by, lent_place, place_of, places, resumed_place, resumed_reply, sought_at}
use Rattle.cmwq_board.specs.declared.board.Ended.{Ended}
use Rattle.cmwq_board.specs.declared.board.Ended.TheVariants.{Done, Not}
use Rattle.cmwq_board.specs.declared.fault.BoardFault.TheVariants.{Misuse, Refused}
use Rattle.cmwq_board.specs.declared.board.Begun.{Begun}
use Rattle.cmwq_board.specs.declared.board.Begun.TheVariants as begun
use Rattle.cmwq_board.specs.declared.fault.WaitFault.{WaitFault}
use Rattle.cmwq_board.specs.declared.fault.WaitFault.TheVariants.{NoCaller}
use Rattle.cmwq_board.specs.declared.left.Sought.TheVariants.{For}
use Rattle.cmwq_board.specs.declared.board.Finish.{Finish}
use Rattle.cmwq_board.specs.declared.board.Start.{Start}
use Rattle.cmwq_board.specs.declared.board.Start.TheVariants.{Over, Rests, Runs}
use Rattle.cmwq_board.specs.declared.fault.BoardFault.{BoardFault}
use Rattle.cmwq_board.specs.declared.lending.Lending.{Lending}
use Rattle.cmwq_board.specs.declared.lending.Lending.TheVariants.{Free, Waits}
use Rattle.cmwq_board.specs.declared.news.News.{News}

-- ---- a core

-- No move reads who sleeps. So a board without that is its core.
abbrev pub no_sleepers : Asleep
no_sleepers = record { tickets = []; pools = [] }

abbrev pub bare : Boarded → Boarded
bare b = with_asleep b no_sleepers

-- the history goes on, by one call or more
abbrev pub with_history : Boarded → History → Boarded
with_history b h = record b { dispatch = record b.dispatch { history = h } }

abbrev pub made : Boarded → Who → Call → Boarded
made b who c = with_history b (with_call b.dispatch.history who c)

-- ---- the end of a ticket

-- what is due fires, as often as there are items at most
abbrev pub then_due : CallerId → History → History
then_due c h = fired h.layout.items h c

-- so it does after the end of a drain
abbrev pub then_fired : Ticket → History → History
then_fired t h = if is_drain t.call then then_due t.caller h else h

-- a run wakes, if it sleeps
abbrev pub then_woken : Option WorkerId → History → History
then_woken (Some w) h = if runs_asleep (past_in h) w then with_call h (Worker w) call.Wake else h
then_woken None h = h

-- it is ended, what is due fires, and the run that waited by it wakes
abbrev pub ticket_ended : Ticket → Option WorkerId → History → History
ticket_ended t run h = then_woken run (then_fired t (with_call h (Caller t.caller) (call.End t.number)))

-- so it is in the board; whoever drains may still fire, and what the lent callers do, and the news, is this from then on
abbrev pub settled : Boarded → History → List Lending → News → Boarded
settled b h lent news = record b {
  dispatch = record b.dispatch { history = h; firing = firing_for (unended_drains (past_in h)) };
  lent = lent;
  news = news;
}

abbrev pub ended : Ticket → Option WorkerId → List Lending → News → Boarded → Boarded
ended t run lent news b = settled b (ticket_ended t run b.dispatch.history) lent news

-- ---- the tickets that were left

-- those of the caller of a place by which nobody waits
abbrev pub is_left : Boarded → ℕ → Ticket → Bool
is_left b place t = not (waits_by t (lending_at b place))

abbrev pub left_at : Boarded → ℕ → List Ticket
left_at b place = filter (is_left b place) (tickets_held (unended_tickets (past_of_board b)) (caller_at b place).0)

-- one is ended, if it is ready and there is space for its end; nobody is woken by that, but it is news
abbrev pub ended_left : Ticket → Boarded → Boarded
ended_left t b = ended t None b.lent (after_left t.call b.news) b

abbrev pub cleared_of : Boarded → Ticket → Boarded
cleared_of b t = if has_space b (most_made (layout_of b)) && is_done_waiting (past_of_board b) t
    then ended_left t b else b

-- so is each of a caller's, and of each caller in their order
abbrev pub cleared_at : Boarded → ℕ → Boarded
cleared_at b place = fold cleared_of b (left_at b place)

unfoldable pub cleared : Boarded → Boarded
cleared b = fold cleared_at b (places b)

-- ---- what a move comes to

-- a new core, and an outcome
pub record Stepped (A : Type 0) : Type 0 where
  pub core : Boarded
  pub outcome : A

abbrev pub stepped : {A : Type 0} → Boarded → A → Stepped A
stepped b a = record { core = b; outcome = a }

-- a move that has a fault leaves the core as it was
abbrev pub unless : {A E : Type 0} → Option E → Boarded → Stepped (Result A E) → Stepped (Result A E)
unless (Some fault) b s = stepped b (Err fault)
unless None b s = s

-- ---- the moves

-- its reply may be news
abbrev pub told : Boarded → Who → Call → Boarded
told b who c = record (made b who c) { news = after_reply (reply_now b who c) b.news }

abbrev pub called : Boarded → Who → Call → Stepped (Result Reply BoardFault)
called b who c = unless (call_fault b who c) b (stepped (cleared (told b who c)) (Ok (reply_now b who c)))

-- what a worker would start
abbrev pub starting : Boarded → WorkerId → Option Queueing
starting b w = option_and_then (queueing_at (past_of_board b)) (number_started (reply_now b (Worker w) call.Take))

-- It runs that. Or there is nothing: it rests from now on, or it is over.
abbrev pub starts_by : Boarded → WorkerId → Option Queueing → Stepped (Result Start BoardFault)
starts_by b w (Some x) = stepped (made b (Worker w) call.Take) (Ok (Runs x.item x.number))
starts_by b w None = stepped b (Ok (if is_over b.dispatch then Over else Rests))

abbrev pub started : Boarded → WorkerId → Stepped (Result Start BoardFault)
started b w = unless (start_fault b w) b
    (if b.dispatch.failed then stepped b (Ok Over) else starts_by b w (starting b w))

-- a worker whose run has ended is sent to the reserve, if it would be
abbrev pub then_retired : WorkerId → History → History
then_retired w h = if retires_now h w then with_call h (Worker w) call.Retire else h

-- what it finished
abbrev pub finish_of : History → WorkerId → Finish
finish_of h w = record {
  number = unwrap_or (number_finished (next_entry h (Worker w) call.Finish).reply) 0;
  retired = retires_now (with_call h (Worker w) call.Finish) w;
}

abbrev pub run_ended : Boarded → WorkerId → Boarded
run_ended b w = with_history b (then_retired w (with_call b.dispatch.history (Worker w) call.Finish))

abbrev pub finished : Boarded → WorkerId → Stepped (Result Finish BoardFault)
finished b w = unless (finish_fault b w) b (stepped (cleared (run_ended b w)) (Ok (finish_of b.dispatch.history w)))

-- nobody waits by the caller of a place any more
abbrev pub freed : Boarded → Option ℕ → Boarded
freed b (Some place) = record b { lent = slice_set b.lent place Free }
freed b None = b

abbrev pub left : Boarded → CallerId → Stepped (Result ⊤ BoardFault)
left b c = unless (leave_fault b c) b (stepped (cleared (freed b (place_of b c))) (Ok tt))

-- so many ticks go by, and then what is due fires
abbrev pub ticked : Boarded → CallerId → ℕ → Boarded
ticked b c ticks = with_history b (then_due c (with_call b.dispatch.history (Caller c) (call.Tick ticks)))

abbrev pub advanced : Boarded → CallerId → ℕ → Stepped (Result ℕ BoardFault)
advanced b c ticks = unless (advance_fault b c ticks) b
    (stepped (ticked b c ticks) (Ok (now (past_of_board (ticked b c ticks)))))

-- ---- a wait begins

-- whether the run of this worker is awake
abbrev pub is_awake : Option WorkerId → History → Bool
is_awake (Some w) h = runs_awake (past_in h) w
is_awake None h = false

-- a run goes to sleep, if it is awake
abbrev pub then_slept : Option WorkerId → History → History
then_slept (Some w) h = if runs_awake (past_in h) w then with_call h (Worker w) call.Sleep else h
then_slept None h = h

-- what the caller that is lent is answered then
abbrev pub begins_with : Option WorkerId → CallerId → Call → History → Reply
begins_with run c k h = (next_entry (then_slept run h) (Caller c) k).reply

-- where there is nothing to wait for, the run that went to sleep wakes again
abbrev pub then_waits : Bool → Option WorkerId → History → History
then_waits true slept h = h
then_waits false slept h = then_woken slept h

abbrev pub wait_begun : Option WorkerId → CallerId → Call → History → History
wait_begun run c k h =
    then_waits (gives_ticket (begins_with run c k h)) (if_slept (is_awake run h) run)
    (with_call (then_slept run h) (Caller c) k)

-- the ticket, whose number is that of the call's entry
abbrev pub ticket_begun : Option WorkerId → CallerId → Call → History → Ticket
ticket_begun run c k h = record { caller = c; call = k; number = length (then_slept run h).entries }

-- The caller of a place is lent to the wait, if its call gets a ticket.
abbrev pub lent_to : Boarded → Option WorkerId → Call → ℕ → CallerId → Boarded
lent_to b run k place c =
    settled b (wait_begun run c k b.dispatch.history)
    (slice_set b.lent place (lending_by run (is_awake run b.dispatch.history)
    (ticket_begun run c k b.dispatch.history) (begins_with run c k b.dispatch.history))) b.news

abbrev pub lends : Boarded → Option WorkerId → Call → Option ℕ → Stepped (Result Begun WaitFault)
lends b run k (Some place) = stepped (lent_to b run k place (caller_at b place))
    (Ok (begun_by (caller_at b place) (begins_with run (caller_at b place) k b.dispatch.history)))
lends b run k None = stepped b (Err NoCaller)

-- the wait goes on by a ticket that was left
abbrev pub goes_on_by : Boarded → Call → ℕ → Option Ticket → Stepped (Result Begun WaitFault)
goes_on_by b k place (Some t) = stepped (record b { lent = slice_set b.lent place (Waits t None false) })
    (Ok (begun.Waits (caller_at b place) (resumed_reply t k)))
goes_on_by b k place None = stepped b (Err NoCaller)

abbrev pub begins_at : Boarded → Option WorkerId → Call → Option ℕ → Stepped (Result Begun WaitFault)
begins_at b run k (Some place) = goes_on_by b k place (sought_at b (For k) place)
begins_at b run k None = lends b run k (lent_place b)

abbrev pub begins : Boarded → Option WorkerId → Call → Stepped (Result Begun WaitFault)
begins b run k = unless (begin_fault b run k) b (begins_at b run k (resumed_place b run k))

-- ---- a wait ends

-- Its ticket is ended if it is ready, and then those that were left. Otherwise its caller sleeps, which is no part of a
-- core.
abbrev pub ends_at : Boarded → ℕ → Lending → Stepped (Result Bool BoardFault)
ends_at b place (Waits t run slept) = if is_done_waiting (past_of_board b) t
    then stepped (cleared (ended t (if_slept slept run) (slice_set b.lent place Free) (after_end t.call b.news) b))
    (Ok true) else stepped b (Ok false)
ends_at b place Free = stepped b (Err Misuse)

abbrev pub ends : Boarded → Option ℕ → Stepped (Result Bool BoardFault)
ends b (Some place) = ends_at b place (lending_at b place)
ends b None = stepped b (Err Refused)

abbrev pub wait_ended : Boarded → CallerId → Stepped (Result Bool BoardFault)
wait_ended b c = unless (end_fault b c) b (ends b (place_of b c))

-- whether it has ended, without what its caller does if it has not
abbrev pub has_ended : Result Ended BoardFault → Result Bool BoardFault
has_ended (Ok Done) = Ok true
has_ended (Ok (Not instead)) = Ok false
has_ended (Err fault) = Err fault

pub data Move : Type 0 where
  Calls : Who → Call → Move
  Starts : WorkerId → Move
  Finishes : WorkerId → Move
  Leaves : CallerId → Move
  Advances : CallerId → ℕ → Move
  Lends : Option WorkerId → Call → Move
  Ends : CallerId → Move

-- what each comes to
abbrev pub Outcome : Move → Type 0
Outcome (Calls who c) = Result Reply BoardFault
Outcome (Starts w) = Result Start BoardFault
Outcome (Finishes w) = Result Finish BoardFault
Outcome (Leaves c) = Result ⊤ BoardFault
Outcome (Advances c ticks) = Result ℕ BoardFault
Outcome (Lends run k) = Result Begun WaitFault
Outcome (Ends c) = Result Bool BoardFault

abbrev pub step : Boarded → (m : Move) → Stepped (Outcome m)
step b (Calls who c) = called b who c
step b (Starts w) = started b w
step b (Finishes w) = finished b w
step b (Leaves c) = left b c
step b (Advances c ticks) = advanced b c ticks
step b (Lends run k) = begins b run k
step b (Ends c) = wait_ended b c

-- a move of a board that comes to this, whoever sleeps
pub record Moves (m : Move) (outcome : Outcome m) (old new : Boarded) : Type 0 where
  pub core : bare new ≡ (step (bare old) m).core
  pub came_to : outcome ≡ (step (bare old) m).outcome

-- ---- who sleeps after a move

abbrev pub drains_in : Boarded → ℕ
drains_in b = unended_drains (past_of_board b)

-- Whoever slept sleeps on, or is named, or made the move, and nobody else sleeps. Where fewer drains are unended than
-- before, whoever sleeps until something is completed is named.
pub record GoesOn (who : Who) (old new : Boarded) (before after : Wakes) : Type 0 where
  pub sleepers : SleepOn who old.dispatch.asleep new.dispatch.asleep before after
  pub time : nat_lt (drains_in new) (drains_in old) ≡ true → names_completions after ≡ true

-- So it is unless there is a fault, at which nothing changes and nobody is named.
abbrev pub Named : {A E : Type 0} → Result A E → Who → Boarded → Boarded → Wakes → Wakes → Type 0
Named (Ok a) who old new before after = GoesOn who old new before after
Named (Err e) who old new before after = (new ≡ old) × (after ≡ before)

-- A worker that starts nothing rests from now on, or it is over.
abbrev pub StartNamed : Result Start BoardFault → WorkerId → Boarded → Boarded → Wakes → Wakes → Type 0
StartNamed (Ok (Runs i n)) w old new before after = GoesOn (Worker w) old new before after
StartNamed (Ok Rests) w old new before after =
    asleep.Rests w old.dispatch.asleep new.dispatch.asleep × (after ≡ before)
StartNamed (Ok Over) w old new before after = (new ≡ old) × (after ≡ before)
StartNamed (Err e) w old new before after = (new ≡ old) × (after ≡ before)

-- A caller is awake again, and then the others go on. Where no entry is made nobody is named.
pub record RisesFirst (c : CallerId) (old new : Boarded) (before after : Wakes) : Type 0 where
  pub awake : Asleep
  pub rises : IsUpAgain (Caller c) old.dispatch.asleep awake
  pub goes : GoesOn (Caller c) (with_asleep old awake) new before after
  pub quiet : new.dispatch.history ≡ old.dispatch.history → after ≡ before

abbrev pub LeaveNamed : Result ⊤ BoardFault → CallerId → Boarded → Boarded → Wakes → Wakes → Type 0
LeaveNamed (Ok t) c old new before after = RisesFirst c old new before after
LeaveNamed (Err e) c old new before after = (new ≡ old) × (after ≡ before)
