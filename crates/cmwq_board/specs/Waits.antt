-- Waits, by callers that are lent to them.
use Rattle.std.specs.Prelude.{◌≡◌, ◌⊎◌, ◌&&◌, ◌||◌, ℕ, Bool, true, false, not, List}
use Rattle.std.specs.Prelude.{Option, Some, None, if◌then◌else◌, find, is_some, length}
use Rattle.std.specs.Prelude.{slice_index_or, slice_set}
use Rattle.std.specs.List.{list_any, position, range_with_len}
use Rattle.std.specs.Option.{option_map_or, option_or}
use Rattle.cmwq_core.specs.History.{is_done_waiting, next_entry, takes, takes_with}
use Rattle.cmwq_dispatch.specs.Asleep.{IsUpAgain, SleepOn}
use Rattle.cmwq_dispatch.specs.Asleep.{Waits as SleepsFor}
use Rattle.cmwq_dispatch.specs.Dispatched.{Dispatched, FallsAsleep, is_over, past_now}
use Rattle.cmwq_dispatch.specs.declared.dispatch.Sleep.{Sleep}
use Rattle.cmwq_dispatch.specs.declared.wakes.Wakes.{Wakes}
use Rattle.cmwq_model.specs.Prelude.{Layout, gives_ticket, has_numbers, has_run, is_done, runs_asleep, runs_awake}
use Rattle.cmwq_model.specs.Prelude.{is_crowded, is_drain}
use Rattle.cmwq_model.specs.declared.reply.Reply.TheVariants as reply
use Rattle.cmwq_dispatch.specs.Naming.{NamesMore, names_completions}
use Rattle.cmwq_model.specs.declared.call.Call.{Call}
use Rattle.cmwq_model.specs.declared.call.Call.TheVariants as call
use Rattle.cmwq_model.specs.declared.id.CallerId.{CallerId}
use Rattle.cmwq_model.specs.declared.id.Who.{Who}
use Rattle.cmwq_model.specs.declared.id.Who.TheVariants.{Caller, Worker}
use Rattle.cmwq_model.specs.declared.id.WorkerId.{WorkerId}
use Rattle.cmwq_model.specs.declared.record.Ticket.{Ticket}
use Rattle.cmwq_model.specs.declared.reply.Reply.{Reply}
use Rattle.cmwq_waits.specs.Registered.{refusal_of}
use Rattle.cmwq_waits.specs.declared.waits.Stuck.{Stuck}
use Rattle.cmwq_board.specs.Asked.{is_wait}
use Rattle.cmwq_board.specs.Boarded.{Boarded, firing_for, first_place, has_space, layout_of, most_made}
use Rattle.cmwq_board.specs.Boarded.{past_of_board, with_asleep}
use Rattle.cmwq_board.specs.Faults.{fault_of_stuck}
use Rattle.cmwq_board.specs.Left.{is_free, sought_of}
use Rattle.cmwq_board.specs.Lent.{EndsTicketOf, caller_of, is_wait_of, ticket_at, unended_drains}
use Rattle.cmwq_board.specs.NewsAfter.{after_end, after_left}
use Rattle.cmwq_board.specs.Runs.{waiting_runs}
use Rattle.cmwq_board.specs.Steps.{Enters, FiresDue, has_worker, with_dispatch}
use Rattle.cmwq_board.specs.declared.board.Begun.{Begun}
use Rattle.cmwq_board.specs.declared.board.Begun.TheVariants as begun
use Rattle.cmwq_board.specs.declared.board.Ended.{Ended}
use Rattle.cmwq_board.specs.declared.board.Ended.TheVariants.{Done, Not}
use Rattle.cmwq_board.specs.declared.fault.BoardFault.{BoardFault}
use Rattle.cmwq_board.specs.declared.fault.BoardFault.TheVariants as fault
use Rattle.cmwq_board.specs.declared.fault.WaitFault.{WaitFault}
use Rattle.cmwq_board.specs.declared.fault.WaitFault.TheVariants as wait
use Rattle.cmwq_board.specs.declared.lending.Lending.{Lending}
use Rattle.cmwq_board.specs.declared.lending.Lending.TheVariants.{Free, Waits}
use Rattle.cmwq_board.specs.declared.left.Sought.{Sought}
use Rattle.cmwq_board.specs.declared.left.Sought.TheVariants.{Ready, For}
use Rattle.cmwq_board.specs.declared.news.News.{News}

-- ---- the lent callers

abbrev pub lending_at : Boarded → ℕ → Lending
lending_at b place = slice_index_or b.lent place Free

abbrev pub caller_at : Boarded → ℕ → CallerId
caller_at b place = caller_of (layout_of b) b.lent place

abbrev pub places : Boarded → List ℕ
places b = range_with_len 0 (length b.lent)

-- what is sought among the tickets of the caller of a place, and the first place whose caller has such a ticket
abbrev pub sought_at : Boarded → Sought → ℕ → Option Ticket
sought_at b sought place =
    sought_of (layout_of b) (past_of_board b) (caller_at b place).0 (lending_at b place) sought

abbrev pub has_sought : Boarded → Sought → ℕ → Bool
has_sought b sought place = is_some (sought_at b sought place)

abbrev pub place_with : Boarded → Sought → Option ℕ
place_with b sought = find (has_sought b sought) (places b)

-- ---- which caller is lent

-- The first by which nobody waits, and which may have another ticket. Where all that are free have as many tickets as
-- they may have, the first that is free.
abbrev pub first_free : List Lending → Option ℕ
first_free lent = position is_free lent

abbrev pub may_be_lent : Boarded → ℕ → Bool
may_be_lent b place = is_free (lending_at b place) && not (is_crowded (past_of_board b) (Caller (caller_at b place)))

abbrev pub lent_place : Boarded → Option ℕ
lent_place b = option_or (find (may_be_lent b) (places b)) (first_free b.lent)

-- ---- why a wait does not begin

-- the worker of the run that waits is there, and has a run
abbrev pub is_there : Layout → Option WorkerId → Bool
is_there s (Some w) = has_worker s w
is_there s None = true

-- it has a run, which does not wait already
abbrev pub has_its_run : Boarded → Option WorkerId → Bool
has_its_run b (Some w) = has_run (past_of_board b) w && not (list_any (is_wait_of w) b.lent)
has_its_run b None = true

-- numbers, the board, the run, space
abbrev pub early_fault : Boarded → Option WorkerId → Call → Option BoardFault
early_fault b run c =
    if not (is_wait c && has_numbers (layout_of b) c && is_there (layout_of b) run) then Some fault.Refused
    else if b.dispatch.failed then Some fault.Failed
    else if is_over b.dispatch || (not (is_some run) && b.dispatch.closed) then Some fault.Closed
    else if not (has_its_run b run) then Some fault.Misuse
    else if not (has_space b 3) then Some fault.Crowded
    else None

-- it would wait for its own run, or it could never end, where these runs wait already
abbrev pub stuck_now : Boarded → Option WorkerId → Call → Option Stuck
stuck_now b (Some w) c = refusal_of (layout_of b) (past_of_board b) (waiting_runs b) w c
stuck_now b None c = None

-- a run also makes a sleep and a wake
abbrev pub more_made : Option WorkerId → ℕ
more_made (Some w) = 2
more_made None = 0

-- the run goes to sleep, if it is awake
abbrev pub sleeps_first : Dispatched → Option WorkerId → Bool
sleeps_first d (Some w) = runs_awake (past_now d) w
sleeps_first d None = false

-- there is room for that
abbrev pub may_sleep : Dispatched → Option WorkerId → Bool
may_sleep d (Some w) = not (runs_awake (past_now d) w) || takes d.history (Worker w) call.Sleep
may_sleep d None = true

-- There is room for the call of this caller, and for what the run makes besides.
abbrev pub has_room_for : Dispatched → Option WorkerId → CallerId → Call → Bool
has_room_for d run caller c = takes_with d.history (Caller caller) c (more_made run) && may_sleep d run

abbrev pub room_fault : Boarded → Option WorkerId → Call → Option ℕ → Option WaitFault
room_fault b run c None = Some wait.NoCaller
room_fault b run c (Some place) =
    if has_room_for b.dispatch run (caller_at b place) c then None else Some (wait.Board fault.Full)

abbrev pub lent_fault : Boarded → Option WorkerId → Call → Option Stuck → Option WaitFault
lent_fault b run c (Some stuck) = Some (fault_of_stuck stuck)
lent_fault b run c None = room_fault b run c (lent_place b)

abbrev pub fault_or : Option BoardFault → Option WaitFault → Option WaitFault
fault_or (Some f) later = Some (wait.Board f)
fault_or None later = later

-- the place of a left ticket by which the wait can go on: of no run
abbrev pub resumed_place : Boarded → Option WorkerId → Call → Option ℕ
resumed_place b None c = place_with b (For c)
resumed_place b (Some w) c = None

abbrev pub new_fault : Boarded → Option WorkerId → Call → Option ℕ → Option WaitFault
new_fault b run c (Some place) = None
new_fault b run c None = lent_fault b run c (stuck_now b run c)

-- in the order of the runs' own waits: numbers, the board, space, itself, a deadlock, no caller, no room
abbrev pub begin_fault : Boarded → Option WorkerId → Call → Option WaitFault
begin_fault b run c = fault_or (early_fault b run c) (new_fault b run c (resumed_place b run c))

-- ---- a wait begins

abbrev pub MayEnterOf : Option WorkerId → Call → Bool → Dispatched → Dispatched → Wakes → Wakes → Type 0
MayEnterOf (Some w) c true old new before after = Enters (Worker w) c old new before after
MayEnterOf o c does old new before after = (new ≡ old) × (after ≡ before)

-- A run wakes if it sleeps. There is always room for that, as it is owed.
abbrev pub IsWoken : Option WorkerId → Dispatched → Dispatched → Wakes → Wakes → Type 0
IsWoken (Some w) old new before after =
    MayEnterOf (Some w) call.Wake (runs_asleep (past_now old) w) old new before after
IsWoken None old new before after = (new ≡ old) × (after ≡ before)

-- Somebody may fire while so many drains are unended. Nothing else changes.
pub record Settles (n : ℕ) (old new : Dispatched) (before after : Wakes) : Type 0 where
  pub settled : new ≡ record old { firing = firing_for n; asleep = new.asleep }
  pub named : (who : Who) → SleepOn who old.asleep new.asleep before after

-- the run of which this says that it went to sleep
abbrev pub if_slept : Bool → Option WorkerId → Option WorkerId
if_slept slept run = if slept then run else None

-- after the call: with a ticket the run that went to sleep waits, and else it wakes
abbrev pub ThenWaits : Bool → Option WorkerId → Dispatched → Dispatched → Wakes → Wakes → Type 0
ThenWaits true slept old new before after = (new ≡ old) × (after ≡ before)
ThenWaits false slept old new before after = IsWoken slept old new before after

-- The run sleeps if it is awake, and then the caller makes the call, whose entry has this number.
pub record BeginsWait (run : Option WorkerId) (caller : CallerId) (c : Call) (r : Reply) (n : ℕ) (old new : Dispatched)
    (before after : Wakes) : Type 0 where
  pub asleep : Dispatched
  pub called : Dispatched
  pub then_asleep : Wakes
  pub then_called : Wakes
  pub sleeps : MayEnterOf run call.Sleep (sleeps_first old run) old asleep before then_asleep
  pub calls : Enters (Caller caller) c asleep called then_asleep then_called
  pub reply : r ≡ (next_entry asleep.history (Caller caller) c).reply
  pub number : n ≡ length asleep.history.entries
  pub waits : ThenWaits (gives_ticket r) (if_slept (sleeps_first old run) run) called new then_called after

-- what the caller does from then on, and what the wait became
abbrev pub lending_by : Option WorkerId → Bool → Ticket → Reply → Lending
lending_by run slept t r = if gives_ticket r then Waits t run slept else Free

abbrev pub begun_by : CallerId → Reply → Begun
begun_by c r = if gives_ticket r then begun.Waits c r else begun.Ended r

abbrev pub with_firing : Dispatched → Dispatched
with_firing d = record d { firing = 1 }

-- A new ticket, by a caller that may be lent. Somebody may fire meanwhile, so that it is not over.
pub record BeginsAnew (run : Option WorkerId) (c : Call) (answer : Begun) (old new : Boarded) (before after : Wakes)
    : Type 0 where
  pub place : ℕ
  pub is_first : lent_place old ≡ Some place
  pub reply : Reply
  pub number : ℕ
  pub called : Dispatched
  pub then_called : Wakes
  pub waits : BeginsWait run (caller_at old place) c reply number (with_firing old.dispatch) called before then_called
  pub begun : answer ≡ begun_by (caller_at old place) reply
  pub lent : new.lent ≡ slice_set old.lent place (lending_by run (sleeps_first old.dispatch run)
      (record { caller = caller_at old place; call = c; number = number }) reply)
  pub settles : Settles (unended_drains (past_now called)) called new.dispatch then_called after
  pub kept : (new.given ≡ old.given) × (new.keeps ≡ old.keeps)
  pub news : new.news ≡ old.news

-- The wait goes on by a ticket that was left, with the reply that a new call would get but for its number. No entry is
-- made.
abbrev pub resumed_reply : Ticket → Call → Reply
resumed_reply t (call.CancelSync i) = reply.TicketNo t.number
resumed_reply t c = reply.Ticket t.number

pub record Resumes (place : ℕ) (c : Call) (answer : Begun) (old new : Boarded) : Type 0 where
  pub ticket : Ticket
  pub was_left : sought_at old (For c) place ≡ Some ticket
  pub begun : answer ≡ begun.Waits (caller_at old place) (resumed_reply ticket c)
  pub new_is : new ≡ record old { lent = slice_set old.lent place (Waits ticket None false) }

abbrev pub BeginsAt : Option ℕ → Option WorkerId → Call → Begun → Boarded → Boarded → Wakes → Wakes → Type 0
BeginsAt (Some place) run c answer old new before after = Resumes place c answer old new × (after ≡ before)
BeginsAt None run c answer old new before after = BeginsAnew run c answer old new before after

abbrev pub Begins : Option WorkerId → Call → Begun → Boarded → Boarded → Wakes → Wakes → Type 0
Begins run c answer old new before after = BeginsAt (resumed_place old run c) run c answer old new before after

-- ---- a wait ends

abbrev pub is_waiting : Lending → Bool
is_waiting (Waits t run slept) = true
is_waiting l = false

abbrev pub MayFire : Bool → CallerId → Dispatched → Dispatched → Wakes → Wakes → Type 0
MayFire true c old new before after = FiresDue c old new before after
MayFire false c old new before after = (new ≡ old) × (after ≡ before)

-- The end of the ticket is done. After a drain what is due is fired, and then the run wakes.
pub record EndsTicket (t : Ticket) (run : Option WorkerId) (old new : Dispatched) (before after : Wakes)
    : Type 0 where
  pub ended : Dispatched
  pub fired : Dispatched
  pub then_ended : Wakes
  pub then_fired : Wakes
  pub done : is_done (next_entry old.history (Caller t.caller) (call.End t.number)).reply ≡ true
  pub ends : Enters (Caller t.caller) (call.End t.number) old ended before then_ended
  pub fires : MayFire (is_drain t.call) t.caller ended fired then_ended then_fired
  pub wakes : IsWoken run fired new then_fired after

-- Whoever sleeps until something is completed is named, as whoever keeps the time does: a timer that a drain held back
-- may fire earlier than was known.
abbrev pub TellsTime : Bool → Wakes → Wakes → Type 0
TellsTime true before after = (names_completions after ≡ true) × NamesMore before after
TellsTime false before after = after ≡ before

-- The ticket is ended, and what its caller does, and the news, is this from then on.
pub record EndsBy (t : Ticket) (run : Option WorkerId) (callers : List Lending) (news : News) (old new : Boarded)
    (before after : Wakes) : Type 0 where
  pub ended : Dispatched
  pub then_ended : Wakes
  pub then_settled : Wakes
  pub ends : EndsTicket t run old.dispatch ended before then_ended
  pub settles : Settles (unended_drains (past_now ended)) ended new.dispatch then_ended then_settled
  pub tells : TellsTime (is_drain t.call) then_settled after
  pub lent : new.lent ≡ callers
  pub told : new.news ≡ news
  pub kept : (new.given ≡ old.given) × (new.keeps ≡ old.keeps)

-- the caller of the place may be lent again
abbrev pub EndsAt : ℕ → Ticket → Option WorkerId → Boarded → Boarded → Wakes → Wakes → Type 0
EndsAt place t run old new before after =
    EndsBy t run (slice_set old.lent place Free) (after_end t.call old.news) old new before after

-- the first ticket is ended that was left and is ready
pub record EndsFirst (old new : Boarded) (before after : Wakes) : Type 0 where
  pub place : ℕ
  pub ticket : Ticket
  pub first : place_with old Ready ≡ Some place
  pub ready : sought_at old Ready place ≡ Some ticket
  pub space : has_space old (most_made (layout_of old)) ≡ true
  pub ends : EndsBy ticket None old.lent (after_left ticket.call old.news) old new before after
  pub tickets : EndsTicketOf ticket (past_of_board old) (past_of_board new)
  pub drains : is_drain ticket.call ≡ false
      → unended_drains (past_of_board new) ≡ unended_drains (past_of_board old)

pub data EndsLeft : Boarded → Boarded → Wakes → Wakes → Type 0 where
  nothing : (b : Boarded) (w : Wakes) → EndsLeft b b w w
  more : (a b c : Boarded) (u v w : Wakes) → EndsLeft a b u v → EndsFirst b c v w → EndsLeft a c u w

-- one after another, until none is ready that was left, or there is no space for its end
pub record Clears (old new : Boarded) (before after : Wakes) : Type 0 where
  pub ends : EndsLeft old new before after
  pub clear : (place_with new Ready ≡ None) ⊎ (has_space new (most_made (layout_of new)) ≡ false)

-- a step, and then the end of the tickets that were left and are ready
pub record ThenClears (Step : Boarded → Boarded → Wakes → Wakes → Type 0) (old new : Boarded) (before after : Wakes)
    : Type 0 where
  pub mid : Boarded
  pub meanwhile : Wakes
  pub step : Step old mid before meanwhile
  pub clears : Clears mid new meanwhile after

-- the place of a lent caller
abbrev pub place_of : Boarded → CallerId → Option ℕ
place_of b c = first_place (layout_of b) b.lent c.0

abbrev pub waiting_at : Boarded → Option ℕ → Bool
waiting_at b (Some place) = is_waiting (lending_at b place)
waiting_at b None = false

-- its ticket waits for nothing any more
abbrev pub is_ready_at : Boarded → Option ℕ → Bool
is_ready_at b (Some place) = option_map_or (is_done_waiting (past_of_board b)) (ticket_at (lending_at b place)) false
is_ready_at b None = false

abbrev pub end_fault : Boarded → CallerId → Option BoardFault
end_fault b c = if not (is_some (place_of b c)) then Some fault.Refused
    else if not (waiting_at b (place_of b c)) then Some fault.Misuse
    else if b.dispatch.failed then Some fault.Failed
    else if is_ready_at b (place_of b c) && not (has_space b (most_made (layout_of b))) then Some fault.Crowded
    else None

-- the caller is awake again, and nothing else changes
pub record IsAwake (c : CallerId) (old new : Boarded) : Type 0 where
  pub same : new ≡ with_asleep old new.dispatch.asleep
  pub awake : IsUpAgain (Caller c) old.dispatch.asleep new.dispatch.asleep

-- the caller is awake again, and then this is done
pub record IsAwakeThen (c : CallerId) (Then : Boarded → Type 0) (old : Boarded) : Type 0 where
  pub awake : Boarded
  pub awakes : IsAwake c old awake
  pub next : Then awake

-- The caller begins to sleep until its ticket is ready, or has to look again, or it is over.
abbrev pub WaitsOn : Ticket → Sleep → Boarded → Boarded → Type 0
WaitsOn t instead awake new =
    FallsAsleep (SleepsFor t) awake.dispatch instead new.dispatch × (new ≡ with_dispatch awake new.dispatch)

-- it has ended, or it is not ready
abbrev pub Ends : ℕ → Lending → Ended → Boarded → Wakes → Wakes → Boarded → Type 0
Ends place (Waits t run slept) Done new before after awake =
    ThenClears (EndsAt place t (if_slept slept run)) awake new before after
Ends place (Waits t run slept) (Not instead) new before after awake = WaitsOn t instead awake new × (after ≡ before)
Ends place l answer new before after awake = ⊥

pub record EndsOrWaits (c : CallerId) (answer : Ended) (old new : Boarded) (before after : Wakes) : Type 0 where
  pub place : ℕ
  pub is_place : place_of old c ≡ Some place
  pub ends : IsAwakeThen c (Ends place (lending_at old place) answer new before after) old

-- the run that went to sleep for the wait of a caller, if one did
abbrev pub sleeper : Lending → Option WorkerId
sleeper Free = None
sleeper (Waits t run slept) = if_slept slept run

abbrev pub sleeper_at : Boarded → Option ℕ → Option WorkerId
sleeper_at b (Some place) = sleeper (lending_at b place)
sleeper_at b None = None

-- It sleeps no more once the wait has ended.
abbrev pub SleepsNoMore : CallerId → Ended → Boarded → Boarded → Type 0
SleepsNoMore c ended old new = (w : WorkerId) → ended ≡ Done → sleeper_at old (place_of old c) ≡ Some w
    → runs_asleep (past_of_board new) w ≡ false

-- ---- a wait is left

abbrev pub leave_fault : Boarded → CallerId → Option BoardFault
leave_fault b c = if not (is_some (place_of b c)) then Some fault.Refused
    else if not (waiting_at b (place_of b c)) then Some fault.Misuse
    else if b.dispatch.failed then Some fault.Failed
    else None

-- nobody waits for the ticket any more
abbrev pub IsLeft : ℕ → Boarded → Boarded → Type 0
IsLeft place new awake = new ≡ record awake { lent = slice_set awake.lent place Free }

-- the worker whose run waits by a caller, if one does
abbrev pub waiter : Lending → Option WorkerId
waiter Free = None
waiter (Waits t run slept) = run

abbrev pub waiter_at : Boarded → Option ℕ → Option WorkerId
waiter_at b (Some place) = waiter (lending_at b place)
waiter_at b None = None

-- The run that waited by this caller waits no more, so that it may begin another wait.
abbrev pub WaitsNoMore : CallerId → Boarded → Boarded → Type 0
WaitsNoMore c old new =
    (w : WorkerId) → waiter_at old (place_of old c) ≡ Some w → list_any (is_wait_of w) new.lent ≡ false
