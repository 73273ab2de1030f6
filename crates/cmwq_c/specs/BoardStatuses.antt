-- The statuses of a board's calls.
use Rattle.cmwq_c.specs.Common.{Who, Caller, Worker, Call, Entry, Reply, nat_lt}
use Rattle.std.specs.Prelude.{ℕ, ◌+◌, ◌==◌, ◌||◌, ◌&&◌, if◌then◌else◌, nat_le, List, [], ◌∷◌, length}
use Rattle.std.specs.Prelude.{Option, None, Some, Result, Ok, Err}
use Rattle.cmwq_model.specs.declared.id.CallerId.{CallerId}
use Rattle.cmwq_model.specs.declared.id.WorkerId.{WorkerId}
use Rattle.cmwq_text.specs.EntryText.{entry_text}
use Rattle.cmwq_board.specs.Boarded.{Boarded, layout_of}
use Rattle.cmwq_board.specs.Machine.{bare, step}
use Rattle.cmwq_board.specs.Machine.Move.{Calls as CallMove, Finishes as FinishMove, Leaves as LeaveMove}
use Rattle.cmwq_board.specs.Machine.Move.{Advances as AdvanceMove, Starts as StartMove}
use Rattle.cmwq_board.specs.Waits.{begin_fault, end_fault}
use Rattle.cmwq_board.specs.declared.board.Begun.{Begun}
use Rattle.cmwq_board.specs.declared.board.Begun.TheVariants as begun
use Rattle.cmwq_board.specs.declared.board.Ended.{Ended}
use Rattle.cmwq_board.specs.declared.board.Ended.TheVariants.{Done, Not}
use Rattle.cmwq_board.specs.declared.board.Start.{Start}
use Rattle.cmwq_board.specs.declared.board.Start.TheVariants as start
use Rattle.cmwq_board.specs.declared.board.Start.TheVariants.{Runs, Rests}
use Rattle.cmwq_dispatch.specs.declared.dispatch.Sleep.TheVariants as sleep
use Rattle.cmwq_dispatch.specs.declared.dispatch.Sleep.TheVariants.{Sleeps, LooksAgain}
use Rattle.cmwq_board.specs.declared.fault.BoardFault.{BoardFault}
use Rattle.cmwq_board.specs.declared.fault.BoardFault.TheVariants as fault
use Rattle.cmwq_board.specs.declared.fault.WaitFault.{WaitFault}
use Rattle.cmwq_board.specs.declared.fault.WaitFault.TheVariants as wait
use Rattle.cmwq_board.specs.declared.news.News.{News}
use Rattle.cmwq_c.specs.Lined.{Lined}
use Rattle.cmwq_c.specs.Statuses.{found_status, space_status}

-- why a call made no entry
abbrev pub fault_number : BoardFault → ℕ
fault_number fault.Refused = 1
fault_number fault.Full = 3
fault_number fault.Crowded = 6
fault_number fault.Closed = 8
fault_number fault.Failed = 9
fault_number fault.Misuse = 10

-- why a wait did not begin
abbrev pub wait_fault_number : WaitFault → ℕ
wait_fault_number (wait.Board f) = fault_number f
wait_fault_number wait.Itself = 11
wait_fault_number wait.Deadlock = 12
wait_fault_number wait.NoCaller = 13

-- 0 where there is no fault
abbrev pub fault_status : Option BoardFault → ℕ
fault_status None = 0
fault_status (Some f) = fault_number f

abbrev pub wait_fault_status : Option WaitFault → ℕ
wait_fault_status None = 0
wait_fault_status (Some f) = wait_fault_number f

-- of what a move came to
abbrev pub outcome_status : {A : Type 0} → Result A BoardFault → ℕ
outcome_status (Ok a) = 0
outcome_status (Err f) = fault_number f

-- ---- of each call, by the meaning of its numbers: 1 where these mean none

abbrev pub single_status : Boarded → Option (Who × Call) → ℕ
single_status b None = 1
single_status b (Some asked) = outcome_status (step (bare b) (CallMove asked.0 asked.1)).outcome

abbrev pub start_status : Boarded → Option WorkerId → ℕ
start_status b None = 1
start_status b (Some w) = outcome_status (step (bare b) (StartMove w)).outcome

abbrev pub finish_status : Boarded → Option WorkerId → ℕ
finish_status b None = 1
finish_status b (Some w) = outcome_status (step (bare b) (FinishMove w)).outcome

-- the run that waits, where a worker calls
abbrev pub run_of : Who → Option WorkerId
run_of (Caller c) = None
run_of (Worker w) = Some w

abbrev pub begin_status : Boarded → Option (Who × Call) → ℕ
begin_status b None = 1
begin_status b (Some asked) = wait_fault_status (begin_fault b (run_of asked.0) asked.1)

abbrev pub caller_of : ℕ → CallerId
caller_of n = record { 0 = n }

abbrev pub end_status : Boarded → ℕ → ℕ
end_status b party = fault_status (end_fault b (caller_of party))

abbrev pub leave_status : Boarded → ℕ → ℕ
leave_status b party = outcome_status (step (bare b) (LeaveMove (caller_of party))).outcome

abbrev pub advance_status : Boarded → ℕ → ℕ → ℕ
advance_status b caller ticks = outcome_status (step (bare b) (AdvanceMove (caller_of caller) ticks)).outcome

abbrev pub item_status : Boarded → ℕ → ℕ
item_status b item = found_status (nat_lt item (layout_of b).items)

-- ---- calls that can be done in more than one way, and what they write

abbrev pub start_number : Start → ℕ
start_number (Runs i n) = 0
start_number Rests = 15
start_number start.Over = 16

abbrev pub item_after : Start → ℕ → ℕ
item_after (Runs i n) old = i.0
item_after Rests old = old
item_after start.Over old = old

abbrev pub number_after : Start → ℕ → ℕ
number_after (Runs i n) old = n
number_after Rests old = old
number_after start.Over old = old

abbrev pub begun_number : Begun → ℕ
begun_number (begun.Ended r) = 0
begun_number (begun.Waits party r) = 14

abbrev pub party_after : Begun → ℕ → ℕ
party_after (begun.Ended r) old = old
party_after (begun.Waits party r) old = party.0

abbrev pub begun_reply : Begun → Reply
begun_reply (begun.Ended r) = r
begun_reply (begun.Waits party r) = r

abbrev pub ended_number : Ended → ℕ
ended_number Done = 0
ended_number (Not Sleeps) = 14
ended_number (Not sleep.Over) = 16
ended_number (Not LooksAgain) = 17

-- 0 in place of each status at which it is done
abbrev pub start_done : ℕ → ℕ
start_done status = if status == 15 || status == 16 then 0 else status

abbrev pub begin_done : ℕ → ℕ
begin_done status = if status == 14 then 0 else status

abbrev pub end_done : ℕ → ℕ
end_done status = if status == 14 || status == 16 || status == 17 then 0 else status

-- ---- what has changed

-- bits: a ticket that was left has ended; a timer may be due earlier
abbrev pub news_number : News → ℕ
news_number n = (if n.left_ended then 1 else 0) + (if n.due_earlier then 2 else 0)

-- ---- of lines

-- 1 where entries are left, or the lines cannot hold as many as the board keeps
abbrev pub hand_out_status : Boarded → Lined → ℕ
hand_out_status b l = found_status ((length l.left == 0) && nat_le b.keeps l.holds)

-- 5 where not even the first line is held
abbrev pub write_status : List Entry → ℕ → ℕ
write_status [] room = 0
write_status (e ∷ es) room = space_status room (entry_text e)
