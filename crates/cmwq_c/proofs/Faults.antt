-- At a fault a call isn't done, and what is done has its own statuses.
use Rattle.std.proofs.Common.{◌≡◌, ◌∙◌, ℕ, ap, arith, refl, sym}
use Rattle.cmwq_board.specs.declared.board.Begun.{Begun}
use Rattle.cmwq_board.specs.declared.board.Begun.TheVariants as begun
use Rattle.cmwq_board.specs.declared.board.Ended.{Ended}
use Rattle.cmwq_board.specs.declared.board.Ended.TheVariants.{Done, Not}
use Rattle.cmwq_board.specs.declared.board.Start.{Start}
use Rattle.cmwq_board.specs.declared.board.Start.TheVariants as start
use Rattle.cmwq_board.specs.declared.fault.BoardFault.{BoardFault}
use Rattle.cmwq_board.specs.declared.fault.BoardFault.TheVariants as fault
use Rattle.cmwq_board.specs.declared.fault.WaitFault.{WaitFault}
use Rattle.cmwq_board.specs.declared.fault.WaitFault.TheVariants as wait
use Rattle.cmwq_dispatch.specs.declared.dispatch.Sleep.TheVariants as sleep
use Rattle.cmwq_c.specs.BoardStatuses.{begin_done, begun_number, end_done, ended_number, fault_number, start_done}
use Rattle.cmwq_c.specs.BoardStatuses.{start_number, wait_fault_number}

not_done : (f : BoardFault) → fault_number f ≡ 0 → ⊥
not_done fault.Refused is = omega (arith, is)
not_done fault.Failed is = omega (arith, is)
not_done fault.Closed is = omega (arith, is)
not_done fault.Misuse is = omega (arith, is)
not_done fault.Crowded is = omega (arith, is)
not_done fault.Full is = omega (arith, is)

not_begun : (f : WaitFault) → wait_fault_number f ≡ 0 → ⊥
not_begun (wait.Board f) is = not_done f is
not_begun wait.Itself is = omega (arith, is)
not_begun wait.Deadlock is = omega (arith, is)
not_begun wait.NoCaller is = omega (arith, is)

pub start_fault_stays : (f : BoardFault) → start_done (fault_number f) ≡ fault_number f
start_fault_stays fault.Refused = refl
start_fault_stays fault.Failed = refl
start_fault_stays fault.Closed = refl
start_fault_stays fault.Misuse = refl
start_fault_stays fault.Crowded = refl
start_fault_stays fault.Full = refl

pub end_fault_stays : (f : BoardFault) → end_done (fault_number f) ≡ fault_number f
end_fault_stays fault.Refused = refl
end_fault_stays fault.Failed = refl
end_fault_stays fault.Closed = refl
end_fault_stays fault.Misuse = refl
end_fault_stays fault.Crowded = refl
end_fault_stays fault.Full = refl

pub begin_fault_stays : (f : WaitFault) → begin_done (wait_fault_number f) ≡ wait_fault_number f
begin_fault_stays (wait.Board fault.Refused) = refl
begin_fault_stays (wait.Board fault.Failed) = refl
begin_fault_stays (wait.Board fault.Closed) = refl
begin_fault_stays (wait.Board fault.Misuse) = refl
begin_fault_stays (wait.Board fault.Crowded) = refl
begin_fault_stays (wait.Board fault.Full) = refl
begin_fault_stays wait.Itself = refl
begin_fault_stays wait.Deadlock = refl
begin_fault_stays wait.NoCaller = refl

pub start_is_done : (s : Start) → start_done (start_number s) ≡ 0
start_is_done (start.Runs i n) = refl
start_is_done start.Rests = refl
start_is_done start.Over = refl

pub begin_is_done : (b : Begun) → begin_done (begun_number b) ≡ 0
begin_is_done (begun.Ended r) = refl
begin_is_done (begun.Waits party r) = refl

pub end_is_done : (e : Ended) → end_done (ended_number e) ≡ 0
end_is_done Done = refl
end_is_done (Not sleep.Sleeps) = refl
end_is_done (Not sleep.Over) = refl
end_is_done (Not sleep.LooksAgain) = refl

-- a status is that of a fault, or of what is done

pub never_done : (f : BoardFault) (status : ℕ) → status ≡ fault_number f → status ≡ 0 → ⊥
never_done f status is done = not_done f (sym is ∙ done)

pub never_started : (f : BoardFault) (status : ℕ) → status ≡ fault_number f → start_done status ≡ 0 → ⊥
never_started f status is done = not_done f (sym (start_fault_stays f) ∙ sym (ap start_done is) ∙ done)

pub wait_never_begun : (f : WaitFault) (status : ℕ) → status ≡ wait_fault_number f → begin_done status ≡ 0 → ⊥
wait_never_begun f status is done = not_begun f (sym (begin_fault_stays f) ∙ sym (ap begin_done is) ∙ done)

pub never_ended : (f : BoardFault) (status : ℕ) → status ≡ fault_number f → end_done status ≡ 0 → ⊥
never_ended f status is done = not_done f (sym (end_fault_stays f) ∙ sym (ap end_done is) ∙ done)
