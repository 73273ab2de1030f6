-- What a call leaves, by its answer. Of a caller it leaves what its view says, and of a run also what is known of it.
use Rattle.std.specs.Prelude.{◌≡◌}
use Rattle.cmwq_rt.specs.Common.{true, ℕ, Result, Err, IfOk, IfErr, Call, Reply, Layout, View, RunFault}
use Rattle.cmwq_rt.specs.Common.{Extends, Refused, Completes, BrokeOff}
use Rattle.cmwq_rt.specs.Later.{Later}
use Rattle.cmwq_rt.specs.Running.{Running, fault_after}
use Rattle.cmwq_rt.specs.Waiting.{HasWaited, WhyNot, fault_after_wait, is_for_itself, left_out_after}
use Rattle.cmwq_rt.specs.declared.wait_fault.WaitFault.{WaitFault}
use Rattle.cmwq_rt.specs.declared.wait_fault.WaitFault.TheVariants.{Itself}

-- a caller's call of one entry
pub record MadeOrRefused (s : Layout) (v : View) (c : Call) (answer : Result Reply RunFault) (w : View) : Type 0 where
  pub made : IfOk answer (λ r. Extends s v c r w)
  pub refused : IfErr answer (λ f. Refused s v c f w)

-- a caller's call of several entries
pub record DoneOrBrokeOff (s : Layout) (v : View) (c : Call) (answer : Result Reply RunFault) (w : View) : Type 0 where
  pub done : IfOk answer (λ r. Completes s v c r w)
  pub broke : IfErr answer (λ f. BrokeOff s v c f w)

-- A run's call of one entry. The run is the same, keeps the fault, and has left out no wait.
pub record MadeInRun (s : Layout) (v : Running) (c : Call) (answer : Result Reply RunFault) (w : Running) : Type 0 where
  pub later : Later v.participant w.participant
  pub made : IfOk answer (λ r. Extends s v.participant c r w.participant)
  pub refused : IfErr answer (λ f. Refused s v.participant c f w.participant)
  pub fault : w.fault ≡ fault_after answer v.fault
  pub item : w.item ≡ v.item
  pub left_out : w.left_out ≡ v.left_out

-- A run's call by which it waits. The run is the same, keeps the fault, and counts the wait if it left it out. One for
-- itself changes nothing; another that was left out tells why, after all entries that the run sees then. Callers from
-- the number `first` on are lent to runs.
pub record WaitedInRun (s : Layout) (first : ℕ) (v : Running) (c : Call) (answer : Result Reply WaitFault) (w : Running)
    : Type 0 where
  pub later : Later v.participant w.participant
  pub waited : IfOk answer (λ r. HasWaited s first v.participant c r w.participant)
  pub itself : is_for_itself v.item c ≡ true → (answer ≡ Err Itself) × (w.participant ≡ v.participant)
  pub why : IfErr answer (λ f. WhyNot s first v.item v.participant c f w.participant)
  pub fault : w.fault ≡ fault_after_wait answer v.fault
  pub item : w.item ≡ v.item
  pub left_out : w.left_out ≡ left_out_after answer v.left_out
