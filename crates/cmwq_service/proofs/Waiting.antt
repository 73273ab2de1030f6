-- What a run's wait leaves, as a service sees it.
use Rattle.std.proofs.Common.{◌≡◌, ℕ, Err, Some, refl, subst, sym}
use Rattle.cmwq_model.specs.Prelude.{Layout}
use Rattle.cmwq_model.specs.declared.call.Call.{Call}
use Rattle.cmwq_monitor.specs.declared.fault.RunFault.{RunFault}
use Rattle.cmwq_monitor.specs.declared.fault.RunFault.TheVariants.{Full}
use Rattle.cmwq_rt.specs.Promises.{WaitedInRun}
use Rattle.cmwq_rt.specs.Running.{Running}
use Rattle.cmwq_rt.specs.Waiting.{WhyNot}
use Rattle.cmwq_rt.specs.declared.wait_fault.WaitFault.{WaitFault}
use Rattle.cmwq_rt.specs.declared.wait_fault.WaitFault.TheVariants as wait
use Rattle.cmwq_service.specs.Calls.{IsFaultOfWait, WaitedOrNot, awaited_by, fault_of_wait}
use Rattle.cmwq_service.specs.declared.fault.Awaited.{Awaited}
use Rattle.cmwq_service.specs.declared.fault.Fault.{Fault}

was_left_out : (s : Layout) (first : ℕ) (v w : Running) (c : Call) (f : WaitFault) (a : Awaited) → WaitedInRun s first v c (Err f) w
    → awaited_by c ≡ Some a → WaitedOrNot s first v.item v.participant c (Err (fault_of_wait v.item a f)) w.participant
was_left_out s first v w c wait.Itself a x is = record {
  waited = tt;
  unwaited = record { item = refl; awaited = is; reason = x.why };
  itself = λ own numbers. (tt, (x.itself own).1);
  full = λ same. absurd (cc same);
}
was_left_out s first v w c wait.Deadlock a x is = record {
  waited = tt;
  unwaited = record { item = refl; awaited = is; reason = x.why };
  itself = λ own numbers. absurd (cc (x.itself own).0);
  full = λ same. absurd (cc same);
}
was_left_out s first v w c wait.NoCaller a x is = record {
  waited = tt;
  unwaited = record { item = refl; awaited = is; reason = x.why };
  itself = λ own numbers. absurd (cc (x.itself own).0);
  full = λ same. absurd (cc same);
}
was_left_out s first v w c (wait.Run f) a x is = record {
  waited = tt;
  unwaited = x.later;
  itself = λ own numbers. absurd (cc (x.itself own).0);
  full = λ same.
      let is_full : f ≡ Full = cc same in
      subst (λ (g : RunFault). WhyNot s first v.item v.participant c (wait.Run g) w.participant) is_full x.why;
}

-- a wait that was left out, or broke off, as its fault tells
pub not_waited : (s : Layout) (first : ℕ) (v w : Running) (c : Call) (f : WaitFault) (g : Fault) → WaitedInRun s first v c (Err f) w
    → IsFaultOfWait v.item c f g → WaitedOrNot s first v.item v.participant c (Err g) w.participant
not_waited s first v w c f g x (a, awaited, is) =
    subst (λ (e : Fault). WaitedOrNot s first v.item v.participant c (Err e) w.participant) (sym is)
    (was_left_out s first v w c f a x awaited)
