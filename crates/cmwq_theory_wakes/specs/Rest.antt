-- Nobody could go on where everybody sleeps and nobody is forgotten.
use Rattle.std.specs.Prelude.{◌≡◌}
use Rattle.cmwq_theory_steps.specs.Common.{ℕ, Bool, true, false, List, Option, Some, option_map, is_some}
use Rattle.cmwq_theory_steps.specs.Common.{AllByRecursion, PoolId, WorkerId, Caller, Worker, Entry, Ticket, Layout}
use Rattle.cmwq_theory_steps.specs.Common.{entry_at, is_done, number_started, answer}
use Rattle.cmwq_theory_steps.specs.Histories.{OfLegal}
use Rattle.cmwq_model.specs.declared.call.Call.{Call}
use Rattle.cmwq_model.specs.declared.call.Call.TheVariants as call
use Rattle.cmwq_theory_wakes.specs.Readiness.{is_unready}
use Rattle.cmwq_theory_wakes.specs.Starting.{worker_is_idle, IsAttended}

-- the call of the entry with this number
abbrev pub call_at : List Entry → ℕ → Option Call
call_at past n = option_map (λ (e : Entry). e.call) (entry_at past n)

-- The ticket has the call of its entry.
abbrev pub IsOfItsCall : List Entry → Ticket → Type 0
IsOfItsCall past t = call_at past t.number ≡ Some t.call

abbrev pub IsUnready : List Entry → Ticket → Type 0
IsUnready past t = is_unready past t.number t.call ≡ true

-- The callers of these tickets sleep, and have not been told to wake. Nobody is forgotten if each of these tickets has
-- the call of its entry and is not ready, and if each pool is attended.
pub record NoneForgotten (s : Layout) (past : List Entry) (tickets : List Ticket)
    (rests : WorkerId → Bool) : Type 0 where
  pub known : AllByRecursion (IsOfItsCall past) tickets
  pub callers : AllByRecursion (IsUnready past) tickets
  pub workers : (p : PoolId) → IsAttended s past rests p

-- No end of these tickets would return done, and no worker would start anything.
abbrev pub NobodyGoesOn : Layout → List Entry → List Ticket → Type 0
NobodyGoesOn s past tickets =
    AllByRecursion (λ t. is_done (answer s past (Caller t.caller) (call.End t.number)) ≡ false) tickets
    × ((w : WorkerId) → is_some (number_started (answer s past (Worker w) call.Take)) ≡ false)

-- If nobody is forgotten and every idle worker rests, nobody could go on.
abbrev pub AtRestNobodyGoesOn : Type 0
AtRestNobodyGoesOn =
    OfLegal (λ s past. (tickets : List Ticket) (rests : WorkerId → Bool) → NoneForgotten s past tickets rests
    → ((w : WorkerId) → worker_is_idle past w ≡ true → rests w ≡ true) → NobodyGoesOn s past tickets)
