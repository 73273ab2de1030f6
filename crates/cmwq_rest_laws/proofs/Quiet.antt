-- No caller that sleeps would end its wait.
use Rattle.std.specs.Prelude.{Contains}
use Rattle.cmwq_theory_steps.specs.Common.{◌≡◌, false, Caller, Ticket, answer, is_done}
use Rattle.cmwq_lemmas.proofs.Members.{contained_in, of_in}
use Rattle.cmwq_model.specs.declared.call.Call.TheVariants as call
use Rattle.cmwq_theory_wakes.specs.Rest.{IsOfItsCall, IsUnready}
use Rattle.cmwq_theory_wakes.proofs.Resting.{unready_not_done}
use Rattle.cmwq_dispatch.specs.Dispatched.{Dispatched, Stands, past_now}

pub sleeper_not_done : (d : Dispatched) → Stands d → (t : Ticket) → Contains d.asleep.tickets t
    → is_done (answer d.history.layout (past_now d) (Caller t.caller) (call.End t.number)) ≡ false
sleeper_not_done d stands t here =
    let none = stands.looked_after.none_forgotten in
    let at = contained_in d.asleep.tickets t here in
    unready_not_done d.history.layout (past_now d) t
    (of_in (IsOfItsCall (past_now d)) d.asleep.tickets t none.known at)
    (of_in (IsUnready (past_now d)) d.asleep.tickets t none.callers at)
