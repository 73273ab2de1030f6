-- The runs that wait in a play are waiting, and no run waits twice.
use Rattle.std.specs.List.{fold}
use Rattle.std.specs.Option.{option_map_or}
use Rattle.std.specs.Prelude.{if◌then◌else◌, option_and_then, option_map}
use Rattle.std.proofs.Common.{◌≡◌, ◌++◌, ◌∷◌, ℕ, Bool, true, false, List, [], Option, None, Some, arith, filter, refl}
use Rattle.std.proofs.Common.{subst, ⊎_elim}
use Rattle.cmwq_lemmas.proofs.Members.{In, contained_in, in_append, in_contained, in_filter}
use Rattle.cmwq_model.specs.Prelude.{IsLegal, ticket_of}
use Rattle.cmwq_model.specs.declared.entry.Entry.{Entry}
use Rattle.cmwq_model.specs.declared.id.CallerId.{CallerId}
use Rattle.cmwq_model.specs.declared.id.Who.TheVariants.{Caller, Worker}
use Rattle.cmwq_model.specs.declared.id.WorkerId.{WorkerId}
use Rattle.cmwq_model.specs.declared.record.Queueing.{Queueing}
use Rattle.cmwq_model.specs.declared.record.Ticket.{Ticket}
use Rattle.cmwq_theory_steps.specs.ItemQueueings.{queueing_run}
use Rattle.cmwq_state.proofs.Ends.{found_unended}
use Rattle.cmwq_core.specs.History.{History, past_in}
use Rattle.cmwq_waits.specs.HeldUp.{AreWaiting, IsWaiting}
use Rattle.cmwq_waits.specs.Refused.{AreApart, is_other}
use Rattle.cmwq_waits.specs.Registered.{registered, wait_of}
use Rattle.cmwq_waits.specs.declared.run_wait.RunWait.{RunWait}
use Rattle.cmwq_waits.proofs.Exact.{apart_with}
use Rattle.cmwq_waits.proofs.Running.{is_running}
use Rattle.cmwq_play.specs.Waiting.{are_there, noted_doing}
unfoldable use Rattle.cmwq_play.specs.Waiting.{noted, noted_at, waits_in}
use Rattle.cmwq_play.specs.declared.place.Doing.{Doing}
use Rattle.cmwq_play.specs.declared.place.Doing.TheVariants.{Acts, AtGate, AtLock, Waits}
use Rattle.cmwq_play.specs.declared.place.RunAt.{RunAt}
use Rattle.cmwq_play.specs.declared.place.WorkerAt.{WorkerAt}

-- ---- what holds of no waits, and stays so when one is added, holds of those of a play

module _ (h : History) (Holds : List RunWait → Type 0)
    (stays : (waits : List RunWait) (w : WorkerId) (c : CallerId) (n : ℕ) → Holds waits
    → Holds (registered waits (wait_of (past_in h) w c n))) where
  noted_holds : (waits : List RunWait) (w : WorkerId) (c : CallerId) (n : ℕ) → Holds waits
      → Holds (noted h waits w c n)
  unfolding noted
  noted_holds waits w c n holds = at (are_there h.layout w c n)
    where
      at : (b : Bool) → Holds (if b then registered waits (wait_of (past_in h) w c n) else waits)
      at true = stays waits w c n holds
      at false = holds

  doing_holds : (waits : List RunWait) (w : WorkerId) (d : Doing) → Holds waits → Holds (noted_doing h waits w d)
  doing_holds waits w (Waits c t) holds = noted_holds waits w (record { 0 = c }) t.ticket holds
  doing_holds waits w Acts holds = holds
  doing_holds waits w (AtGate gate slept) holds = holds
  doing_holds waits w (AtLock lock slept) holds = holds

  worker_holds : (waits : List RunWait) (at : WorkerAt) → Holds waits → Holds (noted_at h waits at)
  unfolding noted_at
  worker_holds waits at holds = of at.run
    where
      of : (o : Option RunAt) → Holds (option_map_or (λ (run : RunAt). noted_doing h waits at.id run.doing) o waits)
      of None = holds
      of (Some run) = doing_holds waits at.id run.doing holds

  fold_holds : (waits : List RunWait) (workers : List WorkerAt) → Holds waits → Holds (fold (noted_at h) waits workers)
  fold_holds waits [] holds = holds
  fold_holds waits (at ∷ rest) holds = fold_holds (noted_at h waits at) rest (worker_holds waits at holds)

  all_hold : (workers : List WorkerAt) → Holds [] → Holds (waits_in h workers)
  unfolding waits_in
  all_hold workers none = fold_holds [] workers none

-- ---- they are waiting

with_waiting : (past : List Entry) (waits : List RunWait) (v : RunWait) → IsWaiting past v → AreWaiting past waits
    → AreWaiting past (registered waits (Some v))
with_waiting past waits v is waiting w here =
    ⊎_elim
    (λ (old : In w (filter (is_other v.run.number) waits)). waiting w
    (in_contained waits w (in_filter (is_other v.run.number) waits w old).0))
    (λ (new : In w (v ∷ [])). ⊎_elim (λ (same : v ≡ w). subst (IsWaiting past) same is) (λ none. absurd none) new)
    (in_append (filter (is_other v.run.number) waits) (v ∷ []) w
    (contained_in (filter (is_other v.run.number) waits ++ v ∷ []) w here))

-- the worker's run and the caller's ticket, where both are there
is_waiting : (h : History) (w : WorkerId) (c : CallerId) (n : ℕ) (x : Queueing) (t : Ticket)
    → IsLegal h.layout (past_in h) → queueing_run (past_in h) (Worker w) ≡ Some x
    → ticket_of (past_in h) (Caller c) n ≡ Some t → IsWaiting (past_in h) (record { run = x; ticket = t })
is_waiting h w c n x t legal runs waits =
    let is = is_running h.layout (past_in h) w x legal runs in
    record {
      is_open = is.is_open;
      has_started = is.has_started;
      is_unended = found_unended (past_in h) (Caller c) n t waits;
    }

one_waits : (h : History) → IsLegal h.layout (past_in h) → (waits : List RunWait) (w : WorkerId) (c : CallerId)
    (n : ℕ) → AreWaiting (past_in h) waits
    → AreWaiting (past_in h) (registered waits (wait_of (past_in h) w c n))
one_waits h legal waits w c n waiting = of_run (queueing_run (past_in h) (Worker w)) refl
  where
    of_ticket : (x : Queueing) → queueing_run (past_in h) (Worker w) ≡ Some x → (o : Option Ticket)
        → ticket_of (past_in h) (Caller c) n ≡ o
        → AreWaiting (past_in h)
        (registered waits (option_map {U = RunWait} (λ (t : Ticket). record { run = x; ticket = t }) o))
    of_ticket x runs None none = waiting
    of_ticket x runs (Some t) known =
        with_waiting (past_in h) waits (record { run = x; ticket = t }) (is_waiting h w c n x t legal runs known)
        waiting

    of_run : (o : Option Queueing) → queueing_run (past_in h) (Worker w) ≡ o
        → AreWaiting (past_in h) (registered waits
        (option_and_then {U = RunWait} (λ (x : Queueing). option_map (λ (t : Ticket). record { run = x; ticket = t })
        (ticket_of (past_in h) (Caller c) n)) o))
    of_run None none = waiting
    of_run (Some x) runs = of_ticket x runs (ticket_of (past_in h) (Caller c) n) refl

pub they_wait : (h : History) (workers : List WorkerAt) → IsLegal h.layout (past_in h)
    → AreWaiting (past_in h) (waits_in h workers)
they_wait h workers legal =
    all_hold h (AreWaiting (past_in h)) (one_waits h legal) workers
    (λ w here. absurd (contained_in [] w here))

-- ---- no run waits twice

one_apart : (waits : List RunWait) (o : Option RunWait) → AreApart waits → AreApart (registered waits o)
one_apart waits None apart = apart
one_apart waits (Some w) apart = apart_with waits w apart

pub they_are_apart : (h : History) (workers : List WorkerAt) → AreApart (waits_in h workers)
they_are_apart h workers =
    all_hold h AreApart (λ waits w c n apart. one_apart waits (wait_of (past_in h) w c n) apart) workers
    (λ i j d less within. absurd (omega (arith, less, within)))
