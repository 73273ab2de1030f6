-- A wait that begins is made of the core.
use Rattle.std.specs.Prelude.{◌≡◌, ℕ, Bool, true, false, if◌then◌else◌, Option, Some, None, Ok, length, slice_set}
use Rattle.std.proofs.Common.{ap, ap₂, ◌∙◌, refl, subst, sym}
use Rattle.cmwq_core.specs.History.{next_entry, past_in}
use Rattle.cmwq_dispatch.specs.Dispatched.{Dispatched, past_now}
use Rattle.cmwq_dispatch.specs.declared.wakes.Wakes.{Wakes}
use Rattle.cmwq_model.specs.Prelude.{gives_ticket, runs_awake}
use Rattle.cmwq_model.specs.declared.call.Call.{Call}
use Rattle.cmwq_model.specs.declared.call.Call.TheVariants as call
use Rattle.cmwq_model.specs.declared.id.CallerId.{CallerId}
use Rattle.cmwq_model.specs.declared.id.Who.TheVariants.{Caller, Worker}
use Rattle.cmwq_model.specs.declared.id.WorkerId.{WorkerId}
use Rattle.cmwq_model.specs.declared.reply.Reply.{Reply}
use Rattle.cmwq_board.specs.Boarded.{Boarded, board_of, firing_for}
use Rattle.cmwq_board.specs.Fires.{with_call}
use Rattle.cmwq_board.specs.Lent.{unended_drains}
use Rattle.cmwq_board.specs.Machine.{bare, begins_at, begins_with, goes_on_by, is_awake, lends, lent_to, step}
use Rattle.cmwq_board.specs.Machine.{then_slept, then_waits, ticket_begun, wait_begun}
use Rattle.cmwq_board.specs.Machine.Move.{Lends}
use Rattle.cmwq_board.specs.Waits.{Begins, BeginsAnew, BeginsAt, BeginsWait, MayEnterOf, ThenWaits}
use Rattle.cmwq_board.specs.Waits.{begin_fault, begun_by, caller_at, if_slept, lending_by, resumed_place, sleeps_first}
use Rattle.cmwq_board.specs.Waits.{with_firing}
use Rattle.cmwq_board.specs.declared.board.Begun.{Begun}
use Rattle.cmwq_board.proofs.Cores.{IsOn, bare_of, on_call, on_wake, then_on}
use Rattle.cmwq_board.proofs.Moves.{taken_core, taken_outcome}

awake_is : (run : Option WorkerId) (d : Dispatched) → sleeps_first d run ≡ is_awake run d.history
awake_is None d = refl
awake_is (Some w) d = refl

on_sleep : (run : Option WorkerId) (d n : Dispatched) (v u : Wakes)
    → MayEnterOf run call.Sleep (sleeps_first d run) d n v u → IsOn d n (then_slept run d.history)
on_sleep None d n v u is = ap bare_of is.0
on_sleep (Some w) d n v u is = by (runs_awake (past_now d) w) is
  where
    by : (b : Bool) → MayEnterOf (Some w) call.Sleep b d n v u
        → IsOn d n (if b then with_call d.history (Worker w) call.Sleep else d.history)
    by true enters = on_call (Worker w) call.Sleep d n v u enters
    by false same = ap bare_of same.0

on_waits : (gives : Bool) (slept : Option WorkerId) (d n : Dispatched) (v u : Wakes) → ThenWaits gives slept d n v u
    → IsOn d n (then_waits gives slept d.history)
on_waits true slept d n v u is = ap bare_of is.0
on_waits false slept d n v u is = on_wake slept d n v u is

module _ (run : Option WorkerId) (c : CallerId) (k : Call) (r : Reply) (n : ℕ) (old new : Dispatched) (v u : Wakes)
    (is : BeginsWait run c k r n old new v u) where
  slept_on : IsOn old is.asleep (then_slept run old.history)
  slept_on = on_sleep run old is.asleep v is.then_asleep is.sleeps

  reply_is : r ≡ begins_with run c k old.history
  reply_is = is.reply ∙ ap (λ (x : Dispatched). (next_entry x.history (Caller c) k).reply) slept_on

  number_is : n ≡ length (then_slept run old.history).entries
  number_is = is.number ∙ ap (λ (x : Dispatched). length x.history.entries) slept_on

  begun_on : IsOn old new (wait_begun run c k old.history)
  begun_on =
      let gives = gives_ticket (begins_with run c k old.history) in
      let slept = if_slept (is_awake run old.history) run in
      let waits : ThenWaits gives slept is.called new is.then_called u =
      subst (λ b. ThenWaits b slept is.called new is.then_called u) (ap gives_ticket reply_is)
      (subst (λ b. ThenWaits (gives_ticket r) (if_slept b run) is.called new is.then_called u) (awake_is run old)
      is.waits) in
      then_on old is.called new (with_call (then_slept run old.history) (Caller c) k) (then_waits gives slept)
      (then_on old is.asleep is.called (then_slept run old.history) (λ h. with_call h (Caller c) k) slept_on
      (on_call (Caller c) k is.asleep is.called is.then_asleep is.then_called is.calls))
      (on_waits gives slept is.called new is.then_called u waits)

  lending_is : lending_by run (sleeps_first old run) (record { caller = c; call = k; number = n }) r
      ≡ lending_by run (is_awake run old.history) (ticket_begun run c k old.history) (begins_with run c k old.history)
  lending_is =
      ap (λ b. lending_by run b (record { caller = c; call = k; number = n }) r) (awake_is run old)
      ∙ ap₂ (λ (m : ℕ) (x : Reply). lending_by run (is_awake run old.history)
      (record { caller = c; call = k; number = m }) x) number_is reply_is

anew : (run : Option WorkerId) (k : Call) (begun : Begun) (old new : Boarded) (v u : Wakes)
    → (is : BeginsAnew run k begun old new v u)
    → (bare new ≡ lent_to (bare old) run k is.place (caller_at old is.place))
    × (begun ≡ begun_by (caller_at old is.place) (begins_with run (caller_at old is.place) k old.dispatch.history))
anew run k begun old new v u is =
    let c = caller_at old is.place in
    let d = with_firing old.dispatch in
    let h = wait_begun run c k old.dispatch.history in
    let made : bare_of new.dispatch
    ≡ record (bare_of old.dispatch) { history = h; firing = firing_for (unended_drains (past_in h)) } =
    ap bare_of is.settles.settled
    ∙ ap (λ (x : Dispatched). record x { firing = firing_for (unended_drains (past_now x)) })
    (begun_on run c k is.reply is.number d is.called v is.then_called is.waits) in
    let lent = is.lent
    ∙ ap (slice_set old.lent is.place)
    (lending_is run c k is.reply is.number d is.called v is.then_called is.waits) in (
      λ i. board_of (made i) (is.kept.0 i) (is.kept.1 i) (lent i) (is.news i),
      is.begun ∙ ap (begun_by c) (reply_is run c k is.reply is.number d is.called v is.then_called is.waits),
    )

pub lends_core : (run : Option WorkerId) (k : Call) (begun : Begun) (old new : Boarded) (v u : Wakes)
    → begin_fault old run k ≡ None → Begins run k begun old new v u
    → (bare new ≡ (step (bare old) (Lends run k)).core) × (Ok begun ≡ (step (bare old) (Lends run k)).outcome)
lends_core run k begun old new v u none is =
    let at = by (resumed_place old run k) is in
    let s = begins_at (bare old) run k (resumed_place old run k) in (
      at.0 ∙ taken_core (begin_fault old run k) (bare old) s none,
      at.1 ∙ taken_outcome (begin_fault old run k) (bare old) s none,
    )
  where
    by : (o : Option ℕ) → BeginsAt o run k begun old new v u
        → (bare new ≡ (begins_at (bare old) run k o).core) × (Ok begun ≡ (begins_at (bare old) run k o).outcome)
    by (Some place) is = (
      ap bare is.0.new_is ∙ ap (λ o. (goes_on_by (bare old) k place o).core) (sym is.0.was_left),
      ap Ok is.0.begun ∙ ap (λ o. (goes_on_by (bare old) k place o).outcome) (sym is.0.was_left),
    )
    by None is =
        let at = anew run k begun old new v u is in (
          at.0 ∙ ap (λ o. (lends (bare old) run k o).core) (sym is.is_first),
          ap Ok at.1 ∙ ap (λ o. (lends (bare old) run k o).outcome) (sym is.is_first),
        )
