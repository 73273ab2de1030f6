-- What no move changes: what each party does, the layout and the room. Moves only add entries to the history.
use Rattle.std.specs.Prelude.{◌-◌, ◌∷◌, [], if◌then◌else◌, nat_lt, slice_get, length}
use Rattle.std.specs.Option.{option_map_or}
use Rattle.std.proofs.Common.{◌≡◌, ◌∙◌, ◌++◌, ℕ, zero, suc, Bool, true, false, List, Option, Some, None, refl, sym, ap}
use Rattle.std.proofs.lemmas.List.{append-nil, append_assoc}
use mathlib.Core.List.{IsPrefix}
use Rattle.cmwq_model.specs.Prelude.{is_workers, is_drain, is_nothing, is_tick, ticket_told}
use Rattle.cmwq_model.specs.declared.call.Call.{Call}
use Rattle.cmwq_model.specs.declared.call.Call.TheVariants as call
use Rattle.cmwq_model.specs.declared.entry.Entry.{Entry}
use Rattle.cmwq_model.specs.declared.id.ItemId.{ItemId}
use Rattle.cmwq_model.specs.declared.id.Who.{Who}
use Rattle.cmwq_model.specs.declared.id.Who.TheVariants.{Caller, Worker}
use Rattle.cmwq_model.specs.declared.id.WorkerId.{WorkerId}
use Rattle.cmwq_model.specs.declared.reply.Reply.{Reply}
use Rattle.cmwq_json_script.specs.declared.action.Action.{Action}
use Rattle.cmwq_json_script.specs.declared.action.Action.TheVariants as action
use Rattle.cmwq_json_script.specs.declared.action.Holder.{Holder}
use Rattle.cmwq_json_script.specs.declared.action.Holder.TheVariants as holders
use Rattle.cmwq_play.specs.declared.machine.Called.{Called}
use Rattle.cmwq_play.specs.declared.machine.Called.TheVariants.{NoRoom, Whole, Waits as Began}
use Rattle.cmwq_play.specs.declared.place.CallerAt.{CallerAt}
use Rattle.cmwq_play.specs.declared.place.Doing.{Doing}
use Rattle.cmwq_play.specs.declared.place.Doing.TheVariants.{Acts, AtGate, AtLock, Waits}
use Rattle.cmwq_play.specs.declared.place.RunAt.{RunAt}
use Rattle.cmwq_play.specs.declared.place.Ticketed.{Ticketed}
use Rattle.cmwq_play.specs.declared.place.WorkerAt.{WorkerAt}
use Rattle.cmwq_key.specs.Alike.{SchedulesAddEntries, SchedulesKeepScripts}
use Rattle.cmwq_core.specs.History.{History, next_entry, with_entry}
use Rattle.cmwq_play.specs.Machines.{AfterCall, after_reply, begun, ends, is_made}
use Rattle.cmwq_play.specs.Machines.{replied, retires, starts}
unfoldable use Rattle.cmwq_play.specs.Machines.{called, ended, fired, stepped}
use Rattle.cmwq_play.specs.Searches.{after}
use Rattle.cmwq_play.specs.Stands.{Stand, action_of, after_begin, did, first_of, holds, is_free, lent_for, locked}
use Rattle.cmwq_play.specs.Stands.{rested, script_at, slept_at, unlocked, went_on, with_caller, with_history}
use Rattle.cmwq_play.specs.Stands.{with_run, woken}
unfoldable use Rattle.cmwq_play.specs.Stands.{acted, begun_by, caller_acted, caller_moved, finished, moved}
unfoldable use Rattle.cmwq_play.specs.Stands.{run_moved, started, wait_ended, waited}
unfoldable use Rattle.cmwq_play.specs.Stands.{worker_moved}

-- ---- histories

pub record IsGrown (h g : History) : Type 0 where
  pub layout : g.layout ≡ h.layout
  pub room : g.room ≡ h.room
  pub more : IsPrefix h.entries g.entries

itself : (h : History) → IsGrown h h
itself h = record { layout = refl; room = refl; more = ([], append-nil h.entries) }

prefixes : (xs ys zs : List Entry) → IsPrefix xs ys → IsPrefix ys zs → IsPrefix xs zs
prefixes xs ys zs p q = (p.0 ++ q.0, sym (append_assoc xs p.0 q.0) ∙ (ap (λ w. w ++ q.0) p.1 ∙ q.1))

further : (h g i : History) → IsGrown h g → IsGrown g i → IsGrown h i
further h g i a b =
    record {
      layout = b.layout ∙ a.layout;
      room = b.room ∙ a.room;
      more = prefixes h.entries g.entries i.entries a.more b.more;
    }

either : (h g i : History) (b : Bool) → IsGrown h g → IsGrown h i → IsGrown h (if b then g else i)
either h g i true x y = x
either h g i false x y = y

pub stepped_keeps : (h : History) (who : Who) (c : Call) → IsGrown h (stepped h who c)
unfolding stepped
stepped_keeps h who c =
    either h (with_entry h (next_entry h who c)) h (is_made h who c)
    (record { layout = refl; room = refl; more = (next_entry h who c ∷ [], refl) }) (itself h)

fired_keeps : (n : ℕ) (h : History) (who : Who) → IsGrown h (fired n h who)
unfolding fired
fired_keeps zero h who = itself h
fired_keeps (suc n) h who = at (fired_keeps n (stepped h who call.Fire) who) (replied h who call.Fire)
  where
    at : IsGrown (stepped h who call.Fire) (fired n (stepped h who call.Fire) who) → (o : Option Reply)
        → IsGrown h (option_map_or (λ r. if is_nothing r then stepped h who call.Fire
        else fired n (stepped h who call.Fire) who) o h)
    at on None = itself h
    at on (Some r) =
        either h _ _ (is_nothing r) (stepped_keeps h who call.Fire)
        (further h (stepped h who call.Fire) _ (stepped_keeps h who call.Fire) on)

pub ended_keeps : (h : History) (who : Who) (w : Ticketed) → IsGrown h (ended h who w)
unfolding ended
ended_keeps h who w =
    let on = stepped_keeps h who (call.End w.ticket) in
    either h _ _ (is_drain w.call)
    (further h (stepped h who (call.End w.ticket)) _ on (fired_keeps _ (stepped h who (call.End w.ticket)) who)) on

-- a history, whatever came of the call
abbrev Keeps : History → AfterCall → Type 0
Keeps h r = IsGrown h r.history

begun_keeps : (h : History) (who : Who) (w : Ticketed) → Keeps h (begun h who w)
begun_keeps h who w = at (ends h who w.ticket)
  where
    at : (b : Bool)
        → Keeps h (if b then record { history = ended h who w; outcome = Whole }
        else record { history = h; outcome = Began w })
    at true = ended_keeps h who w
    at false = itself h

pub called_keeps : (h : History) (who : Who) (c : Call) → IsGrown h (called h who c).history
unfolding called
called_keeps h who c = at (replied h who c)
  where
    on : IsGrown h (stepped h who c)
    on = stepped_keeps h who c

    given : (o : Option ℕ)
        → Keeps h (option_map_or (λ k. begun (stepped h who c) who (record { ticket = k; call = c })) o
        (record { history = stepped h who c; outcome = Whole }))
    given None = on
    given (Some k) = further h (stepped h who c) _ on
        (begun_keeps (stepped h who c) who (record { ticket = k; call = c }))

    told : (b : Bool) (r : Reply)
        → Keeps h (if b then record {
          history = fired (stepped h who c).layout.items (stepped h who c) who;
          outcome = Whole;
        } else option_map_or (λ k. begun (stepped h who c) who (record { ticket = k; call = c })) (ticket_told r)
        (record { history = stepped h who c; outcome = Whole }))
    told true r = further h (stepped h who c) _ on (fired_keeps _ (stepped h who c) who)
    told false r = given (ticket_told r)

    at : (o : Option Reply)
        → Keeps h (option_map_or (after_reply (stepped h who c) who c) o (record { history = h; outcome = NoRoom }))
    at None = itself h
    at (Some r) = told (is_tick c) r

-- ---- stands

-- a stand to which moves lead from another: what the parties do stays, and the history only grows
record IsLater (p q : Stand) : Type 0 where
  scripts : q.scripts ≡ p.scripts
  does : q.does ≡ p.does
  history : IsGrown p.history q.history

keeps : (p q : Stand) → q.scripts ≡ p.scripts → q.does ≡ p.does → IsGrown p.history q.history → IsLater p q
keeps p q scripts does h = record { scripts = scripts; does = does; history = h }

stays : (p : Stand) → IsLater p p
stays p = keeps p p refl refl (itself p.history)

then_keeps : (p q r : Stand) → IsLater p q → IsLater q r → IsLater p r
then_keeps p q r a b =
    record {
      scripts = b.scripts ∙ a.scripts;
      does = b.does ∙ a.does;
      history = further p.history q.history r.history a.history b.history;
    }

one_of : (p q r : Stand) (b : Bool) → IsLater p q → IsLater p r → IsLater p (if b then q else r)
one_of p q r true x y = x
one_of p q r false x y = y

unlocked_keeps : (p : Stand) (holder : Holder) (lock : ℕ) → IsLater p (unlocked p holder lock)
unlocked_keeps p holder lock =
    one_of p _ p (holds p holder lock) (keeps p _ refl refl (itself p.history)) (stays p)

-- ---- callers

caller_acted_keeps : (p : Stand) (k : ℕ) (at : CallerAt) (c : Action) → IsLater p (caller_acted p k at c)
unfolding caller_acted
caller_acted_keeps p k at (action.Call c) = keeps p _ refl refl (called_keeps p.history (Caller at.id) c)
caller_acted_keeps p k at (action.Open gate) = keeps p _ refl refl (itself p.history)
caller_acted_keeps p k at (action.SleepAt gate) = keeps p _ refl refl (itself p.history)
caller_acted_keeps p k at (action.Lock lock) = keeps p _ refl refl (itself p.history)
caller_acted_keeps p k at (action.Unlock lock) =
    let u = unlocked_keeps p (holders.Caller at.id) lock in
    keeps p _ u.scripts u.does u.history

caller_moved_keeps : (p : Stand) (k : ℕ) (at : CallerAt) → IsLater p (caller_moved p k at)
unfolding caller_moved
caller_moved_keeps p k at = by_wait at.wait
  where
    by_action : (o : Option Action) → IsLater p (option_map_or (caller_acted p k at) o p)
    by_action None = stays p
    by_action (Some c) = caller_acted_keeps p k at c

    by_wait : (o : Option Ticketed)
        → IsLater p
        (option_map_or (λ w. with_caller (with_history p (ended p.history (Caller at.id) w)) k
        (record at { wait = None })) o
        (option_map_or (caller_acted p k at) (slice_get (script_at p k) at.next) p))
    by_wait None = by_action (slice_get (script_at p k) at.next)
    by_wait (Some w) = keeps p _ refl refl (ended_keeps p.history (Caller at.id) w)

-- ---- workers

module _ (p : Stand) (k : ℕ) (id : WorkerId) where
  started_keeps : IsLater p (started p k id)
  unfolding started
  started_keeps = at (starts p.history id)
    where
      at : (o : Option ItemId)
          → IsLater p
          (option_map_or
          (λ item. with_run (with_history p (stepped p.history (Worker id) call.Take)) k id (Some (first_of item))) o
          (with_run p k id None))
      at None = keeps p _ refl refl (itself p.history)
      at (Some item) = keeps p _ refl refl (stepped_keeps p.history (Worker id) call.Take)

  slept_keeps : (at : Bool → Doing) (run : RunAt) → IsLater p (slept_at at p k id run)
  slept_keeps at run = keeps p _ refl refl (stepped_keeps p.history (Worker id) call.Sleep)

  began_keeps : (run : RunAt) (caller : ℕ) (h : History) → IsGrown p.history h → (o : Called)
      → IsLater p (after_begin p k id run caller h o)
  began_keeps run caller h same (Began w) = keeps p _ refl refl same
  began_keeps run caller h same NoRoom =
      keeps p _ refl refl (further p.history h _ same (stepped_keeps h (Worker id) call.Wake))
  began_keeps run caller h same Whole =
      keeps p _ refl refl (further p.history h _ same (stepped_keeps h (Worker id) call.Wake))

  begun_by_keeps : (run : RunAt) (c : Call) (caller : ℕ) → IsLater p (begun_by p k id run c caller)
  unfolding begun_by
  begun_by_keeps run c caller =
      began_keeps run caller _
      (further p.history (stepped p.history (Worker id) call.Sleep) _ (stepped_keeps p.history (Worker id) call.Sleep)
      (called_keeps (stepped p.history (Worker id) call.Sleep) (Caller (record { 0 = caller })) c)) _

  waited_keeps : (run : RunAt) (c : Call) → IsLater p (waited p k id run c)
  unfolding waited
  waited_keeps run c = at (lent_for p id c)
    where
      at : (o : Option ℕ) → IsLater p (option_map_or (begun_by p k id run c) o (went_on p k id run))
      at None = keeps p _ refl refl (itself p.history)
      at (Some caller) = begun_by_keeps run c caller

  acted_keeps : (run : RunAt) (c : Action) → IsLater p (acted p k id run c)
  unfolding acted
  acted_keeps run (action.Call c) =
      one_of p _ _ (is_workers c) (keeps p _ refl refl (stepped_keeps p.history (Worker id) c)) (waited_keeps run c)
  acted_keeps run (action.Open gate) = keeps p _ refl refl (itself p.history)
  acted_keeps run (action.SleepAt gate) = slept_keeps (AtGate gate) run
  acted_keeps run (action.Lock lock) =
      one_of p _ _ (is_free p lock) (keeps p _ refl refl (itself p.history))
      (slept_keeps (AtLock lock) run)
  acted_keeps run (action.Unlock lock) =
      let u = unlocked_keeps p (holders.Run run.item) lock in
      keeps p _ u.scripts u.does u.history

  woken_keeps : (slept : Bool) → IsLater p (woken p id slept)
  woken_keeps slept =
      one_of p _ p slept (keeps p _ refl refl (stepped_keeps p.history (Worker id) call.Wake)) (stays p)

-- the run of a worker goes on
runs_keep : (p q : Stand) (k : ℕ) (id : WorkerId) (run : Option RunAt) → IsLater p q
    → IsLater p (with_run q k id run)
runs_keep p q k id run h = keeps p _ h.scripts h.does h.history

module _ (p : Stand) (k : ℕ) (id : WorkerId) where
  finished_keeps : IsLater p (finished p k id)
  unfolding finished
  finished_keeps =
      then_keeps p (with_history p (rested (stepped p.history (Worker id) call.Finish) id)) _
      (keeps p _ refl refl
      (either p.history _ _ (retires (stepped p.history (Worker id) call.Finish) id)
      (further p.history (stepped p.history (Worker id) call.Finish) _ (stepped_keeps p.history (Worker id) call.Finish)
      (stepped_keeps (stepped p.history (Worker id) call.Finish) (Worker id) call.Retire))
      (stepped_keeps p.history (Worker id) call.Finish)))
      (started_keeps (with_history p (rested (stepped p.history (Worker id) call.Finish) id)) k id)

  did_keeps : (run : RunAt) (d : Doing) → IsLater p (did p k id run d)
  unfolding wait_ended
  did_keeps run Acts = at (action_of p run)
    where
      at : (o : Option Action) → IsLater p (option_map_or (acted p k id run) o (finished p k id))
      at None = finished_keeps
      at (Some c) = acted_keeps p k id run c
  did_keeps run (AtGate gate slept) = runs_keep p (woken p id slept) k id _ (woken_keeps p k id slept)
  did_keeps run (AtLock lock slept) =
      runs_keep p (woken (locked p (holders.Run run.item) lock) id slept) k id _
      (then_keeps p (locked p (holders.Run run.item) lock) _
      (keeps p _ refl refl (itself p.history))
      (woken_keeps (locked p (holders.Run run.item) lock) k id slept))
  did_keeps run (Waits caller w) =
      keeps p _ refl refl
      (further p.history (ended p.history (Caller (record { 0 = caller })) w) _
      (ended_keeps p.history (Caller (record { 0 = caller })) w)
      (stepped_keeps (ended p.history (Caller (record { 0 = caller })) w) (Worker id) call.Wake))

-- ---- moves

worker_moved_keeps : (p : Stand) (k : ℕ) (at : WorkerAt) → IsLater p (worker_moved p k at)
unfolding worker_moved run_moved
worker_moved_keeps p k at = by_run at.run
  where
    by_run : (o : Option RunAt)
        → IsLater p (option_map_or (λ (run : RunAt). did p k at.id run run.doing) o (started p k at.id))
    by_run None = started_keeps p k at.id
    by_run (Some run) = did_keeps p k at.id run run.doing

moved_keeps : (p : Stand) (party : ℕ) → IsLater p (moved p party)
unfolding moved
moved_keeps p party =
    one_of p _ _ (nat_lt party (length p.callers)) (of_caller (slice_get p.callers party))
    (of_worker (party - length p.callers) (slice_get p.workers (party - length p.callers)))
  where
    of_caller : (o : Option CallerAt) → IsLater p (option_map_or (caller_moved p party) o p)
    of_caller None = stays p
    of_caller (Some at) = caller_moved_keeps p party at

    of_worker : (k : ℕ) (o : Option WorkerAt) → IsLater p (option_map_or (worker_moved p k) o p)
    of_worker k None = stays p
    of_worker k (Some at) = worker_moved_keeps p k at

schedules_go_on : (p : Stand) (schedule : List ℕ) → IsLater p (after p schedule)
schedules_go_on p [] = stays p
schedules_go_on p (party ∷ more) =
    then_keeps p (moved p party) (after (moved p party) more) (moved_keeps p party)
    (schedules_go_on (moved p party) more)

pub schedules_keep : SchedulesKeepScripts
schedules_keep p schedule =
    let on = schedules_go_on p schedule in
    record { scripts = on.scripts; does = on.does; layout = on.history.layout; room = on.history.room }

pub schedules_add : SchedulesAddEntries
schedules_add p schedule = (schedules_go_on p schedule).history.more
