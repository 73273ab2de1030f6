-- A party that may move moves, and the play stands again.
use Rattle.std.specs.Option.{option_map_or}
use Rattle.std.specs.Prelude.{if◌then◌else◌, option_and_then, is_some}
use Rattle.std.proofs.Common.{◌≡◌, ◌⊎◌, ◌∙◌, ◌-◌, ◌++◌, ◌∷◌, ℕ, Bool, true, false, List, [], Option, Some, None}
use Rattle.std.proofs.Common.{length, take, slice_get, slice_set, nat_lt, refl, sym, ap, subst, arith, inl, inr}
use Rattle.std.proofs.lemmas.Bool.{le-leb, lt-ltb}
use Rattle.std.proofs.lemmas.Option.{same_Some}
use Rattle.cmwq_lemmas.proofs.Members.{In}
use Rattle.cmwq_model.specs.Prelude.{IsLegal, Layout, fits, is_workers, same_who}
use Rattle.cmwq_model.specs.declared.call.Call.{Call}
use Rattle.cmwq_model.specs.declared.call.Call.TheVariants as call
use Rattle.cmwq_model.specs.declared.entry.Entry.{Entry}
use Rattle.cmwq_model.specs.declared.id.ItemId.{ItemId}
use Rattle.cmwq_model.specs.declared.id.Who.{Who}
use Rattle.cmwq_model.specs.declared.id.Who.TheVariants.{Caller, Worker}
use Rattle.cmwq_json_script.specs.Runs.{Run}
use Rattle.cmwq_json_script.specs.Views.{calls_in}
use Rattle.cmwq_json_script.specs.declared.action.Action.{Action}
use Rattle.cmwq_json_script.specs.declared.action.Action.TheVariants as action
use Rattle.cmwq_json_script.specs.declared.action.Holder.{Holder}
use Rattle.cmwq_json_script.specs.declared.action.Holder.TheVariants as holders
use Rattle.cmwq_core.specs.History.{History, past_in}
use Rattle.cmwq_model.specs.declared.id.WorkerId.{WorkerId}
use Rattle.cmwq_model.specs.declared.record.Queueing.{Queueing}
use Rattle.cmwq_theory_steps.specs.ItemQueueings.{queueing_run}
use Rattle.cmwq_waits.specs.Begun.{is_lent, laid, waits_of}
use Rattle.cmwq_waits.specs.Registered.{refusal_of}
use Rattle.cmwq_waits.specs.declared.run_wait.RunWait.{RunWait}
use Rattle.cmwq_waits.proofs.Begun.{waits_are_apart}
use Rattle.cmwq_waits.proofs.Greatest.{same_run}
use Rattle.cmwq_play.specs.Waiting.{are_there, waits_in}
use Rattle.cmwq_play.proofs.WhoWaits.{they_are_apart}
use Rattle.cmwq_monitor.specs.Participants.{View}
use Rattle.cmwq_engine.specs.Conduct.{caller_numbered}
use Rattle.cmwq_cmd_run.specs.Interpreted as interpreted
use Rattle.cmwq_cmd_run.specs.Interpreted.{SleepsOnce}
use Rattle.cmwq_play.specs.Machines.{called, ended, ends, replied, retires, starts, stepped}
use Rattle.cmwq_play.specs.Stands.{Stand, action_of, after_action, after_begin, did, first_of, holds, is_free}
use Rattle.cmwq_play.specs.Stands.{last_free}
use Rattle.cmwq_play.specs.Stands.{lent_for, locked, may_act, may_call, may_do, may_work, next_place, passed, rested}
use Rattle.cmwq_play.specs.Stands.{script_at, slept_at, went_on, with_history, with_run, woken}
use Rattle.cmwq_play.specs.Stands as stands
unfoldable use Rattle.cmwq_play.specs.Stands.{acted, begun_by, caller_acted, caller_moved, finished, may, moved}
unfoldable use Rattle.cmwq_play.specs.Stands.{run_moved, started, wait_ended, waited, worker_moved}
use Rattle.cmwq_play.specs.declared.machine.Called.{Called}
use Rattle.cmwq_play.specs.declared.machine.Called.TheVariants.{NoRoom, Whole, Waits as Began}
use Rattle.cmwq_play.specs.declared.place.CallerAt.{CallerAt}
use Rattle.cmwq_play.specs.declared.place.Doing.{Doing}
use Rattle.cmwq_play.specs.declared.place.Doing.TheVariants.{Acts, AtGate, AtLock, Waits}
use Rattle.cmwq_play.specs.declared.place.RunAt.{RunAt}
use Rattle.cmwq_play.specs.declared.place.Ticketed.{Ticketed}
use Rattle.cmwq_play.specs.declared.place.WorkerAt.{WorkerAt}
use Rattle.cmwq_schedule_laws.proofs.Accounts.{CallerStands, DoesNext, HasRested, Holding, IsIdle, IsLendable}
use Rattle.cmwq_schedule_laws.proofs.Accounts.{IsPlayable}
use Rattle.cmwq_schedule_laws.proofs.Accounts.{IsRunning, LentStands, SleepsOrNot, Stands, WorkerStands, Works}
use Rattle.cmwq_schedule_laws.proofs.Accounts.{actions_at}
use Rattle.cmwq_schedule_laws.proofs.Accounts.{caller_of, lent_to}
use Rattle.cmwq_schedule_laws.proofs.Following as following
use Rattle.cmwq_schedule_laws.proofs.Keeping.{IsKept}
use Rattle.cmwq_schedule_laws.proofs.Lending as lending
use Rattle.cmwq_schedule_laws.proofs.Moving.{WorkerMoves, caller_moves, caller_there, callers_apart, few_callers}
use Rattle.cmwq_schedule_laws.proofs.Moving.{IsNotOf, IsWaitNow, WaitsMove, lent_by, not_of, one_back, one_lent}
use Rattle.cmwq_schedule_laws.proofs.Moving.{same_lent, worker_moves}
use Rattle.cmwq_schedule_laws.proofs.Moving as moving
use Rattle.cmwq_schedule_laws.proofs.Sparing.{GoesOn, Spares, called_goes, ended_goes, goes_further, goes_nowhere}
use Rattle.cmwq_schedule_laws.proofs.Sparing.{spares_further, stepped_goes}
use Rattle.cmwq_schedule_laws.proofs.SameWaits.{same_refusal_of}
use Rattle.cmwq_schedule_laws.proofs.TheirWaits.{IsWaitAt, WaitsBy, same_waits}
use Rattle.cmwq_schedule_laws.proofs.Waiting.{has_room, waits_of_items}
use Rattle.cmwq_schedule_laws.proofs.WaitsGoing.{WaitsGo}
use Rattle.cmwq_schedule_laws.proofs.WaitsMoving.{BeganAs, HasLaid, IsNewWait, began_as, ended_begins_none, has_laid}
use Rattle.cmwq_schedule_laws.proofs.WaitsMoving.{new_wait, woken_gone}
use Rattle.cmwq_schedule_laws.proofs.Working as working

module _ (r : Run) (ok : IsPlayable r) (p : Stand) (st : Stands r p) where
  abbrev s : Layout
  s = r.layout

  abbrev h : History
  h = p.history

  -- the number of the first caller that may be lent
  abbrev first : ℕ
  first = length r.callers

  -- ---- callers of the script

  module _ (k : ℕ) (at : CallerAt) (is : slice_get p.callers k ≡ Some at) where
    abbrev script : List Action
    script = actions_at r.callers k

    there : nat_lt k r.layout.callers ≡ true
    there =
        let here = caller_there r ok p st k at is in
        lt-ltb k r.layout.callers (few_callers r ok p st k (omega arith))

    stands_here : CallerStands r.layout k (actions_at r.callers k) at p.history.entries
    stands_here = st.callers k at is

    its_waits : (g : History) → GoesOn r.layout (Caller at.id) p.history g
        → WaitsGo (length r.callers) (caller_numbered k) (past_in p.history) (past_in g)
    its_waits g goes =
        subst (λ (x : Who). WaitsGo (length r.callers) x (past_in p.history) (past_in g)) stands_here.id
        (goes.waits (length r.callers))

    -- what the caller has made, for all others
    caller_steps : (new : CallerAt) (g : History) → GoesOn r.layout (Caller at.id) p.history g
        → CallerStands r.layout k (actions_at r.callers k) new g.entries
        → Stands r (moving.with_caller r ok p st g k new p.gates p.locks)
    caller_steps new g goes now =
        caller_moves r ok p st k at new g p.gates p.locks is goes.kept
        (λ who other. goes.spares who (subst (λ (x : Who). same_who x who ≡ false) (sym stands_here.id) other))
        (its_waits g goes) now

    -- it passes an action that is no call
    passes : (a : Action) → slice_get (actions_at r.callers k) at.next ≡ Some a → calls_in (a ∷ []) ≡ []
        → at.wait ≡ None → (gates : List Bool) (locks : List (Option Holder))
        → Stands r (moving.with_caller r ok p st p.history k (record at { next = next_place at.next }) gates locks)
    passes a next none idle gates locks =
        let goes = goes_nowhere r.layout (Caller at.id) p.history st.kept in
        caller_moves r ok p st k at (record at { next = next_place at.next }) p.history gates locks is st.kept
        (λ who other. goes.spares who (subst (λ (x : Who). same_who x who ≡ false) (sym stands_here.id) other))
        (its_waits p.history goes)
        (following.passes_on r.layout k (actions_at r.callers k) at p.history st.kept there
        (ok.scripts_short k) stands_here
        a next none idle)

    unlocks : (lock : ℕ) → slice_get (actions_at r.callers k) at.next ≡ Some (action.Unlock lock) → at.wait ≡ None
        → (b : Bool)
        → Stands r (passed (if b then record p { locks = slice_set p.locks lock None } else p) k at)
    unlocks lock next idle true = passes (action.Unlock lock) next refl idle p.gates (slice_set p.locks lock None)
    unlocks lock next idle false = passes (action.Unlock lock) next refl idle p.gates p.locks

    acts : (a : Action) → slice_get (actions_at r.callers k) at.next ≡ Some a → at.wait ≡ None
        → Stands r (caller_acted p k at a)
    unfolding caller_acted
    acts (action.Call c) next idle =
        caller_steps
        (record at { next = next_place at.next; wait = stands.wait_of (called p.history (Caller at.id) c).outcome })
        (called p.history (Caller at.id) c).history (called_goes r.layout (Caller at.id) p.history c st.kept)
        (following.calls r.layout k (actions_at r.callers k) at p.history st.kept there
        (ok.scripts_short k) stands_here c
        next idle (ok.scripts k at.next c next))
    acts (action.Open gate) next idle = passes (action.Open gate) next refl idle (slice_set p.gates gate true) p.locks
    acts (action.SleepAt gate) next idle = passes (action.SleepAt gate) next refl idle p.gates p.locks
    acts (action.Lock lock) next idle =
        passes (action.Lock lock) next refl idle p.gates (slice_set p.locks lock (Some (holders.Caller at.id)))
    acts (action.Unlock lock) next idle = unlocks lock next idle (holds p (holders.Caller at.id) lock)

    same_script : script_at p k ≡ actions_at r.callers k
    same_script = ap (λ lists. actions_at lists k) st.scripts

    pub caller_steps_on : may_call p k at ≡ true → Stands r (caller_moved p k at)
    unfolding caller_moved
    caller_steps_on = by_wait at.wait refl
      where
        by_action : at.wait ≡ None → (o : Option Action) → slice_get (script_at p k) at.next ≡ o
            → option_map_or (may_act p) o false ≡ true → Stands r (option_map_or (caller_acted p k at) o p)
        by_action idle None next may = absurd (cc may)
        by_action idle (Some a) next may =
            acts a (subst (λ (xs : List Action). slice_get xs at.next ≡ Some a) same_script next) idle

        by_wait : (o : Option Ticketed) → at.wait ≡ o
            → option_map_or (λ w. ends p.history (Caller at.id) w.ticket) o
            (option_map_or (may_act p) (slice_get (script_at p k) at.next) false) ≡ true
            → Stands r (option_map_or (λ w. stands.with_caller (with_history p (ended p.history (Caller at.id) w)) k
            (record at { wait = None })) o
            (option_map_or (caller_acted p k at) (slice_get (script_at p k) at.next) p))
        by_wait None idle may = by_action idle (slice_get (script_at p k) at.next) refl may
        by_wait (Some w) waits may =
            caller_steps (record at { wait = None }) (ended p.history (Caller at.id) w)
            (ended_goes r.layout (Caller at.id) p.history w st.kept)
            (following.ends_wait r.layout k (actions_at r.callers k) at p.history st.kept there (ok.scripts_short k)
            stands_here w waits may)

  -- ---- workers

  -- a worker whose run waits, and the caller by which it does, are there
  waiter_there : (k : ℕ) (at : WorkerAt) (c : ℕ) (t : Ticketed) → slice_get p.workers k ≡ Some at → WaitsBy at c t
      → are_there p.history.layout at.id (record { 0 = c }) t.ticket ≡ true
  waiter_there k at c t is waits =
      let here = st.workers k at is in
      let lendable = (st.lent.waiting k at c is (lent_by r ok p st at c t waits)).1 in
      let caller = lt-ltb c r.layout.callers (few_callers r ok p st c lendable.1) in
      subst (λ (l : Layout). are_there l at.id (record { 0 = c }) t.ticket ≡ true) (sym st.kept.layout)
      (rw (here.cpu, here.index, caller) refl)

  -- the same waits are refused, whether the runs that wait are read off the history or off the workers
  same_refusals : (w : WorkerId) (c : Call)
      → refusal_of r.layout (past_in p.history) (waits_of first (past_in p.history)) w c
      ≡ refusal_of r.layout (past_in p.history) (waits_in p.history p.workers) w c
  same_refusals w c =
      same_refusal_of r.layout (past_in p.history) (waits_of first (past_in p.history))
      (waits_in p.history p.workers) (waits_are_apart first r.layout (past_in p.history) st.kept.legal)
      (they_are_apart p.history p.workers)
      (same_waits first p.history p.workers
      (subst (λ (l : Layout). IsLegal l (past_in p.history)) (sym st.kept.layout) st.kept.legal) st.waits
      waiter_there) c w

  lent_number : (c : ℕ) → IsLendable r c → is_lent first (caller_numbered c) ≡ true
  lent_number c lendable = le-leb first c lendable.0

  module _ (k : ℕ) (at : WorkerAt) (is : slice_get p.workers k ≡ Some at) where
    works_here : WorkerStands r.layout r.does k at p.history.entries
    works_here = st.workers k at is

    fit_wake : fits r.layout (Worker at.id) call.Wake ≡ true
    fit_wake = working.fit r.layout r.does at.id works_here.cpu works_here.index call.Wake refl refl

    -- no caller takes part
    alone : (g : History) → GoesOn r.layout (Worker at.id) p.history g → WorkerMoves r ok p st k at None g
    alone g goes = record {
      is = is;
      kept = goes.kept;
      spares = λ who other _. goes.spares who other;
      lendable = tt;
      nobody_else = λ j z c other there waits. tt;
    }

    -- the runs that wait are the same
    waits_alone : (run : Option RunAt) (g : History) → GoesOn r.layout (Worker at.id) p.history g
        → lent_to at ≡ None → option_and_then (λ (x : RunAt). caller_of x.doing) run ≡ None
        → WaitsMove r ok p st at run None g
    waits_alone run g goes was_none is_none = record {
      stay = λ v z here runs other unheld. (goes.waits first).stay v z here runs other refl;
      runs = (goes.waits first).runs;
      whence = λ v here. not_begun v ((goes.waits first).whence v here);
      now = λ c t waits. absurd (cc (sym is_none ∙ by_run c t waits));
    }
      where
        not_begun : (v : RunWait)
            → In v (waits_of first (past_in p.history))
            ⊎ ((is_lent first (Worker at.id) ≡ true) × (laid (past_in p.history) ≡ Some v.run))
            → (In v (waits_of first (past_in p.history)) × IsNotOf r ok p st at.id v)
            ⊎ IsWaitNow r ok p st (record { id = at.id; run = run }) g v
        not_begun v (inl old) = inl (old, not_of r ok p st k at is was_none v old)
        not_begun v (inr begins) = absurd (cc begins.0)

        by_run : (c : ℕ) (t : Ticketed) → WaitsBy (record { id = at.id; run = run }) c t
            → option_and_then (λ (x : RunAt). caller_of x.doing) run ≡ Some c
        by_run c t waits = lent_by r ok p st (record { id = at.id; run = run }) c t waits

    moves_alone : (run : Option RunAt) (g : History) (gates : List Bool) (locks : List (Option Holder))
        → GoesOn r.layout (Worker at.id) p.history g → lent_to at ≡ None
        → option_and_then (λ (x : RunAt). caller_of x.doing) run ≡ None → Works r.layout r.does at.id run g.entries
        → Stands r (moving.with_worker r ok p st g k (record { id = at.id; run = run }) p.free gates locks)
    moves_alone run g gates locks goes was_none is_none works =
        worker_moves r ok p st k at run None g p.free gates locks (alone g goes)
        (waits_alone run g goes was_none is_none) works
        (same_lent r ok p st k at run None g gates locks (alone g goes) was_none is_none tt)

    -- it starts a run after this, if it would start one
    starts_then : (g : History) → GoesOn r.layout (Worker at.id) p.history g → lent_to at ≡ None
        → IsIdle r.layout r.does at.id g.entries → Stands r (started (with_history p g) k at.id)
    unfolding started
    starts_then g goes was_none idle = by (starts g at.id) refl
      where
        by : (o : Option ItemId) → starts g at.id ≡ o
            → Stands r (option_map_or
            (λ item. with_run (with_history (with_history p g) (stepped g (Worker at.id) call.Take)) k at.id
            (Some (first_of item))) o (with_run (with_history p g) k at.id None))
        by None none = moves_alone None g p.gates p.locks goes was_none refl idle
        by (Some item) some =
            moves_alone (Some (first_of item)) (stepped g (Worker at.id) call.Take) p.gates p.locks
            (goes_further r.layout (Worker at.id) p.history g (stepped g (Worker at.id) call.Take) goes
            (stepped_goes r.layout (Worker at.id) g call.Take goes.kept)) was_none refl
            (working.begins r.layout r.does at.id works_here.cpu works_here.index g item goes.kept idle some)

    -- ---- a run

    module _ (run : RunAt) (runs : at.run ≡ Some run)
        (acc : IsRunning r.layout r.does at.id run p.history.entries) where
      abbrev next_action : Option Action
      next_action = slice_get (actions_at r.does run.item.0) run.next

      not_lent : caller_of run.doing ≡ None → lent_to at ≡ None
      not_lent none = ap (option_and_then (λ (x : RunAt). caller_of x.doing)) runs ∙ none

      not_waiting : run.doing ≡ Acts → lent_to at ≡ None
      not_waiting acting = not_lent (ap caller_of acting)

      -- it goes on
      goes_on : (g : History) (gates : List Bool) (locks : List (Option Holder))
          → GoesOn r.layout (Worker at.id) p.history g → lent_to at ≡ None
          → IsRunning r.layout r.does at.id (after_action run) g.entries
          → Stands r (moving.with_worker r ok p st g k (record { id = at.id; run = Some (after_action run) }) p.free
          gates
          locks)
      goes_on g gates locks goes was_none on = moves_alone (Some (after_action run)) g gates locks goes was_none refl on

      passes_by : (a : Action) → run.doing ≡ Acts → next_action ≡ Some a
          → interpreted.Acts r.layout run.item a acc.left_out acc.left_out acc.acted acc.acted → (gates : List Bool)
          (locks : List (Option Holder))
          → Stands r (moving.with_worker r ok p st p.history k
          (record { id = at.id; run = Some (after_action run) }) p.free
          gates locks)
      passes_by a acting next does_it gates locks =
          goes_on p.history gates locks (goes_nowhere r.layout (Worker at.id) p.history st.kept) (not_waiting acting)
          (working.passes_on r.layout r.does at.id works_here.cpu works_here.index run p.history acc a
          acting
          next acc.left_out does_it)

      -- it falls asleep at a gate or a lock
      sleeps : (door : Bool → Doing) → ((b : Bool) → caller_of (door b) ≡ None) → run.doing ≡ Acts
          → ((b : Bool) (u : View) (log : List Entry) → SleepsOrNot r.layout b acc.acted u log at.id
          → DoesNext r.layout at.id next_action (door b) acc.acted u log) → Stands r (slept_at door p k at.id run)
      sleeps door none acting does_it =
          moves_alone (Some (record run { doing = door (is_some (replied p.history (Worker at.id) call.Sleep)) }))
          (stepped p.history (Worker at.id) call.Sleep) p.gates p.locks
          (stepped_goes r.layout (Worker at.id) p.history call.Sleep st.kept) (not_waiting acting) (none _)
          (working.sleeps_at r.layout r.does at.id works_here.cpu works_here.index run p.history acc door
          st.kept acting does_it)

      -- and wakes
      wakes : (a : Action) (slept : Bool) → caller_of run.doing ≡ None → next_action ≡ Some a
          → SleepsOrNot r.layout slept acc.acted acc.view p.history.entries at.id
          → ((u : View) → SleepsOnce r.layout acc.acted u
          → interpreted.Acts r.layout run.item a acc.left_out acc.left_out acc.acted u) → (gates : List Bool)
          (locks : List (Option Holder))
          → Stands r (went_on (woken (record p { gates = gates; locks = locks }) at.id slept) k at.id run)
      wakes a true none next asleep does_it gates locks =
          goes_on (stepped p.history (Worker at.id) call.Wake) gates locks
          (stepped_goes r.layout (Worker at.id) p.history call.Wake st.kept) (not_lent none)
          (working.wakes_up r.layout r.does at.id works_here.cpu works_here.index run p.history acc a true
          st.kept next asleep does_it)
      wakes a false none next asleep does_it gates locks =
          goes_on p.history gates locks (goes_nowhere r.layout (Worker at.id) p.history st.kept) (not_lent none)
          (working.wakes_up r.layout r.does at.id works_here.cpu works_here.index run p.history acc a
          false
          st.kept next asleep does_it)

      -- ---- waits

      record CallerIsFree (c : ℕ) : Type 0 where
        place : ℕ
        held : st.lent.holder c ≡ inl place
        lendable : IsLendable r c
        rested : HasRested r.layout c p.history.entries

      is_lent_free : (c : ℕ) → last_free p.free ≡ Some c → CallerIsFree c
      is_lent_free c last =
          let x = st.lent.free (length p.free - 1) c last in
          record {
            place = length p.free - 1;
            held = x.0;
            lendable = x.1;
            rested = subst (LentStands r p c) x.0 (st.lent.each c x.1);
          }

      lent_there : (c : ℕ) → IsLendable r c → nat_lt c r.layout.callers ≡ true
      lent_there c lendable = lt-ltb c r.layout.callers (few_callers r ok p st c lendable.1)

      -- the worker and the caller make entries
      both_make : (c : ℕ) (g : History) → IsKept r.layout g → IsLendable r c
          → ((who : Who) → same_who (Worker at.id) who ≡ false → same_who (caller_numbered c) who ≡ false
          → Spares who p.history.entries g.entries)
          → ((j : ℕ) (z : WorkerAt) (d : ℕ) → (j ≡ k → ⊥) → slice_get p.workers j ≡ Some z → lent_to z ≡ Some d
          → (c ≡ d → ⊥)) → WorkerMoves r ok p st k at (Some c) g
      both_make c g kept lendable spares others = record {
        is = is;
        kept = kept;
        spares = spares;
        lendable = lendable;
        nobody_else = λ j z d other there waits. callers_apart c d (others j z d other there waits);
      }

      free_apart : (c : ℕ) → CallerIsFree c → (j : ℕ) (z : WorkerAt) (d : ℕ) → (j ≡ k → ⊥)
          → slice_get p.workers j ≡ Some z → lent_to z ≡ Some d → c ≡ d → ⊥
      free_apart c free j z d other there waits same =
          let both : ◌≡◌ {A = Holding} (inl free.place) (inr j) =
          sym free.held ∙ (ap st.lent.holder same ∙ (st.lent.waiting j z d there waits).0) in
          absurd (cc both)

      begins : (c : Call) (caller : ℕ) → run.doing ≡ Acts → next_action ≡ Some (action.Call c)
          → is_workers c ≡ false → lent_for p at.id c ≡ Some caller → Stands r (begun_by p k at.id run c caller)
      unfolding begun_by
      begins c caller acting next other lent =
          came (called slept (caller_numbered caller) c).history (called slept (caller_numbered caller) c).outcome
          (called_goes r.layout (caller_numbered caller) slept c slept_goes.kept)
          (began_as slept (caller_numbered caller) c)
          (lending.begins r.layout r.does at.id works_here.cpu works_here.index p st.kept first
          (same_refusals at.id) run acc c
          caller acting
          next (ok.does run.item.0 run.next c next) other lent (lent_there caller free.lendable)
          (lent_number caller free.lendable) free.rested)
        where
          slept : History
          slept = stepped p.history (Worker at.id) call.Sleep

          slept_goes : GoesOn r.layout (Worker at.id) p.history (stepped p.history (Worker at.id) call.Sleep)
          slept_goes = stepped_goes r.layout (Worker at.id) p.history call.Sleep st.kept

          free : CallerIsFree caller
          free = is_lent_free caller (lending.lent_is p at.id c caller lent).last

          asleep : HasLaid slept at.id
          asleep =
              has_laid r.layout p.history at.id st.kept
              (subst (λ d. DoesNext r.layout at.id next_action d acc.acted acc.view p.history.entries) acting
              acc.doing).1
              (has_room r.layout p.history at.id (record { 0 = caller }) c st.kept
              (waits_of_items r.layout c (ok.does run.item.0 run.next c next) other)
              (lending.lent_is p at.id c caller lent).room).sleeps

          -- what the sleep and the call leave of the runs that wait
          Calls : History → Type 0
          Calls g = GoesOn r.layout (caller_numbered caller) slept g

          IsOldOrLaid : RunWait → Type 0
          IsOldOrLaid v = In v (waits_of first (past_in p.history)) ⊎ (laid (past_in slept) ≡ Some v.run)

          IsOldOrNow : WorkerAt → History → RunWait → Type 0
          IsOldOrNow now g v =
              (In v (waits_of first (past_in p.history)) × IsNotOf r ok p st at.id v) ⊎ IsWaitNow r ok p st now g v

          then_stays : (g : History) → Calls g → (v : RunWait) (z : WorkerId)
              → In v (waits_of first (past_in p.history)) → queueing_run (past_in p.history) (Worker z) ≡ Some v.run
              → same_who (Worker at.id) (Worker z) ≡ false
              → same_who (caller_numbered caller) (Caller v.ticket.caller) ≡ false → In v (waits_of first (past_in g))
          then_stays g goes v z here runs_it other unheld =
              (goes.waits first).stay v z ((slept_goes.waits first).stay v z here runs_it other refl)
              ((slept_goes.waits first).runs z v.run other runs_it) refl unheld

          then_runs : (g : History) → Calls g → (z : WorkerId) (x : Queueing)
              → same_who (Worker at.id) (Worker z) ≡ false → queueing_run (past_in p.history) (Worker z) ≡ Some x
              → queueing_run (past_in g) (Worker z) ≡ Some x
          then_runs g goes z x other runs_it =
              (goes.waits first).runs z x refl ((slept_goes.waits first).runs z x other runs_it)

          then_whence : (g : History) → Calls g → (v : RunWait) → In v (waits_of first (past_in g)) → IsOldOrLaid v
          then_whence g goes v here = of ((goes.waits first).whence v here)
            where
              before : In v (waits_of first (past_in p.history))
                  ⊎ ((is_lent first (Worker at.id) ≡ true) × (laid (past_in p.history) ≡ Some v.run)) → IsOldOrLaid v
              before (inl old) = inl old
              before (inr begins) = absurd (cc begins.0)

              of : In v (waits_of first (past_in slept))
                  ⊎ ((is_lent first (caller_numbered caller) ≡ true) × (laid (past_in slept) ≡ Some v.run))
                  → IsOldOrLaid v
              of (inl old) = before ((slept_goes.waits first).whence v old)
              of (inr begins) = inr begins.1

          -- what fell asleep is still run
          still_run : (g : History) → Calls g → (v : RunWait) → laid (past_in slept) ≡ Some v.run
              → queueing_run (past_in g) (Worker at.id) ≡ Some v.run
          still_run g goes v lies =
              (goes.waits first).runs at.id v.run refl (asleep.runs ∙ (sym asleep.lies ∙ lies))

          waits_woken : (g : History) → Calls g
              → WaitsMove r ok p st at (Some (after_action run)) (Some caller)
              (stepped g (Worker at.id) call.Wake)
          waits_woken g goes = record {
            stay = λ v z here runs_it other unheld.
                (wake.waits first).stay v z (then_stays g goes v z here runs_it other unheld)
                (then_runs g goes z v.run other runs_it) other refl;
            runs = λ z x other runs_it. (wake.waits first).runs z x other (then_runs g goes z x other runs_it);
            whence = λ v here. before v here ((wake.waits first).whence v here);
            now = λ d t waits.
                absurd (cc (lent_by r ok p st (record { id = at.id; run = Some (after_action run) }) d t waits));
          }
            where
              wake : GoesOn r.layout (Worker at.id) g (stepped g (Worker at.id) call.Wake)
              wake = stepped_goes r.layout (Worker at.id) g call.Wake goes.kept

              old_or_not : (v : RunWait) → In v (waits_of first (past_in (stepped g (Worker at.id) call.Wake)))
                  → IsOldOrLaid v
                  → IsOldOrNow (record { id = at.id; run = Some (after_action run) })
                  (stepped g (Worker at.id) call.Wake) v
              old_or_not v here (inl old) = inl (old, not_of r ok p st k at is (not_waiting acting) v old)
              old_or_not v here (inr lies) =
                  absurd (woken_gone first r.layout g at.id v goes.kept fit_wake (still_run g goes v lies) here)

              before : (v : RunWait) → In v (waits_of first (past_in (stepped g (Worker at.id) call.Wake)))
                  → In v (waits_of first (past_in g))
                  ⊎ ((is_lent first (Worker at.id) ≡ true) × (laid (past_in g) ≡ Some v.run))
                  → IsOldOrNow (record { id = at.id; run = Some (after_action run) })
                  (stepped g (Worker at.id) call.Wake) v
              before v here (inl mid) = old_or_not v here (then_whence g goes v mid)
              before v here (inr begins) = absurd (cc begins.0)

          waiting_at : Ticketed → WorkerAt
          waiting_at t = record { id = at.id; run = Some (record run { doing = Waits caller t }) }

          waits_begun : (g : History) → Calls g → (t : Ticketed)
              → BeganAs slept (caller_numbered caller) c g (Began t)
              → WaitsMove r ok p st at (Some (record run { doing = Waits caller t })) (Some caller) g
          waits_begun g goes t began = record {
            stay = then_stays g goes;
            runs = then_runs g goes;
            whence = λ v here. new_or_not v here (then_whence g goes v here);
            now = λ d u waits. its d u waits;
          }
            where
              new : IsNewWait first g asleep.run caller t
              new =
                  new_wait first r.layout slept asleep.run caller c t slept_goes.kept asleep.lies
                  (lent_number caller free.lendable) g began

              new_or_not : (v : RunWait) → In v (waits_of first (past_in g)) → IsOldOrLaid v
                  → IsOldOrNow (waiting_at t) g v
              new_or_not v here (inl old) = inl (old, not_of r ok p st k at is (not_waiting acting) v old)
              new_or_not v here (inr lies) =
                  let run_is : v.run ≡ new.wait.run =
                  same_Some v.run asleep.run (sym lies ∙ asleep.lies) ∙ sym new.run in
                  let same = same_run (waits_of first (past_in g)) v new.wait
                  (waits_are_apart first r.layout (past_in g) goes.kept.legal) here new.there
                  (ap (λ (x : Queueing). x.number) run_is) in
                  let waits : WaitsBy (waiting_at t) caller t =
                  record { run = record run { doing = Waits caller t }; runs = refl; doing = refl } in
                  let it : IsWaitAt (past_in g) at.id caller t v = record {
                    caller = ap (λ (x : RunWait). x.ticket.caller.0) same ∙ new.caller;
                    number = ap (λ (x : RunWait). x.ticket.number) same ∙ new.number;
                    runs = still_run g goes v lies;
                  } in
                  inr (caller, t, waits, it)

              its : (d : ℕ) (u : Ticketed) → WaitsBy (waiting_at t) d u
                  → (v : RunWait) × In v (waits_of first (past_in g)) × IsWaitAt (past_in g) at.id d u v
              its d u waits =
                  let run_is = same_Some (record run { doing = Waits caller t }) waits.run waits.runs in
                  let doing_is : ◌≡◌ {A = Doing} (Waits caller t) (Waits d u) =
                  ap (λ (x : RunAt). x.doing) run_is ∙ waits.doing in
                  let by : caller ≡ d = cc doing_is in
                  let for_it : t ≡ u = cc doing_is in
                  let it : IsWaitAt (past_in g) at.id d u new.wait = record {
                    caller = new.caller ∙ by;
                    number = new.number ∙ ap (λ (x : Ticketed). x.ticket) for_it;
                    runs = still_run g goes new.wait (asleep.lies ∙ ap Some (sym new.run));
                  } in
                  (new.wait, new.there, it)

          then_spares : (g : History) → GoesOn r.layout (caller_numbered caller) slept g → (who : Who)
              → same_who (Worker at.id) who ≡ false → same_who (caller_numbered caller) who ≡ false
              → Spares who p.history.entries g.entries
          then_spares g goes who one two =
              spares_further who p.history.entries slept.entries g.entries (slept_goes.spares who one)
              (goes.spares who two)

          wakes_whole : (g : History) → GoesOn r.layout (caller_numbered caller) slept g
              → IsRunning r.layout r.does at.id (after_action run) (stepped g (Worker at.id) call.Wake).entries
              × HasRested r.layout caller (stepped g (Worker at.id) call.Wake).entries
              → Stands r (went_on (with_history p (stepped g (Worker at.id) call.Wake)) k at.id run)
          wakes_whole g goes (on, rests) =
              let wake = stepped_goes r.layout (Worker at.id) g call.Wake goes.kept in
              let m =
              both_make caller (stepped g (Worker at.id) call.Wake) wake.kept free.lendable
              (λ who one two. spares_further who p.history.entries g.entries
              (stepped g (Worker at.id) call.Wake).entries
              (then_spares g goes who one two) (wake.spares who one)) (free_apart caller free) in
              worker_moves r ok p st k at (Some (after_action run)) (Some caller)
              (stepped g (Worker at.id) call.Wake) p.free
              p.gates p.locks m (waits_woken g goes) on
              (same_lent r ok p st k at (Some (after_action run)) (Some caller)
              (stepped g (Worker at.id) call.Wake) p.gates
              p.locks m (not_waiting acting) refl rests)

          came : (g : History) (o : Called) → GoesOn r.layout (caller_numbered caller) slept g
              → BeganAs slept (caller_numbered caller) c g o
              → lending.BegunAs r.layout r.does at.id works_here.cpu works_here.index p st.kept first
              (same_refusals at.id) run
              caller c g
              o → Stands r (after_begin p k at.id run caller g o)
          came g NoRoom goes began none = absurd none
          came g Whole goes began whole = wakes_whole g goes whole
          came g (Began t) goes began on =
              let m = both_make caller g goes.kept free.lendable (then_spares g goes) (free_apart caller free) in
              worker_moves r ok p st k at (Some (record run { doing = Waits caller t })) (Some caller) g
              (take (length p.free - 1) p.free) p.gates p.locks m (waits_begun g goes t began) on
              (one_lent r ok p st k at (record run { doing = Waits caller t }) caller g p.gates p.locks m
              (not_waiting acting) refl (lending.lent_is p at.id c caller lent).last)

      waits_or_not : (c : Call) → run.doing ≡ Acts → next_action ≡ Some (action.Call c) → is_workers c ≡ false
          → Stands r (waited p k at.id run c)
      unfolding waited
      waits_or_not c acting next other = by (lent_for p at.id c) refl
        where
          by : (o : Option ℕ) → lent_for p at.id c ≡ o
              → Stands r (option_map_or (begun_by p k at.id run c) o (went_on p k at.id run))
          by None none =
              goes_on p.history p.gates p.locks (goes_nowhere r.layout (Worker at.id) p.history st.kept)
              (not_waiting acting)
              (lending.waits_not r.layout r.does at.id works_here.cpu works_here.index p st.kept first
              (same_refusals at.id) run acc c
              acting next (ok.does run.item.0 run.next c next) other
              (λ d last. let free = is_lent_free d last in
              (lent_there d free.lendable, lent_number d free.lendable)) none)
          by (Some caller) lent = begins c caller acting next other lent

      ends_wait : (c : ℕ) (t : Ticketed) → run.doing ≡ Waits c t → ends p.history (caller_numbered c) t.ticket ≡ true
          → Stands r (wait_ended p k at.id run c t)
      unfolding wait_ended
      ends_wait c t waiting may =
          worker_moves r ok p st k at (Some (after_action run)) (Some c) g
          (p.free ++ c ∷ []) p.gates p.locks m waits_ended then_both.0
          (one_back r ok p st k at (after_action run) c g p.gates p.locks m waits_now refl then_both.1)
        where
          g : History
          g = stepped (ended p.history (caller_numbered c) t) (Worker at.id) call.Wake

          waits_now : lent_to at ≡ Some c
          waits_now = ap (option_and_then (λ (x : RunAt). caller_of x.doing)) runs ∙ ap caller_of waiting

          held : (st.lent.holder c ≡ inr k) × IsLendable r c
          held = st.lent.waiting k at c is waits_now

          then_both : IsRunning r.layout r.does at.id (after_action run) g.entries × HasRested r.layout c g.entries
          then_both =
              lending.ends_then r.layout r.does at.id works_here.cpu works_here.index p st.kept first
              (same_refusals at.id) run acc
              c t
              waiting (λ d next. ok.does run.item.0 run.next d next) (lent_there c held.1) may

          goes : GoesOn r.layout (caller_numbered c) p.history (ended p.history (caller_numbered c) t)
          goes = ended_goes r.layout (caller_numbered c) p.history t st.kept

          wake : GoesOn r.layout (Worker at.id) (ended p.history (caller_numbered c) t) g
          wake = stepped_goes r.layout (Worker at.id) (ended p.history (caller_numbered c) t) call.Wake goes.kept

          waits_ended : WaitsMove r ok p st at (Some (after_action run)) (Some c) g
          waits_ended = record {
            stay = λ v z here runs_it other unheld.
                (wake.waits first).stay v z ((goes.waits first).stay v z here runs_it refl unheld)
                ((goes.waits first).runs z v.run refl runs_it) other refl;
            runs = λ z x other runs_it. (wake.waits first).runs z x other ((goes.waits first).runs z x refl runs_it);
            whence = λ v here. old_or_not v here ((wake.waits first).whence v here);
            now = λ d u waits.
                absurd (cc (lent_by r ok p st (record { id = at.id; run = Some (after_action run) }) d u waits));
          }
            where
              old_or_not : (v : RunWait) → In v (waits_of first (past_in g))
                  → In v (waits_of first (past_in (ended p.history (caller_numbered c) t)))
                  ⊎ ((is_lent first (Worker at.id) ≡ true)
                  × (laid (past_in (ended p.history (caller_numbered c) t)) ≡ Some v.run))
                  → (In v (waits_of first (past_in p.history)) × IsNotOf r ok p st at.id v)
                  ⊎ IsWaitNow r ok p st (record { id = at.id; run = Some (after_action run) }) g v
              old_or_not v here (inl mid) =
                  inl (
                    ended_begins_none first r.layout p.history c t st.kept (lent_number c held.1) may v mid,
                    λ runs_it.
                        woken_gone first r.layout (ended p.history (caller_numbered c) t) at.id v goes.kept fit_wake
                        ((goes.waits first).runs at.id v.run refl runs_it) here,
                  )
              old_or_not v here (inr begins) = absurd (cc begins.0)

          m : WorkerMoves r ok p st k at (Some c) g
          m =
              both_make c g wake.kept held.1
              (λ who one two. spares_further who p.history.entries
              (ended p.history (caller_numbered c) t).entries g.entries
              (goes.spares who two) (wake.spares who one))
              (λ j z d other there waits same.
              let both : ◌≡◌ {A = Holding} (inr k) (inr j) =
              sym held.0 ∙ (ap st.lent.holder same ∙ (st.lent.waiting j z d there waits).0) in
              let place : k ≡ j = cc both in
              other (sym place))

      -- ---- its next action

      unlocks_by : (lock : ℕ) → run.doing ≡ Acts → next_action ≡ Some (action.Unlock lock) → (b : Bool)
          → Stands r (went_on (if b then record p { locks = slice_set p.locks lock None } else p) k at.id run)
      unlocks_by lock acting next true =
          passes_by (action.Unlock lock) acting next (refl, refl) p.gates (slice_set p.locks lock None)
      unlocks_by lock acting next false = passes_by (action.Unlock lock) acting next (refl, refl) p.gates p.locks

      locks_or_sleeps : (lock : ℕ) → run.doing ≡ Acts → next_action ≡ Some (action.Lock lock) → (b : Bool)
          → Stands r (if b then went_on (locked p (holders.Run run.item) lock) k at.id run
          else slept_at (AtLock lock) p k at.id run)
      locks_or_sleeps lock acting next true =
          passes_by (action.Lock lock) acting next (inl refl, refl) p.gates
          (slice_set p.locks lock (Some (holders.Run run.item)))
      locks_or_sleeps lock acting next false =
          sleeps (AtLock lock) (λ b. refl) acting (λ b u log slept. (next, slept))

      calls_by : (c : Call) → run.doing ≡ Acts → next_action ≡ Some (action.Call c) → (b : Bool) → is_workers c ≡ b
          → Stands r (if b then went_on (with_history p (stepped p.history (Worker at.id) c)) k at.id run
          else waited p k at.id run c)
      calls_by c acting next true own =
          goes_on (stepped p.history (Worker at.id) c) p.gates p.locks
          (stepped_goes r.layout (Worker at.id) p.history c st.kept) (not_waiting acting)
          (working.calls_itself r.layout r.does at.id works_here.cpu works_here.index run p.history acc c
          st.kept acting next (ok.does run.item.0 run.next c next) own)
      calls_by c acting next false other = waits_or_not c acting next other

      acts_on : (a : Action) → run.doing ≡ Acts → next_action ≡ Some a → Stands r (acted p k at.id run a)
      unfolding acted
      acts_on (action.Call c) acting next = calls_by c acting next (is_workers c) refl
      acts_on (action.Open gate) acting next =
          passes_by (action.Open gate) acting next (refl, refl) (slice_set p.gates gate true) p.locks
      acts_on (action.SleepAt gate) acting next =
          sleeps (AtGate gate) (λ b. refl) acting (λ b u log slept. (next, slept))
      acts_on (action.Lock lock) acting next = locks_or_sleeps lock acting next (is_free p lock)
      acts_on (action.Unlock lock) acting next = unlocks_by lock acting next (holds p (holders.Run run.item) lock)

      ends_run : run.doing ≡ Acts → next_action ≡ None → Stands r (finished p k at.id)
      unfolding finished
      ends_run acting none =
          starts_then (rested (stepped p.history (Worker at.id) call.Finish) at.id)
          (rests (retires (stepped p.history (Worker at.id) call.Finish) at.id)) (not_waiting acting)
          (working.finishes r.layout r.does at.id works_here.cpu works_here.index run p.history acc
          st.kept
          acting none)
        where
          finish : GoesOn r.layout (Worker at.id) p.history (stepped p.history (Worker at.id) call.Finish)
          finish = stepped_goes r.layout (Worker at.id) p.history call.Finish st.kept

          rests : (b : Bool) → GoesOn r.layout (Worker at.id) p.history
              (if b then stepped (stepped p.history (Worker at.id) call.Finish) (Worker at.id) call.Retire
              else stepped p.history (Worker at.id) call.Finish)
          rests true =
              goes_further r.layout (Worker at.id) p.history (stepped p.history (Worker at.id) call.Finish) _ finish
              (stepped_goes r.layout (Worker at.id) (stepped p.history (Worker at.id) call.Finish) call.Retire
              finish.kept)
          rests false = finish

      same_action : action_of p run ≡ next_action
      same_action =
          ap (λ lists. option_map_or (λ actions. slice_get actions run.next) (slice_get lists run.item.0) None) st.does
          ∙ of (slice_get r.does run.item.0)
        where
          of : (o : Option (List Action))
              → option_map_or (λ actions. slice_get actions run.next) o None
              ≡ slice_get (option_map_or (λ actions. actions) o []) run.next
          of None = refl
          of (Some xs) = refl

      does_on : (d : Doing) → run.doing ≡ d → may_do p d ≡ true → Stands r (did p k at.id run d)
      does_on Acts acting may = by (action_of p run) refl
        where
          by : (o : Option Action) → action_of p run ≡ o
              → Stands r (option_map_or (acted p k at.id run) o (finished p k at.id))
          by None none = ends_run acting (sym same_action ∙ none)
          by (Some a) next = acts_on a acting (sym same_action ∙ next)
      does_on (AtGate gate slept) here may =
          at_gate (subst (λ d. DoesNext r.layout at.id next_action d acc.acted acc.view p.history.entries) here
          acc.doing)
        where
          at_gate : DoesNext r.layout at.id next_action (AtGate gate slept) acc.acted acc.view p.history.entries
              → Stands r (went_on (woken p at.id slept) k at.id run)
          at_gate (next, asleep) =
              wakes (action.SleepAt gate) slept (ap caller_of here) next asleep (λ u once. (once, refl)) p.gates p.locks
      does_on (AtLock lock slept) here may =
          at_lock (subst (λ d. DoesNext r.layout at.id next_action d acc.acted acc.view p.history.entries) here
          acc.doing)
        where
          at_lock : DoesNext r.layout at.id next_action (AtLock lock slept) acc.acted acc.view p.history.entries
              → Stands r (went_on (woken (locked p (holders.Run run.item) lock) at.id slept) k at.id run)
          at_lock (next, asleep) =
              wakes (action.Lock lock) slept (ap caller_of here) next asleep (λ u once. (inr once, refl)) p.gates
              (slice_set p.locks lock (Some (holders.Run run.item)))
      does_on (Waits c t) waiting may = ends_wait c t waiting may

    pub worker_steps_on : may_work p at ≡ true → Stands r (worker_moved p k at)
    unfolding worker_moved run_moved
    worker_steps_on = by at.run refl
      where
        idle : Works r.layout r.does at.id at.run p.history.entries
        idle = works_here.works

        by : (o : Option RunAt) → at.run ≡ o
            → option_map_or (λ (run : RunAt). may_do p run.doing) o (is_some (starts p.history at.id)) ≡ true
            → Stands r (option_map_or (λ (run : RunAt). did p k at.id run run.doing) o (started p k at.id))
        by None none may =
            starts_then p.history (goes_nowhere r.layout (Worker at.id) p.history st.kept)
            (ap (option_and_then (λ (x : RunAt). caller_of x.doing)) none)
            (subst (λ o. Works r.layout r.does at.id o p.history.entries) none works_here.works)
        by (Some run) runs may =
            does_on run runs (subst (λ o. Works r.layout r.does at.id o p.history.entries) runs works_here.works)
            run.doing
            refl may

-- ---- a move

pub move_stands : (r : Run) (p : Stand) (party : ℕ) → IsPlayable r → Stands r p → may p party ≡ true
    → Stands r (moved p party)
unfolding may moved
move_stands r p party ok st = by (nat_lt party (length p.callers))
  where
    of_caller : (o : Option CallerAt) → slice_get p.callers party ≡ o → option_map_or (may_call p party) o false ≡ true
        → Stands r (option_map_or (caller_moved p party) o p)
    of_caller None none may = absurd (cc may)
    of_caller (Some at) is may = caller_steps_on r ok p st party at is may

    of_worker : (k : ℕ) (o : Option WorkerAt) → slice_get p.workers k ≡ o
        → option_map_or (may_work p) o false ≡ true → Stands r (option_map_or (worker_moved p k) o p)
    of_worker k None none may = absurd (cc may)
    of_worker k (Some at) is may = worker_steps_on r ok p st k at is may

    by : (b : Bool)
        → (if b then option_map_or (may_call p party) (slice_get p.callers party) false
        else option_map_or (may_work p) (slice_get p.workers (party - length p.callers)) false) ≡ true
        → Stands r (if b then option_map_or (caller_moved p party) (slice_get p.callers party) p
        else option_map_or (worker_moved p (party - length p.callers))
        (slice_get p.workers (party - length p.callers)) p)
    by true may = of_caller (slice_get p.callers party) refl may
    by false may = of_worker (party - length p.callers) (slice_get p.workers (party - length p.callers)) refl may
