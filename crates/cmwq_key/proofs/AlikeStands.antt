-- Parts of stands that are alike, who may move there, and what is done.
use Rattle.std.specs.Prelude.{◌||◌, ◌-◌, if◌then◌else◌, nat_lt, slice_get}
use Rattle.std.specs.Option.{option_map_or}
use Rattle.std.proofs.Common.{◌≡◌, ◌∙◌, ℕ, Bool, false, List, [], length, count_by, Option, Some, None, is_some, ap}
use Rattle.std.proofs.Common.{ap₂, refl, sym}
use Rattle.std.proofs.lemmas.Option.{same_Some}
use Rattle.cmwq_model.specs.Prelude.{still_open}
unfoldable use Rattle.cmwq_model.specs.Prelude.{is_active}
use Rattle.cmwq_model.specs.declared.id.Who.TheVariants.{Caller}
use Rattle.cmwq_model.specs.declared.id.WorkerId.{WorkerId}
use Rattle.cmwq_alike.specs.Alike.{queueing_by}
use Rattle.cmwq_alike.proofs.Lemmas.{count_mapped}
use Rattle.cmwq_json_script.specs.declared.action.Action.{Action}
use Rattle.cmwq_json_script.specs.declared.action.Action.TheVariants as action
use Rattle.cmwq_play.specs.declared.place.CallerAt.{CallerAt}
use Rattle.cmwq_play.specs.declared.place.Doing.{Doing}
use Rattle.cmwq_play.specs.declared.place.Doing.TheVariants.{Acts, AtGate, AtLock, Waits}
use Rattle.cmwq_play.specs.declared.place.RunAt.{RunAt}
use Rattle.cmwq_play.specs.declared.place.Ticketed.{Ticketed}
use Rattle.cmwq_play.specs.declared.place.WorkerAt.{WorkerAt}
use Rattle.cmwq_key.specs.Alike.{AreCallersAlike, AreDoingsAlike, AreRunsAlike, AreStandsAlike, AreWaitsAlike}
use Rattle.cmwq_key.specs.Alike.{AreWorkersAlike, DoneAlike, MayAlike, OptionsMatch, AreTicketsAlike}
use Rattle.cmwq_core.specs.History.{History, past_in}
use Rattle.cmwq_play.specs.Machines.{ends, starts}
use Rattle.cmwq_play.specs.Stands.{Stand, IsDone, action_of, active_in, calls_left, has_run, is_free, is_open}
use Rattle.cmwq_play.specs.Stands.{may_act, may_call, may_do, may_work, script_at, with_caller, with_history}
use Rattle.cmwq_play.specs.Stands.{with_run}
unfoldable use Rattle.cmwq_play.specs.Stands.{may}
use Rattle.cmwq_key.proofs.AlikeCalls.{ends_alike, starts_alike}
use Rattle.cmwq_key.proofs.AlikeHistories.{GoOnAlike}
use Rattle.cmwq_key.proofs.Matching.{any_alike, equally_long, lists_weaker, match_at, match_set, options_weaker}
use Rattle.cmwq_key.proofs.Matching.{some_alike}

-- ---- where tickets stay alike

module _ (R S : ℕ → ℕ → Type 0) (weaker : (n m : ℕ) → R n m → S n m) where
  wait_weaker : (w v : Ticketed) → AreWaitsAlike R w v → AreWaitsAlike S w v
  wait_weaker w v h = record { call = h.call; ticket = weaker w.ticket v.ticket h.ticket }

  caller_weaker : (at other : CallerAt) → AreCallersAlike R at other → AreCallersAlike S at other
  caller_weaker at other h =
      record {
        id = h.id;
        next = h.next;
        wait = options_weaker (AreWaitsAlike R) (AreWaitsAlike S) at.wait other.wait wait_weaker h.wait;
      }

  doing_weaker : (d e : Doing) → AreDoingsAlike R d e → AreDoingsAlike S d e
  doing_weaker Acts Acts h = h
  doing_weaker (AtGate gate slept) (AtGate other so) h = h
  doing_weaker (AtLock lock slept) (AtLock other so) h = h
  doing_weaker (Waits caller w) (Waits other v) h = (h.0, wait_weaker w v h.1)
  doing_weaker d e h = absurd h

  run_weaker : (run other : RunAt) → AreRunsAlike R run other → AreRunsAlike S run other
  run_weaker run other h = record { item = h.item; next = h.next; doing = doing_weaker run.doing other.doing h.doing }

  worker_weaker : (at other : WorkerAt) → AreWorkersAlike R at other → AreWorkersAlike S at other
  worker_weaker at other h =
      record { id = h.id; run = options_weaker (AreRunsAlike R) (AreRunsAlike S) at.run other.run run_weaker h.run }

module _ {f : ℕ → ℕ} {p q : Stand} (a : AreStandsAlike f p q) where
  -- ---- stands of which a part changes

  pub history_alike : {h g : History} (k : GoOnAlike f p.history q.history h g)
      → AreStandsAlike k.by (with_history p h) (with_history q g)
  history_alike {h} {g} k =
      record {
        scripts = a.scripts;
        does = a.does;
        scripts_name_none = a.scripts_name_none;
        does_name_none = a.does_name_none;
        histories = k.alike;
        callers = lists_weaker _ _ p.callers q.callers (caller_weaker _ (AreTicketsAlike k.by h g) k.waits) a.callers;
        workers = lists_weaker _ _ p.workers q.workers (worker_weaker _ (AreTicketsAlike k.by h g) k.waits) a.workers;
        gates = a.gates;
        locks = a.locks;
        free = a.free;
      }

  pub caller_alike : (k : ℕ) (at other : CallerAt) → AreCallersAlike (AreTicketsAlike f p.history q.history) at other
      → AreStandsAlike f (with_caller p k at) (with_caller q k other)
  caller_alike k at other h =
      record {
        scripts = a.scripts;
        does = a.does;
        scripts_name_none = a.scripts_name_none;
        does_name_none = a.does_name_none;
        histories = a.histories;
        callers = match_set _ p.callers q.callers k at other a.callers h;
        workers = a.workers;
        gates = a.gates;
        locks = a.locks;
        free = a.free;
      }

  pub run_alike : (k : ℕ) (id : WorkerId) (run other : Option RunAt)
      → OptionsMatch (AreRunsAlike (AreTicketsAlike f p.history q.history)) run other
      → AreStandsAlike f (with_run p k id run) (with_run q k id other)
  run_alike k id run other h =
      record {
        scripts = a.scripts;
        does = a.does;
        scripts_name_none = a.scripts_name_none;
        does_name_none = a.does_name_none;
        histories = a.histories;
        callers = a.callers;
        workers = match_set _ p.workers q.workers k (record { id = id; run = run }) (record { id = id; run = other })
            a.workers
            (record { id = refl; run = h });
        gates = a.gates;
        locks = a.locks;
        free = a.free;
      }

  pub gates_alike : {gates others : List Bool} → others ≡ gates
      → AreStandsAlike f (record p { gates = gates }) (record q { gates = others })
  gates_alike same =
      record {
        scripts = a.scripts;
        does = a.does;
        scripts_name_none = a.scripts_name_none;
        does_name_none = a.does_name_none;
        histories = a.histories;
        callers = a.callers;
        workers = a.workers;
        gates = same;
        locks = a.locks;
        free = a.free;
      }

  -- ---- what is next

  script_alike : (k : ℕ) → script_at q k ≡ script_at p k
  script_alike k = ap (λ s. option_map_or (λ actions. actions) (slice_get s k) []) a.scripts

  pub next_alike : (k next : ℕ) → slice_get (script_at q k) next ≡ slice_get (script_at p k) next
  next_alike k next = ap (λ s. slice_get s next) (script_alike k)

  pub action_alike : (run : RunAt) → action_of q run ≡ action_of p run
  action_alike run =
      ap (λ does. option_map_or (λ actions. slice_get actions run.next) (slice_get does run.item.0) None) a.does

  -- ---- who may move

  open_alike : (gate : ℕ) → is_open q gate ≡ is_open p gate
  open_alike gate = ap (λ gates. option_map_or (λ is. is) (slice_get gates gate) false) a.gates

  pub free_alike : (lock : ℕ) → is_free q lock ≡ is_free p lock
  free_alike lock = ap (λ locks. is_free (record p { locks = locks }) lock) a.locks

  act_alike : (c : Action) → may_act q c ≡ may_act p c
  act_alike (action.SleepAt gate) = open_alike gate
  act_alike (action.Lock lock) = free_alike lock
  act_alike c = refl

  call_alike : (k : ℕ) (at other : CallerAt) → AreCallersAlike (AreTicketsAlike f p.history q.history) at other
      → may_call q k other ≡ may_call p k at
  call_alike k at other h =
      ap₂ (λ id next. option_map_or (λ (w : Ticketed). ends q.history (Caller id) w.ticket) other.wait
      (option_map_or (may_act q) (slice_get (script_at q k) next) false)) h.id h.next
      ∙ by_wait at.wait other.wait h.wait
    where
      by_action : (o : Option Action) → option_map_or (may_act q) o false ≡ option_map_or (may_act p) o false
      by_action None = refl
      by_action (Some c) = act_alike c

      by_wait : (o r : Option Ticketed) → OptionsMatch (AreWaitsAlike (AreTicketsAlike f p.history q.history)) o r
          → option_map_or (λ (w : Ticketed). ends q.history (Caller at.id) w.ticket) r
          (option_map_or (may_act q) (slice_get (script_at q k) at.next) false)
          ≡ option_map_or (λ (w : Ticketed). ends p.history (Caller at.id) w.ticket) o
          (option_map_or (may_act p) (slice_get (script_at p k) at.next) false)
      by_wait None None match =
          ap (λ o. option_map_or (may_act q) o false) (next_alike k at.next)
          ∙ by_action (slice_get (script_at p k) at.next)
      by_wait None (Some v) match = absurd match
      by_wait (Some w) None match = absurd match
      by_wait (Some w) (Some v) match = ends_alike a.histories (Caller at.id) w.ticket v.ticket match.ticket

  do_alike : (d e : Doing) → AreDoingsAlike (AreTicketsAlike f p.history q.history) d e → may_do q e ≡ may_do p d
  do_alike Acts Acts h = refl
  do_alike (AtGate gate slept) (AtGate other so) h = ap (is_open q) h.0 ∙ open_alike gate
  do_alike (AtLock lock slept) (AtLock other so) h = ap (is_free q) h.0 ∙ free_alike lock
  do_alike (Waits caller w) (Waits other v) h =
      ap (λ c. ends q.history (Caller (record { 0 = c })) v.ticket) h.0
      ∙ ends_alike a.histories (Caller (record { 0 = caller })) w.ticket v.ticket h.1.ticket
  do_alike d e h = absurd h

  work_alike : (at other : WorkerAt) → AreWorkersAlike (AreTicketsAlike f p.history q.history) at other
      → may_work q other ≡ may_work p at
  work_alike at other h =
      ap (λ id. option_map_or (λ (run : RunAt). may_do q run.doing) other.run (is_some (starts q.history id))) h.id
      ∙ by_run at.run other.run h.run
    where
      by_run : (o r : Option RunAt) → OptionsMatch (AreRunsAlike (AreTicketsAlike f p.history q.history)) o r
          → option_map_or (λ (run : RunAt). may_do q run.doing) r (is_some (starts q.history at.id))
          ≡ option_map_or (λ (run : RunAt). may_do p run.doing) o (is_some (starts p.history at.id))
      by_run None None match = ap is_some (starts_alike a.histories at.id)
      by_run None (Some v) match = absurd match
      by_run (Some w) None match = absurd match
      by_run (Some w) (Some v) match = do_alike w.doing v.doing match.doing

  pub same_callers : length q.callers ≡ length p.callers
  same_callers = equally_long _ p.callers q.callers a.callers

  pub parties_alike : (k : ℕ) → may q k ≡ may p k
  unfolding may
  parties_alike k =
      ap (λ n. if nat_lt k n then option_map_or (may_call q k) (slice_get q.callers k) false
      else option_map_or (may_work q) (slice_get q.workers (k - n)) false) same_callers
      ∙ ap₂ (λ b c. if nat_lt k (length p.callers) then b else c)
      (of_caller (slice_get p.callers k) (slice_get q.callers k) (match_at _ p.callers q.callers k a.callers))
      (of_worker (slice_get p.workers (k - length p.callers)) (slice_get q.workers (k - length p.callers))
      (match_at _ p.workers q.workers (k - length p.callers) a.workers))
    where
      of_caller : (o r : Option CallerAt) → OptionsMatch (AreCallersAlike (AreTicketsAlike f p.history q.history)) o r
          → option_map_or (may_call q k) r false ≡ option_map_or (may_call p k) o false
      of_caller None None match = refl
      of_caller None (Some v) match = absurd match
      of_caller (Some w) None match = absurd match
      of_caller (Some w) (Some v) match = call_alike k w v match

      of_worker : (o r : Option WorkerAt) → OptionsMatch (AreWorkersAlike (AreTicketsAlike f p.history q.history)) o r
          → option_map_or (may_work q) r false ≡ option_map_or (may_work p) o false
      of_worker None None match = refl
      of_worker None (Some v) match = absurd match
      of_worker (Some w) None match = absurd match
      of_worker (Some w) (Some v) match = work_alike w v match

  -- ---- what is done

  left_alike : (k : ℕ) (at other : CallerAt) → AreCallersAlike (AreTicketsAlike f p.history q.history) at other
      → calls_left q k other ≡ calls_left p k at
  left_alike k at other h =
      ap₂ (λ b c. b || c) (some_alike _ at.wait other.wait h.wait)
      (ap₂ (λ next actions. nat_lt next (length actions)) h.next (script_alike k))

  active_alike : active_in q.history ≡ active_in p.history
  active_alike =
      let k = a.histories in
      ap (λ s. count_by (is_active s (past_in q.history)) (still_open (past_in q.history))) k.layout
      ∙ (ap (count_by (is_active p.history.layout (past_in q.history))) k.alike.opened
      ∙ count_mapped (queueing_by f) (is_active p.history.layout (past_in q.history))
      (is_active p.history.layout (past_in p.history)) (still_open (past_in p.history)) k.alike.active)

  pub done_on : IsDone p → IsDone q
  done_on done =
      record {
        callers = λ k other is. of_caller k (slice_get p.callers k) (slice_get q.callers k) other refl is
            (match_at _ p.callers q.callers k a.callers);
        workers =
            any_alike _ has_run has_run p.workers q.workers (λ w v h. some_alike _ w.run v.run h.run) a.workers
            ∙ done.workers;
        active = active_alike ∙ done.active;
      }
    where
      of_caller : (k : ℕ) (o r : Option CallerAt) (other : CallerAt) → slice_get p.callers k ≡ o → r ≡ Some other
          → OptionsMatch (AreCallersAlike (AreTicketsAlike f p.history q.history)) o r → calls_left q k other ≡ false
      of_caller k None None other is at match = absurd (cc at)
      of_caller k None (Some v) other is at match = absurd match
      of_caller k (Some w) None other is at match = absurd match
      of_caller k (Some w) (Some v) other is at match =
          ap (calls_left q k) (sym (same_Some v other at)) ∙ (left_alike k w v match ∙ done.callers k w is)

  pub done_back : IsDone q → IsDone p
  done_back done =
      record {
        callers = λ k at is. of_caller k (slice_get p.callers k) (slice_get q.callers k) at is refl
            (match_at _ p.callers q.callers k a.callers);
        workers =
            sym (any_alike _ has_run has_run p.workers q.workers (λ w v h. some_alike _ w.run v.run h.run) a.workers)
            ∙ done.workers;
        active = sym active_alike ∙ done.active;
      }
    where
      of_caller : (k : ℕ) (o r : Option CallerAt) (at : CallerAt) → o ≡ Some at → slice_get q.callers k ≡ r
          → OptionsMatch (AreCallersAlike (AreTicketsAlike f p.history q.history)) o r → calls_left p k at ≡ false
      of_caller k None None at is there match = absurd (cc is)
      of_caller k None (Some v) at is there match = absurd match
      of_caller k (Some w) None at is there match = absurd match
      of_caller k (Some w) (Some v) at is there match =
          ap (calls_left p k) (sym (same_Some w at is)) ∙ (sym (left_alike k w v match) ∙ done.callers k v there)

pub may_alike : MayAlike
may_alike p q a k = parties_alike a.1 k

pub done_alike : DoneAlike
done_alike p q a = (done_on a.1, done_back a.1)
