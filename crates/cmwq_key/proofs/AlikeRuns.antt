-- Moves of workers, in stands that are alike.
use Rattle.std.specs.Prelude.{◌-◌, ◌++◌, ◌∷◌, [], if◌then◌else◌, slice_set, take, length, option_and_then}
use Rattle.std.specs.Option.{option_map_or}
use Rattle.std.proofs.Common.{◌≡◌, ◌∙◌, ℕ, Bool, true, false, Option, Some, None, is_some, ap, ap₂, refl, sym, subst}
use Rattle.std.proofs.lemmas.Option.{same_Some}
use Rattle.cmwq_model.specs.Prelude.{is_workers}
use Rattle.cmwq_model.specs.declared.call.Call.{Call}
use Rattle.cmwq_model.specs.declared.call.Call.TheVariants as call
use Rattle.cmwq_model.specs.declared.id.ItemId.{ItemId}
use Rattle.cmwq_model.specs.declared.id.Who.TheVariants.{Caller, Worker}
use Rattle.cmwq_model.specs.declared.id.WorkerId.{WorkerId}
use Rattle.cmwq_alike.proofs.Looks.{mapped_some}
use Rattle.cmwq_json_script.specs.declared.action.Action.{Action}
use Rattle.cmwq_json_script.specs.declared.action.Action.TheVariants as action
use Rattle.cmwq_json_script.specs.declared.action.Holder.TheVariants as holders
use Rattle.cmwq_play.specs.declared.machine.Called.{Called}
use Rattle.cmwq_play.specs.declared.machine.Called.TheVariants.{NoRoom, Whole, Waits as Began}
use Rattle.cmwq_play.specs.declared.place.Doing.{Doing}
use Rattle.cmwq_play.specs.declared.place.Doing.TheVariants.{Acts, AtGate, AtLock, Waits}
use Rattle.cmwq_play.specs.declared.place.RunAt.{RunAt}
use Rattle.cmwq_play.specs.declared.place.Ticketed.{Ticketed}
use Rattle.cmwq_play.specs.declared.place.WorkerAt.{WorkerAt}
use Rattle.cmwq_key.specs.Alike.{AreAlike, AreDoingsAlike, AreRunsAlike, AreStandsAlike, AreWaitsAlike}
use Rattle.cmwq_key.specs.Alike.{AreWorkersAlike, OptionsMatch, AreTicketsAlike, names_ticket}
use Rattle.cmwq_core.specs.History.{History}
use Rattle.cmwq_play.specs.Machines.{ends, replied, retires, starts, stepped}
use Rattle.cmwq_play.specs.Stands.{Stand, action_of, after_action, after_begin, did, first_of, is_free, last_free}
use Rattle.cmwq_play.specs.Stands.{lock_wanted, locked, may_do, may_work, slept_at, went_on, with_history, with_room}
use Rattle.cmwq_play.specs.Stands.{with_run, woken}
unfoldable use Rattle.cmwq_play.specs.Stands.{acted, begun_by, caller_acted, caller_moved, finished, lent_for}
unfoldable use Rattle.cmwq_play.specs.Stands.{may, moved, run_moved, started, wait_ended}
unfoldable use Rattle.cmwq_play.specs.Stands.{waited, worker_moved}
use Rattle.cmwq_play.specs.Waiting.{may_wait}
use Rattle.cmwq_key.proofs.AlikeCalls.{AreOutcomesAlike, IsPlain, called_alike, ended_alike, replied_plain}
use Rattle.cmwq_key.proofs.AlikeCalls.{retires_alike, starts_alike, stepped_plain, wait_room_alike}
use Rattle.cmwq_key.proofs.AlikeHistories.{GoOnAlike, go_further}
use Rattle.cmwq_key.proofs.AlikeStands.{action_alike, free_alike, history_alike, run_alike}
use Rattle.cmwq_key.proofs.AlikeWaits.{may_wait_alike}
use Rattle.cmwq_key.proofs.AlikeCallers.{lent_alike, locked_alike, locks_alike, opened_alike, script_plain}
use Rattle.cmwq_key.proofs.AlikeCallers.{unlocked_both}

module _ {f : ℕ → ℕ} {p q : Stand} (a : AreStandsAlike f p q) (k : ℕ) (id : WorkerId) where
  -- a run of the same item, at the same place
  abbrev run_with : ItemId → ℕ → Doing → RunAt
  run_with item next doing = record { item = item; next = next; doing = doing }

  pub went_alike : (item : ItemId) (next : ℕ) (d e : Doing)
      → AreStandsAlike f (went_on p k id (run_with item next d)) (went_on q k id (run_with item next e))
  went_alike item next d e =
      run_alike a k id (Some (after_action (run_with item next d))) (Some (after_action (run_with item next e)))
      (record { item = refl; next = refl; doing = tt })

  -- a run that begins, and one that ends
  started_alike : AreAlike (started p k id) (started q k id)
  unfolding started
  started_alike = at (starts p.history id) (starts q.history id) (starts_alike a.histories id)
    where
      at : (o r : Option ItemId) → r ≡ o
          → AreAlike
          (option_map_or
          (λ item. with_run (with_history p (stepped p.history (Worker id) call.Take)) k id (Some (first_of item))) o
          (with_run p k id None))
          (option_map_or
          (λ item. with_run (with_history q (stepped q.history (Worker id) call.Take)) k id (Some (first_of item))) r
          (with_run q k id None))
      at None None same = (f, run_alike a k id None None tt)
      at None (Some j) same = absurd (cc same)
      at (Some i) None same = absurd (cc same)
      at (Some i) (Some j) same =
          let on = stepped_plain a.histories (Worker id) call.Take refl in (
            on.by,
            run_alike (history_alike a on) k id (Some (first_of i)) (Some (first_of j))
                (record { item = same_Some j i same; next = refl; doing = tt }),
          )

  -- ---- gates and locks

  slept_alike : (at : Bool → Doing) → ((R : ℕ → ℕ → Type 0) (b c : Bool) → c ≡ b → AreDoingsAlike R (at b) (at c))
      → (item : ItemId) (next : ℕ) (d e : Doing)
      → AreAlike (slept_at at p k id (run_with item next d)) (slept_at at q k id (run_with item next e))
  slept_alike at both item next d e =
      let on = stepped_plain a.histories (Worker id) call.Sleep refl in (
        on.by,
        run_alike (history_alike a on) k id _ _
            (record {
              item = refl;
              next = refl;
              doing = both _ (is_some (replied p.history (Worker id) call.Sleep))
                  (is_some (replied q.history (Worker id) call.Sleep))
                  (ap is_some (replied_plain a.histories (Worker id) call.Sleep refl)
                  ∙ mapped_some _ (replied p.history (Worker id) call.Sleep));
            }),
      )

  pub gate_slept : (gate : ℕ) (item : ItemId) (next : ℕ) (d e : Doing)
      → AreAlike (slept_at (AtGate gate) p k id (run_with item next d))
      (slept_at (AtGate gate) q k id (run_with item next e))
  gate_slept gate = slept_alike (AtGate gate) (λ R b c same. (refl, same))

  pub lock_slept : (lock : ℕ) (item : ItemId) (next : ℕ) (d e : Doing)
      → AreAlike (slept_at (AtLock lock) p k id (run_with item next d))
      (slept_at (AtLock lock) q k id (run_with item next e))
  lock_slept lock = slept_alike (AtLock lock) (λ R b c same. (refl, same))

  -- ---- waits

  lent_same : (c : Call) → IsPlain c → lent_for q id c ≡ lent_for p id c
  unfolding lent_for
  lent_same c plain =
      ap₂ (λ b free. if b then option_and_then (with_room q id c) (last_free free) else None)
      (may_wait_alike a.histories p.workers q.workers a.workers id c) a.free
      ∙ ap (λ o. if may_wait p.history p.workers id c then o else None) (at (last_free p.free))
    where
      at : (o : Option ℕ) → option_and_then (with_room q id c) o ≡ option_and_then (with_room p id c) o
      at None = refl
      at (Some caller) =
          ap (λ b. if b then Some caller else None) (wait_room_alike a.histories id (record { 0 = caller }) c plain)

  began_alike : (item : ItemId) (next : ℕ) (d e : Doing) (caller : ℕ) {h g : History}
      (on : GoOnAlike f p.history q.history h g)
      (o r : Called) → AreOutcomesAlike (AreTicketsAlike on.by h g) o r
      → AreAlike (after_begin p k id (run_with item next d) caller h o)
      (after_begin q k id (run_with item next e) caller g r)
  began_alike item next d e caller on (Began w) (Began v) same = (
    on.by,
    run_alike (lent_alike (history_alike a on) (ap (λ free. take (length free - 1) free) a.free)) k id _ _
        (record { item = refl; next = refl; doing = (refl, same) }),
  )
  began_alike item next d e caller on NoRoom NoRoom same =
      let woke = go_further on (stepped_plain on.alike (Worker id) call.Wake refl) in (
        woke.by,
        run_alike (history_alike a woke) k id _ _ (record { item = refl; next = refl; doing = tt }),
      )
  began_alike item next d e caller on Whole Whole same =
      let woke = go_further on (stepped_plain on.alike (Worker id) call.Wake refl) in (
        woke.by,
        run_alike (history_alike a woke) k id _ _ (record { item = refl; next = refl; doing = tt }),
      )
  began_alike item next d e caller on o r same = absurd same

  begun_alike : (item : ItemId) (next : ℕ) (d e : Doing) (c : Call) → IsPlain c → (caller : ℕ)
      → AreAlike (begun_by p k id (run_with item next d) c caller) (begun_by q k id (run_with item next e) c caller)
  unfolding begun_by
  begun_alike item next d e c plain caller =
      let slept = stepped_plain a.histories (Worker id) call.Sleep refl in
      let made = called_alike slept.alike (Caller (record { 0 = caller })) c plain in
      began_alike item next d e caller (go_further slept made.on) _ _ made.outcome

  waited_alike : (item : ItemId) (next : ℕ) (d e : Doing) (c : Call) → IsPlain c
      → AreAlike (waited p k id (run_with item next d) c) (waited q k id (run_with item next e) c)
  unfolding waited
  waited_alike item next d e c plain = at (lent_for p id c) (lent_for q id c) (lent_same c plain)
    where
      at : (o r : Option ℕ) → r ≡ o
          → AreAlike (option_map_or (begun_by p k id (run_with item next d) c) o
          (went_on p k id (run_with item next d)))
          (option_map_or (begun_by q k id (run_with item next e) c) r (went_on q k id (run_with item next e)))
      at None None same = (f, went_alike item next d e)
      at None (Some j) same = absurd (cc same)
      at (Some i) None same = absurd (cc same)
      at (Some i) (Some j) same =
          subst (λ j. AreAlike (begun_by p k id (run_with item next d) c i)
          (begun_by q k id (run_with item next e) c j))
          (sym (same_Some j i same)) (begun_alike item next d e c plain i)

  pub wait_ended_alike : (item : ItemId) (next : ℕ) (d e : Doing) (caller : ℕ) (w v : Ticketed)
      → AreWaitsAlike (AreTicketsAlike f p.history q.history) w v
      → ends p.history (Caller (record { 0 = caller })) w.ticket ≡ true
      → AreAlike (wait_ended p k id (run_with item next d) caller w) (wait_ended q k id (run_with item next e) caller v)
  unfolding wait_ended
  wait_ended_alike item next d e caller w v same is =
      let done = ended_alike a.histories (Caller (record { 0 = caller })) w v same is in
      let woke = go_further done (stepped_plain done.alike (Worker id) call.Wake refl) in (
        woke.by,
        run_alike (lent_alike (history_alike a woke) (ap (λ free. free ++ caller ∷ []) a.free)) k id _ _
            (record { item = refl; next = refl; doing = tt }),
      )

-- ---- actions of runs

module _ {f : ℕ → ℕ} {p q : Stand} (a : AreStandsAlike f p q) (k : ℕ) (id : WorkerId) where
  abbrev run_at : ItemId → ℕ → Doing → RunAt
  run_at item next doing = record { item = item; next = next; doing = doing }

  wanted_alike : (item : ItemId) (next : ℕ) (d e : Doing) (lock : ℕ)
      → AreAlike (lock_wanted p k id (run_at item next d) lock) (lock_wanted q k id (run_at item next e) lock)
  wanted_alike item next d e lock = at (is_free p lock) (is_free q lock) (free_alike a lock)
    where
      at : (b c : Bool) → c ≡ b
          → AreAlike
          (if b then went_on (locked p (holders.Run item) lock) k id (run_at item next d)
          else slept_at (AtLock lock) p k id (run_at item next d))
          (if c then went_on (locked q (holders.Run item) lock) k id (run_at item next e)
          else slept_at (AtLock lock) q k id (run_at item next e))
      at true true same = (f, went_alike (locked_alike a (holders.Run item) lock) k id item next d e)
      at false false same = lock_slept a k id lock item next d e
      at true false same = absurd (cc same)
      at false true same = absurd (cc same)

  stepped_on : (item : ItemId) (next : ℕ) (d e : Doing) (c : Call) → IsPlain c
      → AreAlike (went_on (with_history p (stepped p.history (Worker id) c)) k id (run_at item next d))
      (went_on (with_history q (stepped q.history (Worker id) c)) k id (run_at item next e))
  stepped_on item next d e c plain =
      let on = stepped_plain a.histories (Worker id) c plain in
      (on.by, went_alike (history_alike a on) k id item next d e)

  called_by_run : (item : ItemId) (next : ℕ) (d e : Doing) (c : Call) → IsPlain c → (b : Bool)
      → AreAlike
      (if b then went_on (with_history p (stepped p.history (Worker id) c)) k id (run_at item next d)
      else waited p k id (run_at item next d) c)
      (if b then went_on (with_history q (stepped q.history (Worker id) c)) k id (run_at item next e)
      else waited q k id (run_at item next e) c)
  called_by_run item next d e c plain true = stepped_on item next d e c plain
  called_by_run item next d e c plain false = waited_alike a k id item next d e c plain

  acted_alike : (item : ItemId) (next : ℕ) (d e : Doing) (c : Action) → names_ticket c ≡ false
      → AreAlike (acted p k id (run_at item next d) c) (acted q k id (run_at item next e) c)
  unfolding acted
  acted_alike item next d e (action.Call c) plain = called_by_run item next d e c plain (is_workers c)
  acted_alike item next d e (action.Open gate) plain = (f, went_alike (opened_alike a gate) k id item next d e)
  acted_alike item next d e (action.SleepAt gate) plain = gate_slept a k id gate item next d e
  acted_alike item next d e (action.Lock lock) plain = wanted_alike item next d e lock
  acted_alike item next d e (action.Unlock lock) plain =
      unlocked_both a (λ p₁ q₁. AreAlike (went_on p₁ k id (run_at item next d)) (went_on q₁ k id (run_at item next e)))
      (holders.Run item) lock
      (f, went_alike (locks_alike a (ap (λ locks. slice_set locks lock None) a.locks)) k id item next d e)
      (f, went_alike a k id item next d e)

  -- ---- what a run does, and its end

  finished_alike : AreAlike (finished p k id) (finished q k id)
  unfolding finished
  finished_alike = at (retires (stepped p.history (Worker id) call.Finish) id)
      (retires (stepped q.history (Worker id) call.Finish) id) (retires_alike on.alike id)
    where
      on : GoOnAlike f p.history q.history (stepped p.history (Worker id) call.Finish)
          (stepped q.history (Worker id) call.Finish)
      on = stepped_plain a.histories (Worker id) call.Finish refl

      at : (b c : Bool) → c ≡ b
          → AreAlike
          (started (with_history p (if b
          then stepped (stepped p.history (Worker id) call.Finish) (Worker id) call.Retire
          else stepped p.history (Worker id) call.Finish)) k id)
          (started (with_history q (if c
          then stepped (stepped q.history (Worker id) call.Finish) (Worker id) call.Retire
          else stepped q.history (Worker id) call.Finish)) k id)
      at true true same =
          started_alike (history_alike a (go_further on (stepped_plain on.alike (Worker id) call.Retire refl))) k id
      at false false same = started_alike (history_alike a on) k id
      at true false same = absurd (cc same)
      at false true same = absurd (cc same)

  woke_alike : (item : ItemId) (next : ℕ) (d e : Doing) (slept so : Bool) → so ≡ slept
      → AreAlike (went_on (woken p id slept) k id (run_at item next d))
      (went_on (woken q id so) k id (run_at item next e))
  woke_alike item next d e true true same = stepped_on item next d e call.Wake refl
  woke_alike item next d e false false same = (f, went_alike a k id item next d e)
  woke_alike item next d e true false same = absurd (cc same)
  woke_alike item next d e false true same = absurd (cc same)

-- ---- moves of workers

module _ {f : ℕ → ℕ} {p q : Stand} (a : AreStandsAlike f p q) (k : ℕ) (id : WorkerId) (item : ItemId) (next : ℕ) where
  did_alike : (d e : Doing) → AreDoingsAlike (AreTicketsAlike f p.history q.history) d e → may_do p d ≡ true
      → AreAlike (did p k id (run_at a k id item next d) d) (did q k id (run_at a k id item next e) e)
  did_alike Acts Acts h is =
      by_action (action_of p (run_at a k id item next Acts)) (action_of q (run_at a k id item next Acts)) refl
      (action_alike a (run_at a k id item next Acts))
    where
      by_action : (o r : Option Action) → action_of p (run_at a k id item next Acts) ≡ o
          → r ≡ action_of p (run_at a k id item next Acts)
          → AreAlike (option_map_or (acted p k id (run_at a k id item next Acts)) o (finished p k id))
          (option_map_or (acted q k id (run_at a k id item next Acts)) r (finished q k id))
      by_action None None got same = finished_alike a k id
      by_action None (Some c) got same = absurd (cc (same ∙ got))
      by_action (Some c) None got same = absurd (cc (same ∙ got))
      by_action (Some c) (Some d) got same =
          subst (λ d. AreAlike (acted p k id (run_at a k id item next Acts) c)
          (acted q k id (run_at a k id item next Acts) d))
          (sym (same_Some d c (same ∙ got)))
          (acted_alike a k id item next Acts Acts c (script_plain p.does item.0 next c a.does_name_none got))
  did_alike (AtGate gate slept) (AtGate other so) h is =
      woke_alike a k id item next (AtGate gate slept) (AtGate other so) slept so h.1
  did_alike (AtLock lock slept) (AtLock other so) h is =
      subst (λ m. AreAlike (went_on (woken (locked p (holders.Run item) lock) id slept) k id
      (run_at a k id item next (AtLock lock slept)))
      (went_on (woken (locked q (holders.Run item) m) id so) k id (run_at a k id item next (AtLock other so))))
      (sym h.0)
      (woke_alike (locked_alike a (holders.Run item) lock) k id item next (AtLock lock slept) (AtLock other so) slept so
      h.1)
  did_alike (Waits caller w) (Waits other v) h is =
      subst (λ m. AreAlike (wait_ended p k id (run_at a k id item next (Waits caller w)) caller w)
      (wait_ended q k id (run_at a k id item next (Waits other v)) m v)) (sym h.0)
      (wait_ended_alike a k id item next (Waits caller w) (Waits other v) caller w v h.1 is)
  did_alike d e h is = absurd h

module _ {f : ℕ → ℕ} {p q : Stand} (a : AreStandsAlike f p q) (k : ℕ) where
  ran_alike : (id : WorkerId) (run other : RunAt) → AreRunsAlike (AreTicketsAlike f p.history q.history) run other
      → may_do p run.doing ≡ true → AreAlike (run_moved p k id run) (run_moved q k id other)
  unfolding run_moved
  ran_alike id run other h is =
      subst (λ item. AreAlike (did p k id run run.doing)
      (did q k id (record { item = item; next = other.next; doing = other.doing }) other.doing)) (sym h.item)
      (subst (λ next. AreAlike (did p k id run run.doing)
      (did q k id (record { item = run.item; next = next; doing = other.doing }) other.doing)) (sym h.next)
      (did_alike a k id run.item run.next run.doing other.doing h.doing is))

  pub works_alike : (at other : WorkerAt) → AreWorkersAlike (AreTicketsAlike f p.history q.history) at other
      → may_work p at ≡ true → AreAlike (worker_moved p k at) (worker_moved q k other)
  unfolding worker_moved
  works_alike at other h is =
      subst (λ id. AreAlike (worker_moved p k at) (option_map_or (run_moved q k id) other.run (started q k id)))
      (sym h.id)
      (by_run at.run other.run h.run is)
    where
      by_run : (o r : Option RunAt) → OptionsMatch (AreRunsAlike (AreTicketsAlike f p.history q.history)) o r
          → option_map_or (λ (run : RunAt). may_do p run.doing) o (is_some (starts p.history at.id)) ≡ true
          → AreAlike (option_map_or (run_moved p k at.id) o (started p k at.id))
          (option_map_or (run_moved q k at.id) r (started q k at.id))
      by_run None None match is = started_alike a k at.id
      by_run None (Some v) match is = absurd match
      by_run (Some w) None match is = absurd match
      by_run (Some w) (Some v) match is = ran_alike at.id w v match is
