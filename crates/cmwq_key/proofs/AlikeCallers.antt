-- Moves of stands that are alike.
use Rattle.std.specs.Prelude.{[], if◌then◌else◌, slice_get, slice_set}
use Rattle.std.specs.List.{list_any}
use Rattle.std.specs.Option.{option_map_or}
use Rattle.std.proofs.Common.{◌≡◌, ℕ, Bool, true, false, List, Option, Some, None, ap, refl, sym, subst}
use Rattle.std.proofs.lemmas.Option.{same_Some}
use Rattle.cmwq_model.specs.declared.id.Who.TheVariants.{Caller}
use Rattle.cmwq_json_script.specs.declared.action.Action.{Action}
use Rattle.cmwq_json_script.specs.declared.action.Action.TheVariants as action
use Rattle.cmwq_json_script.specs.declared.action.Holder.{Holder}
use Rattle.cmwq_json_script.specs.declared.action.Holder.TheVariants as holders
use Rattle.cmwq_play.specs.declared.machine.Called.{Called}
use Rattle.cmwq_play.specs.declared.machine.Called.TheVariants.{NoRoom, Whole, Waits as Began}
use Rattle.cmwq_play.specs.declared.place.CallerAt.{CallerAt}
use Rattle.cmwq_play.specs.declared.place.Ticketed.{Ticketed}
use Rattle.cmwq_key.specs.Alike.{AreAlike, AreCallersAlike, AreStandsAlike, AreWaitsAlike, NoneNames, OptionsMatch}
use Rattle.cmwq_key.specs.Alike.{AreTicketsAlike, names_ticket}
use Rattle.cmwq_play.specs.Machines.{called, ended, ends}
use Rattle.cmwq_play.specs.Stands.{Stand, holds, locked, may_act, may_call, next_place, opened, passed, script_at}
use Rattle.cmwq_play.specs.Stands.{unlocked, wait_of, with_caller, with_history}
unfoldable use Rattle.cmwq_play.specs.Stands.{acted, begun_by, caller_acted, caller_moved, finished, lent_for}
unfoldable use Rattle.cmwq_play.specs.Stands.{may, moved, run_moved, started}
unfoldable use Rattle.cmwq_play.specs.Stands.{waited, worker_moved}
use Rattle.cmwq_key.proofs.AlikeCalls.{AreOutcomesAlike, called_alike, ended_alike}
use Rattle.cmwq_key.proofs.AlikeStands.{caller_alike, gates_alike, history_alike, next_alike}
use Rattle.cmwq_key.proofs.Matching.{none_at}

-- ---- actions name no ticket

pub script_plain : (scripts : List (List Action)) (k next : ℕ) (c : Action) → NoneNames scripts
    → option_map_or (λ actions. slice_get actions next) (slice_get scripts k) None ≡ Some c → names_ticket c ≡ false
script_plain scripts k next c none is = at (slice_get scripts k) refl is
  where
    at : (o : Option (List Action)) → slice_get scripts k ≡ o
        → option_map_or (λ actions. slice_get actions next) o None ≡ Some c → names_ticket c ≡ false
    at None got h = absurd (cc h)
    at (Some actions) got h =
        none_at names_ticket actions next c (none_at (list_any names_ticket) scripts k actions none got) h

-- ---- gates and locks

module _ {f : ℕ → ℕ} {p q : Stand} (a : AreStandsAlike f p q) where
  pub locks_alike : {locks others : List (Option Holder)} → others ≡ locks
      → AreStandsAlike f (record p { locks = locks }) (record q { locks = others })
  locks_alike same =
      record {
        scripts = a.scripts;
        does = a.does;
        scripts_name_none = a.scripts_name_none;
        does_name_none = a.does_name_none;
        histories = a.histories;
        callers = a.callers;
        workers = a.workers;
        gates = a.gates;
        locks = same;
        free = a.free;
      }

  pub lent_alike : {free others : List ℕ} → others ≡ free
      → AreStandsAlike f (record p { free = free }) (record q { free = others })
  lent_alike same =
      record {
        scripts = a.scripts;
        does = a.does;
        scripts_name_none = a.scripts_name_none;
        does_name_none = a.does_name_none;
        histories = a.histories;
        callers = a.callers;
        workers = a.workers;
        gates = a.gates;
        locks = a.locks;
        free = same;
      }

  pub opened_alike : (gate : ℕ) → AreStandsAlike f (opened p gate) (opened q gate)
  opened_alike gate = gates_alike a (ap (λ gates. slice_set gates gate true) a.gates)

  pub locked_alike : (holder : Holder) (lock : ℕ) → AreStandsAlike f (locked p holder lock) (locked q holder lock)
  locked_alike holder lock = locks_alike (ap (λ locks. slice_set locks lock (Some holder)) a.locks)

  -- what holds of both, with the lock and without it, holds once one who may hold it lets it go
  pub unlocked_both : (P : Stand → Stand → Type 0) (holder : Holder) (lock : ℕ)
      → P (record p { locks = slice_set p.locks lock None }) (record q { locks = slice_set q.locks lock None }) → P p q
      → P (unlocked p holder lock) (unlocked q holder lock)
  unlocked_both P holder lock free still =
      at (holds p holder lock) (holds q holder lock)
      (ap (λ locks. holds (record p { locks = locks }) holder lock) a.locks)
    where
      at : (b c : Bool) → c ≡ b
          → P (if b then record p { locks = slice_set p.locks lock None } else p)
          (if c then record q { locks = slice_set q.locks lock None } else q)
      at true true same = free
      at false false same = still
      at true false same = absurd (cc same)
      at false true same = absurd (cc same)

-- ---- callers

passed_alike : {f : ℕ → ℕ} {p q : Stand} → AreStandsAlike f p q → (k : ℕ) (at other : CallerAt)
    → AreCallersAlike (AreTicketsAlike f p.history q.history) at other → AreAlike (passed p k at) (passed q k other)
passed_alike {f} a k at other h = (
  f,
  caller_alike a k (record at { next = next_place at.next }) (record other { next = next_place other.next })
      (record { id = h.id; next = ap next_place h.next; wait = h.wait }),
)

waits_of : (R : ℕ → ℕ → Type 0) (o r : Called) → AreOutcomesAlike R o r
    → OptionsMatch (AreWaitsAlike R) (wait_of o) (wait_of r)
waits_of R NoRoom NoRoom h = tt
waits_of R Whole Whole h = tt
waits_of R (Began w) (Began v) h = h
waits_of R o r h = absurd h

module _ {f : ℕ → ℕ} {p q : Stand} (a : AreStandsAlike f p q) where
  -- a caller of the same number, at the same place of its script
  abbrev other_caller : CallerAt → Option Ticketed → CallerAt
  other_caller at wait = record { id = at.id; next = at.next; wait = wait }

  acts_alike : (k : ℕ) (at : CallerAt) (wait : Option Ticketed)
      → OptionsMatch (AreWaitsAlike (AreTicketsAlike f p.history q.history)) at.wait wait → (c : Action)
      → names_ticket c ≡ false → AreAlike (caller_acted p k at c) (caller_acted q k (other_caller at wait) c)
  unfolding caller_acted
  acts_alike k at wait h (action.Call c) plain =
      let k₁ = called_alike a.histories (Caller at.id) c plain in (
        k₁.on.by,
        caller_alike (history_alike a k₁.on) k _ _
            (record {
              id = refl;
              next = refl;
              wait = waits_of _ (called p.history (Caller at.id) c).outcome (called q.history (Caller at.id) c).outcome
                  k₁.outcome;
            }),
      )
  acts_alike k at wait h (action.Open gate) plain =
      passed_alike (opened_alike a gate) k at (other_caller at wait) (record { id = refl; next = refl; wait = h })
  acts_alike k at wait h (action.SleepAt gate) plain =
      passed_alike a k at (other_caller at wait) (record { id = refl; next = refl; wait = h })
  acts_alike k at wait h (action.Lock lock) plain =
      passed_alike (locked_alike a (holders.Caller at.id) lock) k at (other_caller at wait)
      (record { id = refl; next = refl; wait = h })
  acts_alike k at wait h (action.Unlock lock) plain =
      let same : AreCallersAlike (AreTicketsAlike f p.history q.history) at (other_caller at wait) =
      record { id = refl; next = refl; wait = h } in
      unlocked_both a (λ p₁ q₁. AreAlike (passed p₁ k at) (passed q₁ k (other_caller at wait))) (holders.Caller at.id)
      lock
      (passed_alike (locks_alike a (ap (λ locks. slice_set locks lock None) a.locks)) k at (other_caller at wait) same)
      (passed_alike a k at (other_caller at wait) same)

  pub moves_alike : (k : ℕ) (at : CallerAt) (wait : Option Ticketed)
      → OptionsMatch (AreWaitsAlike (AreTicketsAlike f p.history q.history)) at.wait wait → may_call p k at ≡ true
      → AreAlike (caller_moved p k at) (caller_moved q k (other_caller at wait))
  unfolding caller_moved
  moves_alike k at wait h is = by_wait at.wait wait refl h is
    where
      plain : (c : Action) → slice_get (script_at p k) at.next ≡ Some c → names_ticket c ≡ false
      plain c got = at_script (slice_get p.scripts k) refl got
        where
          at_script : (o : Option (List Action)) → slice_get p.scripts k ≡ o
              → slice_get (option_map_or (λ actions. actions) o []) at.next ≡ Some c → names_ticket c ≡ false
          at_script None there h = absurd (cc h)
          at_script (Some actions) there h =
              none_at names_ticket actions at.next c
              (none_at (list_any names_ticket) p.scripts k actions a.scripts_name_none there) h

      by_action : (o r : Option Action) → slice_get (script_at p k) at.next ≡ o → r ≡ o
          → AreAlike (option_map_or (caller_acted p k at) o p)
          (option_map_or (caller_acted q k (other_caller at wait)) r q)
      by_action None None got same = (f, a)
      by_action None (Some c) got same = absurd (cc same)
      by_action (Some c) None got same = absurd (cc same)
      by_action (Some c) (Some d) got same =
          subst (λ d. AreAlike (caller_acted p k at c) (caller_acted q k (other_caller at wait) d))
          (sym (same_Some d c same))
          (acts_alike k at wait h c (plain c got))

      by_wait : (o r : Option Ticketed) → at.wait ≡ o
          → OptionsMatch (AreWaitsAlike (AreTicketsAlike f p.history q.history)) o r
          → option_map_or (λ (w : Ticketed). ends p.history (Caller at.id) w.ticket) o
          (option_map_or (may_act p) (slice_get (script_at p k) at.next) false) ≡ true
          → AreAlike
          (option_map_or (λ w. with_caller (with_history p (ended p.history (Caller at.id) w)) k
          (record at { wait = None })) o
          (option_map_or (caller_acted p k at) (slice_get (script_at p k) at.next) p))
          (option_map_or (λ w. with_caller (with_history q (ended q.history (Caller at.id) w)) k
          (record (other_caller at wait) { wait = None })) r
          (option_map_or (caller_acted q k (other_caller at wait)) (slice_get (script_at q k) at.next) q))
      by_wait None None none match is =
          by_action (slice_get (script_at p k) at.next) (slice_get (script_at q k) at.next) refl
          (next_alike a k at.next)
      by_wait None (Some v) none match is = absurd match
      by_wait (Some w) None none match is = absurd match
      by_wait (Some w) (Some v) none match is =
          let on = ended_alike a.histories (Caller at.id) w v match is in
          (on.by, caller_alike (history_alike a on) k _ _ (record { id = refl; next = refl; wait = tt }))
