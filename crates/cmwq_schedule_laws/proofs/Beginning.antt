-- Before its first move a play of a script stands.
use Rattle.std.specs.Prelude.{option_and_then}
use Rattle.std.specs.List.{range_with_len}
use Rattle.std.proofs.Common.{◌≡◌, ◌∙◌, ◌+◌, ◌-◌, ◌<◌, ◌≤◌, ◌∷◌, ℕ, zero, suc, List, [], Option, Some}
use Rattle.std.proofs.Common.{length, map, min, slice_get, take, refl, sym, ap, subst, arith, inl}
use Rattle.std.proofs.lemmas.List.{length-map}
use Rattle.std.proofs.lemmas.List.FromFn.{length-range_with_len}
use Rattle.cmwq_lemmas.proofs.Members.{In}
use Rattle.cmwq_model.specs.declared.id.Who.{Who}
use Rattle.cmwq_model.specs.declared.id.Who.TheVariants.{Worker}
use Rattle.cmwq_model.proofs.Growing.{nothing_is_legal}
use Rattle.cmwq_json_script.specs.Runs.{Run}
use Rattle.cmwq_json_script.specs.Views.{calls_in}
use Rattle.cmwq_json_script.specs.declared.action.Action.{Action}
use Rattle.cmwq_monitor.specs.Participants.{newcomer}
use Rattle.cmwq_rt.specs.Scripts.{HasFollowed}
use Rattle.cmwq_rt.proofs.Following.{followed_none}
use Rattle.cmwq_rt.proofs.Lending.{new_waited}
use Rattle.cmwq_rt.specs.Sums.{no_waits}
use Rattle.cmwq_engine.specs.Conduct.{caller_numbered}
use Rattle.cmwq_theory_steps.proofs.Owing.{nothing_owed}
unfoldable use Rattle.cmwq_waits.specs.Begun.{waits_of}
use Rattle.cmwq_waits.specs.declared.run_wait.RunWait.{RunWait}
use Rattle.cmwq_play.specs.Firsts.{caller_at, callers_from, lent_from, workers_from}
unfoldable use Rattle.cmwq_play.specs.Starts.{first_stand}
use Rattle.cmwq_play.specs.declared.place.CallerAt.{CallerAt}
use Rattle.cmwq_play.specs.declared.place.RunAt.{RunAt}
use Rattle.cmwq_play.specs.declared.place.WorkerAt.{WorkerAt}
use Rattle.cmwq_schedule_laws.proofs.Accounts.{CallerStands, HasRested}
use Rattle.cmwq_schedule_laws.proofs.Accounts.{IsPlayable, Stands, WorkerStands, Works, actions_at, caller_of, lent_to}
use Rattle.cmwq_schedule_laws.proofs.Keeping.{IsKept, IsUpToDate}
use Rattle.cmwq_schedule_laws.proofs.Ordering.{numbered, workers_end, workers_stand}

-- ---- lists by numbers

mapped_at : {Y : Type 0} (f : ℕ → Y) (a n k : ℕ) (y : Y) → slice_get (map f (range_with_len a n)) k ≡ Some y
    → (y ≡ f (a + k)) × (k < n)
mapped_at f a zero k y is = absurd (cc is)
mapped_at f a (suc n) zero y is =
    let place : a + 0 ≡ a = omega arith in
    let same : f a ≡ y = cc is in
    (sym same ∙ ap f (sym place), omega arith)
mapped_at f a (suc n) (suc k) y is =
    let rest = mapped_at f (a + 1) n k y is in
    let less = rest.1 in
    let place : (a + 1) + k ≡ a + suc k = omega arith in
    (rest.0 ∙ ap f place, omega arith)

small : (n : ℕ) → n ≤ 255 → min n 255 ≡ n
small n few = omega (arith, few)

-- ---- nobody has done anything

new_up : (who : Who) → IsUpToDate [] (newcomer who)
new_up who = record { counts = refl; book = refl; older = ([], refl) }

nobody_yet : (first : ℕ) (v : RunWait) → In v (waits_of first []) → ⊥
unfolding waits_of
nobody_yet first v here = here

module _ (r : Run) (ok : IsPlayable r) where
  first_kept : IsKept r.layout (record { layout = r.layout; room = r.layout.room; entries = [] })
  first_kept = record {
    layout = refl;
    room = refl;
    legal = nothing_is_legal r.layout;
    within = (let none = nothing_owed r.layout in omega (arith, none));
  }

  first_caller : (k : ℕ) (at : CallerAt) → slice_get (callers_from (length r.callers)) k ≡ Some at
      → CallerStands r.layout k (actions_at r.callers k) at []
  first_caller k at is =
      let place = mapped_at caller_at 0 (length r.callers) k at is in
      let less = place.1 in
      let same : 0 + k ≡ k = omega arith in
      let all = ok.all_callers in
      let few = ok.few_callers in
      let here : k ≤ 255 = omega (arith, less, all, few) in
      subst (λ (x : CallerAt). CallerStands r.layout k (actions_at r.callers k) x [])
      (sym (place.0 ∙ ap caller_at same))
      (record {
        id = ap caller_numbered (small k here);
        full = 0;
        view = newcomer (caller_numbered k);
        who = refl;
        follows = none_followed (actions_at r.callers k);
        up = new_up (caller_numbered k);
      })
    where
      none_followed : (xs : List Action)
          → HasFollowed r.layout (calls_in (take 0 xs)) 0 (newcomer (caller_numbered k)) (newcomer (caller_numbered k))
      none_followed [] = followed_none r.layout (newcomer (caller_numbered k))
      none_followed (x ∷ xs) = followed_none r.layout (newcomer (caller_numbered k))

  first_worker_stands : (k : ℕ) (at : WorkerAt)
      → slice_get (workers_from r.layout.cpus r.layout.workers) k ≡ Some at → WorkerStands r.layout r.does k at []
  first_worker_stands k at is =
      let place = workers_stand r.layout ok.cpus ok.workers k at is in
      let number = numbered r.layout ok.cpus ok.workers k at.id place.0 in
      record {
        id = place.0;
        cpu = number.cpu;
        index = number.index;
        works = subst (λ (o : Option RunAt). Works r.layout r.does at.id o []) (sym place.1)
            (record {
              runs = 0;
              left_out = no_waits;
              view = newcomer (Worker at.id);
              who = refl;
              in_turn = (refl, refl);
              up = new_up (Worker at.id);
            });
      }

  first_rested : (c : ℕ) → HasRested r.layout c []
  first_rested c = record {
    view = newcomer (caller_numbered c);
    who = refl;
    waited = new_waited r.layout (newcomer (caller_numbered c)) refl;
    up = new_up (caller_numbered c);
  }

  first_free : (i c : ℕ) → slice_get (lent_from (length r.callers) r.waits) i ≡ Some c
      → (c ≡ length r.callers + i) × (i < r.waits)
  first_free i c is =
      let place = mapped_at (λ k. min (length r.callers + k) 255) 0 r.waits i c is in
      let less = place.1 in
      let same : 0 + i ≡ i = omega arith in
      let all = ok.all_callers in
      let few = ok.few_callers in
      let here : length r.callers + i ≤ 255 = omega (arith, less, all, few) in
      (place.0 ∙ (ap (λ k. min (length r.callers + k) 255) same ∙ small (length r.callers + i) here), less)

  pub first_stands : Stands r (first_stand r)
  unfolding first_stand
  first_stands = record {
    scripts = refl;
    does = refl;
    kept = first_kept;
    all_callers =
        length-map (range_with_len 0 (length r.callers)) caller_at ∙ length-range_with_len 0 (length r.callers);
    all_workers = workers_end r.layout ok.cpus ok.workers;
    callers = first_caller;
    workers = first_worker_stands;
    lent = record {
      holder = λ c. inl (c - length r.callers);
      free = λ i c is.
          (let place = first_free i c is in
          let same = place.0 in
          let less = place.1 in
          let from : c - length r.callers ≡ i = omega (arith, same) in
          (ap (λ (n : ℕ). inl n) from, (omega (arith, same), omega (arith, same, less))));
      waiting = λ k at c is waits. absurd (nobody_waits k at c is waits);
      each = λ c lendable. first_rested c;
    };
    waits = record {
      each = λ v here. absurd (nobody_yet (length r.callers) v here);
      all = λ k at c t is waits.
          absurd (nobody_waits k at c is
          (ap (option_and_then (λ (run : RunAt). caller_of run.doing)) waits.runs ∙ ap caller_of waits.doing));
    };
  }
    where
      nobody_waits : (k : ℕ) (at : WorkerAt) (c : ℕ)
          → slice_get (workers_from r.layout.cpus r.layout.workers) k ≡ Some at → lent_to at ≡ Some c → ⊥
      nobody_waits k at c is waits =
          let idle = (workers_stand r.layout ok.cpus ok.workers k at is).1 in
          let none = ap (option_and_then (λ (run : RunAt). caller_of run.doing)) idle in
          absurd (cc (sym none ∙ waits))
