-- What is needed of a script so that it can be played: it keeps to the limits of the reader.
use Rattle.std.specs.Option.{option_map_or}
use Rattle.std.specs.Prelude.{◌^◌, All}
use Rattle.std.specs.List.{AllByRecursion}
use Rattle.std.specs.declared.alloc.Global.{Global}
use Rattle.std.specs.declared.vec.Vec.{Vec}
use Rattle.std.proofs.Common.{◌≡◌, ◌∙◌, ◌+◌, ◌<◌, ◌≤◌, ◌∷◌, ℕ, zero, suc, true, List, [], Option, Some, None, length}
use Rattle.std.proofs.Common.{map}
use Rattle.std.proofs.Common.{slice_get, option_map, refl, sym, subst, arith}
use Rattle.std.proofs.lemmas.List.{length-map}
use Rattle.std.proofs.lemmas.Option.{get_or_from_slice_get, slice_get-map, slice_get_within}
use Rattle.cmwq_model.specs.Prelude.{is_layout}
use Rattle.cmwq_model.proofs.Limits.{limits_of}
use Rattle.cmwq_json_script.specs.Runs.{Run}
use Rattle.cmwq_json_script.specs.Scripts.{IsAction, IsCallersAction, IsCallersScript, IsRunWithin, MayRun, run_of}
use Rattle.cmwq_json_script.specs.declared.action.Action.{Action}
use Rattle.cmwq_json_script.specs.declared.action.Action.TheVariants as action
use Rattle.cmwq_json_script.specs.declared.script.Script.{Script}
use Rattle.cmwq_schedule_laws.proofs.Accounts.{IsPlayable, actions_at}

-- each action of the list is such a one
AreAll : (Action → Type 0) → List Action → Type 0
AreAll P xs = (n : ℕ) (a : Action) → slice_get xs n ≡ Some a → P a

record KeepsLimits (r : Run) (gates locks : ℕ) : Type 0 where
  layout : is_layout r.layout ≡ true
  all_callers : length r.callers + r.waits ≡ r.layout.callers
  scripts : (k : ℕ) (xs : List Action) → slice_get r.callers k ≡ Some xs
      → AreAll (IsCallersAction r.layout gates locks) xs × (length xs ≤ 1000)
  does : (i : ℕ) (xs : List Action) → slice_get r.does i ≡ Some xs → AreAll (IsAction r.layout gates locks) xs

-- what holds of each list that is there, and of the empty one
list_at : (P : List Action → Type 0) (lists : List (List Action)) (k : ℕ)
    → ((xs : List Action) → slice_get lists k ≡ Some xs → P xs) → P [] → P (actions_at lists k)
list_at P lists k each empty = of (slice_get lists k) refl
  where
    of : (o : Option (List Action)) → slice_get lists k ≡ o → P (option_map_or (λ actions. actions) o [])
    of None is = empty
    of (Some xs) is = each xs is

no_action : (P : Action → Type 0) → AreAll P []
unfolding AreAll
no_action P n a is = absurd (cc is)

kept_playable : (r : Run) (gates locks : ℕ) → KeepsLimits r gates locks → IsPlayable r
unfolding AreAll
kept_playable r gates locks keeps =
    let limits = limits_of r.layout keeps.layout in
    let cpus = limits.cpus in
    let workers = limits.workers in
    let callers = limits.callers in
    record {
      cpus = cpus.0;
      workers = workers.0;
      few_callers = omega (arith, callers);
      all_callers = keeps.all_callers;
      scripts_short = λ k.
          short (actions_at r.callers k)
          (list_at (λ xs. length xs ≤ 1000) r.callers k (λ xs is. (keeps.scripts k xs is).1) (omega arith));
      scripts = λ k n c is.
          list_at (AreAll (IsCallersAction r.layout gates locks)) r.callers k (λ xs there. (keeps.scripts k xs there).0)
          (no_action (IsCallersAction r.layout gates locks)) n (action.Call c) is;
      does = λ i n c is.
          list_at (AreAll (IsAction r.layout gates locks)) r.does i (keeps.does i)
          (no_action (IsAction r.layout gates locks)) n (action.Call c) is;
    }
  where
    short : (xs : List Action) → length xs ≤ 1000 → length xs < 2 ^ 64
    short xs few = omega (arith, few)

-- ---- a run inside the limits

each_at : {X : Type 0} (P : X → Type 0) (xs : List X) (k : ℕ) (x : X) → AllByRecursion P xs → slice_get xs k ≡ Some x
    → P x
each_at P [] k x all is = absurd (cc is)
each_at P (y ∷ ys) zero x all is = let same : y ≡ x = cc is in subst P same all.0
each_at P (y ∷ ys) (suc k) x all is = each_at P ys k x all.1 is

pub playable : (r : Run) → IsRunWithin r → IsPlayable r
unfolding AreAll
playable r within =
    kept_playable r (length r.gates) (length r.locks)
    (record {
      layout = within.allowed;
      all_callers = within.callers;
      scripts = λ k xs is.
          (let both =
          each_at (IsCallersScript r.layout (length r.gates) (length r.locks)) r.callers k xs within.scripts is in (
            λ n a there. each_at (IsCallersAction r.layout (length r.gates) (length r.locks)) xs n a both.0 there,
            both.1,
          ));
      does = λ i xs is n a there.
          each_at (IsAction r.layout (length r.gates) (length r.locks)) xs n a
          (each_at (AllByRecursion (IsAction r.layout (length r.gates) (length r.locks))) r.does i xs within.does is)
          there;
    })

-- ---- a script that may run

in_all : {X : Type 0} (P : X → Type 0) (xs : List X) (k : ℕ) (x : X) → All P xs → slice_get xs k ≡ Some x → P x
in_all P xs k x all is = subst P (get_or_from_slice_get xs k x x is) (all k x (slice_get_within xs k x is))

-- the list of this place is that of a vector
vector_at : (P : List Action → Type 0) (all : List (Vec Action Global)) (k : ℕ) (xs : List Action)
    → All (λ actions. P actions.items) all → slice_get (map (λ actions. actions.items) all) k ≡ Some xs → P xs
vector_at P all k xs each is =
    of (slice_get all k) refl (sym (slice_get-map (λ (v : Vec Action Global). v.items) all k) ∙ is)
  where
    of : (o : Option (Vec Action Global)) → slice_get all k ≡ o
        → option_map (λ (v : Vec Action Global). v.items) o ≡ Some xs → P xs
    of None none same = absurd (cc same)
    of (Some v) there same =
        let one : v.items ≡ xs = cc same in
        subst P one (in_all (λ (u : Vec Action Global). P u.items) all k v each there)

pub script_playable : (s : Script) → is_layout s.shape ≡ true → MayRun s → IsPlayable (run_of s)
unfolding AreAll
script_playable s allowed may =
    let gates = length s.gates.items in
    let locks = length s.locks.items in
    kept_playable (run_of s) gates locks
    (record {
      layout = allowed;
      all_callers =
          (let same = length-map s.callers.items (λ (v : Vec Action Global). v.items) in
          let all = may.callers in
          omega (arith, same, all));
      scripts = λ k xs is.
          (let both =
          vector_at (λ ys. All (IsCallersAction s.shape gates locks) ys × (length ys ≤ 1000)) s.callers.items k xs
          may.scripts is in
          (λ n a there. in_all (IsCallersAction s.shape gates locks) xs n a both.0 there, both.1));
      does = λ i xs is n a there.
          in_all (IsAction s.shape gates locks) xs n a
          (vector_at (All (IsAction s.shape gates locks)) s.does.items i xs may.does is) there;
    })
