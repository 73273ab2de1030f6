-- What holds of all queueings of a history, and goes on to hold as it grows, holds of all that ever became active.
use Rattle.cmwq_theory_steps.specs.Common.{◌≡◌, Bool, true, List, [], ◌∷◌, Some, find, AllByRecursion, PoolId, Entry}
use Rattle.cmwq_theory_steps.specs.Common.{Queueing, Layout, queueings, became_active, newly_active, is_newly_active}
use Rattle.cmwq_theory_steps.specs.Common.{worklist, is_listed, next, is_startable, All_map, All_append, All_filter}
use Rattle.cmwq_theory_steps.proofs.Lemmas.{all_found, all_kept}

pub activated_all : (s : Layout) (P : List Entry → Queueing → Type 0)
    → ((e : Entry) (past : List Entry) (x : Queueing) → P past x → P (e ∷ past) x)
    → ((past : List Entry) → AllByRecursion (P past) (queueings past)) → (past : List Entry)
    → AllByRecursion (P past) (became_active s past)
unfolding became_active
activated_all s P more all [] = tt
activated_all s P more all (e ∷ past) =
    All_append (P (e ∷ past)) (became_active s past) (newly_active s past e)
    (All_map (P past) (P (e ∷ past)) (became_active s past) (more e past) (activated_all s P more all past))
    (all_kept (P (e ∷ past)) (is_newly_active s past e) (queueings (e ∷ past)) (all (e ∷ past)))

-- what is found passes, and has what all have
pub record Found {X : Type 0} (P : X → Type 0) (p : X → Bool) (x : X) : Type 0 where
  pub passes : p x ≡ true
  pub holds : P x

pub find_holds : {X : Type 0} (P : X → Type 0) (p : X → Bool) (xs : List X) (y : X) → AllByRecursion P xs
    → find p xs ≡ Some y → Found P p y
find_holds P p xs y all found = let k = all_found P p xs y all found in record { passes = k.1; holds = k.0 }

-- the next of a pool is listed there, and its item has no run
pub record IsNext (s : Layout) (P : List Entry → Queueing → Type 0) (past : List Entry) (p : PoolId)
    (x : Queueing) : Type 0 where
  pub startable : is_startable past x ≡ true
  pub listed : is_listed s past p x ≡ true
  pub holds : P past x

pub next_holds : (s : Layout) (P : List Entry → Queueing → Type 0)
    → ((e : Entry) (past : List Entry) (x : Queueing) → P past x → P (e ∷ past) x)
    → ((past : List Entry) → AllByRecursion (P past) (queueings past)) → (past : List Entry) (p : PoolId) (x : Queueing)
    → next s past p ≡ Some x → IsNext s P past p x
unfolding next worklist
next_holds s P more all past p x found =
    let Listed : Queueing → Type 0 = Found (P past) (is_listed s past p) in
    let listed =
    All_filter Listed (is_listed s past p) (became_active s past)
    (All_map (P past) _ (became_active s past) (λ y h passes. record { passes = passes; holds = h })
    (activated_all s P more all past)) in
    let f = find_holds Listed (is_startable past) (worklist s past p) x listed found in
    record { startable = f.passes; listed = f.holds.passes; holds = f.holds.holds }
