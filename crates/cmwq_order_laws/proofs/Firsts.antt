-- What is active stands in its pool's worklist, and a start takes the first there whose item does not run.
use Rattle.cmwq_theory_steps.specs.Common.{◌≡◌, ℕ, Bool, true, false, not, cond, List, [], ◌∷◌, ◌++◌, find, Some}
use Rattle.cmwq_theory_steps.specs.Common.{refl, ap, subst, arith, AllByRecursion, PoolId, Who}
use Rattle.cmwq_theory_steps.specs.Common.{Entry, Queueing, Layout, is_in_pool, is_startable}
use Rattle.cmwq_theory_steps.specs.Common.{item_runs, next, number_started, starts, worklist, All_map}
use Rattle.std.proofs.lemmas.Option.{same_Some}
use Rattle.cmwq_theory_steps.proofs.Entries.{is_at-true}
use Rattle.cmwq_theory_steps.proofs.Pools.{same_pool-true}
use Rattle.cmwq_theory_steps.proofs.Starts.{starts_next}
use Rattle.std.specs.Prelude.{Contains}
use Rattle.std.proofs.Common.{⊎_elim}
use Rattle.std.proofs.lemmas.Bool.{and_from}
use Rattle.cmwq_lemmas.proofs.Members.{In, contained_in, of_in}
use Rattle.cmwq_theory_steps.specs.Common.{is_listed, nat_tests, pool_at, queueings, same_pool}
use Rattle.cmwq_theory_steps.proofs.Worklist.{worklist_is}
use Rattle.cmwq_order_laws.specs.Overtaking.{ActiveStand, IsFirstFree, StartsTakeFirst}

-- what is found first, and what stands before it
pub record IsFirst {X : Type 0} (p : X → Bool) (xs : List X) (y : X) : Type 0 where
  pub before : List X
  pub after : List X
  pub is : xs ≡ before ++ y ∷ after
  pub none : AllByRecursion (λ x. p x ≡ false) before
  pub passes : p y ≡ true

pub first_found : {X : Type 0} (p : X → Bool) (xs : List X) (y : X) → find p xs ≡ Some y → IsFirst p xs y
first_found p [] y h = cc
first_found p (x ∷ xs) y h = at (p x) refl h (λ later. first_found p xs y later)
  where
    at : (b : Bool) → p x ≡ b → cond b (Some x) (find p xs) ≡ Some y → (find p xs ≡ Some y → IsFirst p xs y)
        → IsFirst p (x ∷ xs) y
    at true passes found more =
        let same = same_Some x y found in
        record {
          before = [];
          after = xs;
          is = ap (λ z. z ∷ xs) same;
          none = tt;
          passes = subst (λ z. p z ≡ true) same passes;
        }
    at false fails found more =
        let k = more found in
        record {
          before = x ∷ k.before;
          after = k.after;
          is = ap (λ l. x ∷ l) k.is;
          none = (fails, k.none);
          passes = k.passes;
        }

first_free : (s : Layout) (past : List Entry) (p : PoolId) (x : Queueing) (n : ℕ) → x.number ≡ n
    → next s past p ≡ Some x → IsFirstFree s past p n
unfolding next
first_free s past p x n number is =
    let k = first_found (is_startable past) (worklist s past p) x is in
    record {
      queueing = x;
      ahead = k.before;
      number = number;
      stands = record { behind = k.after; worklist_is = k.is };
      is_free = grind (arith, k.passes);
      others_run = All_map (λ y. is_startable past y ≡ false) (λ y. item_runs past y.item.0 ≡ true) k.before
          (λ y none. grind (arith, none)) k.none;
    }

pub starts_take_first : StartsTakeFirst
starts_take_first s past e p n legal here starts =
    let st = starts_next s past e n legal (is_at-true (number_started e.reply) n starts) in
    let same : st.worker.pool ≡ p =
    same_pool-true st.worker.pool p (subst (λ (w : Who). is_in_pool p w ≡ true) st.by_worker here) in
    first_free s past p st.queueing n st.number (subst (λ q. next s past q ≡ Some st.queueing) same st.is_next)

-- ---- what is active stands there

split_at : {X : Type 0} (xs : List X) (y : X) → In y xs
    → (before : List X) × (after : List X) × (xs ≡ before ++ y ∷ after)
split_at [] y here = absurd here
split_at (x ∷ xs) y here = ⊎_elim
    (λ same. ([], xs, ap (λ z. z ∷ xs) same))
    (λ later. let k = split_at xs y later in (x ∷ k.0, k.1, ap (λ l. x ∷ l) k.2))
    here

pub active_stand : ActiveStand
active_stand s past x there active new =
    let p = pool_at s x.place in
    let listed : is_listed s past p x ≡ true =
    and_from _ _ (and_from _ _ active (ap not new)) (same_pool_itself p) in
    let k = split_at (worklist s past p) x (contained_in (worklist s past p) x
    (of_in (λ y. is_listed s past p y ≡ true → Contains (worklist s past p) y) (queueings past) x
    (worklist_is s past p).all_stand (contained_in (queueings past) x there) listed)) in
    (k.0, record { behind = k.1; worklist_is = k.2 })
  where
    same_pool_itself : (p : PoolId) → same_pool p p ≡ true
    same_pool_itself p = grind (arith, nat_tests)
