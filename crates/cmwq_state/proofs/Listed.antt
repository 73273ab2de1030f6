-- What a pool lists is its worklist: each task is an item's unstarted queueing.
use Rattle.cmwq_state.specs.Common.{◌≡◌, ℕ, zero, suc, ◌<◌, List, [], ◌∷◌, Option, Some, None, refl, sym, ap, ◌∙◌}
use Rattle.cmwq_state.specs.Common.{subst, inl, inr, option_map, slice_get, same_Some, PoolId, Entry, Queueing, Layout}
use Rattle.cmwq_state.specs.Common.{unstarted_queueing, IsLegal, Task, task_for, pool_of, In, of_in, open_there}
use Rattle.std.proofs.lemmas.Option.{slice_get-map}
use Rattle.cmwq_model.specs.Prelude.{worklist}
use Rattle.cmwq_refinement.proofs.ItemNumbers.{unstarted_one}
use Rattle.cmwq_refinement.proofs.PoolReads.{IsOnList, worklist_has}

got_in : {X : Type 0} (xs : List X) (k : ℕ) (x : X) → slice_get xs k ≡ Some x → In x xs
got_in [] k x h = let bad : None ≡ Some x = h in cc
got_in (y ∷ ys) zero x h = inl (same_Some y x h)
got_in (y ∷ ys) (suc k) x h = inr (got_in ys k x h)

-- the task at a place of the list stands for the queueing at that place of the worklist
pub record ListedOpen (s : Layout) (past : List Entry) (p : PoolId) (k : ℕ) (t : Task) : Type 0 where
  pub item : t.item.0 < s.items
  pub is : unstarted_queueing past t.item.0 ≡ slice_get (worklist s past p) k

pub listed_open : (s : Layout) (past : List Entry) (p : PoolId) (k : ℕ) (t : Task) → IsLegal s past
    → slice_get (pool_of s past p).listed k ≡ Some t → ListedOpen s past p k t
listed_open s past p k t legal h =
    by (slice_get (worklist s past p) k) refl (sym (slice_get-map (task_for s) (worklist s past p) k) ∙ h)
  where
    by : (o : Option Queueing) → slice_get (worklist s past p) k ≡ o
        → option_map (task_for s) (slice_get (worklist s past p) k) ≡ Some t → ListedOpen s past p k t
    by None is at = let bad : None ≡ Some t = sym (ap (option_map (task_for s)) is) ∙ at in cc
    by (Some x) is at =
        let task : task_for s x ≡ t = same_Some (task_for s x) t (sym (ap (option_map (task_for s)) is) ∙ at) in
        let of_task : x.item.0 ≡ t.item.0 = ap (λ (u : Task). u.item.0) task in
        let on =
        of_in (IsOnList s past p) (worklist s past p) x (worklist_has s past p) (got_in (worklist s past p) k x is) in
        record {
          item = subst (λ i. i < s.items) of_task (open_there s past x legal on.stands).item;
          is = ap (unstarted_queueing past) (sym of_task)
              ∙ (unstarted_one s past x.item.0 x legal on.stands refl on.not_started ∙ sym is);
        }

pub none_listed : (s : Layout) (past : List Entry) (p : PoolId) (k : ℕ)
    → slice_get (pool_of s past p).listed k ≡ None → None ≡ slice_get (worklist s past p) k
none_listed s past p k h =
    by (slice_get (worklist s past p) k) refl (sym (slice_get-map (task_for s) (worklist s past p) k) ∙ h)
  where
    by : (o : Option Queueing) → slice_get (worklist s past p) k ≡ o
        → option_map (task_for s) (slice_get (worklist s past p) k) ≡ None → None ≡ slice_get (worklist s past p) k
    by None is at = sym is
    by (Some x) is at = let bad : Some (task_for s x) ≡ None = sym (ap (option_map (task_for s)) is) ∙ at in cc

pub task_stands : (s : Layout) (past : List Entry) (p : PoolId) (k : ℕ) (x : Queueing)
    → slice_get (worklist s past p) k ≡ Some x → slice_get (pool_of s past p).listed k ≡ Some (task_for s x)
task_stands s past p k x h = slice_get-map (task_for s) (worklist s past p) k ∙ ap (option_map (task_for s)) h
