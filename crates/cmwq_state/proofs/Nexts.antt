-- What a pool starts next is an item's unstarted queueing.
use Rattle.cmwq_state.specs.Common.{◌≡◌, ◌<◌, List, Option, Some, None, refl, sym, ap, ◌∙◌, subst, option_map}
use Rattle.cmwq_state.specs.Common.{same_Some, PoolId, Entry, Queueing, Layout, unstarted_queueing, is_unstarted}
use Rattle.cmwq_state.specs.Common.{still_open, next, IsLegal, Task, next_task, task_for, pool_of, found, open_there}
use Rattle.cmwq_state.specs.Common.{next_task_is}
use Rattle.cmwq_theory_steps.proofs.Unstarted.{next_unstarted}

pub record NextOpen (s : Layout) (past : List Entry) (p : PoolId) (t : Task) : Type 0 where
  pub item : t.item.0 < s.items
  pub is : unstarted_queueing past t.item.0 ≡ next s past p

pub next_open : (s : Layout) (past : List Entry) (p : PoolId) (t : Task) → IsLegal s past
    → next_task (pool_of s past p) ≡ Some t → NextOpen s past p t
next_open s past p t legal h = by (next s past p) refl (sym (next_task_is s past p legal) ∙ h)
  where
    by : (o : Option Queueing) → next s past p ≡ o → option_map (task_for s) (next s past p) ≡ Some t
        → NextOpen s past p t
    by None is k = let bad : None ≡ Some t = sym (ap (option_map (task_for s)) is) ∙ k in cc
    by (Some x) is k =
        let task : task_for s x ≡ t = same_Some (task_for s x) t (sym (ap (option_map (task_for s)) is) ∙ k) in
        let of_task : x.item.0 ≡ t.item.0 = ap (λ (u : Task). u.item.0) task in
        let un = next_unstarted s past legal p x is in
        let stands = (found (is_unstarted past x.item.0) (still_open past) x un).0 in
        record {
          item = subst (λ i. i < s.items) of_task (open_there s past x legal stands).item;
          is = ap (unstarted_queueing past) (sym of_task) ∙ (un ∙ sym is);
        }

pub next_none : (s : Layout) (past : List Entry) (p : PoolId) → IsLegal s past → next_task (pool_of s past p) ≡ None
    → None ≡ next s past p
next_none s past p legal h = by (next s past p) refl (sym (next_task_is s past p legal) ∙ h)
  where
    by : (o : Option Queueing) → next s past p ≡ o → option_map (task_for s) (next s past p) ≡ None
        → None ≡ next s past p
    by None is k = sym is
    by (Some x) is k = let bad : Some (task_for s x) ≡ None = sym (ap (option_map (task_for s)) is) ∙ k in cc
