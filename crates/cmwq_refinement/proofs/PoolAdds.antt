-- What became active may be added to its pool: no two that are listed are of one item, in one pool or in two.
use Rattle.cmwq_refinement.specs.Common.{◌≡◌, ◌==◌, ◌<◌, false, not, ◌&&◌, List, [], ◌∷◌, ◌++◌, map, filter, refl, sym}
use Rattle.cmwq_refinement.specs.Common.{ap, ap₂, ◌∙◌, subst, arith, inl, AllByRecursion, eqb-true, false_from_ne_true}
use Rattle.cmwq_refinement.specs.Common.{lt-ltb, same_Some, append_assoc, All-from_recursion, PoolId, Entry, Queueing}
use Rattle.cmwq_refinement.specs.Common.{Layout, worklist, IsLegal, is_left, worklist_is, worklists_go_on, Task}
use Rattle.cmwq_refinement.specs.Common.{PoolState, pool_with_task, ℕ, true, pool_at}
use Rattle.cmwq_refinement.proofs.Numbers.{All_both, In, all_in, all_mapped, in_any, in_map, in_right, list_any_none}
use Rattle.cmwq_refinement.proofs.Numbers.{number_of_queueing, of_in}
use Rattle.cmwq_pool.specs.Slots.{is_task_of}
use Rattle.cmwq_pool.specs.Pools.{lists_item}
use Rattle.cmwq_theory_steps.specs.Order.{since, IsSooner, AreInOrder}
use Rattle.cmwq_refinement.specs.Pools.{task_for, pool_of, made_active, pool_before_activation, MayAllBeAdded}
use Rattle.cmwq_refinement.proofs.ItemNumbers.{one_of}
use Rattle.cmwq_refinement.proofs.PlacesFit.{open_there}
use Rattle.cmwq_refinement.proofs.PoolReads.{IsOnList, worklist_has}
use Rattle.cmwq_refinement.proofs.PoolSteps.{first_listed, first_items}

-- ---- tasks of different items

abbrev AreApart : List Task → Type 0
AreApart [] = Unit {0}
AreApart (t ∷ ts) = AllByRecursion (λ u. is_task_of u.item.0 t ≡ false) ts × AreApart ts

apart_from : (ts us : List Task) (u : Task) → AreApart (ts ++ u ∷ us)
    → AllByRecursion (λ t. is_task_of u.item.0 t ≡ false) ts
apart_from [] us u h = tt
apart_from (t ∷ ts) us u h = (
  of_in (λ v. is_task_of v.item.0 t ≡ false) (ts ++ u ∷ us) u h.0 (in_right ts (u ∷ us) u (inl refl)),
  apart_from ts us u h.1,
)

apart_may_be_added : (s : Layout) (xs : List Queueing) (l : PoolState) → AllByRecursion (λ x. x.item.0 < l.items) xs
    → AreApart (l.listed ++ map (task_for s) xs) → MayAllBeAdded s xs l
apart_may_be_added s [] l there apart = tt
apart_may_be_added s (x ∷ xs) l there apart = (
  ap₂ (λ a b. a && not b) (lt-ltb x.item.0 l.items there.0)
      (list_any_none (is_task_of x.item.0) l.listed
      (All-from_recursion (λ t. is_task_of x.item.0 t ≡ false) l.listed
      (apart_from l.listed (map (task_for s) xs) (task_for s x) apart))),
  apart_may_be_added s xs (pool_with_task l (task_for s x)) there.1
      (subst AreApart (sym (append_assoc l.listed (task_for s x ∷ []) (map (task_for s) xs))) apart),
)

-- ---- those of a worklist

unlike : (s : Layout) (past : List Entry) (p : PoolId) (x y : Queueing) → IsLegal s past → IsSooner s past x y
    → IsOnList s past p x → IsOnList s past p y → is_task_of y.item.0 (task_for s x) ≡ false
unlike s past p x y legal sooner hx hy = false_from_ne_true (x.item.0 == y.item.0) (λ h.
    let same =
    one_of s past x y legal hx.stands hy.stands (eqb-true x.item.0 y.item.0 h) hx.not_started hy.not_started in
    let at : sooner.x_since ≡ sooner.y_since =
    same_Some sooner.x_since sooner.y_since (sym sooner.x_is ∙ ap (λ z. since s past z) same ∙ sooner.y_is) in
    grind (arith, sooner.order, ap number_of_queueing same))

in_order_apart : (s : Layout) (past : List Entry) (p : PoolId) (xs : List Queueing) → IsLegal s past
    → AreInOrder s past xs → AllByRecursion (IsOnList s past p) xs → AreApart (map (task_for s) xs)
in_order_apart s past p [] legal order on = tt
in_order_apart s past p (x ∷ xs) legal order on = (
  all_mapped (task_for s) (λ u. is_task_of u.item.0 (task_for s x) ≡ false) xs
      (All_both (IsSooner s past x) (IsOnList s past p) (λ y. is_task_of y.item.0 (task_for s x) ≡ false) xs
      (λ y sooner on_y. unlike s past p x y legal sooner on.0 on_y) order.0 on.1),
  in_order_apart s past p xs legal order.1 on.1,
)

worklist_apart : (s : Layout) (past : List Entry) (p : PoolId) → IsLegal s past
    → AreApart (map (task_for s) (worklist s past p))
worklist_apart s past p legal =
    in_order_apart s past p (worklist s past p) legal (worklist_is s past p).in_order (worklist_has s past p)

active_there : (s : Layout) (past : List Entry) (e : Entry) (p : PoolId) → IsLegal s (e ∷ past)
    → AllByRecursion (λ x. x.item.0 < s.items) (made_active s past p e)
active_there s past e p legal = all_in (λ x. x.item.0 < s.items) (made_active s past p e) (λ x i.
    let listed =
    subst (In x) (sym (worklists_go_on s past e p legal))
    (in_right (filter (is_left past e) (worklist s past p)) (made_active s past p e) x i) in
    (open_there s (e ∷ past) x legal
    (of_in (IsOnList s (e ∷ past) p) (worklist s (e ∷ past) p) x (worklist_has s (e ∷ past) p) listed).stands).item)

pub active_may_be_added : (s : Layout) (past : List Entry) (e : Entry) (p : PoolId) → IsLegal s (e ∷ past)
    → MayAllBeAdded s (made_active s past p e) (pool_before_activation s past p e (pool_of s past p))
active_may_be_added s past e p legal =
    apart_may_be_added s (made_active s past p e) (pool_before_activation s past p e (pool_of s past p))
    (subst (λ n. AllByRecursion (λ x. x.item.0 < n) (made_active s past p e)) (sym (first_items s past e p))
    (active_there s past e p legal))
    (subst AreApart (first_listed s past e p legal) (worklist_apart s (e ∷ past) p legal))

-- ---- an item is listed in one pool

listing : (s : Layout) (past : List Entry) (p : PoolId) (i : ℕ) → lists_item i (pool_of s past p) ≡ true
    → (x : Queueing) × IsOnList s past p x × (x.item.0 ≡ i)
listing s past p i h =
    let t = in_any (is_task_of i) (map (task_for s) (worklist s past p)) h in
    let x = in_map (task_for s) (worklist s past p) t.0 t.1 in (
      x.0,
      of_in (IsOnList s past p) (worklist s past p) x.0 (worklist_has s past p) x.1,
      eqb-true x.0.item.0 i (ap (is_task_of i) x.2 ∙ t.2),
    )

pub items_are_listed_once : (s : Layout) (past : List Entry) (p q : PoolId) (i : ℕ) → IsLegal s past
    → lists_item i (pool_of s past p) ≡ true → lists_item i (pool_of s past q) ≡ true → p ≡ q
items_are_listed_once s past p q i legal hp hq =
    let x = listing s past p i hp in
    let y = listing s past q i hq in
    let one = one_of s past x.0 y.0 legal x.1.stands y.1.stands (x.2 ∙ sym y.2) x.1.not_started y.1.not_started in
    sym x.1.pool ∙ (ap (λ (z : Queueing). pool_at s z.place) one ∙ y.1.pool)
