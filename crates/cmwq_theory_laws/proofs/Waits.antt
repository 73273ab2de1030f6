-- What a ticket waits for is the least of what holds it up.
use Rattle.cmwq_theory_laws.specs.Common.{◌≡◌, ◌≤◌, ℕ, true, List, find, Option, Some, None, refl, subst, option_map}
use Rattle.cmwq_theory_laws.specs.Common.{AllByRecursion, Call, Entry, Queueing, still_open, holds_up, waits_for}
use Rattle.cmwq_theory_laws.specs.Common.{least_waited, All_each, open_rise, find_least}
use Rattle.std.proofs.lemmas.Option.{same_Some}
use Rattle.cmwq_model.specs.declared.call.Call.TheVariants as call

waited_least : (past : List Entry) (n m : ℕ) (c : Call) → least_waited past n c ≡ Some m
    → AllByRecursion (λ x. holds_up past n c x ≡ true → m ≤ x.number) (still_open past)
waited_least past n m c h = at (find (holds_up past n c) (still_open past)) refl h
  where
    at : (o : Option Queueing) → find (holds_up past n c) (still_open past) ≡ o
        → option_map (λ (x : Queueing). x.number) o ≡ Some m
        → AllByRecursion (λ x. holds_up past n c x ≡ true → m ≤ x.number) (still_open past)
    at None found h = cc
    at (Some y) found h =
        subst (λ k. AllByRecursion (λ x. holds_up past n c x ≡ true → k ≤ x.number) (still_open past))
        (same_Some y.number m h) (find_least (holds_up past n c) (still_open past) y (open_rise past) found)

pub waits_for_least : (past : List Entry) (n m : ℕ) (c : Call) → waits_for past n c ≡ Some m
    → AllByRecursion (λ x. holds_up past n c x ≡ true → m ≤ x.number) (still_open past)
waits_for_least past n m (call.CancelSync i) h = All_each _ (still_open past) (λ x e. cc)
waits_for_least past n m c h = waited_least past n m c h
