-- Where the end of a ticket is answered done, all that it waits for has ended.
use Rattle.cmwq_theory_laws.specs.Common.{◌≡◌, ◌≤◌, ◌<◌, ℕ, true, false, List, [], ◌∷◌, length, Option, Some, None}
use Rattle.cmwq_theory_laws.specs.Common.{refl, arith, AllByRecursion, nat_tests, Call, Entry, Queueing, Layout}
use Rattle.cmwq_theory_laws.specs.Common.{queueings, is_live, still_open, serving_from, is_within, holds_up, waits_for}
use Rattle.cmwq_theory_laws.specs.Common.{least_waited, IsLegal, All_both, All_each, find_none, All_unfilter, IsBelow}
use Rattle.cmwq_theory_laws.specs.Common.{queueings_below, ready_call}
use Rattle.cmwq_model.specs.declared.call.Call.TheVariants as call
use Rattle.cmwq_theory_laws.specs.Headline.{is_waited_for, has_ended, WaitsEndAfter}
use Rattle.std.proofs.lemmas.Bool.{both_ways, false_from_ne_true}
use Rattle.cmwq_theory_steps.proofs.Refusals.{none_mapped}

-- ---- a flush is served from its own number on

served_from_own : (past : List Entry) (q n b : ℕ) → serving_from past q n ≡ Some b → n ≤ b
unfolding serving_from
served_from_own [] q n b h = cc
served_from_own (e ∷ past) q n b h = grind (arith, nat_tests, served_from_own past q n b)

within_served : (past : List Entry) (q t n : ℕ) (o : Option ℕ) → serving_from past q t ≡ o → n < t
    → is_within o n ≡ true
within_served past q t n None is less = refl
within_served past q t n (Some b) is less = let from = served_from_own past q t b is in grind (arith, nat_tests)

-- ---- what is waited for has ended

held_up : (past : List Entry) (t : ℕ) (c : Call) (x : Queueing) → is_waited_for c t x ≡ true
    → holds_up past t c x ≡ true
held_up past t (call.Flush q) x h =
    let less : x.number < t = grind (arith, nat_tests) in
    grind (arith, within_served past q.0 t x.number (serving_from past q.0 t) refl less)
held_up past t c x h = grind arith

ended_of : (past : List Entry) (x : Queueing) → x.number < length past → is_live past x ≡ false
    → has_ended past x ≡ true
ended_of past x less h = grind (arith, nat_tests)

waited_ended : (past : List Entry) (t : ℕ) (c : Call) → least_waited past t c ≡ None
    → AllByRecursion (λ x. is_waited_for c t x ≡ true → has_ended past x ≡ true) (queueings past)
waited_ended past t c ready =
    All_both (IsBelow (length past)) (λ x. is_live past x ≡ true → holds_up past t c x ≡ false)
    (λ x. is_waited_for c t x ≡ true → has_ended past x ≡ true) (queueings past) ended
    (queueings_below past)
    (All_unfilter (λ x. holds_up past t c x ≡ false) (is_live past) (queueings past)
    (find_none (holds_up past t c) (still_open past) (none_mapped _ ready)))
  where
    ended : (x : Queueing) → x.number < length past → (is_live past x ≡ true → holds_up past t c x ≡ false)
        → is_waited_for c t x ≡ true → has_ended past x ≡ true
    ended x less free waited =
        ended_of past x less (false_from_ne_true _ (λ live. both_ways _ (free live) (held_up past t c x waited)))

all_ended : (past : List Entry) (t : ℕ) (c : Call) → waits_for past t c ≡ None
    → AllByRecursion (λ x. is_waited_for c t x ≡ true → has_ended past x ≡ true) (queueings past)
all_ended past t (call.CancelSync i) ready = All_each _ (queueings past) (λ x h. cc)
all_ended past t c ready = waited_ended past t c ready

pub waits_end_after : (s : Layout) (past : List Entry) → IsLegal s past → WaitsEndAfter past
unfolding IsLegal
waits_end_after s [] legal = tt
waits_end_after s (e ∷ past) legal = (
  (λ t begun done at. all_ended past t begun.call (ready_call s past e t begun legal done at)),
  waits_end_after s past legal.2,
)
