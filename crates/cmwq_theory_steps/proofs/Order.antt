-- A pool's worklist stands in the order in which its queueings became active.
use Rattle.cmwq_theory_steps.specs.Common.{◌≡◌, ◌<◌, ◌≤◌, ℕ, Bool, true, List, [], ◌∷◌, ◌++◌, length, filter, Option}
use Rattle.cmwq_theory_steps.specs.Common.{Some, None, refl, ap, arith, inl, inr, if◌then◌else◌, AllByRecursion}
use Rattle.cmwq_theory_steps.specs.Common.{option_or, Entry, Queueing, Layout, queueings, is_live, is_active}
use Rattle.cmwq_theory_steps.specs.Common.{is_newly_active, newly_active, became_active, All_map, All_both, All_append}
use Rattle.cmwq_theory_steps.specs.Common.{All_each, All_filter}
use Rattle.cmwq_theory_steps.specs.Rising.{IsRising}
use Rattle.cmwq_theory_steps.proofs.Rising.{queueings_rise, rising_filter}
use Rattle.cmwq_theory_steps.proofs.Opens.{open_before}
use Rattle.cmwq_theory_steps.proofs.Joined.{stays_active, active_older, active_live}
use Rattle.std.proofs.lemmas.Bool.{cond_both}
use Rattle.cmwq_lemmas.proofs.Passing.{all_kept}
use Rattle.cmwq_theory_steps.specs.Order.{since, IsSooner, AreInOrder}

since_keeps : (s : Layout) (e : Entry) (past : List Entry) (x : Queueing) (j : ℕ) → since s past x ≡ Some j
    → since s (e ∷ past) x ≡ Some j
unfolding since
since_keeps s e past x j h =
    ap (λ o. option_or o (if is_active s (e ∷ past) x then Some (length (e ∷ past)) else None)) h

since_older : (s : Layout) (past : List Entry) (x : Queueing) (j : ℕ) → since s past x ≡ Some j → x.number < length past
unfolding since
since_older s [] x j h = cc
since_older s (e ∷ past) x j h = grind (arith, since_older s past x j, active_older s (e ∷ past) x)

-- what was active at some time and is open now is active now
pub still_active : (s : Layout) (past : List Entry) (x : Queueing) (j : ℕ) → since s past x ≡ Some j
    → is_live past x ≡ true → is_active s past x ≡ true
unfolding since
still_active s [] x j h live = cc
still_active s (e ∷ past) x j h live =
    grind (
      arith,
      since_older s past x j,
      still_active s past x j,
      open_before e past x.item.0 x.number,
      stays_active s past e x,
    )

-- what an entry makes active is active since then
newly_since : (s : Layout) (past : List Entry) (e : Entry) (x : Queueing) → is_newly_active s past e x ≡ true
    → since s (e ∷ past) x ≡ Some (length (e ∷ past))
unfolding since
newly_since s past e x h = at (since s past x) refl
  where
    active : is_active s (e ∷ past) x ≡ true
    active = grind arith

    at : (o : Option ℕ) → since s past x ≡ o
        → option_or o (if is_active s (e ∷ past) x then Some (length (e ∷ past)) else None) ≡ Some (length (e ∷ past))
    at None ho = ap (λ b. if b then Some (length (e ∷ past)) else None) active
    at (Some j) ho =
        let was =
        still_active s past x j ho
        (open_before e past x.item.0 x.number (since_older s past x j ho) (active_live s (e ∷ past) x active)) in
        absurd (grind arith)

-- ---- all that ever became active stand in order

pub record HasSince (s : Layout) (past : List Entry) (x : Queueing) : Type 0 where
  pub at : ℕ
  pub is : since s past x ≡ Some at
  pub within : at ≤ length past

pub activated_since : (s : Layout) (past : List Entry) → AllByRecursion (HasSince s past) (became_active s past)
unfolding became_active
activated_since s [] = tt
activated_since s (e ∷ past) =
    All_append (HasSince s (e ∷ past)) (became_active s past) (newly_active s past e)
    (All_map (HasSince s past) (HasSince s (e ∷ past)) (became_active s past)
    (λ x h. record { at = h.at; is = since_keeps s e past x h.at h.is; within = omega (arith, h.within) })
    (activated_since s past))
    (All_filter (HasSince s (e ∷ past)) (is_newly_active s past e) (queueings (e ∷ past))
    (All_each (λ x. is_newly_active s past e x ≡ true → HasSince s (e ∷ past) x) (queueings (e ∷ past))
    (λ x newly. record { at = length (e ∷ past); is = newly_since s past e x newly; within = omega arith })))

in_order_append : (s : Layout) (past : List Entry) (xs ys : List Queueing) → AreInOrder s past xs → AreInOrder s past ys
    → AllByRecursion (λ x. AllByRecursion (IsSooner s past x) ys) xs → AreInOrder s past (xs ++ ys)
in_order_append s past [] ys h k c = k
in_order_append s past (x ∷ xs) ys h k c =
    (All_append (IsSooner s past x) xs ys h.0 c.0, in_order_append s past xs ys h.1 k c.1)

pub in_order_filter : (s : Layout) (past : List Entry) (p : Queueing → Bool) (xs : List Queueing) → AreInOrder s past xs
    → AreInOrder s past (filter p xs)
in_order_filter s past p [] h = tt
in_order_filter s past p (x ∷ xs) h =
    cond_both (p x) (x ∷ filter p xs) (filter p xs) (AreInOrder s past)
    (λ passes. (all_kept (IsSooner s past x) p xs h.0, in_order_filter s past p xs h.1))
    (λ fails. in_order_filter s past p xs h.1)

in_order_keeps : (s : Layout) (past : List Entry) (e : Entry) (xs : List Queueing) → AreInOrder s past xs
    → AreInOrder s (e ∷ past) xs
in_order_keeps s past e [] h = tt
in_order_keeps s past e (x ∷ xs) h =
    (All_map (IsSooner s past x) (IsSooner s (e ∷ past) x) xs keeps h.0, in_order_keeps s past e xs h.1)
  where
    keeps : (y : Queueing) → IsSooner s past x y → IsSooner s (e ∷ past) x y
    keeps y k =
        record {
          x_since = k.x_since;
          y_since = k.y_since;
          x_is = since_keeps s e past x k.x_since k.x_is;
          y_is =
              since_keeps s e past y k.y_since k.y_is;
          order = k.order;
        }

-- what is active since one moment stands by number
one_moment : (s : Layout) (past : List Entry) (j : ℕ) (xs : List Queueing) → IsRising xs
    → AllByRecursion (λ x. since s past x ≡ Some j) xs → AreInOrder s past xs
one_moment s past j [] h k = tt
one_moment s past j (x ∷ xs) h k = (
  All_both (λ y. x.number < y.number) (λ y. since s past y ≡ Some j) (IsSooner s past x) xs
      (λ y less is. record { x_since = j; y_since = j; x_is = k.0; y_is = is; order = inr (refl, less) }) h.0 k.1,
  one_moment s past j xs h.1 k.1,
)

newly_all_since : (s : Layout) (past : List Entry) (e : Entry)
    → AllByRecursion (λ x. since s (e ∷ past) x ≡ Some (length (e ∷ past))) (newly_active s past e)
newly_all_since s past e =
    All_filter (λ x. since s (e ∷ past) x ≡ Some (length (e ∷ past))) (is_newly_active s past e) (queueings (e ∷ past))
    (All_each (λ x. is_newly_active s past e x ≡ true → since s (e ∷ past) x ≡ Some (length (e ∷ past)))
    (queueings (e ∷ past)) (newly_since s past e))

pub activated_in_order : (s : Layout) (past : List Entry) → AreInOrder s past (became_active s past)
unfolding became_active
activated_in_order s [] = tt
activated_in_order s (e ∷ past) =
    in_order_append s (e ∷ past) (became_active s past) (newly_active s past e)
    (in_order_keeps s past e (became_active s past) (activated_in_order s past))
    (one_moment s (e ∷ past) (length (e ∷ past)) (newly_active s past e)
    (rising_filter (is_newly_active s past e) (queueings (e ∷ past)) (queueings_rise (e ∷ past)))
    (newly_all_since s past e))
    (All_map (HasSince s past) (λ x. AllByRecursion (IsSooner s (e ∷ past) x) (newly_active s past e))
    (became_active s past) before (activated_since s past))
  where
    before : (x : Queueing) → HasSince s past x → AllByRecursion (IsSooner s (e ∷ past) x) (newly_active s past e)
    before x h =
        All_map (λ y. since s (e ∷ past) y ≡ Some (length (e ∷ past))) (IsSooner s (e ∷ past) x) (newly_active s past e)
        (λ y is. record {
          x_since = h.at;
          y_since = length (e ∷ past);
          x_is = since_keeps s e past x h.at h.is;
          y_is =
              is;
          order = inl (omega (arith, h.within));
        })
        (newly_all_since s past e)
