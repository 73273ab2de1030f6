-- What one trial more leaves.
use Rattle.std.proofs.Common.{◌≡◌, ◌∙◌, ◌∷◌, [], ℕ, Bool, true, false, List, arith, refl, sym, subst, length, ap}
use Rattle.std.proofs.Common.{nat_lt}
use Rattle.std.proofs.lemmas.Bool.{ltb-false, ltb-true}
use Rattle.std.proofs.lemmas.List.Elements.{Contains-append_right, Contains-get_or}
use Rattle.std.specs.Prelude.{◌+◌, ◌-◌, ◌≤◌, Option, Some, None, IfSome, Contains, filter}
use Rattle.cmwq_model.specs.Prelude.{Layout}
use Rattle.cmwq_trial.specs.Counting.{AreFailures, AreTrials, HaveAsMany, IsReliableOf, IsShortest, entries_of}
use Rattle.cmwq_trial.specs.Counting.{fewest_entries, first_in, first_of, has_stopped, is_stuck, one_if, shortest_after}
use Rattle.cmwq_trial.specs.Failing.{seed_of}
use Rattle.cmwq_trial.specs.declared.failure.Failure.{Failure}
use Rattle.cmwq_trial.specs.declared.failure.Failure.TheVariants.{Stopped, Stuck}
use Rattle.cmwq_trial.specs.declared.counting.Trials.{Trials}

-- ---- failures

failures_more : (s : Layout) (from n : ℕ) (failures : List Failure) → AreFailures s from n failures
    → AreFailures s from (n + 1) failures
failures_more s from n [] are = tt
failures_more s from n (f ∷ older) (reliable, after, before, rest) = (reliable, after, omega arith, rest)

failures_next : (s : Layout) (from n : ℕ) (f : Failure) (failures : List Failure) → AreFailures s from n failures
    → IsReliableOf s f → seed_of f ≡ from + n → AreFailures s from (n + 1) (f ∷ failures)
failures_next s from n f failures are reliable seed =
    let same : n ≡ seed_of f - from = omega (arith, seed) in (
      reliable,
      omega (arith, seed),
      omega (arith, seed),
      subst (λ (m : ℕ). AreFailures s from m failures) same are,
    )

filter_more : (p : Failure → Bool) (f : Failure) (failures : List Failure)
    → length (filter p (f ∷ failures)) ≡ length (filter p failures) + one_if (p f)
filter_more p f failures = here (p f) refl
  where
    here : (b : Bool) → p f ≡ b → length (filter p (f ∷ failures)) ≡ length (filter p failures) + one_if b
    here true is = rw is (omega arith)
    here false not = rw not (omega arith)

both_ways : (failures : List Failure)
    → length (filter is_stuck failures) + length (filter has_stopped failures) ≡ length failures
both_ways [] = refl
both_ways (f ∷ failures) =
    let stuck = filter_more is_stuck f failures in
    let stopped = filter_more has_stopped f failures in
    let rest = both_ways failures in
    let one = one_way f in
    omega (arith, stuck, stopped, rest, one)
  where
    one_way : (f : Failure) → one_if (is_stuck f) + one_if (has_stopped f) ≡ 1
    one_way (Stuck a b c) = refl
    one_way (Stopped a b c) = refl

-- each trial is counted once
pub all_counted : (s : Layout) (from many : ℕ) (t : Trials) → AreTrials s from many t
    → t.ended + t.stuck + t.stopped ≡ many
all_counted s from many t x =
    let ended = x.ended in
    let stuck = x.stuck in
    let stopped = x.stopped in
    let both = both_ways x.failures in
    omega (arith, ended, stuck, stopped, both)

-- ---- the shortest

-- where none is the first, none is the shortest, and the next one is the first
shortest_first : (failures : List Failure) (f : Failure) (shortest : Option Failure)
    → first_in failures ≡ None → IsShortest failures None shortest → IsShortest (f ∷ failures) (Some f) shortest
shortest_first [] f None none is = is_first
  where
    is_first : HaveAsMany (entries_of f) (f ∷ [])
    is_first = (omega arith, tt)
shortest_first (g ∷ failures) f None none is = absurd (never (first_in failures) none)
  where
    never : (o : Option Failure) → first_of o g ≡ None → ⊥
    never None e = cc e
    never (Some h) e = cc e
shortest_first failures f (Some g) none is = absurd is

fewer_too : (n m : ℕ) (failures : List Failure) → n ≤ m → HaveAsMany m failures → HaveAsMany n failures
fewer_too n m [] less have = tt
fewer_too n m (f ∷ failures) less (one, rest) = (omega (arith, one), fewer_too n m failures less rest)

shortest_next : (failures : List Failure) (f first : Failure) (shortest : Option Failure)
    → IsShortest failures (Some first) shortest
    → IsShortest (f ∷ failures) (Some first) (shortest_after first shortest f)
shortest_next failures f first shortest is =
    here shortest is (nat_lt (entries_of f) (fewest_entries first shortest)) refl
  where
    is_there : Contains (f ∷ failures) f
    is_there = Contains-get_or (f ∷ failures) 0 f (omega arith)

    here : (o : Option Failure) → IsShortest failures (Some first) o → (b : Bool)
        → nat_lt (entries_of f) (fewest_entries first o) ≡ b
        → IsShortest (f ∷ failures) (Some first) (shortest_after first o f)
    here None have true less =
        let lt = ltb-true (entries_of f) (entries_of first) less in
        let fewer = fewer_too (entries_of f) (entries_of first) failures (omega (arith, lt)) have in
        rw less (is_there, lt, (omega arith, fewer))
    here None have false not =
        let le = ltb-false (entries_of f) (entries_of first) not in
        rw not (le, have)
    here (Some g) (there, shorter, have) true less =
        let lt = ltb-true (entries_of f) (entries_of g) less in
        let fewer = fewer_too (entries_of f) (entries_of g) failures (omega (arith, lt)) have in
        rw less (is_there, omega (arith, lt, shorter), (omega arith, fewer))
    here (Some g) (there, shorter, have) false not =
        let le = ltb-false (entries_of f) (entries_of g) not in
        rw not (Contains-append_right (f ∷ []) failures g there, shorter, (le, have))

-- ---- trials

pub ended_more : (s : Layout) (from n : ℕ) (t u : Trials) → u.ended ≡ t.ended + 1 → u.stuck ≡ t.stuck
    → u.stopped ≡ t.stopped → u.first_failure ≡ t.first_failure → u.shortest_failure ≡ t.shortest_failure
    → AreTrials s from n t → AreTrials s from (n + 1) u
ended_more s from n t u a b c d e x =
    let ended = x.ended in
    record {
      failures = x.failures;
      are = failures_more s from n x.failures x.are;
      ended = omega (arith, a, ended);
      stuck = b ∙ x.stuck;
      stopped = c ∙ x.stopped;
      first = d ∙ x.first;
      shortest = rw d (rw e x.shortest);
    }

pub failed_more : (s : Layout) (from n : ℕ) (t u : Trials) (f : Failure) → u.ended ≡ t.ended
    → u.stuck ≡ t.stuck + one_if (is_stuck f) → u.stopped ≡ t.stopped + one_if (has_stopped f)
    → u.first_failure ≡ first_of t.first_failure f
    → (t.first_failure ≡ None → u.shortest_failure ≡ t.shortest_failure)
    → IfSome t.first_failure (λ first. u.shortest_failure ≡ shortest_after first t.shortest_failure f)
    → IsReliableOf s f → seed_of f ≡ from + n → AreTrials s from n t → AreTrials s from (n + 1) u
failed_more s from n t u f a b c d e h reliable seed x =
    let ended = x.ended in
    record {
      failures = f ∷ x.failures;
      are = failures_next s from n f x.failures x.are reliable seed;
      ended = omega (arith, a, ended);
      stuck = b ∙ ap (λ m. m + one_if (is_stuck f)) x.stuck ∙ sym (filter_more is_stuck f x.failures);
      stopped = c ∙ ap (λ m. m + one_if (has_stopped f)) x.stopped ∙ sym (filter_more has_stopped f x.failures);
      first = d ∙ ap (λ o. first_of o f) x.first;
      shortest = here t.first_failure refl;
    }
  where
    here : (o : Option Failure) → t.first_failure ≡ o → IsShortest (f ∷ x.failures) u.first_failure u.shortest_failure
    here None none =
        rw d (rw none (rw (e none) (shortest_first x.failures f t.shortest_failure (sym x.first ∙ none)
        (subst (λ (o : Option Failure). IsShortest x.failures o t.shortest_failure) none x.shortest))))
    here (Some first) some =
        let after : u.shortest_failure ≡ shortest_after first t.shortest_failure f =
        subst (λ (o : Option Failure). IfSome o (λ g. u.shortest_failure ≡ shortest_after g t.shortest_failure f)) some
        h in
        rw d (rw some (rw after (shortest_next x.failures f first t.shortest_failure
        (subst (λ (o : Option Failure). IsShortest x.failures o t.shortest_failure) some x.shortest))))
