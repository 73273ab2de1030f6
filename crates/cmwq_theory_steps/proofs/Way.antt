-- What is below max_active, told by what became active so far: so one pass over what waits finds what becomes active.
use Rattle.cmwq_theory_steps.specs.Common.{◌≡◌, ℕ, zero, suc, ◌+◌, ◌-◌, ◌<◌, Bool, List, [], ◌∷◌, ◌++◌, length, filter}
use Rattle.cmwq_theory_steps.specs.Common.{take, count_by, cond, nat_lt, refl, sym, ap, ◌∙◌, subst, arith}
use Rattle.cmwq_theory_steps.specs.Common.{AllByRecursion, filter-append, eq-eqb, nat_tests, Entry, Queueing, Layout}
use Rattle.cmwq_theory_steps.specs.Common.{still_open, width, is_below_max_active}
use Rattle.cmwq_theory_steps.specs.Rising.{IsRising}
use Rattle.cmwq_theory_steps.proofs.Rising.{rising_filter, open_rise}
use Rattle.std.proofs.lemmas.Bool.{and_from}
use Rattle.cmwq_lemmas.proofs.Passing.{all_kept}
use Rattle.cmwq_theory_steps.specs.Places.{is_on, open_on}
use Rattle.cmwq_theory_steps.specs.Activations.{waits, stay_count}
use Rattle.cmwq_theory_steps.proofs.Active.{length-count}
use Rattle.cmwq_theory_steps.proofs.Promoted.{newly_active_on}
use Rattle.cmwq_theory_steps.specs.Waiting.{candidates}
use Rattle.cmwq_theory_steps.proofs.Waiting.{newly_are}
use Rattle.cmwq_theory_steps.proofs.Promoted.{turn_filters}

-- a rising list, and each front of a filter of it
later_only : (h : Queueing → Bool) (x : Queueing) (xs zs : List Queueing) → AllByRecursion (λ y. x.number < y.number) xs
    → filter h xs ≡ x ∷ zs → ⊥
later_only h x xs zs later is =
    omega (
      arith,
      (subst (AllByRecursion (λ y. x.number < y.number)) is (all_kept (λ y. x.number < y.number) h xs later)).0,
    )

front_below_max_active : (h : Queueing → Bool) (d : ℕ) (D : List Queueing) (x : Queueing) (R : List Queueing)
    → IsRising (D ++ x ∷ R) → filter h (D ++ x ∷ R) ≡ take d (D ++ x ∷ R) → h x ≡ nat_lt (length (filter h D)) d
front_below_max_active h zero [] x R rising is = grind arith
front_below_max_active h (suc d) [] x R rising is = grind (arith, nat_tests, later_only h x R (take d R) rising.0)
front_below_max_active h zero (y ∷ D) x R rising is =
    grind (arith, nat_tests, front_below_max_active h zero D x R rising.1)
front_below_max_active h (suc d) (y ∷ D) x R rising is =
    grind (
      arith,
      nat_tests,
      later_only h y (D ++ x ∷ R) (take d (D ++ x ∷ R)) rising.0,
      front_below_max_active h d D x R rising.1,
    )

-- a queueing that waits is below max_active exactly where fewer than the width are active on its pool workqueue,
-- counting those that became active before it in this pass
pub way_by_picked : (s : Layout) (past : List Entry) (e : Entry) (done : List Queueing) (x : Queueing)
    (rest : List Queueing) → candidates s past e ≡ done ++ x ∷ rest
    → is_below_max_active s (e ∷ past) x
    ≡ nat_lt (stay_count s past e x.place.queue.0 x.place.cpu.0 + count_by (is_on x.place.queue.0 x.place.cpu.0)
    (filter (is_below_max_active s (e ∷ past)) done)) (width s (e ∷ past) x.place.queue.0)
way_by_picked s past e done x rest split =
    let q = x.place.queue.0 in let c = x.place.cpu.0 in
    let h : Queueing → Bool = is_below_max_active s (e ∷ past) in
    let on : Queueing → Bool = is_on q c in
    let stay = stay_count s past e q c in
    let w = width s (e ∷ past) q in
    let parts : filter on (candidates s past e) ≡ filter on done ++ x ∷ filter on rest =
    ap (filter on) split
    ∙ (filter-append on done (x ∷ rest) ∙ ap (λ b. filter on done ++ cond b (x ∷ filter on rest) (filter on rest))
    (and_from _ _ (eq-eqb q q refl) (eq-eqb c c refl))) in
    let turned : filter (waits s past) (open_on (e ∷ past) q c) ≡ filter on (candidates s past e) =
    turn_filters (waits s past) on (still_open (e ∷ past)) in
    let same : filter h (filter on (candidates s past e)) ≡ take (w - stay) (filter on (candidates s past e)) =
    turn_filters h on (candidates s past e)
    ∙ (ap (filter on) (sym (newly_are s past e)) ∙ (newly_active_on s past e q c ∙ ap (take (w - stay)) turned)) in
    let rises : IsRising (filter on done ++ x ∷ filter on rest) =
    subst IsRising parts
    (rising_filter on (candidates s past e)
    (rising_filter (waits s past) (still_open (e ∷ past)) (open_rise (e ∷ past)))) in
    let counted : length (filter h (filter on done)) ≡ count_by on (filter h done) =
    ap length (turn_filters h on done) ∙ sym (length-count on (filter h done)) in
    front_below_max_active h (w - stay) (filter on done) x (filter on rest) rises
    (subst (λ v. filter h v ≡ take (w - stay) v) parts same)
    ∙ (ap (λ k. nat_lt k (w - stay)) counted ∙ grind (arith, nat_tests))
