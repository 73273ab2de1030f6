-- The workers of a pool that rest: as one begins to, as one rises, and after an entry.
use Rattle.std.specs.Prelude.{◌⊎◌}
use Rattle.std.proofs.Common.{⊎_elim}
use Rattle.cmwq_theory_steps.specs.Common.{◌≡◌, ◌==◌, inl, inr, ℕ, Bool, true, false, not, ◌&&◌, ◌||◌, List, ◌∷◌}
use Rattle.cmwq_theory_steps.specs.Common.{Some, refl, sym, ap, ap₂, ◌∙◌, subst, arith, is_some}
use Rattle.cmwq_theory_steps.specs.Common.{Entry, Layout, PoolId, WorkerId, Worker, IsLegal, is_by, is_enlisted}
use Rattle.cmwq_theory_steps.specs.Common.{has_run, run, worker_at, enlists, eq-eqb}
use Rattle.cmwq_theory_steps.specs.Common.{eqb-true, is_retired, if◌then◌else◌}
use Rattle.std.proofs.lemmas.Bool.{both_ways, and_parts, false_from_ne_true}
use Rattle.cmwq_lemmas.proofs.Truth.{and_false, or_true, or_false}
use Rattle.cmwq_theory_steps.specs.RunSteps.{run_after}
use Rattle.cmwq_theory_steps.proofs.RunSteps.{workers_run_on}
use Rattle.cmwq_theory_wakes.specs.Starting.{worker_is_idle, allows_start, leaves_next}
use Rattle.cmwq_theory_wakes.proofs.Attended.{runners_are_enlisted, stays_idle, whose}
use Rattle.cmwq_dispatch.specs.Sets.{has}
use Rattle.cmwq_dispatch.specs.Resting.{IsRecorded, IsAttendedBy, IsUp, OneAttends, MayRest, is_index, rests_in}
use Rattle.cmwq_dispatch.specs.declared.resting.RestingWorkers.{RestingWorkers}

-- ---- one begins to rest

-- what changes: one more rests
pub record OneMore (old new : RestingWorkers) (x : ℕ) (enlisted : Bool) : Type 0 where
  pub enlisted_more : (y : ℕ) → has new.enlisted.bits y ≡ (has old.enlisted.bits y || (enlisted && (y == x)))
  pub reserve_more : (y : ℕ) → has new.reserve.bits y ≡ (has old.reserve.bits y || (not enlisted && (y == x)))
  pub named : new.named ≡ old.named

pub one_rests : (old new : RestingWorkers) (x : ℕ) (b : Bool) → OneMore old new x b → (y : ℕ)
    → rests_in new y ≡ (rests_in old y || (y == x))
one_rests old new x b k y =
    ap₂ (λ a c. a || c) (k.enlisted_more y) (k.reserve_more y)
    ∙ joined (has old.enlisted.bits y) (has old.reserve.bits y) b (y == x)
  where
    joined : (a c b d : Bool) → ((a || (b && d)) || (c || (not b && d))) ≡ ((a || c) || d)
    joined a c b d = grind arith

pub begun_to_rest : (s : Layout) (past : List Entry) (p : PoolId) (old new : RestingWorkers) (x : ℕ) (b : Bool)
    → OneMore old new x b → IsUp old x → MayRest s past p x b → IsRecorded past p old
    → IsAttendedBy s past p old → IsRecorded past p new × IsAttendedBy s past p new
begun_to_rest s past p old new x b k awake right idle attended = (
  record {
    enlisted = λ y h. cases (has old.enlisted.bits y) (b && (y == x)) (sym (k.enlisted_more y) ∙ h) (idle.enlisted y)
        (λ both. let t = and_parts b (y == x) both in
        subst (λ n. worker_is_idle past (worker_at p n) ≡ true) (sym (eqb-true y x t.1)) (right.idle t.0));
    reserve = λ y h. cases (has old.reserve.bits y) (not b && (y == x)) (sym (k.reserve_more y) ∙ h) (idle.reserve y)
        (λ both. let t = and_parts (not b) (y == x) both in
        subst (λ n. is_enlisted past (worker_at p n) ≡ false) (sym (eqb-true y x t.1)) (right.reserve
        (not-true b t.0)));
    named = λ y h. idle.named y (sym k.named ∙ h);
    looks = λ y h. one_rests old new x b k y
        ∙ ap₂ (λ a c. a || c) (idle.looks y (sym k.named ∙ h)) (apart y (sym k.named ∙ h));
  },
  look,
)
  where
    not-true : (b : Bool) → not b ≡ true → b ≡ false
    not-true b h = grind arith

    cases : {P : Type 0} (a c : Bool) → (a || c) ≡ true → (a ≡ true → P) → (c ≡ true → P) → P
    cases true c h f g = f refl
    cases false c h f g = g h

    apart : (y : ℕ) → old.named ≡ Some y → (y == x) ≡ false
    apart y h = sym (ap (λ o. is_index o x) h) ∙ awake.1

    shut : worker_is_idle past (worker_at p x) ≡ true → allows_start s past p ≡ false
    shut free = sym (ap (λ c. c && allows_start s past p) free) ∙ right.starts_nothing

    look : IsAttendedBy s past p new
    look y sleeps starts = by (worker_is_idle past (worker_at p x)) refl
      where
        can : allows_start s past p ≡ true
        can = (and_parts (worker_is_idle past (worker_at p y)) (allows_start s past p) starts).1

        differ : (v : ℕ) → worker_is_idle past (worker_at p v) ≡ true → worker_is_idle past (worker_at p x) ≡ false
            → (v == x) ≡ false
        differ v free not_free = false_from_ne_true _ (λ same. both_ways _ not_free
            (subst (λ n. worker_is_idle past (worker_at p n) ≡ true) (eqb-true v x same) free))

        by : (f : Bool) → worker_is_idle past (worker_at p x) ≡ f → OneAttends past p new
        by true free = absurd (both_ways _ (shut free) can)
        by false other =
            let was : rests_in old y ≡ true = sym (or_false (rests_in old y))
            ∙ (ap (λ c. rests_in old y || c)
            (sym (differ y (and_parts (worker_is_idle past (worker_at p y)) (allows_start s past p) starts).0 other))
            ∙ (sym (one_rests old new x b k y) ∙ sleeps)) in
            let u = attended y was starts in
            record {
              worker = u.worker;
              idle = u.idle;
              does_not_rest = one_rests old new x b k u.worker
                  ∙ ap₂ (λ a c. a || c) u.does_not_rest (differ u.worker u.idle other);
            }

-- ---- after an entry

-- those that rest stay where they are, but for the one that the entry enlists, which leaves the reserve
pub record Moved (e : Entry) (p : PoolId) (old new : RestingWorkers) : Type 0 where
  pub enlisted_was : (y : ℕ) → has new.enlisted.bits y ≡ true
      → (has old.enlisted.bits y ≡ true) ⊎ ((has old.reserve.bits y ≡ true) × (enlists e (worker_at p y) ≡ true))
  pub reserve_was : (y : ℕ) → has new.reserve.bits y ≡ true
      → (has old.reserve.bits y ≡ true) × (enlists e (worker_at p y) ≡ false)
  pub named : new.named ≡ old.named
  pub same : (y : ℕ) → rests_in new y ≡ rests_in old y

-- a worker that was not enlisted, and is now, is idle
idle_now : (s : Layout) (past : List Entry) (e : Entry) (w : WorkerId) → IsLegal s (e ∷ past)
    → is_by (Worker w) e ≡ false → is_enlisted past w ≡ false → enlists e w ≡ true → worker_is_idle (e ∷ past) w ≡ true
unfolding is_enlisted IsLegal
idle_now s past e w legal by out en =
    let idle : has_run past w ≡ false =
    false_from_ne_true _ (λ runs. both_ways _ out (runners_are_enlisted s past legal.2 w runs)) in
    let same : has_run (e ∷ past) w ≡ false =
    ap is_some (workers_run_on s past e w legal
    ∙ ap (λ b. if b then run_after e.reply (run past w) else run past w) by) ∙ idle in
    ap₂ (λ a b. (a || (not (is_by (Worker w) e && is_retired e.reply) && is_enlisted past w)) && not b) en same

-- a worker that was not enlisted, and is not by the entry, still is not
out_still : (past : List Entry) (e : Entry) (w : WorkerId) → is_enlisted past w ≡ false → enlists e w ≡ false
    → is_enlisted (e ∷ past) w ≡ false
unfolding is_enlisted
out_still past e w out en =
    ap₂ (λ a b. a || (not (is_by (Worker w) e && is_retired e.reply) && b)) en out
    ∙ and_false (not (is_by (Worker w) e && is_retired e.reply))

pub goes_on : (s : Layout) (past : List Entry) (e : Entry) (p : PoolId) (old new : RestingWorkers)
    → IsLegal s (e ∷ past)
    → ((x : ℕ) → e.who ≡ Worker (worker_at p x) → IsUp old x) → Moved e p old new → IsRecorded past p old
    → IsRecorded (e ∷ past) p new
goes_on s past e p old new legal own k idle = record {
  enlisted = λ y h. ⊎_elim (λ was. stays_idle s past e (worker_at p y) legal (calm y (resting_enlisted y was))
      (idle.enlisted y was))
      (λ moved. idle_now s past e (worker_at p y) legal (not_by y (resting_reserve y moved.0)) (idle.reserve y moved.0)
      moved.1) (k.enlisted_was y h);
  reserve = λ y h. let m = k.reserve_was y h in out_still past e (worker_at p y) (idle.reserve y m.0) m.1;
  named = λ y h. let was : old.named ≡ Some y = sym k.named ∙ h in
      stays_idle s past e (worker_at p y) legal
      (ap (λ b. b && leaves_next e.reply) (false_from_ne_true _ (λ by. both_ways _ (own y (whose e
      (worker_at p y) by)).1
      (ap (λ o. is_index o y) was ∙ eq-eqb y y refl)))) (idle.named y was);
  looks = λ y h. k.same y ∙ idle.looks y (sym k.named ∙ h);
}
  where
    resting_enlisted : (y : ℕ) → has old.enlisted.bits y ≡ true → rests_in old y ≡ true
    resting_enlisted y h = ap (λ a. a || has old.reserve.bits y) h

    resting_reserve : (y : ℕ) → has old.reserve.bits y ≡ true → rests_in old y ≡ true
    resting_reserve y h = ap (λ a. has old.enlisted.bits y || a) h ∙ or_true (has old.enlisted.bits y)

    not_by : (y : ℕ) → rests_in old y ≡ true → is_by (Worker (worker_at p y)) e ≡ false
    not_by y sleeps =
        false_from_ne_true _ (λ by. both_ways _ (own y (whose e (worker_at p y) by)).0 sleeps)

    calm : (y : ℕ) → rests_in old y ≡ true → (is_by (Worker (worker_at p y)) e && leaves_next e.reply) ≡ false
    calm y sleeps = ap (λ b. b && leaves_next e.reply) (not_by y sleeps)

-- ---- one rises

-- what changes: one rests no more, and is not named any more
pub record OneLess (old new : RestingWorkers) (x : ℕ) : Type 0 where
  pub enlisted_less : (y : ℕ) → has new.enlisted.bits y ≡ (has old.enlisted.bits y && not (y == x))
  pub reserve_less : (y : ℕ) → has new.reserve.bits y ≡ (has old.reserve.bits y && not (y == x))
  pub named_was : (y : ℕ) → new.named ≡ Some y → old.named ≡ Some y

pub one_rises : (old new : RestingWorkers) (x : ℕ) → OneLess old new x → (y : ℕ)
    → rests_in new y ≡ (rests_in old y && not (y == x))
one_rises old new x k y =
    ap₂ (λ a c. a || c) (k.enlisted_less y) (k.reserve_less y)
    ∙ joined (has old.enlisted.bits y) (has old.reserve.bits y) (y == x)
  where
    joined : (a c d : Bool) → ((a && not d) || (c && not d)) ≡ ((a || c) && not d)
    joined a c d = grind arith

less_rest : (old new : RestingWorkers) (x y : ℕ) → OneLess old new x → rests_in old y ≡ false → rests_in new y ≡ false
less_rest old new x y k h = one_rises old new x k y ∙ ap (λ a. a && not (y == x)) h

pub risen : (s : Layout) (past : List Entry) (p : PoolId) (old new : RestingWorkers) (x : ℕ) → OneLess old new x
    → IsRecorded past p old → IsAttendedBy s past p old → IsRecorded past p new × IsAttendedBy s past p new
risen s past p old new x k recorded attended = (
  record {
    enlisted = λ y h. recorded.enlisted y (and_parts _ _ (sym (k.enlisted_less y) ∙ h)).0;
    reserve = λ y h. recorded.reserve y (and_parts _ _ (sym (k.reserve_less y) ∙ h)).0;
    named = λ y h. recorded.named y (k.named_was y h);
    looks = λ y h. less_rest old new x y k (recorded.looks y (k.named_was y h));
  },
  λ y resting starts. let u = attended y (and_parts _ _ (sym (one_rises old new x k y) ∙ resting)).0 starts in
      record { worker = u.worker; idle = u.idle; does_not_rest = less_rest old new x u.worker k u.does_not_rest },
)

-- ---- what the code does

pub moves_none : (e : Entry) (p : PoolId) (z : RestingWorkers)
    → ((y : ℕ) → has z.reserve.bits y ≡ true → enlists e (worker_at p y) ≡ false) → Moved e p z z
moves_none e p z none = record {
  enlisted_was = λ y h. inl h;
  reserve_was = λ y h. (h, none y h);
  named = refl;
  same = λ y. refl;
}

pub moves_one : (e : Entry) (p : PoolId) (old new : RestingWorkers) (x : ℕ) → has old.reserve.bits x ≡ true
    → ((y : ℕ) → enlists e (worker_at p y) ≡ (x == y))
    → ((y : ℕ) → has new.enlisted.bits y ≡ (has old.enlisted.bits y || (y == x)))
    → ((y : ℕ) → has new.reserve.bits y ≡ (has old.reserve.bits y && not (y == x))) → new.named ≡ old.named
    → Moved e p old new
moves_one e p old new x there en more less named = record {
  enlisted_was = λ y h. was y (has old.enlisted.bits y) (y == x) refl refl (sym (more y) ∙ h);
  reserve_was = λ y h. let k = and_parts (has old.reserve.bits y) (not (y == x)) (sym (less y) ∙ h) in
      (k.0, en y ∙ turned y (not-true (y == x) k.1));
  named = named;
  same = λ y. ap₂ (λ a b. a || b) (more y) (less y)
      ∙ joined (has old.enlisted.bits y) (has old.reserve.bits y) (y == x)
      (λ same. subst (λ n. has old.reserve.bits n ≡ true) (sym (eqb-true y x same)) there);
}
  where
    not-true : (b : Bool) → not b ≡ true → b ≡ false
    not-true b h = grind arith

    turned : (y : ℕ) → (y == x) ≡ false → (x == y) ≡ false
    turned y h = false_from_ne_true _ (λ same. both_ways _ h (eq-eqb y x (sym (eqb-true x y same))))

    joined : (a r d : Bool) → (d ≡ true → r ≡ true) → ((a || d) || (r && not d)) ≡ (a || r)
    joined a r d h = grind arith

    was : (y : ℕ) (a d : Bool) → has old.enlisted.bits y ≡ a → (y == x) ≡ d → (a || d) ≡ true
        → (has old.enlisted.bits y ≡ true) ⊎ ((has old.reserve.bits y ≡ true) × (enlists e (worker_at p y) ≡ true))
    was y true d a_is d_is h = inl a_is
    was y false d a_is d_is h =
        let same : y ≡ x = eqb-true y x (d_is ∙ h) in
        inr (subst (λ n. has old.reserve.bits n ≡ true) (sym same) there, en y ∙ eq-eqb x y (sym same))
