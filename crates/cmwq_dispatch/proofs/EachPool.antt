-- The workers of all pools that rest, as one pool after another is looked at, and after an entry.
use Rattle.std.specs.Prelude.{◌⊎◌}
use Rattle.std.proofs.Common.{⊎_elim, inl, inr, slice_set, ◌+◌}
use Rattle.cmwq_theory_steps.specs.Common.{◌≡◌, ◌≤◌, ◌<◌, ℕ, zero, suc, Bool, true, false, ◌&&◌, ◌||◌, List, [], ◌∷◌}
use Rattle.cmwq_theory_steps.specs.Common.{length, Option, Some, None, refl, sym, ap, ap₂, ◌∙◌, subst, arith, slice_get}
use Rattle.cmwq_theory_steps.specs.Common.{Entry, Layout, PoolId, WorkerId, Who, Caller, Worker, IsLegal, enlists}
use Rattle.cmwq_theory_steps.specs.Common.{is_in_pool, is_at, same_pool, index_enlisted, worker_at}
use Rattle.cmwq_theory_steps.specs.Common.{option_map_or, eq-eqb, eqb-true, ◌==◌}
use Rattle.std.proofs.lemmas.Bool.{both_ways, cases_lt, false_from_ne_true}
use Rattle.std.proofs.lemmas.Option.{slice_get_within}
use Rattle.cmwq_theory_steps.proofs.Pools.{same_pool-true}
use Rattle.cmwq_theory_wakes.specs.Starting.{IsAttended, would_start}
use Rattle.cmwq_dispatch.specs.Naming.{names_worker, NamesMore}
use Rattle.cmwq_dispatch.specs.Resting.{IsEmpty, IsRecorded, IsAttendedBy, IsUp, rests_in}
use Rattle.cmwq_dispatch.specs.Pools.{AllEmpty, AllRecorded, FirstAttended, IsAttendedAt, LeavesNamed, OthersSame}
use Rattle.cmwq_dispatch.specs.Pools.{OwnIsUp}
use Rattle.cmwq_dispatch.specs.Pools.{RestSame, pool_number, rests}
use Rattle.cmwq_dispatch.specs.declared.resting.RestingWorkers.{RestingWorkers}
use Rattle.cmwq_dispatch.specs.declared.wakes.Wakes.{Wakes}
use Rattle.cmwq_dispatch.proofs.Flushed.{set_got, set_here, set_length}
use Rattle.cmwq_dispatch.proofs.OneNamed.{names_more, names_same}
use Rattle.cmwq_dispatch.proofs.OnePool.{goes_on, moves_none}
use Rattle.cmwq_dispatch.proofs.Sets.{none_has}

-- ---- numbers of pools

-- no two pools have one number
pub same_pool_number : (p q : PoolId) → pool_number p ≡ pool_number q → p ≡ q
same_pool_number p q h =
    at p.high q.high refl refl (ap₂ (λ a b. a) h h)
  where
    at : (a b : Bool) → p.high ≡ a → q.high ≡ b → pool_number p ≡ pool_number q → p ≡ q
    at true true ha hb same = ap₂ (λ c h. record { cpu = record { 0 = c }; high = h }) (grind arith) (ha ∙ sym hb)
    at false false ha hb same = ap₂ (λ c h. record { cpu = record { 0 = c }; high = h }) (grind arith) (ha ∙ sym hb)
    at true false ha hb same = absurd (grind arith)
    at false true ha hb same = absurd (grind arith)

pub same_or : (m n : ℕ) → (m ≡ n) ⊎ (m ≡ n → ⊥)
same_or m n = at (m == n) refl
  where
    at : (b : Bool) → (m == n) ≡ b → (m ≡ n) ⊎ (m ≡ n → ⊥)
    at true is = inl (eqb-true m n is)
    at false is = inr (λ same. both_ways _ is (eq-eqb m n same))

-- a worker is told by its pool and its index
pub worker_is : (w : WorkerId) (p : PoolId) → w.pool ≡ p → w ≡ worker_at p w.index
worker_is w p same = ap (λ q. worker_at q w.index) same

-- ---- one pool is set

get_set_other : {A : Type 0} (l : List A) (i k : ℕ) (a : A) → (k ≡ i → ⊥)
    → slice_get (slice_set l i a) k ≡ slice_get l k
get_set_other [] i k a n = refl
get_set_other (x ∷ xs) zero zero a n = absurd (n refl)
get_set_other (x ∷ xs) zero (suc k) a n = refl
get_set_other (x ∷ xs) (suc i) zero a n = refl
get_set_other (x ∷ xs) (suc i) (suc k) a n = get_set_other xs i k a (λ e. n (ap suc e))

get_set_here : {A : Type 0} (l : List A) (i : ℕ) (a b : A) → slice_get l i ≡ Some b
    → slice_get (slice_set l i a) i ≡ Some a
get_set_here [] i a b h = cc
get_set_here (x ∷ xs) zero a b h = refl
get_set_here (x ∷ xs) (suc i) a b h = get_set_here xs i a b h

abbrev told : ℕ → Option RestingWorkers → Bool
told x o = option_map_or (λ (z : RestingWorkers). rests_in z x) o false

pub rests_at : (xs : List RestingWorkers) (w : WorkerId) (z : RestingWorkers)
    → slice_get xs (pool_number w.pool) ≡ Some z → rests xs w ≡ rests_in z w.index
rests_at xs w z h = ap (told w.index) h

pub rests_set_here : (xs : List RestingWorkers) (n : ℕ) (v y : RestingWorkers) (w : WorkerId) → pool_number w.pool ≡ n
    → slice_get xs n ≡ Some v → rests (slice_set xs n y) w ≡ rests_in y w.index
rests_set_here xs n v y w same at =
    ap (λ m. told w.index (slice_get (slice_set xs n y) m)) same ∙ ap (told w.index) (get_set_here xs n y v at)

pub rests_set_other : (xs : List RestingWorkers) (n : ℕ) (y : RestingWorkers) (w : WorkerId)
    → (pool_number w.pool ≡ n → ⊥) → rests (slice_set xs n y) w ≡ rests xs w
rests_set_other xs n y w apart = ap (told w.index) (get_set_other xs n (pool_number w.pool) y apart)

pub recorded_all : (past : List Entry) (xs : List RestingWorkers) (p : PoolId) (n : ℕ) (y : RestingWorkers)
    → n ≡ pool_number p → AllRecorded past xs → IsRecorded past p y → AllRecorded past (slice_set xs n y)
recorded_all past xs p n y is all one q z h = ⊎_elim
    (λ e. subst (IsRecorded past q) (sym e.1)
    (subst (λ r. IsRecorded past r y) (same_pool_number p q (sym is ∙ sym e.0)) one)) (λ was. all q z was)
    (set_got xs n (pool_number q) y z h)

pub attended_at : (s : Layout) (past : List Entry) (xs : List RestingWorkers) (p : PoolId) (n : ℕ)
    (v y : RestingWorkers)
    → n ≡ pool_number p → slice_get xs n ≡ Some v → IsAttendedBy s past p y → IsAttendedAt s past (slice_set xs n y) p
attended_at s past xs p n v y is at one w pool resting starts =
    let u = one w.index (sym (rests_set_here xs n v y w (ap pool_number pool ∙ sym is) at) ∙ resting)
    (subst (λ x. would_start s past x ≡ true) (worker_is w p pool) starts) in
    record {
      worker = worker_at p u.worker;
      pool = refl;
      idle = u.idle;
      does_not_rest = rests_set_here xs n v y (worker_at p u.worker) (sym is) at ∙ u.does_not_rest;
    }

pub others_same : (xs : List RestingWorkers) (p : PoolId) (n : ℕ) (y : RestingWorkers) → n ≡ pool_number p
    → OthersSame p xs (slice_set xs n y)
others_same xs p n y is = record {
  count = set_length xs n y;
  others = λ q apart. get_set_other xs n (pool_number q) y (λ same. apart (same ∙ is));
}

pub rests_there : (xs : List RestingWorkers) (w : WorkerId) → rests xs w ≡ true
    → (z : RestingWorkers) × (slice_get xs (pool_number w.pool) ≡ Some z)
rests_there xs w h = at (slice_get xs (pool_number w.pool)) refl
  where
    at : (o : Option RestingWorkers) → slice_get xs (pool_number w.pool) ≡ o
        → (z : RestingWorkers) × (slice_get xs (pool_number w.pool) ≡ Some z)
    at None is = absurd (both_ways _ (ap (told w.index) is) h)
    at (Some z) is = (z, is)

pub beyond : (s : Layout) (past : List Entry) (xs : List RestingWorkers) (p : PoolId) → length xs ≤ pool_number p
    → IsAttendedAt s past xs p
beyond s past xs p far w pool resting starts =
    let there = rests_there xs w resting in
    let less = slice_get_within xs (pool_number w.pool) there.0 there.1 in
    let same = ap pool_number pool in absurd (omega (arith, less, same, far))

-- ---- nobody rests

abbrev nobody_rests : RestingWorkers
nobody_rests = record { enlisted = record { bits = 0 }; reserve = record { bits = 0 }; named = None }

is_empty : IsEmpty nobody_rests
is_empty = record { enlisted = none_has; reserve = none_has; named = refl }

pub emptied : (xs : List RestingWorkers) (n : ℕ)
    → ((k : ℕ) (z : RestingWorkers) → k < n → slice_get xs k ≡ Some z → IsEmpty z)
    → (k : ℕ) (z : RestingWorkers) → k < n + 1 → slice_get (slice_set xs n nobody_rests) k ≡ Some z → IsEmpty z
emptied xs n before k z less at = ⊎_elim (λ e. subst IsEmpty (sym e.1) is_empty)
    (λ was. ⊎_elim (λ low. before k z low was) (λ high. here (omega arith)) (cases_lt k n))
    (set_got xs n k nobody_rests z at)
  where
    here : k ≡ n → IsEmpty z
    here same = subst IsEmpty
        (sym (set_here xs n nobody_rests z (ap (slice_get (slice_set xs n nobody_rests)) (sym same) ∙ at))) is_empty

pub empty_recorded : (xs : List RestingWorkers) → AllEmpty xs → (past : List Entry) → AllRecorded past xs
empty_recorded xs all past p z at = let k = all (pool_number p) z at in record {
  enlisted = λ x h. absurd (both_ways _ (k.enlisted x) h);
  reserve = λ x h. absurd (both_ways _ (k.reserve x) h);
  named = λ x h. let bad : None ≡ Some x = sym k.named ∙ h in cc;
  looks = λ x h. ap₂ (λ a b. a || b) (k.enlisted x) (k.reserve x);
}

pub empty_rests : (xs : List RestingWorkers) → AllEmpty xs → (w : WorkerId) → rests xs w ≡ false
empty_rests xs all w = false_from_ne_true _ (λ h. let there = rests_there xs w h in
    let k = all (pool_number w.pool) there.0 there.1 in
    both_ways _ (ap₂ (λ a b. a || b) (k.enlisted w.index) (k.reserve w.index)) (sym (rests_at xs w there.0 there.1)
    ∙ h))

-- ---- one look after another

pub leaves_on : (a b c : List RestingWorkers) (u v w : Wakes) → LeavesNamed a b u v → LeavesNamed b c v w
    → LeavesNamed a c u w
leaves_on a b c u v w h k = record {
  count = k.count ∙ h.count;
  left = λ x r. ⊎_elim (k.left x) (λ named. inr (k.more.workers x named)) (h.left x r);
  fewer = λ x r. h.fewer x (k.fewer x r);
  more = names_more u v w h.more k.more;
}

pub leaves_same : (a b : List RestingWorkers) (u : Wakes) → RestSame a b → LeavesNamed a b u u
leaves_same a b u h = record {
  count = h.count;
  left = λ w r. inl (h.rest w ∙ r);
  fewer = λ w r. sym (h.rest w) ∙ r;
  more = names_same u;
}

-- one pool was looked at
pub leaves_one : (xs : List RestingWorkers) (p : PoolId) (n : ℕ) (v y : RestingWorkers) (u w : Wakes)
    → n ≡ pool_number p → slice_get xs n ≡ Some v → NamesMore u w
    → ((x : ℕ) → rests_in v x ≡ true → (rests_in y x ≡ true) ⊎ (names_worker w (worker_at p x) ≡ true))
    → ((x : ℕ) → rests_in y x ≡ true → rests_in v x ≡ true) → LeavesNamed xs (slice_set xs n y) u w
leaves_one xs p n v y u w is at more left fewer = record {
  count = set_length xs n y;
  left = λ x r. ⊎_elim (λ same. here x r same) (λ apart. inl (rests_set_other xs n y x apart ∙ r))
      (same_or (pool_number x.pool) n);
  fewer = λ x r. ⊎_elim (λ same. was x same ∙ fewer x.index (sym (rests_set_here xs n v y x same at) ∙ r))
      (λ apart. sym (rests_set_other xs n y x apart) ∙ r) (same_or (pool_number x.pool) n);
  more = more;
}
  where
    was : (x : WorkerId) → pool_number x.pool ≡ n → rests xs x ≡ rests_in v x.index
    was x same = rests_at xs x v (ap (slice_get xs) same ∙ at)

    here : (x : WorkerId) → rests xs x ≡ true → pool_number x.pool ≡ n
        → (rests (slice_set xs n y) x ≡ true) ⊎ (names_worker w x ≡ true)
    here x r same = ⊎_elim (λ on. inl (rests_set_here xs n v y x same at ∙ on))
        (λ named. inr (subst (λ q. names_worker w q ≡ true) (sym (worker_is x p (same_pool_number x.pool p (same
        ∙ is))))
        named)) (left x.index (sym (was x same) ∙ r))

-- a pool is attended alike if the same workers of it rest
pub attended_same : (s : Layout) (past : List Entry) (p : PoolId) (rested rest : WorkerId → Bool)
    → ((w : WorkerId) → w.pool ≡ p → rest w ≡ rested w) → IsAttended s past rested p → IsAttended s past rest p
attended_same s past p rested rest same h w pool resting starts =
    let u = h w pool (sym (same w pool) ∙ resting) starts in
    record { worker = u.worker; pool = u.pool; idle = u.idle; does_not_rest = same u.worker u.pool ∙ u.does_not_rest }

-- a look at one pool keeps what is attended
pub look_keeps : (s : Layout) (past : List Entry) (xs ys : List RestingWorkers) (p q : PoolId) → OthersSame p xs ys
    → IsAttendedAt s past ys p → IsAttendedAt s past xs q → IsAttendedAt s past ys q
look_keeps s past xs ys p q k there was =
    ⊎_elim (λ same. subst (IsAttendedAt s past ys) (same_pool_number p q (sym same)) there)
    (λ apart. attended_same s past q (rests xs) (rests ys)
    (λ w pool. ap (told w.index) (k.others w.pool (λ e. apart (sym (ap pool_number pool) ∙ e)))) was)
    (same_or (pool_number q) (pool_number p))

pub record Toured (s : Layout) (past : List Entry) (n : ℕ) (old xs : List RestingWorkers)
    (before wakes : Wakes) : Type 0
  where
    pub recorded : AllRecorded past xs
    pub first : FirstAttended s past n xs
    pub named : LeavesNamed old xs before wakes

pub toured_on : (s : Layout) (past : List Entry) (n : ℕ) (old xs ys : List RestingWorkers) (u v w : Wakes) (p : PoolId)
    → pool_number p ≡ n → Toured s past n old xs u v → AllRecorded past ys → IsAttendedAt s past ys p
    → OthersSame p xs ys → LeavesNamed xs ys v w → Toured s past (n + 1) old ys u w
toured_on s past n old xs ys u v w p is k recorded there same named = record {
  recorded = recorded;
  first = λ q less. ⊎_elim (λ low. look_keeps s past xs ys p q same there (k.first q low))
      (λ high. subst (IsAttendedAt s past ys) (same_pool_number p q (omega (arith, is, less, high))) there)
      (cases_lt (pool_number q) n);
  named = leaves_on old xs ys u v w k.named named;
}

pub toured_all : (s : Layout) (past : List Entry) (n : ℕ) (old xs : List RestingWorkers) (u v : Wakes) → length xs ≤ n
    → Toured s past n old xs u v → (p : PoolId) → IsAttendedAt s past xs p
toured_all s past n old xs u v all k p = ⊎_elim (λ low. k.first p low)
    (λ high. beyond s past xs p (omega (arith, all, high))) (cases_lt (pool_number p) n)

-- ---- after an entry

not_in_pool : (e : Entry) (w : WorkerId) (q : PoolId) (y : ℕ) → e.who ≡ Worker w
    → (pool_number q ≡ pool_number w.pool → ⊥) → enlists e (worker_at q y) ≡ false
not_in_pool e w q y who apart =
    let away : same_pool w.pool q ≡ false =
    false_from_ne_true _ (λ same. apart (ap pool_number (sym (same_pool-true w.pool q same)))) in
    ap (λ (a : Who). is_in_pool q a && is_at (index_enlisted e.reply) y) who
    ∙ ap (λ b. b && is_at (index_enlisted e.reply) y) away

other_goes_on : (s : Layout) (past : List Entry) (e : Entry) (q : PoolId) (z : RestingWorkers) → IsLegal s (e ∷ past)
    → ((x : ℕ) → e.who ≡ Worker (worker_at q x) → IsUp z x) → ((y : ℕ) → enlists e (worker_at q y) ≡ false)
    → IsRecorded past q z → IsRecorded (e ∷ past) q z
other_goes_on s past e q z legal own none recorded =
    goes_on s past e q z z legal own (moves_none e q z (λ y h. none y)) recorded

pub caller_entered : (s : Layout) (past : List Entry) (e : Entry) (xs : List RestingWorkers) → IsLegal s (e ∷ past)
    → ((w : WorkerId) → e.who ≡ Worker w → ⊥) → AllRecorded past xs → AllRecorded (e ∷ past) xs
caller_entered s past e xs legal none all q z h =
    other_goes_on s past e q z legal (λ x who. absurd (none (worker_at q x) who)) (λ y. at e.who refl y) (all q z h)
  where
    at : (who : Who) → e.who ≡ who → (y : ℕ) → enlists e (worker_at q y) ≡ false
    at (Caller c) is y = ap (λ (a : Who). is_in_pool q a && is_at (index_enlisted e.reply) y) is
    at (Worker w) is y = absurd (none w is)

pub worker_entered : (s : Layout) (past : List Entry) (e : Entry) (xs : List RestingWorkers) (w : WorkerId) (n : ℕ)
    (y : RestingWorkers) → IsLegal s (e ∷ past) → e.who ≡ Worker w → n ≡ pool_number w.pool → OwnIsUp e xs
    → AllRecorded past xs → IsRecorded (e ∷ past) w.pool y → AllRecorded (e ∷ past) (slice_set xs n y)
worker_entered s past e xs w n y legal who is own all one q z h = ⊎_elim
    (λ t. subst (IsRecorded (e ∷ past) q) (sym t.1)
    (subst (λ r. IsRecorded (e ∷ past) r y) (same_pool_number w.pool q (sym is ∙ sym t.0)) one))
    (λ was. ⊎_elim (λ same. here (same_pool_number w.pool q (sym same))) (λ apart. other was apart)
    (same_or (pool_number q) (pool_number w.pool))) (set_got xs n (pool_number q) y z h)
  where
    other : slice_get xs (pool_number q) ≡ Some z → (pool_number q ≡ pool_number w.pool → ⊥)
        → IsRecorded (e ∷ past) q z
    other was apart =
        other_goes_on s past e q z legal (λ x by. own (worker_at q x) z by was) (λ k. not_in_pool e w q k who apart)
        (all q z was)

    here : w.pool ≡ q → IsRecorded (e ∷ past) q z
    here same =
        let at : n ≡ pool_number q = is ∙ ap pool_number same in
        let z_is : z ≡ y = set_here xs n y z (ap (slice_get (slice_set xs n y)) at ∙ h) in
        subst (IsRecorded (e ∷ past) q) (sym z_is) (subst (λ r. IsRecorded (e ∷ past) r y) same one)

pub rest_same_set : (xs : List RestingWorkers) (n : ℕ) (x y : RestingWorkers) → slice_get xs n ≡ Some x
    → ((k : ℕ) → rests_in y k ≡ rests_in x k) → RestSame xs (slice_set xs n y)
rest_same_set xs n x y at same = record {
  count = set_length xs n y;
  rest = λ w. ⊎_elim (λ here. rests_set_here xs n x y w here at ∙ (same w.index
      ∙ sym (rests_at xs w x (ap (slice_get xs) here ∙ at)))) (λ apart. rests_set_other xs n y w apart)
      (same_or (pool_number w.pool) n);
}

pub far_entered : (s : Layout) (past : List Entry) (e : Entry) (xs : List RestingWorkers) (w : WorkerId)
    → IsLegal s (e ∷ past) → e.who ≡ Worker w → length xs ≤ pool_number w.pool → OwnIsUp e xs → AllRecorded past xs
    → AllRecorded (e ∷ past) xs
far_entered s past e xs w legal who far own all q z h =
    let less = slice_get_within xs (pool_number q) z h in
    other_goes_on s past e q z legal (λ x by. own (worker_at q x) z by h)
    (λ k. not_in_pool e w q k who (λ same. absurd (omega (arith, far, less, same)))) (all q z h)
