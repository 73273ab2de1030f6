-- Each millisecond takes one off what is left to do, until nobody is left.
use Rattle.cmwq_sim.specs.Common.{◌≡◌, ◌==◌, ◌<◌, ◌≤◌, ◌+◌, ◌-◌, ℕ, zero, suc, Bool, true, false, not, ◌||◌, List, []}
use Rattle.cmwq_sim.specs.Common.{◌∷◌, ◌++◌, length, drop, map, filter, find, Option, Some, None, refl, sym, ap, ap₂}
use Rattle.cmwq_sim.specs.Common.{◌∙◌, subst, arith, ◌⊎◌, inl, inr, ⊎_elim, if◌then◌else◌, slice_index_or, sum, sum_by}
use Rattle.cmwq_sim.specs.Common.{fold, AllByRecursion, list_any, range_with_len, eqb-true, eq-eqb, and_parts}
use Rattle.cmwq_sim.specs.Common.{nat_tests, sum_by-cons, sum_by-append, sum_by_push, All_map, All_both, All_append}
use Rattle.cmwq_sim.specs.Common.{All_filter, All_each}
use Rattle.cmwq_sim.specs.declared.scenario.LineKind.TheVariants as kind
use Rattle.cmwq_sim.specs.Plan.{Plan, Event, plan_queue, ms_of, is_of_plan_queue, no_item}
use Rattle.cmwq_sim.specs.Limits.{IsBetween, IsItem, IsWithinLimits}
use Rattle.cmwq_sim.specs.Lines.{Moment, Job, Sleeper, is_other_item, make_ready, end_job, after_burn, after_sleep}
use Rattle.cmwq_sim.specs.Lines.{serve_first, serve, is_due, is_other_sleeper, wake_sleeper, wake_item, wake_sleepers}
use Rattle.cmwq_sim.specs.Lines.{job_with, job_of, starting_items, tell, tell_starts, start_these, start, burn_first}
use Rattle.cmwq_sim.specs.Lines.{burn, millisecond}
use Rattle.cmwq_sim.specs.Ends.{NobodyIsLeft}
use Rattle.cmwq_sim.proofs.Lists.{all_split, none_found_any, all_found, all_kept, last_any, less_kept, not-false}
use Rattle.cmwq_sim.proofs.Lists.{false≢true, list_any-append, All_push, find_none}
use Rattle.cmwq_sim.proofs.TakeShown.{job_item}

-- ---- lists

pub all_at : {X : Type 0} (P : X → Type 0) (xs : List X) (i : ℕ) (d : X) → AllByRecursion P xs → i < length xs
    → P (slice_index_or xs i d)
all_at P [] i d all less = absurd (omega arith)
all_at P (x ∷ xs) zero d all less = all.0
all_at P (x ∷ xs) (suc i) d all less = all_at P xs i d all.1 (omega arith)

-- what the limits say of one item
pub item_limits : (s : Plan) (i : ℕ) → IsWithinLimits s → i < length s.items
    → IsItem (length s.queues) (slice_index_or s.items i no_item)
item_limits s i fine less = all_at (IsItem (length s.queues)) s.items i no_item fine.items less

any_still : {X : Type 0} (p q : X → Bool) (xs : List X) → list_any p (filter q xs) ≡ true → list_any p xs ≡ true
any_still p q [] h = h
any_still p q (x ∷ xs) h = grind (arith, any_still p q xs)

-- what passes p and is taken out passes it no more
any_removed : {X : Type 0} (p q : X → Bool) (d : Bool) → ((x : X) → q x ≡ false → p x ≡ d) → (xs : List X)
    → list_any p xs ≡ true → (list_any p (filter q xs) || d) ≡ true
any_removed p q d same [] h = cc
any_removed p q d same (x ∷ xs) h = grind (arith, any_removed p q d same xs)

pub found_apart : {X : Type 0} (f : X → ℕ) (p q : X → Bool) (xs : List X) (z : X) → find p xs ≡ Some z → q z ≡ false
    → sum_by f (filter q xs) + f z ≤ sum_by f xs
found_apart f p q [] z is out = cc
found_apart f p q (x ∷ xs) z is out = grind (arith, sum_by-cons, less_kept f q xs, found_apart f p q xs z)

-- ---- what is left to do

abbrev pub time_at : Plan → ℕ → ℕ
time_at s i = sum (ms_of s i)

abbrev pub job_rest : Job → ℕ
job_rest j = j.burn + sum j.left

abbrev pub sleeper_rest : ℕ → Sleeper → ℕ
sleeper_rest t x = (x.until - t) + sum x.left

-- the items, the jobs and the sleepers, weighed
abbrev pub weight : (ℕ → ℕ) → (Job → ℕ) → (Sleeper → ℕ) → Moment → ℕ
weight f g h m = sum_by f m.ready + sum_by f m.behind + sum_by g m.cpu + sum_by h m.sleeping

abbrev pub rest : Plan → ℕ → Moment → ℕ
rest s t = weight (time_at s) job_rest (sleeper_rest t)

abbrev pub Lasting : List ℕ → Type 0
Lasting ms = AllByRecursion (λ n. 1 ≤ n) ms

pub record IsJob (s : Plan) (j : Job) : Type 0 where
  pub there : j.item < length s.items
  pub left : Lasting j.left

pub record IsRunning (s : Plan) (j : Job) : Type 0 where
  pub job : IsJob s j
  pub burns : 1 ≤ j.burn

pub record IsSleeper (s : Plan) (t : ℕ) (x : Sleeper) : Type 0 where
  pub there : x.item < length s.items
  pub later : t ≤ x.until
  pub left : Lasting x.left

abbrev pub of_job : Plan → ℕ → Job → Bool
of_job s q j = is_of_plan_queue s q j.item

abbrev pub of_sleeper : Plan → ℕ → Sleeper → Bool
of_sleeper s q x = is_of_plan_queue s q x.item

-- an item of this queue is active
abbrev pub active : Plan → ℕ → Moment → Bool
active s q m = (list_any (is_of_plan_queue s q) m.ready || list_any (of_job s q) m.cpu)
    || list_any (of_sleeper s q) m.sleeping

-- those after wait for one of their queue
pub record Sound (s : Plan) (t : ℕ) (m : Moment) : Type 0 where
  pub ready : AllByRecursion (λ i. i < length s.items) m.ready
  pub behind : AllByRecursion (λ i. i < length s.items) m.behind
  pub sleeping : AllByRecursion (IsSleeper s t) m.sleeping
  pub held : (q : ℕ) → list_any (is_of_plan_queue s q) m.behind ≡ true → active s q m ≡ true

-- the same, where one more item is in hand
pub record Loose (s : Plan) (t i : ℕ) (m : Moment) : Type 0 where
  pub there : i < length s.items
  pub ready : AllByRecursion (λ k. k < length s.items) m.ready
  pub behind : AllByRecursion (λ k. k < length s.items) m.behind
  pub sleeping : AllByRecursion (IsSleeper s t) m.sleeping
  pub held : (q : ℕ) → list_any (is_of_plan_queue s q) m.behind ≡ true → (active s q m || is_of_plan_queue s q i) ≡ true

-- ---- the item in hand sleeps, runs, or ends

to_sleep : (s : Plan) (t i pause : ℕ) (left : List ℕ) (m : Moment) → Loose s t i m → 1 ≤ pause → Lasting left
    → Sound s t (record m { sleeping = m.sleeping ++ record { item = i; until = t + pause; left = left } ∷ [] })
to_sleep s t i pause left m h more lasting = record {
  ready = h.ready;
  behind = h.behind;
  sleeping =
      All_push (IsSleeper s t) m.sleeping (record { item = i; until = t + pause; left = left }) h.sleeping
      (record { there = h.there; later = omega arith; left = lasting });
  held = λ q some. grind (
    arith,
    h.held q some,
    last_any (of_sleeper s q) m.sleeping (record { item = i; until = t + pause; left = left }),
  );
}

to_cpu : (s : Plan) (t i b : ℕ) (left : List ℕ) (m : Moment) → Loose s t i m
    → Sound s t (record m { cpu = m.cpu ++ record { item = i; burn = b; left = left } ∷ [] })
to_cpu s t i b left m h = record {
  ready = h.ready;
  behind = h.behind;
  sleeping = h.sleeping;
  held = λ q some. grind
      (arith, h.held q some, last_any (of_job s q) m.cpu (record { item = i; burn = b; left = left }));
}

-- an end weighs no more
pub end_weighs : (s : Plan) (i : ℕ) (m : Moment) (f : ℕ → ℕ) (g : Job → ℕ) (h : Sleeper → ℕ)
    → weight f g h (end_job s i m) ≤ weight f g h m
end_weighs s i m f g h = at (find (is_of_plan_queue s (plan_queue s i)) m.behind) refl
  where
    at : (o : Option ℕ) → find (is_of_plan_queue s (plan_queue s i)) m.behind ≡ o
        → weight f g h (make_ready m o) ≤ weight f g h m
    at None none = omega arith
    at (Some z) some =
        omega (
          arith,
          found_apart f (is_of_plan_queue s (plan_queue s i)) (is_other_item z) m.behind z some
              (ap not (eq-eqb z z refl)),
          sum_by_push f m.ready z,
        )

pub record Goes (s : Plan) (t r : ℕ) (m : Moment) : Type 0 where
  pub sound : Sound s t m
  pub cpu : AllByRecursion (IsRunning s) m.cpu
  pub less : rest s t m ≤ r

ends : (s : Plan) (t i r : ℕ) (m : Moment) → Loose s t i m → AllByRecursion (IsRunning s) m.cpu → rest s t m ≤ r
    → Goes s t r (end_job s i m)
ends s t i r m h cpu less =
    at (find (is_of_plan_queue s (plan_queue s i)) m.behind) refl
    (omega (arith, end_weighs s i m (time_at s) job_rest (sleeper_rest t)))
  where
    at : (o : Option ℕ) → find (is_of_plan_queue s (plan_queue s i)) m.behind ≡ o → rest s t (end_job s i m) ≤ r
        → Goes s t r (make_ready m o)
    at None none few =
        let gone =
        λ (q : ℕ) (is : is_of_plan_queue s q i ≡ true). ap (λ k. list_any (is_of_plan_queue s k) m.behind)
        (sym (eqb-true (plan_queue s i) q is))
        ∙ none_found_any (is_of_plan_queue s (plan_queue s i)) m.behind none in
        record {
          sound =
              record {
                ready = h.ready;
                behind = h.behind;
                sleeping = h.sleeping;
                held =
                    λ q some. grind (arith, h.held q some, gone q);
              };
          cpu = cpu;
          less = less;
        }
    at (Some z) some_z few =
        let z_is =
        all_found (λ k. k < length s.items) (is_of_plan_queue s (plan_queue s i)) m.behind z h.behind some_z in
        let same = eqb-true (plan_queue s z) (plan_queue s i) z_is.1 in
        record {
          sound = record {
            ready = All_push (λ k. k < length s.items) m.ready z h.ready z_is.0;
            behind = all_kept (λ k. k < length s.items) (is_other_item z) m.behind h.behind;
            sleeping = h.sleeping;
            held = λ q some. grind (
              arith,
              last_any (is_of_plan_queue s q) m.ready z,
              h.held q (any_still (is_of_plan_queue s q) (is_other_item z) m.behind some),
            );
          };
          cpu = cpu;
          less = subst (λ o. rest s t (make_ready m o) ≤ r) some_z few;
        }

same_sleeping : (m : Moment) (o : Option ℕ) → (make_ready m o).sleeping ≡ m.sleeping
same_sleeping m None = refl
same_sleeping m (Some z) = refl

-- ---- (1) the first of the CPU's list

-- of the CPU's list only the first can have burnt its time
abbrev pub FirstMayBeDone : Plan → List Job → Type 0
FirstMayBeDone s [] = Unit {0}
FirstMayBeDone s (j ∷ cpu) = IsJob s j × AllByRecursion (IsRunning s) cpu

pub served : (s : Plan) (t : ℕ) (m : Moment) → Sound s t m → FirstMayBeDone s m.cpu
    → Goes s t (rest s t m) (serve s t m)
served s t m h first = at m.cpu refl first
  where
    at : (xs : List Job) → m.cpu ≡ xs → FirstMayBeDone s xs → Goes s t (rest s t m) (serve_first s t m xs)
    at [] none k = record { sound = h; cpu = subst (AllByRecursion (IsRunning s)) (sym none) tt; less = omega arith }
    at (j ∷ js) is k = over (j.burn == 0) refl j.left refl
      where
        loose : (ls : List Event) → Loose s t j.item (record m { cpu = js; lines = ls })
        loose ls =
            record {
              there = k.0.there;
              ready = h.ready;
              behind = h.behind;
              sleeping = h.sleeping;
              held =
                  λ q some. grind (arith, h.held q some, ap (list_any (of_job s q)) is);
            }

        without : rest s t (record m { cpu = js }) + job_rest j ≡ rest s t m
        without = omega (arith, ap (sum_by job_rest) is ∙ sum_by-cons job_rest j js)

        over : (b : Bool) → (j.burn == 0) ≡ b → (left : List ℕ) → j.left ≡ left
            → Goes s t (rest s t m) (if b then after_burn s t (record m { cpu = js }) j.item left else m)
        over false burns left l =
            record {
              sound = h;
              cpu =
                  subst (AllByRecursion (IsRunning s)) (sym is) (record { job = k.0; burns = grind (arith, nat_tests) }, k.1);
              less = omega arith;
            }
        over true done [] l = let told = tell t kind.Ends (j.item ∷ []) (record m { cpu = js }) in
            ends s t j.item (rest s t m) told (loose told.lines) k.1 (omega (arith, without))
        over true done (pause ∷ left) l =
            let told = tell t kind.Sleeps (j.item ∷ []) (record m { cpu = js }) in
            let lasting = subst Lasting l k.0.left in
            let a = sum_by_push (sleeper_rest t) m.sleeping
            (record { item = j.item; until = t + pause; left = left }) in
            let b = ap sum l ∙ sum_by-cons (λ x. x) pause left in
            record {
              sound = to_sleep s t j.item pause left told (loose told.lines) lasting.0 lasting.1;
              cpu = k.1;
              less = omega (arith, without);
            }

-- ---- (2) the sleepers whose time is over

pub record Woken (s : Plan) (t k r : ℕ) (m : Moment) : Type 0 where
  pub goes : Goes s t r m
  pub passed : AllByRecursion (λ (x : Sleeper). x.item < k → t + 1 ≤ x.until) m.sleeping

woke : (s : Plan) (t k r : ℕ) (m : Moment) → Woken s t k r m → Woken s t (k + 1) r (wake_item s t m k)
woke s t k r m h = at (find (is_due t k) m.sleeping) refl
  where
    at : (o : Option Sleeper) → find (is_due t k) m.sleeping ≡ o → Woken s t (k + 1) r (wake_sleeper s t m o)
    at None none = record {
      goes = h.goes;
      passed = All_both (λ (x : Sleeper). (x.item < k → t + 1 ≤ x.until) × (t ≤ x.until)) (λ x. is_due t k x ≡ false)
          (λ (x : Sleeper). x.item < k + 1 → t + 1 ≤ x.until) m.sleeping (λ x both due less. grind (arith, nat_tests))
          (All_both (λ (x : Sleeper). x.item < k → t + 1 ≤ x.until) (IsSleeper s t)
          (λ (x : Sleeper). (x.item < k → t + 1 ≤ x.until) × (t ≤ x.until)) m.sleeping (λ x a b. (a, b.later))
          h.passed h.goes.sound.sleeping) (find_none (is_due t k) m.sleeping none);
    }
    at (Some x) some = after x.left refl
      where
        found : IsSleeper s t x × (is_due t k x ≡ true)
        found = all_found (IsSleeper s t) (is_due t k) m.sleeping x h.goes.sound.sleeping some

        its : x.item ≡ k
        its = eqb-true x.item k (and_parts (x.item == k) (x.until == t) found.1).0

        loose : (ls : List Event)
            → Loose s t x.item (record m { sleeping = filter (is_other_sleeper x.item) m.sleeping; lines = ls })
        loose ls = record {
          there = found.0.there;
          ready = h.goes.sound.ready;
          behind = h.goes.sound.behind;
          sleeping = all_kept (IsSleeper s t) (is_other_sleeper x.item) m.sleeping h.goes.sound.sleeping;
          held = λ q any. grind (
            arith,
            h.goes.sound.held q any,
            any_removed (of_sleeper s q) (is_other_sleeper x.item) (is_of_plan_queue s q x.item)
                (λ y out. ap (is_of_plan_queue s q) (eqb-true y.item x.item (not-false (y.item == x.item) out)))
                m.sleeping,
          );
        }

        apart : sum_by (sleeper_rest t) (filter (is_other_sleeper x.item) m.sleeping) + sleeper_rest t x ≤ sum_by
            (sleeper_rest t) m.sleeping
        apart = found_apart (sleeper_rest t) (is_due t k) (is_other_sleeper x.item) m.sleeping x some
            (ap not (eq-eqb x.item x.item refl))

        passed : AllByRecursion (λ (y : Sleeper). y.item < k + 1 → t + 1 ≤ y.until)
            (filter (is_other_sleeper x.item) m.sleeping)
        passed = All_filter (λ (y : Sleeper). y.item < k + 1 → t + 1 ≤ y.until) (is_other_sleeper x.item) m.sleeping
            (All_map (λ (y : Sleeper). y.item < k → t + 1 ≤ y.until) (λ (y : Sleeper). is_other_sleeper x.item y ≡ true
            → y.item < k + 1 → t + 1 ≤ y.until) m.sleeping (λ y before kept less. let e = its in
            before (grind (arith, nat_tests))) h.passed)

        after : (left : List ℕ) → x.left ≡ left
            → Woken s t (k + 1) r
            (after_sleep s t (record m { sleeping = filter (is_other_sleeper x.item) m.sleeping }) x.item left)
        after [] l =
            let told =
            tell t kind.WakesEnds (x.item ∷ [])
            (record m { sleeping = filter (is_other_sleeper x.item) m.sleeping }) in
            let o = find (is_of_plan_queue s (plan_queue s x.item)) m.behind in
            record {
              goes = ends s t x.item r told (loose told.lines) h.goes.cpu (omega (arith, apart, h.goes.less));
              passed = subst (AllByRecursion (λ (y : Sleeper). y.item < k + 1 → t + 1 ≤ y.until))
                  (sym (same_sleeping told o)) passed;
            }
        after (b ∷ left) l =
            let told =
            tell t kind.WakesBurns (x.item ∷ [])
            (record m { sleeping = filter (is_other_sleeper x.item) m.sleeping }) in
            let lasting = subst Lasting l found.0.left in
            let c = sum_by_push job_rest m.cpu (record { item = x.item; burn = b; left = left }) in
            let d = ap sum l ∙ sum_by-cons (λ y. y) b left in
            record {
              goes = record {
                sound = to_cpu s t x.item b left told (loose told.lines);
                cpu = All_push (IsRunning s) m.cpu (record { item = x.item; burn = b; left = left }) h.goes.cpu
                    (record { job = record { there = found.0.there; left = lasting.1 }; burns = lasting.0 });
                less = omega (arith, apart, h.goes.less);
              };
              passed = passed;
            }

all_woke : (s : Plan) (t len k end_job r : ℕ) (m : Moment) → k + len ≡ end_job → Woken s t k r m
    → Woken s t end_job r (fold (wake_item s t) m (range_with_len k len))
all_woke s t zero k end_job r m is h = subst (λ e. Woken s t e r m) (omega arith) h
all_woke s t (suc len) k end_job r m is h =
    all_woke s t len (k + 1) end_job r (wake_item s t m k) (omega arith) (woke s t k r m h)

pub record Awake (s : Plan) (t r : ℕ) (m : Moment) : Type 0 where
  pub goes : Goes s t r m
  pub later : AllByRecursion (λ (x : Sleeper). t + 1 ≤ x.until) m.sleeping

pub awake : (s : Plan) (t r : ℕ) (m : Moment) → Goes s t r m → Awake s t r (wake_sleepers s t m)
awake s t r m h =
    let k = all_woke s t (length s.items) 0 (length s.items) r m (omega arith)
    (record {
      goes = h;
      passed =
          All_each (λ (x : Sleeper). x.item < 0 → t + 1 ≤ x.until) m.sleeping (λ x no. absurd (omega arith));
    }) in
    record {
      goes = k.goes;
      later =
          All_both (λ (x : Sleeper). x.item < length s.items → t + 1 ≤ x.until) (IsSleeper s t)
          (λ (x : Sleeper). t + 1 ≤ x.until) (wake_sleepers s t m).sleeping (λ x a b. a b.there) k.passed
          k.goes.sound.sleeping;
    }

-- ---- (3) starts

rest_with : (i : ℕ) (ms : List ℕ) → job_rest (job_with i ms) ≡ sum ms
rest_with i [] = omega arith
rest_with i (b ∷ ms) = sym (sum_by-cons (λ x. x) b ms)

-- what starts stands first among the ready ones
pub starting_first : (s : Plan) (cpu : List Job) (xs : List ℕ)
    → starting_items s cpu xs ++ drop (length (starting_items s cpu xs)) xs ≡ xs
unfolding starting_items
starting_first s cpu [] = refl
starting_first s cpu (i ∷ xs) = grind (arith, starting_first s (cpu ++ job_of s i ∷ []) xs)

-- nothing holds the first one where the CPU's list is empty
starting_some : (s : Plan) (xs : List ℕ) → starting_items s [] xs ≡ [] → xs ≡ []
unfolding starting_items
starting_some s [] h = refl
starting_some s (i ∷ xs) h = cc

-- a job that starts has time to burn
starts_running : (s : Plan) (i : ℕ) → IsWithinLimits s → i < length s.items → IsRunning s (job_of s i)
starts_running s i fine less = let here = item_limits s i fine less in at (ms_of s i) here.parts here.ms
  where
    at : (ms : List ℕ) → IsBetween 1 8 (length ms) → AllByRecursion (IsBetween 1 1000) ms → IsRunning s (job_with i ms)
    at [] some each = absurd (omega (arith, some.0))
    at (b ∷ ms) some each =
        record {
          job = record { there = less; left = All_map (IsBetween 1 1000) (λ n. 1 ≤ n) ms (λ n k. k.0) each.1 };
          burns = each.0.0;
        }

all_start : (s : Plan) (is : List ℕ) → IsWithinLimits s → AllByRecursion (λ i. i < length s.items) is
    → AllByRecursion (IsRunning s) (map (job_of s) is)
all_start s [] fine all = tt
all_start s (i ∷ is) fine all = (starts_running s i fine all.0, all_start s is fine all.1)

same_any : (s : Plan) (q : ℕ) (is : List ℕ) → list_any (of_job s q) (map (job_of s) is)
    ≡ list_any (is_of_plan_queue s q) is
same_any s q [] = refl
same_any s q (i ∷ is) = ap₂ (λ a b. a || b) (ap (is_of_plan_queue s q) (job_item i (ms_of s i))) (same_any s q is)

same_rest : (s : Plan) (is : List ℕ) → sum_by job_rest (map (job_of s) is) ≡ sum_by (time_at s) is
same_rest s [] = refl
same_rest s (i ∷ is) = sum_by-cons job_rest (job_of s i) (map (job_of s) is)
    ∙ ap₂ (λ a b. a + b) (rest_with i (ms_of s i)) (same_rest s is) ∙ sym (sum_by-cons (time_at s) i is)

pub record Started (s : Plan) (t r : ℕ) (m : Moment) : Type 0 where
  pub awake : Awake s t r m
  pub free : m.cpu ≡ [] → m.ready ≡ []

pub started : (s : Plan) (t r : ℕ) (m : Moment) → IsWithinLimits s → Awake s t r m → Started s t r (start s t m)
started s t r m fine h = at (starting_items s m.cpu m.ready) refl
  where
    at : (is : List ℕ) → starting_items s m.cpu m.ready ≡ is → Started s t r (start_these s t m is)
    at is which = told is
      where
        split : is ++ drop (length is) m.ready ≡ m.ready
        split = subst (λ ks. ks ++ drop (length ks) m.ready ≡ m.ready) which (starting_first s m.cpu m.ready)

        parts : AllByRecursion (λ i. i < length s.items) is
            × AllByRecursion (λ i. i < length s.items) (drop (length is) m.ready)
        parts = all_split (λ i. i < length s.items) is (drop (length is) m.ready)
            (subst (AllByRecursion (λ i. i < length s.items)) (sym split) h.goes.sound.ready)

        emptied : (cpu : List Job) (ks : List ℕ) → cpu ++ map (job_of s) ks ≡ [] → (cpu ≡ []) × (ks ≡ [])
        emptied [] [] h = (refl, refl)
        emptied [] (k ∷ ks) h = cc
        emptied (j ∷ js) ks h = cc

        none : m.cpu ++ map (job_of s) is ≡ [] → drop (length is) m.ready ≡ []
        none empty_cpu =
            let k = emptied m.cpu is empty_cpu in
            let all_ready : m.ready ≡ [] =
            starting_some s m.ready (sym (ap (λ cpu. starting_items s cpu m.ready) k.0) ∙ which ∙ k.1) in
            ap (λ ks. drop (length ks) m.ready) k.1 ∙ all_ready

        lists : (ls : List Event)
            → Started s t r
            (record m { ready = drop (length is) m.ready; cpu = m.cpu ++ map (job_of s) is; lines = ls })
        lists ls = record {
          awake = record {
            goes = record {
              sound = record {
                ready = parts.1;
                behind = h.goes.sound.behind;
                sleeping = h.goes.sound.sleeping;
                held = λ q some.
                    let a = list_any-append (of_job s q) m.cpu (map (job_of s) is) in
                    let b = sym (ap (list_any (is_of_plan_queue s q)) split)
                    ∙ list_any-append (is_of_plan_queue s q) is (drop (length is) m.ready) in
                    grind (arith, h.goes.sound.held q some, same_any s q is);
              };
              cpu = All_append (IsRunning s) m.cpu (map (job_of s) is) h.goes.cpu (all_start s is fine parts.0);
              less =
                  let a = sum_by-append job_rest m.cpu (map (job_of s) is) in
                  omega (
                    arith,
                    same_rest s is,
                    h.goes.less,
                    sym (ap (sum_by (time_at s)) split)
                        ∙ sum_by-append (time_at s) is (drop (length is) m.ready),
                  );
            };
            later = h.later;
          };
          free = none;
        }

        told : (ks : List ℕ)
            → Started s t r
            (tell_starts t ks (record m { ready = drop (length is) m.ready; cpu = m.cpu ++ map (job_of s) is }))
        told [] = lists m.lines
        told (i ∷ ks) = lists (m.lines ++ record { at = t; kind = kind.Starts; items = i ∷ ks } ∷ [])

-- ---- then the first of the CPU's list burns

pub record Begins (s : Plan) (t : ℕ) (m : Moment) : Type 0 where
  pub sound : Sound s t m
  pub first : FirstMayBeDone s m.cpu

-- each sleeper has a millisecond less to sleep
sleeps_less : (t : ℕ) (xs : List Sleeper) → AllByRecursion (λ (x : Sleeper). t + 1 ≤ x.until) xs
    → sum_by (sleeper_rest (t + 1)) xs + length xs ≤ sum_by (sleeper_rest t) xs
sleeps_less t [] later = omega arith
sleeps_less t (x ∷ xs) later =
    omega (
      arith,
      later.0,
      sleeps_less t xs later.1,
      sum_by-cons (sleeper_rest (t + 1)) x xs,
      sum_by-cons (sleeper_rest t) x xs,
    )

pub burnt : (s : Plan) (t r : ℕ) (m : Moment) → Started s t r m
    → Begins s (t + 1) (burn m) × ((rest s (t + 1) (burn m) + 1 ≤ r) ⊎ NobodyIsLeft (burn m))
burnt s t r m h = at m.cpu refl
  where
    sound : Sound s t m
    sound = h.awake.goes.sound

    sound_with : (cpu : List Job) → ((q : ℕ) → list_any (of_job s q) m.cpu ≡ list_any (of_job s q) cpu)
        → Sound s (t + 1) (record m { cpu = cpu })
    sound_with cpu same = record {
      ready = sound.ready;
      behind = sound.behind;
      sleeping =
          All_both (IsSleeper s t) (λ (x : Sleeper). t + 1 ≤ x.until) (IsSleeper s (t + 1)) m.sleeping
          (λ x a b. record { there = a.there; later = b; left = a.left }) sound.sleeping h.awake.later;
      held = λ q some. grind (arith, same q, sound.held q some);
    }

    at : (xs : List Job) → m.cpu ≡ xs → Begins s (t + 1) (record m { cpu = burn_first xs })
        × ((rest s (t + 1) (record m { cpu = burn_first xs }) + 1 ≤ r)
        ⊎ NobodyIsLeft (record m { cpu = burn_first xs }))
    at (j ∷ js) is = (
      record {
        sound = sound_with (record j { burn = j.burn - 1 } ∷ js) (λ q. ap (list_any (of_job s q)) is);
        first =
            (record { there = runs.0.job.there; left = runs.0.job.left }, runs.1);
      },
      inl (
          let a = ap (sum_by job_rest) is ∙ sum_by-cons job_rest j js in
          let b = sum_by-cons job_rest (record j { burn = j.burn - 1 }) js in
          omega (arith, runs.0.burns, sleeps_less t m.sleeping h.awake.later, h.awake.goes.less)),
    )
      where
        runs : IsRunning s j × AllByRecursion (IsRunning s) js
        runs = subst (AllByRecursion (IsRunning s)) is h.awake.goes.cpu
    at [] is =
        (record { sound = sound_with [] (λ q. ap (list_any (of_job s q)) is); first = tt }, asleep m.sleeping refl)
      where
        nobody_behind : (ks : List ℕ) → m.behind ≡ ks → m.sleeping ≡ [] → ks ≡ []
        nobody_behind [] k none = refl
        nobody_behind (k ∷ ks) are none =
            let some = ap (list_any (is_of_plan_queue s (plan_queue s k))) are
            ∙ ap (λ b. b || list_any (is_of_plan_queue s (plan_queue s k)) ks)
            (eq-eqb (plan_queue s k) (plan_queue s k) refl) in
            absurd (false≢true (rw (h.free is, is, none) at (sound.held (plan_queue s k) some)))

        asleep : (xs : List Sleeper) → m.sleeping ≡ xs → (rest s (t + 1) (record m { cpu = [] }) + 1 ≤ r)
            ⊎ NobodyIsLeft (record m { cpu = [] })
        asleep [] none =
            inr (record { ready = h.free is; behind = nobody_behind m.behind refl none; cpu = refl; sleeping = none })
        asleep (x ∷ xs) some =
            inl (omega (
              arith,
              ap length some,
              sleeps_less t m.sleeping h.awake.later,
              ap (sum_by job_rest) is,
              h.awake.goes.less,
            ))

-- ---- a millisecond, and all of them

pub passes : (s : Plan) (t : ℕ) (m : Moment) → IsWithinLimits s → Begins s t m → Begins s (t + 1) (millisecond s m t)
    × ((rest s (t + 1) (millisecond s m t) + 1 ≤ rest s t m) ⊎ NobodyIsLeft (millisecond s m t))
passes s t m fine h =
    burnt s t (rest s t m) (start s t (wake_sleepers s t (serve s t m)))
    (started s t (rest s t m) (wake_sleepers s t (serve s t m)) fine
    (awake s t (rest s t m) (serve s t m) (served s t m h.sound h.first)))

nothing_left : (s : Plan) (t : ℕ) (m : Moment) → NobodyIsLeft m → rest s t m ≡ 0
nothing_left s t m h = rw (h.ready, h.behind, h.cpu, h.sleeping)

-- where less is left than milliseconds come, nobody is left
pub all_pass : (s : Plan) (k t : ℕ) (m : Moment) → IsWithinLimits s → Begins s t m
    → ((rest s t m + 1 ≤ k) ⊎ NobodyIsLeft m) → NobodyIsLeft (fold (millisecond s) m (range_with_len t k))
all_pass s zero t m fine h less = ⊎_elim (λ l. absurd (omega arith)) (λ none. none) less
all_pass s (suc k) t m fine h less =
    let p = passes s t m fine h in
    let few : rest s t m ≤ k = ⊎_elim (λ l. omega arith) (λ none. omega (arith, nothing_left s t m none)) less in
    all_pass s k (t + 1) (millisecond s m t) fine p.0 (⊎_elim (λ l. inl (omega arith)) (λ none. inr none) p.1)
