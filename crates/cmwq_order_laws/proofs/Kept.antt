-- With no obstacle a queueing would start now, and with one nobody starts it; and what is so of an obstacle.
use Rattle.cmwq_theory_steps.specs.Common.{◌≡◌, ◌<◌, ◌==◌, ℕ, Bool, true, false, not, ◌||◌, List}
use Rattle.cmwq_theory_steps.specs.Common.{◌∷◌, find, Option, Some, None, refl, sym, ap, subst, ◌∙◌, arith, inl}
use Rattle.cmwq_theory_steps.specs.Common.{if◌then◌else◌, nat_lt, option_and_then, option_map_or, eqb-true, eq-eqb}
use Rattle.cmwq_theory_steps.specs.Common.{Entry, Queueing, Layout, PoolId, WorkerId, Worker, IsLegal, answer}
use Rattle.cmwq_theory_steps.specs.Common.{nat_tests}
use Rattle.cmwq_theory_steps.specs.Common.{has_run, is_active, is_at, is_enlisted, is_listed, is_startable}
use Rattle.cmwq_theory_steps.specs.Common.{item_at, item_runs, next, number_started, pool_at, queueings}
use Rattle.cmwq_theory_steps.specs.Common.{start_of, started_answer, still_open, take_answer}
use Rattle.cmwq_theory_steps.specs.Common.{unstarted_queueing, worklist, is_unstarted, enlisted_by}
use Rattle.std.specs.Prelude.{Contains}
use Rattle.std.specs.List.{list_any}
use Rattle.std.proofs.lemmas.Bool.{and_from, and_parts}
use Rattle.std.proofs.lemmas.Option.{same_Some}
use Rattle.cmwq_lemmas.proofs.Filters.{count_none, none_found}
use Rattle.cmwq_lemmas.proofs.Lists.{count_by-none, find_none}
use Rattle.cmwq_lemmas.proofs.Members.{In, any_in, found, in_contained, in_filter, in_range, in_right, of_in}
use Rattle.cmwq_model.specs.Prelude.{indices, is_holding, is_idle, is_live, worker_at}
use Rattle.cmwq_model.specs.Workers.{runnable}
use Rattle.cmwq_model.specs.declared.call.Call.TheVariants as call
use Rattle.cmwq_model.specs.declared.reply.Reply.TheVariants as reply
use Rattle.cmwq_theory_steps.proofs.Entries.{IsKnown, queueings_known}
use Rattle.cmwq_theory_steps.proofs.Pools.{same_pool-true}
use Rattle.cmwq_theory_steps.proofs.Worklist.{worklist_is}
use Rattle.cmwq_obstacle.specs.Obstacles.{behind_other, obstacle, of_active, of_inactive, of_pool}
use Rattle.cmwq_obstacle.specs.declared.obstacle.Obstacle.{Obstacle}
use Rattle.cmwq_obstacle.specs.declared.obstacle.Obstacle.TheVariants as obstacles
use Rattle.cmwq_order_laws.specs.Reasons.{IsUnstarted, NothingKeepsWhatStarts, StartsNow, WhatIsKeptDoesNotStart}
use Rattle.cmwq_order_laws.specs.Reasons.{LackingStartNothing, StartsFirst, WhatIsAheadStarts, lacks_worker}
use Rattle.cmwq_order_laws.specs.Reasons.{would_start_it}
use Rattle.cmwq_order_laws.proofs.Firsts.{active_stand, first_found}
use Rattle.cmwq_order_laws.proofs.Places.{IsAlone, stands_alone}

-- what passes is found, if not before it another
passes_found : {X : Type 0} (test : X → Bool) (xs : List X) (x : X) → In x xs → test x ≡ true → find test xs ≡ None
    → ⊥
passes_found test xs x here passes none =
    let fails = of_in (λ y. test y ≡ false) xs x (find_none test xs none) here in
    let clash : true ≡ false = sym passes ∙ fails in
    cc clash

-- ---- what a take starts

module _ (s : Layout) (past : List Entry) (w : WorkerId) where
  -- the worker is idle, no run holds its pool, and this is the next queueing there
  record MayTake (y : Queueing) : Type 0 where
    enlisted : is_enlisted past w ≡ true
    free : has_run past w ≡ false
    not_held : runnable s past w.pool ≡ 0
    is_next : next s past w.pool ≡ Some y

  takes : (y : Queueing) → MayTake y → number_started (answer s past (Worker w) call.Take) ≡ Some y.number
  unfolding answer take_answer
  takes y may = at (is_enlisted past w) (has_run past w) (next s past w.pool) may.enlisted may.free may.is_next
    where
      told : (z : Queueing) (n : Option ℕ) → number_started (started_answer z.number n) ≡ Some z.number
      told z None = refl
      told z (Some k) = refl

      held : (z : Queueing) (b : Bool) → b ≡ false
          → number_started (if b then reply.Held else started_answer z.number (enlisted_by s past w)) ≡ Some z.number
      held z true h = absurd (cc h)
      held z false h = told z (enlisted_by s past w)

      none : nat_lt 0 (runnable s past w.pool) ≡ false
      none = ap (nat_lt 0) may.not_held

      at : (enlisted runs : Bool) (o : Option Queueing) → enlisted ≡ true → runs ≡ false → o ≡ Some y
          → number_started (if not enlisted || runs then reply.Misuse else start_of s past w o) ≡ Some y.number
      at false runs o e r is = absurd (cc e)
      at true true o e r is = absurd (cc r)
      at true false None e r is = absurd (cc is)
      at true false (Some z) e r is =
          held z (nat_lt 0 (runnable s past w.pool)) none
          ∙ ap (λ (q : Queueing). Some q.number) (same_Some z y is)

  record Took (n : ℕ) : Type 0 where
    queueing : Queueing
    number : queueing.number ≡ n
    may : MayTake queueing

  took : (n : ℕ) → number_started (answer s past (Worker w) call.Take) ≡ Some n → Took n
  unfolding answer take_answer
  took n = at (is_enlisted past w) refl (has_run past w) refl (next s past w.pool) refl
    where
      told : (z : Queueing) (k : Option ℕ) → number_started (started_answer z.number k) ≡ Some n → z.number ≡ n
      told z None h = same_Some z.number n h
      told z (Some k) h = same_Some z.number n h

      held : is_enlisted past w ≡ true → has_run past w ≡ false → (z : Queueing) → next s past w.pool ≡ Some z
          → (b : Bool) → nat_lt 0 (runnable s past w.pool) ≡ b
          → number_started (if b then reply.Held else started_answer z.number (enlisted_by s past w)) ≡ Some n → Took n
      held e r z is true k h = absurd (cc h)
      held e r z is false k h = record {
        queueing = z;
        number = told z (enlisted_by s past w) h;
        may = record { enlisted = e; free = r; not_held = grind (arith, nat_tests); is_next = is };
      }

      at : (enlisted : Bool) → is_enlisted past w ≡ enlisted → (runs : Bool) → has_run past w ≡ runs
          → (o : Option Queueing) → next s past w.pool ≡ o
          → number_started (if not enlisted || runs then reply.Misuse else start_of s past w o) ≡ Some n → Took n
      at false e runs r o is h = absurd (cc h)
      at true e true r o is h = absurd (cc h)
      at true e false r None is h = absurd (cc h)
      at true e false r (Some z) is h = held e r z is (nat_lt 0 (runnable s past w.pool)) refl h

-- ---- the next queueing of a pool

module _ (s : Layout) (past : List Entry) (legal : IsLegal s past) where
  -- what is next is what its item has queued, is active, and its item does not run
  record IsNext (p : PoolId) (y : Queueing) : Type 0 where
    alone : IsAlone past y
    listed : is_listed s past p y ≡ true
    is_free : item_runs past y.item.0 ≡ false

  next_is : (p : PoolId) (y : Queueing) → next s past p ≡ Some y → IsNext p y
  unfolding next
  next_is p y is =
      let k = first_found (is_startable past) (worklist s past p) y is in
      let there : In y (worklist s past p) =
      subst (In y) (sym k.is) (in_right k.before (y ∷ k.after) y (inl refl)) in
      record {
        alone = stands_alone s past p k.before y legal (record { behind = k.after; worklist_is = k.is });
        listed = (of_in (λ z. Contains (queueings past) z × (is_listed s past p z ≡ true)) (worklist s past p) y
            (worklist_is s past p).no_others there).1;
        is_free = grind (arith, k.passes);
      }

  module _ (x : Queueing) (unstarted : IsUnstarted past x) where
    abbrev p : PoolId
    p = pool_at s x.place

    -- it is open, and has not started
    open_one : In x (still_open past) × (is_unstarted past x.item.0 x ≡ true)
    open_one = found (is_unstarted past x.item.0) (still_open past) x unstarted

    there : In x (queueings past)
    there = (in_filter (is_live past) (queueings past) x open_one.0).0

    known : IsKnown past x
    known = of_in (IsKnown past) (queueings past) x (queueings_known past) there

    -- a next queueing with its number is it
    same_one : (q : PoolId) (y : Queueing) → IsNext q y → y.number ≡ x.number → y ≡ x
    same_one q y is same =
        let item : y.item.0 ≡ x.item.0 =
        same_Some y.item.0 x.item.0 (sym is.alone.known.item ∙ ap (item_at past) same ∙ known.item) in
        same_Some y x (sym is.alone.alone ∙ ap (unstarted_queueing past) item ∙ unstarted)

    -- ---- with no obstacle

    -- where it is active and its item does not run, its pool has a next queueing
    not_none : is_active s past x ≡ true → item_runs past x.item.0 ≡ false → next s past p ≡ None → ⊥
    unfolding next
    not_none active free none =
        let k = active_stand s past x (in_contained (queueings past) x there) active (grind (arith, open_one.1)) in
        let here : In x (worklist s past p) =
        subst (In x) (sym k.1.worklist_is) (in_right k.0 (x ∷ k.1.behind) x (inl refl)) in
        passes_found (is_startable past) (worklist s past p) x here (ap not free) none

    starts : is_active s past x ≡ true → item_runs past x.item.0 ≡ false → find (is_holding s past p) (indices s) ≡ None
        → list_any (is_idle past p) (indices s) ≡ true → (y : Queueing) → next s past p ≡ Some y → y.number ≡ x.number
        → StartsNow s past x
    unfolding runnable
    starts active free held idle y is same = record {
      one_is_idle = idle;
      each_would = λ k here.
          let parts = and_parts (is_enlisted past (worker_at p k)) _ here in
          let none : has_run past (worker_at p k) ≡ false = grind (arith, parts.1) in
          ap (λ o. is_at o x.number) (takes s past (worker_at p k) y (record {
            enlisted = parts.0;
            free = none;
            not_held =
                count_by-none (is_holding s past p) (indices s)
                (find_none (is_holding s past p) (indices s) held);
            is_next = is;
          })) ∙ eq-eqb y.number x.number same;
    }

    starts_now : obstacle s past x ≡ None → StartsNow s past x
    starts_now h = at (is_active s past x) refl h
      where
        behind : is_active s past x ≡ true → item_runs past x.item.0 ≡ false
            → find (is_holding s past p) (indices s) ≡ None → list_any (is_idle past p) (indices s) ≡ true
            → (o : Option Queueing) → next s past p ≡ o → option_and_then (behind_other x) o ≡ None → StartsNow s past x
        behind active free held idle None is k = absurd (not_none active free is)
        behind active free held idle (Some y) is k = by (y.number == x.number) refl k
          where
            by : (b : Bool) → (y.number == x.number) ≡ b → (if b then None else Some (obstacles.Behind y)) ≡ None
                → StartsNow s past x
            by true same m = starts active free held idle y is (eqb-true y.number x.number same)
            by false same m = absurd (cc m)

        idle : is_active s past x ≡ true → item_runs past x.item.0 ≡ false
            → find (is_holding s past p) (indices s) ≡ None → (b : Bool) → list_any (is_idle past p) (indices s) ≡ b
            → (if b then option_and_then (behind_other x) (next s past p) else Some obstacles.NoWorker) ≡ None
            → StartsNow s past x
        idle active free held true is k = behind active free held is (next s past p) refl k
        idle active free held false is k = absurd (cc k)

        held : is_active s past x ≡ true → item_runs past x.item.0 ≡ false
            → (o : Option ℕ) → find (is_holding s past p) (indices s) ≡ o
            → option_map_or (λ k. Some (obstacles.Held (record { pool = p; index = k }))) o
            (if list_any (is_idle past p) (indices s) then option_and_then (behind_other x) (next s past p)
            else Some obstacles.NoWorker) ≡ None → StartsNow s past x
        held active free None is k = idle active free is (list_any (is_idle past p) (indices s)) refl k
        held active free (Some n) is k = absurd (cc k)

        runs : is_active s past x ≡ true → (b : Bool) → item_runs past x.item.0 ≡ b
            → (if b then Some obstacles.ItemRuns else of_pool s past x p) ≡ None → StartsNow s past x
        runs active true is k = absurd (cc k)
        runs active false is k = held active is (find (is_holding s past p) (indices s)) refl k

        at : (b : Bool) → is_active s past x ≡ b
            → (if b then of_active s past x else Some (of_inactive s past x)) ≡ None → StartsNow s past x
        at true is k = runs is (item_runs past x.item.0) refl k
        at false is k = absurd (cc k)

    -- ---- where a worker would start it, nothing keeps it

    not_kept : (q : PoolId) (k : ℕ) → k < s.workers
        → number_started (answer s past (Worker (worker_at q k)) call.Take) ≡ Some x.number → obstacle s past x ≡ None
    unfolding runnable
    not_kept q k less h =
        let t = took s past (worker_at q k) x.number h in
        let n = next_is q t.queueing t.may.is_next in
        let same = same_one q t.queueing n t.number in
        let listed : is_listed s past q x ≡ true = subst (λ y. is_listed s past q y ≡ true) same n.listed in
        let active : is_active s past x ≡ true = grind (arith, listed) in
        let pool : p ≡ q = same_pool-true p q (grind (arith, listed)) in
        let free : item_runs past x.item.0 ≡ false =
        subst (λ (y : Queueing). item_runs past y.item.0 ≡ false) same n.is_free in
        let none : find (is_holding s past p) (indices s) ≡ None =
        none_found (is_holding s past p) (indices s)
        (count_none (is_holding s past p) (indices s) (ap (runnable s past) pool ∙ t.may.not_held)) in
        let idle : is_idle past q k ≡ true = and_from _ _ t.may.enlisted (ap not t.may.free) in
        let one : list_any (is_idle past p) (indices s) ≡ true =
        subst (λ r. list_any (is_idle past r) (indices s) ≡ true) (sym pool)
        (any_in (is_idle past q) (indices s) k (in_range 0 s.workers k (omega arith) (omega arith)) idle) in
        let is : next s past p ≡ Some x = ap (next s past) pool ∙ t.may.is_next ∙ ap Some same in
        ap (λ b. if b then of_active s past x else Some (of_inactive s past x)) active
        ∙ ap (λ b. if b then Some obstacles.ItemRuns else of_pool s past x p) free
        ∙ ap (λ o. option_map_or (λ j. Some (obstacles.Held (record { pool = p; index = j }))) o
        (if list_any (is_idle past p) (indices s) then option_and_then (behind_other x) (next s past p)
        else Some obstacles.NoWorker)) none
        ∙ ap (λ b. if b then option_and_then (behind_other x) (next s past p) else Some obstacles.NoWorker) one
        ∙ ap (option_and_then (behind_other x)) is
        ∙ ap (λ b. if b then None else Some (obstacles.Behind x)) (eq-eqb x.number x.number refl)

pub nothing_keeps_what_starts : NothingKeepsWhatStarts
nothing_keeps_what_starts s past x legal unstarted none = starts_now s past legal x unstarted none

pub what_is_kept_does_not_start : WhatIsKeptDoesNotStart
what_is_kept_does_not_start s past x o legal unstarted kept p k less =
    at (number_started (answer s past (Worker (worker_at p k)) call.Take)) refl
  where
    at : (n : Option ℕ) → number_started (answer s past (Worker (worker_at p k)) call.Take) ≡ n
        → is_at n x.number ≡ false
    at None is = refl
    at (Some n) is = by (n == x.number) refl
      where
        by : (b : Bool) → (n == x.number) ≡ b → b ≡ false
        by false h = refl
        by true h =
            let none = not_kept s past legal x unstarted p k less (is ∙ ap Some (eqb-true n x.number h)) in
            let clash : None ≡ Some o = sym none ∙ kept in
            absurd (cc clash)

-- ---- what is so of an obstacle

module _ (s : Layout) (past : List Entry) (x : Queueing) where
  abbrev q : PoolId
  q = pool_at s x.place

  -- it is behind another one
  record IsBehind (y : Queueing) : Type 0 where
    not_held : find (is_holding s past q) (indices s) ≡ None
    one_is_idle : list_any (is_idle past q) (indices s) ≡ true
    is_next : next s past q ≡ Some y

  same_behind : (y z : Queueing) → Some (obstacles.Behind z) ≡ Some (obstacles.Behind y) → z ≡ y
  same_behind y z h = cc h

  is_behind : (y : Queueing) → obstacle s past x ≡ Some (obstacles.Behind y) → IsBehind y
  is_behind y h = at (is_active s past x) h
    where
      next_one : find (is_holding s past q) (indices s) ≡ None → list_any (is_idle past q) (indices s) ≡ true
          → (o : Option Queueing) → next s past q ≡ o
          → option_and_then (behind_other x) o ≡ Some (obstacles.Behind y) → IsBehind y
      next_one held idle None is k = absurd (cc k)
      next_one held idle (Some z) is k = by (z.number == x.number) k
        where
          by : (b : Bool) → (if b then None else Some (obstacles.Behind z)) ≡ Some (obstacles.Behind y) → IsBehind y
          by true m = absurd (cc m)
          by false m =
              record { not_held = held; one_is_idle = idle; is_next = is ∙ ap Some (same_behind y z m) }

      idle : find (is_holding s past q) (indices s) ≡ None → (b : Bool) → list_any (is_idle past q) (indices s) ≡ b
          → (if b then option_and_then (behind_other x) (next s past q) else Some obstacles.NoWorker)
          ≡ Some (obstacles.Behind y) → IsBehind y
      idle held true is k = next_one held is (next s past q) refl k
      idle held false is k = absurd (cc k)

      held : (o : Option ℕ) → find (is_holding s past q) (indices s) ≡ o
          → option_map_or (λ k. Some (obstacles.Held (record { pool = q; index = k }))) o
          (if list_any (is_idle past q) (indices s) then option_and_then (behind_other x) (next s past q)
          else Some obstacles.NoWorker) ≡ Some (obstacles.Behind y) → IsBehind y
      held None is k = idle is (list_any (is_idle past q) (indices s)) refl k
      held (Some n) is k = absurd (cc k)

      runs : (b : Bool) → (if b then Some obstacles.ItemRuns else of_pool s past x q) ≡ Some (obstacles.Behind y)
          → IsBehind y
      runs true k = absurd (cc k)
      runs false k = held (find (is_holding s past q) (indices s)) refl k

      frozen : (b : Bool) (first : Option Queueing) (n : ℕ)
          → Some (if b then obstacles.Frozen else obstacles.NoPlace first n) ≡ Some (obstacles.Behind y) → IsBehind y
      frozen true first n k = absurd (cc k)
      frozen false first n k = absurd (cc k)

      at : (b : Bool) → (if b then of_active s past x else Some (of_inactive s past x)) ≡ Some (obstacles.Behind y)
          → IsBehind y
      at true k = runs (item_runs past x.item.0) k
      at false k = frozen _ _ _ k

  module _ (y : Queueing) (is : IsBehind y) where
    would : (k : ℕ) → is_idle past q k ≡ true → would_start_it s past (worker_at q k) y ≡ true
    unfolding runnable
    would k here =
        let parts = and_parts (is_enlisted past (worker_at q k)) _ here in
        let none : has_run past (worker_at q k) ≡ false = grind (arith, parts.1) in
        ap (λ o. is_at o y.number) (takes s past (worker_at q k) y (record {
          enlisted = parts.0;
          free = none;
          not_held =
              count_by-none (is_holding s past q) (indices s)
              (find_none (is_holding s past q) (indices s) is.not_held);
          is_next = is.is_next;
        })) ∙ eq-eqb y.number y.number refl

    starts_first : IsLegal s past → StartsFirst s past x y
    starts_first legal =
        let n = next_is s past legal q y is.is_next in
        let pool : pool_at s y.place ≡ q = same_pool-true (pool_at s y.place) q (grind (arith, n.listed)) in
        record {
          same_pool = pool;
          unstarted = n.alone.alone;
          starts_now = record {
            one_is_idle = subst (λ r. list_any (is_idle past r) (indices s) ≡ true) (sym pool) is.one_is_idle;
            each_would =
                subst (λ r. (k : ℕ) → is_idle past r k ≡ true → would_start_it s past (worker_at r k) y ≡ true)
                (sym pool) would;
          };
        }

  -- where a worker of the pool may start something, none is lacking
  lacks_none : (o : Obstacle) → obstacle s past x ≡ Some o → find (is_holding s past q) (indices s) ≡ None
      → list_any (is_idle past q) (indices s) ≡ true → lacks_worker o ≡ false
  lacks_none o h held idle = at (is_active s past x) h
    where
      told : (z : Obstacle) → lacks_worker z ≡ false → Some z ≡ Some o → lacks_worker o ≡ false
      told z none k = subst (λ r. lacks_worker r ≡ false) (same_Some z o k) none

      behind : (w : Option Queueing) → option_and_then (behind_other x) w ≡ Some o → lacks_worker o ≡ false
      behind None k = absurd (cc k)
      behind (Some z) k = by (z.number == x.number) k
        where
          by : (b : Bool) → (if b then None else Some (obstacles.Behind z)) ≡ Some o → lacks_worker o ≡ false
          by true m = absurd (cc m)
          by false m = told (obstacles.Behind z) refl m

      of_its_pool : of_pool s past x q ≡ option_and_then (behind_other x) (next s past q)
      of_its_pool =
          ap (λ f. option_map_or (λ j. Some (obstacles.Held (record { pool = q; index = j }))) f
          (if list_any (is_idle past q) (indices s) then option_and_then (behind_other x) (next s past q)
          else Some obstacles.NoWorker)) held
          ∙ ap (λ b. if b then option_and_then (behind_other x) (next s past q) else Some obstacles.NoWorker) idle

      runs : (b : Bool) → (if b then Some obstacles.ItemRuns else of_pool s past x q) ≡ Some o
          → lacks_worker o ≡ false
      runs true k = told obstacles.ItemRuns refl k
      runs false k = behind (next s past q) (sym of_its_pool ∙ k)

      frozen : (b : Bool) (first : Option Queueing) (n : ℕ)
          → Some (if b then obstacles.Frozen else obstacles.NoPlace first n) ≡ Some o → lacks_worker o ≡ false
      frozen true first n k = told obstacles.Frozen refl k
      frozen false first n k = told (obstacles.NoPlace first n) refl k

      at : (b : Bool) → (if b then of_active s past x else Some (of_inactive s past x)) ≡ Some o
          → lacks_worker o ≡ false
      at true k = runs (item_runs past x.item.0) k
      at false k = frozen _ _ _ k

  starts_nothing : (o : Obstacle) → obstacle s past x ≡ Some o → lacks_worker o ≡ true → (k : ℕ) → k < s.workers
      → number_started (answer s past (Worker (worker_at q k)) call.Take) ≡ None
  unfolding runnable
  starts_nothing o h lacks k less = at (number_started (answer s past (Worker (worker_at q k)) call.Take)) refl
    where
      at : (n : Option ℕ) → number_started (answer s past (Worker (worker_at q k)) call.Take) ≡ n → n ≡ None
      at None is = refl
      at (Some n) is =
          let t = took s past (worker_at q k) n is in
          let held = none_found (is_holding s past q) (indices s)
          (count_none (is_holding s past q) (indices s) t.may.not_held) in
          let idle : is_idle past q k ≡ true = and_from _ _ t.may.enlisted (ap not t.may.free) in
          let one = any_in (is_idle past q) (indices s) k (in_range 0 s.workers k (omega arith) (omega arith)) idle in
          let clash : true ≡ false = sym lacks ∙ lacks_none o h held one in
          absurd (cc clash)

pub what_is_ahead_starts : WhatIsAheadStarts
what_is_ahead_starts s past x y legal h = starts_first s past x y (is_behind s past x y h) legal

pub lacking_start_nothing : LackingStartNothing
lacking_start_nothing s past x o h lacks k less = starts_nothing s past x o h lacks k less
