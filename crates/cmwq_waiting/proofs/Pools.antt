-- A pool has an idle worker, or all its workers are enlisted.
use Rattle.std.proofs.Common.{◌≡◌, ◌∙◌, ◌∷◌, ◌==◌, ◌≤◌, ◌<◌, ◌+◌, Bool, List, None, Option, Some, ℕ, ap, arith}
use Rattle.std.proofs.Common.{count_by, false, find, not, refl, subst, suc, sym, true, zero, []}
use Rattle.std.specs.Prelude.{◌&&◌, if◌then◌else◌, is_some}
use Rattle.std.specs.List.{AllByRecursion, list_any, range_with_len}
use Rattle.std.proofs.lemmas.Bool.{and_from, and_parts, both_ways, false_from_ne_true}
use Rattle.std.proofs.lemmas.Bool.Decides.{nat_tests}
use Rattle.cmwq_lemmas.proofs.Lists.{count_by-cons, count_by-none, find_none}
use Rattle.cmwq_lemmas.proofs.Members.{In, all_in, any_in, found, in_any, in_range, of_in}
unfoldable use Rattle.cmwq_model.specs.Prelude.{IsLegal, enlisted_by, is_enlisted, last_start, may_retire}
use Rattle.cmwq_model.specs.Prelude.{Layout, has_run, index_enlisted, indices, is_by, is_idle, is_in_pool}
use Rattle.cmwq_model.specs.Prelude.{is_other_idle, is_reserve, is_retired, number_started, run, same_pool, same_who}
use Rattle.cmwq_model.specs.Prelude.{worker_at}
use Rattle.cmwq_model.specs.declared.call.Call.TheVariants as call
use Rattle.cmwq_model.specs.declared.entry.Entry.{Entry}
use Rattle.cmwq_model.specs.declared.id.PoolId.{PoolId}
use Rattle.cmwq_model.specs.declared.id.Who.{Who}
use Rattle.cmwq_model.specs.declared.id.Who.TheVariants.{Worker}
use Rattle.cmwq_model.specs.declared.id.WorkerId.{WorkerId}
use Rattle.cmwq_model.specs.declared.reply.Reply.{Reply}
use Rattle.cmwq_model.specs.declared.reply.Reply.TheVariants as reply
use Rattle.cmwq_theory_steps.specs.RunSteps.{run_after}
use Rattle.cmwq_theory_steps.proofs.Causes.{cause_of}
use Rattle.cmwq_theory_steps.proofs.ItemRuns.{same_worker_itself}
use Rattle.cmwq_theory_steps.proofs.Pools.{same_pool-true}
use Rattle.cmwq_theory_steps.proofs.Reasons.{retire_reason, sleep_reason}
use Rattle.cmwq_theory_steps.proofs.RunSteps.{workers_run_on}
use Rattle.cmwq_theory_steps.proofs.Starts.{reserve_there, starts_next}
use Rattle.cmwq_theory_wakes.specs.Starting.{leaves_next, worker_is_idle}
use Rattle.cmwq_theory_wakes.proofs.Attended.{runners_are_enlisted, stays_idle, whose}

pub data IdleOrAll (s : Layout) (past : List Entry) (p : PoolId) : Type 0 where
  one_idle : (x : ℕ) → x < s.workers → worker_is_idle past (worker_at p x) ≡ true → IdleOrAll s past p
  all_enlisted : ((x : ℕ) → x < s.workers → is_enlisted past (worker_at p x) ≡ true) → IdleOrAll s past p

-- ---- one of many differs from a given one

above : (a n : ℕ) → AllByRecursion (λ x. a ≤ x) (range_with_len a n)
above a zero = tt
above a (suc n) = (
  omega arith,
  all_in _ (range_with_len (a + 1) n)
      (λ x here. let more = of_in (λ y. a + 1 ≤ y) (range_with_len (a + 1) n) x (above (a + 1) n) here in omega
      (arith, more)),
)

few : (f : ℕ → Bool) (k a n : ℕ) → AllByRecursion (λ x. (not (x == k) && f x) ≡ false) (range_with_len a n)
    → count_by f (range_with_len a n) ≤ 1
few f k a zero none = omega arith
few f k a (suc n) none = by (f a) refl (few f k (a + 1) n none.1)
  where
    rest : List ℕ
    rest = range_with_len (a + 1) n

    by : (b : Bool) → f a ≡ b → count_by f rest ≤ 1 → count_by f (a ∷ rest) ≤ 1
    by false is later = grind (arith, count_by-cons f a rest, later)
    by true is later =
        let same : a ≡ k = grind (arith, nat_tests, none.0) in
        let zero_more = count_by-none f rest (all_in (λ x. f x ≡ false) rest (λ x here.
        let more = of_in (λ y. a + 1 ≤ y) rest x (above (a + 1) n) here in
        let other = of_in (λ y. (not (y == k) && f y) ≡ false) rest x none.1 here in
        grind (arith, nat_tests, more, other, same))) in
        grind (arith, count_by-cons f a rest, zero_more)

pub below : (s : Layout) (x : ℕ) → In x (indices s) → x < s.workers
below s x here = of_in (λ y. y < s.workers) (indices s) x (all s.workers) here
  where
    within : (a n : ℕ) → AllByRecursion (λ y. y < a + n) (range_with_len a n)
    within a zero = tt
    within a (suc n) = (
      omega arith,
      all_in _ (range_with_len (a + 1) n)
          (λ y there. let less = of_in (λ z. z < a + 1 + n) (range_with_len (a + 1) n) y (within (a + 1) n) there in
          omega (arith, less)),
    )

    all : (n : ℕ) → AllByRecursion (λ y. y < n) (range_with_len 0 n)
    all n = all_in _ (range_with_len 0 n)
        (λ y there. let less = of_in (λ z. z < 0 + n) (range_with_len 0 n) y (within 0 n) there in omega (arith, less))

-- ---- one more entry

module _ (s : Layout) (past : List Entry) (e : Entry) (legal : IsLegal s (e ∷ past)) (p : PoolId) where
  enlisted_on : (w : WorkerId) → (is_by (Worker w) e && is_retired e.reply) ≡ false → is_enlisted past w ≡ true
      → is_enlisted (e ∷ past) w ≡ true
  unfolding is_enlisted
  enlisted_on w kept h = grind arith

  other_worker : (w : WorkerId) (x : ℕ) → e.who ≡ Worker w → (x == w.index) ≡ false
      → is_by (Worker (worker_at p x)) e ≡ false
  other_worker w x by differs =
      ap (λ (who : Who). same_who who (Worker (worker_at p x))) by
      ∙ (let other : (w.index == x) ≡ false = grind (arith, nat_tests, differs) in
      ap (λ b. same_pool w.pool p && b) other ∙ grind arith)

  other_pool : (w : WorkerId) (x : ℕ) → e.who ≡ Worker w → same_pool w.pool p ≡ false
      → is_by (Worker (worker_at p x)) e ≡ false
  other_pool w x by differs =
      ap (λ (who : Who). same_who who (Worker (worker_at p x))) by ∙ ap (λ b. b && (w.index == x)) differs

  idle_on : (x : ℕ) → x < s.workers → is_by (Worker (worker_at p x)) e ≡ false
      → worker_is_idle past (worker_at p x) ≡ true → IdleOrAll s (e ∷ past) p
  idle_on x less other idle =
      one_idle x less (stays_idle s past e (worker_at p x) legal (ap (λ b. b && leaves_next e.reply) other) idle)

  -- another idle worker of the pool
  other_on : (w : WorkerId) → e.who ≡ Worker w → w.pool ≡ p → list_any (is_other_idle past w) (indices s) ≡ true
      → IdleOrAll s (e ∷ past) p
  other_on w by pool some =
      let k = in_any (is_other_idle past w) (indices s) some in
      let parts = and_parts (not (k.0 == w.index)) (is_idle past w.pool k.0) k.2 in
      let differs : (k.0 == w.index) ≡ false = let d = parts.0 in grind arith in
      idle_on k.0 (below s k.0 k.1) (other_worker w k.0 by differs)
      (subst (λ (q : PoolId). is_idle past q k.0 ≡ true) pool parts.1)

  retires : is_retired e.reply ≡ true → IdleOrAll s past p → IdleOrAll s (e ∷ past) p
  unfolding may_retire
  retires retired before = by (same_pool w.pool p) refl before
    where
      is_reply : (r : Reply) → is_retired r ≡ true → r ≡ reply.Retired
      is_reply reply.Retired is = refl
      is_reply r is = grind (arith, is)

      why : (w : WorkerId) × (e.who ≡ Worker w) × (e.call ≡ call.Retire) × (is_enlisted past w ≡ true)
          × (has_run past w ≡ false) × (may_retire s past w.pool ≡ true)
      why = retire_reason s past e.who e.call e.reply (cause_of s past e legal) (is_reply e.reply retired)

      w : WorkerId
      w = why.0

      some : list_any (is_other_idle past w) (indices s) ≡ true
      some = by_any (list_any (is_other_idle past w) (indices s)) refl
        where
          by_any : (b : Bool) → list_any (is_other_idle past w) (indices s) ≡ b
              → list_any (is_other_idle past w) (indices s) ≡ true
          by_any true is = is
          by_any false is =
              let none = all_in (λ x. is_other_idle past w x ≡ false) (indices s)
              (λ x here. false_from_ne_true _ (λ its. both_ways _ is (any_in (is_other_idle past w)
              (indices s) x here its))) in
              let at_most = few (is_idle past w.pool) w.index 0 s.workers none in
              let more = why.5 in
              absurd (grind (arith, nat_tests, at_most, more))

      by : (b : Bool) → same_pool w.pool p ≡ b → IdleOrAll s past p → IdleOrAll s (e ∷ past) p
      by true pool old = other_on w why.1 (same_pool-true w.pool p pool) some
      by false pool (one_idle x less idle) = idle_on x less (other_pool w x why.1 pool) idle
      by false pool (all_enlisted every) =
          all_enlisted (λ x less. enlisted_on (worker_at p x) (ap (λ b. b && is_retired e.reply)
          (other_pool w x why.1 pool)) (every x less))

  starts : (n : ℕ) → number_started e.reply ≡ Some n → (w : WorkerId) → e.who ≡ Worker w → w.pool ≡ p
      → is_retired e.reply ≡ false → IdleOrAll s (e ∷ past) p
  unfolding enlisted_by is_enlisted IsLegal
  starts n started w by_worker pool stays = by (index_enlisted e.reply) refl
    where
      same_worker_of : (v : WorkerId) → e.who ≡ Worker v → Worker v ≡ Worker w
      same_worker_of v is = sym is ∙ by_worker

      its : (v u : WorkerId) → Worker v ≡ Worker u → v ≡ u
      its v u is = cc

      rule : index_enlisted e.reply ≡ enlisted_by s past w
      rule = let k = starts_next s past e n legal started in
          k.enlists ∙ ap (enlisted_by s past) (its k.worker w (same_worker_of k.worker k.by_worker))

      idle : has_run past w ≡ false
      idle = let k = starts_next s past e n legal started in
          ap (has_run past) (sym (its k.worker w (same_worker_of k.worker k.by_worker))) ∙ k.idle

      enlisted : is_enlisted past w ≡ true
      enlisted = let k = starts_next s past e n legal started in
          ap (is_enlisted past) (sym (its k.worker w (same_worker_of k.worker k.by_worker))) ∙ k.enlisted

      none_left : list_any (is_other_idle past w) (indices s) ≡ false → index_enlisted e.reply ≡ None
          → find (is_reserve past w.pool) (indices s) ≡ None
      none_left alone none =
          sym (ap (λ b. if b then None else find (is_reserve past w.pool) (indices s)) alone) ∙ sym rule ∙ none

      alone_all : find (is_reserve past w.pool) (indices s) ≡ None → IdleOrAll s (e ∷ past) p
      alone_all none = all_enlisted (λ x less.
          let none_here = of_in (λ y. is_reserve past w.pool y ≡ false) (indices s) x
          (find_none (is_reserve past w.pool) (indices s) none) (in_range 0 s.workers x (omega arith) (omega
          (arith, less))) in
          let was : is_enlisted past (worker_at w.pool x) ≡ true = grind (arith, none_here) in
          enlisted_on (worker_at p x) (ap (λ b. is_by (Worker (worker_at p x)) e && b) stays ∙ grind arith)
          (subst (λ (q : PoolId). is_enlisted past (worker_at q x) ≡ true) pool was))

      by_other : (b : Bool) → list_any (is_other_idle past w) (indices s) ≡ b → index_enlisted e.reply ≡ None
          → IdleOrAll s (e ∷ past) p
      by_other true some none = other_on w by_worker pool some
      by_other false alone none = alone_all (none_left alone none)

      reserve_is : (y : ℕ) → index_enlisted e.reply ≡ Some y → is_reserve past w.pool y ≡ true
      reserve_is y is = by_rule (list_any (is_other_idle past w) (indices s)) (sym rule ∙ is)
        where
          by_rule : (b : Bool) → (if b then None else find (is_reserve past w.pool) (indices s)) ≡ Some y
              → is_reserve past w.pool y ≡ true
          by_rule true h = absurd (cc h)
          by_rule false h = (found (is_reserve past w.pool) (indices s) y h).1

      by : (o : Option ℕ) → index_enlisted e.reply ≡ o → IdleOrAll s (e ∷ past) p
      by None none = by_other (list_any (is_other_idle past w) (indices s)) refl none
      by (Some y) is =
          let reserve : is_enlisted past (worker_at p y) ≡ false =
          (let r = reserve_is y is in
          subst (λ (q : PoolId). is_enlisted past (worker_at q y) ≡ false) pool (grind (arith, r))) in
          let ran : has_run past (worker_at p y) ≡ false = false_from_ne_true _ (λ runs.
          both_ways _ reserve (runners_are_enlisted s past legal.2 (worker_at p y) runs)) in
          let other : is_by (Worker (worker_at p y)) e ≡ false = false_from_ne_true _ (λ its_own.
          both_ways _ reserve (subst (λ (v : WorkerId). is_enlisted past v ≡ true)
          (its w (worker_at p y) (sym by_worker ∙ whose e (worker_at p y) its_own)) enlisted)) in
          let in_pool : is_in_pool p e.who ≡ true =
          ap (is_in_pool p) by_worker ∙ grind (arith, nat_tests, same_worker_itself w, pool) in
          let runs_none : has_run (e ∷ past) (worker_at p y) ≡ false =
          ap is_some (workers_run_on s past e (worker_at p y) legal
          ∙ ap (λ b. if b then run_after e.reply (run past (worker_at p y)) else run past (worker_at p y)) other)
          ∙ ran in
          one_idle y (reserve_there s past w y (sym rule ∙ is))
          (and_from _ _ (grind (arith, nat_tests, in_pool, is)) (ap not runs_none))

  goes_on : IdleOrAll s past p → IdleOrAll s (e ∷ past) p
  unfolding IsLegal
  goes_on before = by_retired (is_retired e.reply) refl before
    where
      slept_is : (r : Reply) → leaves_next r ≡ true → number_started r ≡ None → is_retired r ≡ false → r ≡ reply.Slept
      slept_is reply.Slept a b c = refl
      slept_is r a b c = grind (arith, a, b, c)

      by_own : (x : ℕ) → x < s.workers → worker_is_idle past (worker_at p x) ≡ true → is_retired e.reply ≡ false
          → (is_by (Worker (worker_at p x)) e && leaves_next e.reply) ≡ true → (o : Option ℕ)
          → number_started e.reply ≡ o → IdleOrAll s (e ∷ past) p
      by_own x less idle stays both (Some n) started =
          starts n started (worker_at p x) (whose e (worker_at p x)
          (and_parts (is_by (Worker (worker_at p x)) e) (leaves_next e.reply) both).0) refl stays
      by_own x less idle stays both None none =
          let parts = and_parts (is_by (Worker (worker_at p x)) e) (leaves_next e.reply) both in
          let why = sleep_reason s past e.who e.call e.reply (cause_of s past e legal)
          (slept_is e.reply parts.1 none stays) in
          let same : Worker why.0 ≡ Worker (worker_at p x) = sym why.1 ∙ whose e (worker_at p x) parts.0 in
          let worker : why.0 ≡ worker_at p x = cc in
          let awake = why.3 in
          let runs : has_run past why.0 ≡ true = grind (arith, awake) in
          let here : has_run past (worker_at p x) ≡ true =
          subst (λ (v : WorkerId). has_run past v ≡ true) worker runs in
          absurd (grind (arith, idle, here))

      by_idle : (x : ℕ) → x < s.workers → worker_is_idle past (worker_at p x) ≡ true → is_retired e.reply ≡ false
          → (b : Bool) → (is_by (Worker (worker_at p x)) e && leaves_next e.reply) ≡ b → IdleOrAll s (e ∷ past) p
      by_idle x less idle stays false calm = one_idle x less (stays_idle s past e (worker_at p x) legal calm idle)
      by_idle x less idle stays true both = by_own x less idle stays both (number_started e.reply) refl

      by_retired : (b : Bool) → is_retired e.reply ≡ b → IdleOrAll s past p → IdleOrAll s (e ∷ past) p
      by_retired true retired old = retires retired old
      by_retired false stays (all_enlisted every) =
          all_enlisted (λ x less. enlisted_on (worker_at p x)
          (ap (λ b. is_by (Worker (worker_at p x)) e && b) stays ∙ grind arith) (every x less))
      by_retired false stays (one_idle x less idle) =
          by_idle x less idle stays (is_by (Worker (worker_at p x)) e && leaves_next e.reply) refl

pub idle_or_all : (s : Layout) (past : List Entry) (p : PoolId) → IsLegal s past → IdleOrAll s past p
unfolding IsLegal is_enlisted last_start
idle_or_all s [] p legal = by s.workers refl
  where
    by : (n : ℕ) → s.workers ≡ n → IdleOrAll s [] p
    by zero none = all_enlisted (λ x less. absurd (omega (arith, none, less)))
    by (suc n) some = one_idle 0 (omega (arith, some)) refl
idle_or_all s (e ∷ past) p legal = goes_on s past e legal p (idle_or_all s past p legal.2)
