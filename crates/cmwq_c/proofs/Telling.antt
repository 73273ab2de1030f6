-- Exactly those who are named are told.
use Rattle.cmwq_c.specs.Common.{not, refl, ap, sym, ◌∙◌, ◌++◌, Worker}
use Rattle.std.proofs.Common.{◌≡◌, ◌==◌, ◌||◌, ℕ, zero, suc, Bool, true, false, if◌then◌else◌, List, [], ◌∷◌}
use Rattle.std.proofs.Common.{Option, None, Some, ap₂, true≢false, replicate}
use Rattle.std.specs.Prelude.{filter_map, option_map}
use Rattle.std.specs.List.{AllByRecursion, list_any}
use Rattle.cmwq_model.specs.declared.id.WorkerId.{WorkerId}
use Rattle.cmwq_dispatch.specs.Naming.{is_caller, is_worker}
use Rattle.cmwq_c.specs.Wakes.{CallersAreTold, ClockIsTold, WorkersAreTold, before_nobody, caller_number}
use Rattle.cmwq_c.specs.Wakes.{flag_number, is_no_caller, is_no_worker, nobody_number, nobody_numbers, worker_numbers}
use Rattle.cmwq_c.specs.Numbers.{worker_in, worker_meant}
use Rattle.cmwq_c.proofs.Tables.{who_again}

or_false : (a b : Bool) → (a || b) ≡ false → (a ≡ false) × (b ≡ false)
or_false true b h = absurd (true≢false h)
or_false false b h = (refl, h)

flag_again : (b : Bool) → not (flag_number b == 0) ≡ b
flag_again true = refl
flag_again false = refl

module _ {X Y : Type 0} (tell : X → Y) where
  -- of those who are told one of these, if one of these is named
  told_any : (q : Y → Bool) (r : Option X → Bool) → ((x : X) → q (tell x) ≡ r (Some x)) → r None ≡ false
      → (xs : List (Option X)) → list_any q (filter_map (option_map tell) xs) ≡ list_any r xs
  told_any q r some none [] = refl
  told_any q r some none (None ∷ xs) =
      told_any q r some none xs ∙ sym (ap (λ b. b || list_any r xs) none)
  told_any q r some none (Some x ∷ xs) = ap₂ (λ a b. a || b) (some x) (told_any q r some none xs)

  -- none of them is nobody
  told_there : (stops : Y → Bool) (bad : Option X → Bool) → ((x : X) → stops (tell x) ≡ bad (Some x))
      → (xs : List (Option X)) → list_any bad xs ≡ false
      → AllByRecursion (λ y. stops y ≡ false) (filter_map (option_map tell) xs)
  told_there stops bad same [] none = tt
  told_there stops bad same (None ∷ xs) none =
      told_there stops bad same xs (or_false (bad None) (list_any bad xs) none).1
  told_there stops bad same (Some x ∷ xs) none =
      let both = or_false (bad (Some x)) (list_any bad xs) none in
      (same x ∙ both.0, told_there stops bad same xs both.1)

-- the first nobody stands behind them
before_filled : {Y : Type 0} (stops : Y → Bool) (nobody : Y) → stops nobody ≡ true → (k : ℕ) (ys : List Y)
    → AllByRecursion (λ y. stops y ≡ false) ys → before_nobody stops (ys ++ replicate k nobody) ≡ ys
before_filled stops nobody stop zero [] there = refl
before_filled stops nobody stop (suc k) [] there =
    ap (λ b. if b then [] else nobody ∷ before_nobody stops (replicate k nobody)) stop
before_filled stops nobody stop k (y ∷ ys) there =
    ap (λ b. if b then [] else y ∷ before_nobody stops (ys ++ replicate k nobody)) there.0
    ∙ ap (λ zs. y ∷ zs) (before_filled stops nobody stop k ys there.1)

pub callers_are_told : CallersAreTold
callers_are_told w c there =
    let named = w.named.callers in
    let told = filter_map (option_map caller_number) named in
    ap₂ (λ a b. a || b) (flag_again w.named.all_callers)
    (ap (list_any (λ d. d == c))
    (before_filled is_no_caller nobody_number refl _ told
    (told_there caller_number is_no_caller (is_caller 255) (λ d. refl) named there))
    ∙ told_any caller_number (λ d. d == c) (is_caller c) (λ d. refl) refl named)

is_some_worker : (w : WorkerId) → is_no_worker (worker_numbers w) ≡ false
is_some_worker w = by_pool w.pool.high refl
  where
    by_pool : (high : _) → w.pool.high ≡ high → is_no_worker (worker_numbers w) ≡ false
    by_pool true h = rw h refl
    by_pool false h = rw h refl

none_bad : {X : Type 0} (xs : List (Option X)) → list_any (λ (o : Option X). false) xs ≡ false
none_bad [] = refl
none_bad (x ∷ xs) = none_bad xs

pub workers_are_told : WorkersAreTold
workers_are_told w v =
    let named = w.named.workers in
    let told = filter_map (option_map worker_numbers) named in
    ap₂ (λ a b. a || b) (flag_again w.named.all_workers)
    (ap (list_any (λ m. is_worker v (worker_meant m)))
    (before_filled is_no_worker nobody_numbers refl _ told
    (told_there worker_numbers is_no_worker (λ o. false) is_some_worker named (none_bad named)))
    ∙ told_any worker_numbers (λ m. is_worker v (worker_meant m)) (is_worker v)
    (λ u. ap (λ who. is_worker v (worker_in who)) (who_again (Worker u))) refl named)

pub clock_is_told : ClockIsTold
clock_is_told w = flag_again w.named.completions
