-- The runs of items, and which places they have.
use Rattle.std.proofs.Common.{◌≡◌, ◌∙◌, ◌≤◌, ◌+◌, ℕ, Bool, true, false, cond, List, [], ◌∷◌, Option, Some, None}
use Rattle.std.proofs.Common.{refl, subst, sym, ap, ap₂, arith, filter, find, option_to_list, ◌⊎◌, ⊎_elim, not, inl, inr}
use Rattle.std.specs.Prelude.{count_by, ◌&&◌, Contains}
use Rattle.std.specs.Option.{option_map_or}
use Rattle.std.proofs.lemmas.Option.{same_Some}
use Rattle.std.proofs.lemmas.Bool.Decides.{nat_tests}
use Rattle.cmwq_model.specs.Prelude.{is_ahead, is_started, is_unstarted, still_open}
use Rattle.cmwq_model.specs.declared.id.ItemId.{ItemId}
use Rattle.cmwq_model.specs.declared.record.Queueing.{Queueing}
use Rattle.cmwq_lemmas.proofs.Lists.{count_append, count_by-cons, count_by-filter}
use Rattle.cmwq_lemmas.proofs.Filters.{filter_one}
use Rattle.cmwq_lemmas.proofs.Passing.{fewer_kept}
use Rattle.cmwq_lemmas.proofs.Members.{In, in_append, in_filter, filter_in, in_left, in_option, contained_in}
use Rattle.cmwq_theory_steps.specs.Pending.{is_run_of}
use Rattle.cmwq_theory_steps.proofs.OneRun.{one_run}
use Rattle.cmwq_waits.specs.HeldUp.{Scene, is_ahead_of_item}
use Rattle.cmwq_waits.specs.Refused.{stays_open}
use Rattle.cmwq_waits.specs.Looks.{IsQueuedNext, IsScene}

-- where at most one passes, one that does is all that do
pub only_one : {X : Type 0} (p : X → Bool) (xs : List X) (x : X) → count_by p xs ≤ 1 → In x xs → p x ≡ true
    → filter p xs ≡ x ∷ []
only_one p xs x few here passes =
    let one = filter_one p xs few in
    let there = subst (In x) one (filter_in p xs x here passes) in
    one ∙ ap option_to_list (in_option (find p xs) x there)

pub same_one : {X : Type 0} (p : X → Bool) (xs : List X) (x y : X) → count_by p xs ≤ 1 → In x xs → In y xs
    → p x ≡ true → p y ≡ true → x ≡ y
same_one p xs x y few here there is also =
    let one = filter_one p xs few in
    same_Some x y
    (sym (in_option (find p xs) x (subst (In x) one (filter_in p xs x here is)))
    ∙ in_option (find p xs) y (subst (In y) one (filter_in p xs y there also)))

-- what passes a test passes another too, or doesn't
count_split : {X : Type 0} (p q : X → Bool) (xs : List X)
    → count_by p xs ≡ count_by (λ x. q x && p x) xs + count_by (λ x. not (q x) && p x) xs
count_split p q [] = refl
count_split p q (x ∷ xs) =
    grind (
      arith,
      count_by-cons p x xs,
      count_by-cons (λ y. q y && p y) x xs,
      count_by-cons (λ y. not (q y) && p y) x xs,
      count_split p q xs,
    )

module _ (c : Scene) (is : IsScene c) where
  -- a run stays open
  started_stays : (taken : Option ItemId) (x : Queueing) → is_started c.past x.number ≡ true
      → stays_open c.past taken x ≡ true
  started_stays None x started = refl
  started_stays (Some i) x started = grind (arith, started)

  pub run_stays : (x : Queueing) → Contains (still_open c.past) x → is_started c.past x.number ≡ true → In x c.opened
  run_stays x here started =
      subst (In x) (sym is.opened)
      (in_left (filter (stays_open c.past is.taken) (still_open c.past)) (option_to_list is.more) x
      (filter_in (stays_open c.past is.taken) (still_open c.past) x (contained_in (still_open c.past) x here)
      (started_stays is.taken x started)))

  -- what is open was open already, or is queued
  pub was_open : (x : Queueing) → In x c.opened → In x (still_open c.past) ⊎ (is.more ≡ Some x)
  was_open x here =
      ⊎_elim (λ left. inl (in_filter (stays_open c.past is.taken) (still_open c.past) x left).0)
      (λ right. inr (in_option is.more x right))
      (in_append (filter (stays_open c.past is.taken) (still_open c.past)) (option_to_list is.more) x
      (subst (In x) is.opened here))

  -- a run is open already
  pub run_was_open : (x : Queueing) → In x c.opened → is_started c.past x.number ≡ true → In x (still_open c.past)
  run_was_open x here started =
      ⊎_elim (λ left. left) (λ right. let none = (is.next x right).unstarted in absurd (cc (sym none ∙ started)))
      (was_open x here)

  -- an item has one run
  pub one_started : (x y : Queueing) → In x c.opened → In y c.opened → is_started c.past x.number ≡ true
      → is_started c.past y.number ≡ true → x.item.0 ≡ y.item.0 → x ≡ y
  one_started x y here there started also same =
      same_one (is_run_of c.past y.item.0) (still_open c.past) x y (one_run c.layout c.past is.legal y.item.0)
      (run_was_open x here started) (run_was_open y there also) (grind (arith, nat_tests, started))
      (grind (arith, nat_tests, also))

  none_run : (i : ℕ) (m : Option Queueing) → IsQueuedNext c.layout c.past m
      → count_by (is_run_of c.past i) (option_to_list m) ≡ 0
  none_run i None none = refl
  none_run i (Some x) one = let no = (one x refl).unstarted in grind (arith, no)

  few_runs : (i : ℕ) → count_by (is_run_of c.past i) c.opened ≤ 1
  few_runs i =
      rw is.opened
      (omega (
        arith,
        count_append (is_run_of c.past i) (filter (stays_open c.past is.taken) (still_open c.past))
            (option_to_list is.more),
        fewer_kept (is_run_of c.past i) (stays_open c.past is.taken) (still_open c.past),
        none_run i is.more is.next,
        one_run c.layout c.past is.legal i,
      ))

  -- what is ahead of a queueing of an item that runs: the run, and what hasn't started
  pub ahead_of_item : (x run : Queueing) (u : Option Queueing) → In run c.opened → is_started c.past run.number ≡ true
      → filter (is_unstarted c.past run.item.0) c.opened ≡ option_to_list u
      → count_by (is_ahead_of_item x run.item.0) c.opened
      ≡ count_by (is_ahead x) (run ∷ []) + count_by (is_ahead x) (option_to_list u)
  ahead_of_item x run u here started unstarted =
      let i = run.item.0 in
      let p = is_ahead_of_item x i in
      let has_started : Queueing → Bool = λ y. is_started c.past y.number in
      let runs =
      count_by-filter (λ y. has_started y && p y) (is_run_of c.past i) (is_ahead x) c.opened
      (λ y. grind (arith, nat_tests)) in
      let one = only_one (is_run_of c.past i) c.opened run (few_runs i) here (grind (arith, nat_tests, started)) in
      let waits =
      count_by-filter (λ y. not (has_started y) && p y) (is_unstarted c.past i) (is_ahead x) c.opened
      (λ y. grind (arith, nat_tests)) in
      count_split p has_started c.opened
      ∙ ap₂ (λ a b. a + b) (runs ∙ ap (count_by (is_ahead x)) one) (waits ∙ ap (count_by (is_ahead x)) unstarted)

-- so many as the code counts
pub two_ahead : (x run : Queueing) (u : Option Queueing) (a b : ℕ) (ahead behind : Bool) → ahead ≡ is_ahead x run
    → behind ≡ option_map_or (is_ahead x) u false → a ≡ cond ahead 1 0 → b ≡ cond behind 1 0
    → a + b ≡ count_by (is_ahead x) (run ∷ []) + count_by (is_ahead x) (option_to_list u)
two_ahead x run None a b ahead behind is also first second = grind (arith, count_by-cons (is_ahead x) run [])
two_ahead x run (Some y) a b ahead behind is also first second =
    grind (arith, count_by-cons (is_ahead x) run [], count_by-cons (is_ahead x) y [])
