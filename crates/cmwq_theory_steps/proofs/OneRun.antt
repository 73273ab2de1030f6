-- An open queueing that has started is the run of its item, so an item has one run at most.
use Rattle.cmwq_theory_steps.specs.Common.{◌==◌, ◌≡◌, ◌<◌, ◌≤◌, ℕ, Bool, true, false, ◌||◌, List, [], ◌∷◌, length}
use Rattle.cmwq_theory_steps.specs.Common.{count_by, Option, Some, None, refl, sym, ap, ◌∙◌, arith, option_map, is_some}
use Rattle.cmwq_theory_steps.specs.Common.{AllByRecursion, false_from_ne_true, eqb-true, eq-eqb, Entry, Queueing, Start}
use Rattle.cmwq_theory_steps.specs.Common.{Layout, item_at, starts, number_started, is_started, is_open, item_run}
use Rattle.cmwq_theory_steps.specs.Common.{queueings, still_open, is_live, has_number, IsLegal, All_map, All_filter}
use Rattle.cmwq_theory_steps.specs.Common.{count_by-none}
use Rattle.cmwq_theory_steps.proofs.Rising.{open_rise}
use Rattle.cmwq_theory_steps.proofs.Opens.{open_before}
use Rattle.std.proofs.lemmas.Bool.{and_parts, both_ways, ltb-false, ltb-true, true_from_ne_false}
use Rattle.std.proofs.lemmas.Option.{none-some, same_Some}
use Rattle.cmwq_theory_steps.specs.Pending.{is_run_of}
use Rattle.cmwq_lemmas.proofs.Filters.{count_by-wider}
use Rattle.cmwq_theory_steps.proofs.Entries.{IsKnown, queueings_known, item_at-older, is_at-true}
use Rattle.cmwq_theory_steps.proofs.ItemRuns.{item_run_is, item_run_started, item_stays, starts_known, start_of_worker}
use Rattle.cmwq_theory_steps.proofs.ItemRuns.{starts_its_item, unmoved}
use Rattle.cmwq_theory_steps.proofs.ItemSteps.{item_begun}
use Rattle.cmwq_theory_steps.proofs.Fresh.{not_started_yet}
use Rattle.cmwq_theory_steps.proofs.Ended.{few_numbered}

abbrev number_of : Start → ℕ
number_of start = start.number

abbrev RunsAs : List Entry → ℕ → ℕ → Type 0
RunsAs past i n = option_map number_of (item_run past i) ≡ Some n

-- ---- an open queueing that has started is the run of its item

run_begins : (s : Layout) (past : List Entry) (e : Entry) (i n : ℕ) → IsLegal s (e ∷ past)
    → number_started e.reply ≡ Some n → item_at (e ∷ past) n ≡ Some i → RunsAs (e ∷ past) i n
run_begins s past e i n legal h item =
    let k = starts_known s past e n legal h in
    let is = start_of_worker e k.worker n k.by_worker h in
    let known : item_at past n ≡ Some i = sym (item_at-older e past n k.older) ∙ item in
    let starts_it = starts_its_item e past (record { worker = k.worker; number = n }) i i is known ∙ eq-eqb i i refl in
    ap (option_map number_of) (item_begun s past e i legal starts_it ∙ is)

run_goes_on : (s : Layout) (past : List Entry) (e : Entry) (i n : ℕ) → IsLegal s (e ∷ past)
    → is_open (e ∷ past) i n ≡ true → (o : Option Start) → item_run past i ≡ o → option_map number_of o ≡ Some n
    → RunsAs (e ∷ past) i n
run_goes_on s past e i n legal live None is h = cc
run_goes_on s past e i n legal live (Some start) is h =
    let number = same_Some start.number n h in
    let stays = unmoved s past e i (number_started e.reply) legal refl (ap is_some is) in
    ap (option_map number_of)
    (item_run_is (e ∷ past) i start (item_stays e past i stays ∙ item_run_started past i start is)
    (ap (is_open (e ∷ past) i) number ∙ live)) ∙ ap Some number

pub started_runs : (s : Layout) (past : List Entry) (i n : ℕ) → IsLegal s past → item_at past n ≡ Some i
    → is_started past n ≡ true → is_open past i n ≡ true → RunsAs past i n
unfolding IsLegal
started_runs s [] i n legal item started live = cc
started_runs s (e ∷ past) i n legal item started live = here (starts n e) refl started (started_runs s past i n legal.2)
  where
    here : (a : Bool) → starts n e ≡ a → (a || is_started past n) ≡ true
        → (item_at past n ≡ Some i → is_started past n ≡ true → is_open past i n ≡ true → RunsAs past i n)
        → RunsAs (e ∷ past) i n
    here true is h earlier = run_begins s past e i n legal (is_at-true (number_started e.reply) n is) item
    here false is was earlier =
        let older : n < length past =
        ltb-true _ _
        (true_from_ne_false _ (λ more. both_ways _ (not_started_yet s past n legal.2 (ltb-false _ _ more)) was)) in
        run_goes_on s past e i n legal live (item_run past i) refl
        (earlier (sym (item_at-older e past n older) ∙ item) was (open_before e past i n older live))

-- ---- so one at most

runs_all : (s : Layout) (past : List Entry) (i : ℕ) → IsLegal s past
    → AllByRecursion (λ x. is_run_of past i x ≡ true → RunsAs past i x.number) (still_open past)
runs_all s past i legal =
    All_filter (λ x. is_run_of past i x ≡ true → RunsAs past i x.number) (is_live past) (queueings past)
    (All_map (IsKnown past) (λ x. is_live past x ≡ true → is_run_of past i x ≡ true → RunsAs past i x.number)
    (queueings past) runs (queueings_known past))
  where
    runs : (x : Queueing) → IsKnown past x → is_live past x ≡ true → is_run_of past i x ≡ true → RunsAs past i x.number
    runs x known live is =
        let k = and_parts (x.item.0 == i) (is_started past x.number) is in
        let item = eqb-true x.item.0 i k.0 in
        started_runs s past i x.number legal (known.item ∙ ap Some item) k.1
        (ap (λ j. is_open past j x.number) (sym item) ∙ live)

one_number : (past : List Entry) (i : ℕ) (o : Option ℕ)
    → AllByRecursion (λ x. is_run_of past i x ≡ true → o ≡ Some x.number) (still_open past)
    → count_by (is_run_of past i) (still_open past) ≤ 1
one_number past i None h =
    omega (
      arith,
      count_by-none (is_run_of past i) (still_open past)
          (All_map _ _ (still_open past) (λ x never. false_from_ne_true _ (λ is. none-some x.number (never is))) h),
    )
one_number past i (Some n) h =
    let same =
    All_map (λ x. is_run_of past i x ≡ true → Some n ≡ Some x.number) (λ x. is_run_of past i x ≡ true
    → has_number n x ≡ true) (still_open past)
    (λ x same is. eq-eqb x.number n (sym (same_Some n x.number (same is)))) h in
    omega (
      arith,
      count_by-wider (is_run_of past i) (has_number n) (still_open past) same,
      few_numbered n (still_open past) (open_rise past),
    )

pub one_run : (s : Layout) (past : List Entry) → IsLegal s past → (i : ℕ)
    → count_by (is_run_of past i) (still_open past) ≤ 1
one_run s past legal i = one_number past i (option_map number_of (item_run past i)) (runs_all s past i legal)
