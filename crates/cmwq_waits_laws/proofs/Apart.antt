-- Runs that wait are of different items, and have different workers.
use Rattle.std.proofs.Common.{◌≡◌, ◌∙◌, ◌<◌, ◌==◌, ℕ, true, false, List, [], ◌∷◌, Option, Some, None}
use Rattle.std.proofs.Common.{ap, arith, eq-eqb, eqb-true, inl, inr, map, refl, suc, sym}
use Rattle.std.specs.Prelude.{option_map}
unfoldable use Rattle.std.specs.List.{IsDistinct}
use Rattle.std.proofs.lemmas.Bool.{and_from, false_from_ne_true}
use Rattle.std.proofs.lemmas.Option.{same_Some}
use Rattle.cmwq_lemmas.proofs.Lists.{all_mapped}
use Rattle.cmwq_lemmas.proofs.Members.{In, all_in, contained_in, in_filter, of_in}
use Rattle.cmwq_model.specs.Prelude.{IsLegal, Layout, is_live, is_started, item_run, pool_at, queueing_at, queueings}
use Rattle.cmwq_model.specs.Prelude.{run}
use Rattle.cmwq_model.specs.Prelude.{still_open}
use Rattle.cmwq_model.specs.declared.entry.Entry.{Entry}
use Rattle.cmwq_model.specs.declared.record.Queueing.{Queueing}
use Rattle.cmwq_model.specs.declared.record.Start.{Start}
use Rattle.cmwq_theory_steps.specs.Pending.{is_run_of}
use Rattle.cmwq_theory_steps.proofs.Ended.{found_open}
use Rattle.cmwq_theory_steps.proofs.EndsAsTold.{runs_are_queueings}
use Rattle.cmwq_theory_steps.proofs.Entries.{queueings_known}
use Rattle.cmwq_theory_steps.proofs.ItemSteps.{items_are_run}
use Rattle.cmwq_theory_steps.proofs.OneRun.{one_run, started_runs}
use Rattle.cmwq_refinement.proofs.PoolNext.{runner_there}
use Rattle.cmwq_waits.specs.Looks.{IsSeen}
use Rattle.cmwq_waits.specs.Refused.{AreApart}
use Rattle.cmwq_waits.specs.declared.run_wait.RunWait.{RunWait}
use Rattle.cmwq_waits.proofs.Greatest.{later_apart}
use Rattle.cmwq_waits.proofs.Places.{same_one}

-- ---- runs that are apart differ in each number that tells them apart

rest_apart : (u : RunWait) (us : List RunWait) → AreApart (u ∷ us) → AreApart us
rest_apart u us apart i j d less within = apart (suc i) (suc j) d (omega arith) (omega arith)

pub differ : (f : RunWait → ℕ) (ws : List RunWait) → AreApart ws
    → ((v w : RunWait) → In v ws → In w ws → f v ≡ f w → v.run.number ≡ w.run.number)
    → IsDistinct (λ v w. f v == f w) ws
unfolding IsDistinct
differ f [] apart tells = tt
differ f (u ∷ us) apart tells = (
  all_in (λ w. (f u == f w) ≡ false) us
      (λ w here. false_from_ne_true _ (λ same.
      later_apart u w us apart here (tells u w (inl refl) (inr here) (eqb-true (f u) (f w) same)))),
  differ f us (rest_apart u us apart) (λ v w here there. tells v w (inr here) (inr there)),
)

pub mapped_distinct : (f : RunWait → ℕ) (ws : List RunWait) → IsDistinct (λ v w. f v == f w) ws
    → IsDistinct (◌==◌) (map f ws)
unfolding IsDistinct
mapped_distinct f [] distinct = tt
mapped_distinct f (w ∷ ws) distinct =
    (all_mapped f (λ n. (f w == n) ≡ false) ws distinct.0, mapped_distinct f ws distinct.1)

-- ---- open runs

-- what a run is: open and started, and its worker's
pub record IsRun (s : Layout) (past : List Entry) (x : Queueing) : Type 0 where
  pub start : Start
  pub is_its : item_run past x.item.0 ≡ Some start
  pub number : start.number ≡ x.number
  pub runs : run past start.worker ≡ Some x.number
  pub pool : pool_at s x.place ≡ start.worker.pool
  pub there : start.worker.index < s.workers

pub is_run : (s : Layout) (past : List Entry) (x : Queueing) → IsLegal s past → In x (still_open past)
    → is_started past x.number ≡ true → IsRun s past x
is_run s past x legal here started = by (item_run past x.item.0) refl run_is
  where
    made : In x (queueings past) × (is_live past x ≡ true)
    made = in_filter (is_live past) (queueings past) x here

    run_is : option_map (λ (start : Start). start.number) (item_run past x.item.0) ≡ Some x.number
    run_is = started_runs s past x.item.0 x.number legal (of_in _ (queueings past) x (queueings_known past) made.0).item
        started made.1

    by : (o : Option Start) → item_run past x.item.0 ≡ o
        → option_map (λ (start : Start). start.number) o ≡ Some x.number → IsRun s past x
    by None is none = absurd (cc none)
    by (Some start) is some =
        let number : start.number ≡ x.number = same_Some start.number x.number some in
        let runs = items_are_run s past x.item.0 start legal is in
        let of_item = runs_are_queueings s past legal x.item.0 start is in
        let found = of_in _ (still_open past) x (found_open past) here in
        let same : of_item.queueing ≡ x =
        same_Some of_item.queueing x (sym of_item.found ∙ ap (queueing_at past) number ∙ found) in
        record {
          start = start;
          is_its = is;
          number = number;
          runs = runs.0 ∙ ap Some number;
          pool = ap (λ (y : Queueing). pool_at s y.place) (sym same) ∙ of_item.pool;
          there = runner_there s past start.worker start.number legal runs.0;
        }

-- two open runs of an item are one
pub same_run_of : (s : Layout) (past : List Entry) (x y : Queueing) → IsLegal s past → In x (still_open past)
    → In y (still_open past) → is_started past x.number ≡ true → is_started past y.number ≡ true
    → x.item.0 ≡ y.item.0 → x ≡ y
same_run_of s past x y legal here there started also same =
    same_one (is_run_of past y.item.0) (still_open past) x y (one_run s past legal y.item.0) here there
    (and_from _ _ (eq-eqb x.item.0 y.item.0 same) started) (and_from _ _ (eq-eqb y.item.0 y.item.0 refl) also)

-- so the items of runs that wait are different
abbrev pub HaveOtherItems : List RunWait → Type 0
HaveOtherItems ws = IsDistinct (λ (v w : RunWait). v.run.item.0 == w.run.item.0) ws

pub items_differ : (s : Layout) (past : List Entry) (ws : List RunWait) → IsLegal s past → AreApart ws
    → ((w : RunWait) → In w ws → IsSeen past w) → HaveOtherItems ws
items_differ s past ws legal apart seen =
    differ (λ (w : RunWait). w.run.item.0) ws apart
    (λ v w here there same. let a = seen v here in let b = seen w there in
    ap (λ (x : Queueing). x.number)
    (same_run_of s past v.run w.run legal (contained_in (still_open past) v.run a.is_open)
    (contained_in (still_open past) w.run b.is_open) a.has_started b.has_started same))
