-- No two workers have runs of one item.
use Rattle.cmwq_theory_laws.specs.Common.{◌≡◌, ℕ, true, List, Option, Some, None, refl, option_and_then, WorkerId}
use Rattle.cmwq_theory_laws.specs.Common.{Entry, Layout, is_at, item_at, run, IsLegal, one_worker, is_at-true}
use Rattle.cmwq_theory_laws.specs.Headline.{RunsInOneWorker}

record RunsItem (past : List Entry) (i : ℕ) (w : WorkerId) : Type 0 where
  number : ℕ
  runs : run past w ≡ Some number
  item : item_at past number ≡ Some i

run_of_item : (past : List Entry) (i : ℕ) (w : WorkerId) (o : Option ℕ) → run past w ≡ o
    → is_at (option_and_then (item_at past) o) i ≡ true → RunsItem past i w
run_of_item past i w None runs h = cc
run_of_item past i w (Some n) runs h = record { number = n; runs = runs; item = is_at-true (item_at past n) i h }

pub runs_in_one_worker : (s : Layout) (past : List Entry) → IsLegal s past → RunsInOneWorker past
runs_in_one_worker s past legal i v w hv hw =
    let a = run_of_item past i v (run past v) refl hv in
    let b = run_of_item past i w (run past w) refl hw in
    (one_worker s past v w a.number b.number i legal a.runs b.runs a.item b.item).0
