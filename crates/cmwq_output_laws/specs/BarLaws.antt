-- Laws of bars: they are the runs of a history, one for each start, and no two of a worker overlap.
use Rattle.std.specs.Prelude.{◌≡◌, ℕ, ◌<◌, ◌==◌, Bool, List, [], ◌∷◌, ◌++◌, length, filter, Option, Some, None}
use Rattle.std.specs.List.{AllByRecursion}
use Rattle.cmwq_model.specs.declared.entry.Entry.{Entry}
use Rattle.cmwq_model.specs.declared.id.Who.TheVariants.{Worker}
use Rattle.cmwq_model.specs.Prelude.{item_at, number_started, number_finished, run, start_in}
use Rattle.cmwq_theory_steps.specs.Histories.{OfLegal}
use Rattle.cmwq_chart.specs.declared.bars.Bar.{Bar}
use Rattle.cmwq_chart.specs.Bars.{bars_of}

-- the entry stands in the history, after before
pub record StandsIn (past : List Entry) (e : Entry) (before : List Entry) : Type 0 where
  pub after : List Entry
  pub parts : past ≡ after ++ e ∷ before

-- the entry at this place finishes the queueing, by the bar's worker, later than the bar begins
pub record FinishesAt (past : List Entry) (b : Bar) (t : ℕ) : Type 0 where
  pub entry : Entry
  pub before : List Entry
  pub stands : StandsIn past entry before
  pub place : length before ≡ t
  pub later : b.from < t
  pub by_worker : entry.who ≡ Worker b.worker
  pub finishes : number_finished entry.reply ≡ Some b.number

-- a bar with an end ends so, and one without is what its worker runs at the end of the history
abbrev pub EndsWell : List Entry → Bar → Option ℕ → Type 0
EndsWell past b None = run past b.worker ≡ Some b.number
EndsWell past b (Some t) = FinishesAt past b t

abbrev pub begins_at : ℕ → Bar → Bool
begins_at place b = b.from == place

pub record HasOneBar (past : List Entry) (e : Entry) (before : List Entry) (n : ℕ) : Type 0 where
  pub bar : Bar
  pub only : filter (begins_at (length before)) (bars_of past) ≡ bar ∷ []
  pub by_worker : e.who ≡ Worker bar.worker
  pub number : bar.number ≡ n
  pub item : item_at before n ≡ Some bar.item.0
  pub ends : EndsWell past bar bar.to

abbrev pub StartsHaveOneBar : Type 0
StartsHaveOneBar =
    OfLegal (λ s past. (e : Entry) (before : List Entry) (n : ℕ) → StandsIn past e before
    → number_started e.reply ≡ Some n → HasOneBar past e before n)

-- a bar begins at a start of its queueing by its worker
pub record IsOfStart (past : List Entry) (b : Bar) : Type 0 where
  pub entry : Entry
  pub before : List Entry
  pub stands : StandsIn past entry before
  pub place : length before ≡ b.from
  pub starts : start_in entry ≡ Some (record { worker = b.worker; number = b.number })

abbrev pub BarsAreOfStarts : Type 0
BarsAreOfStarts = (past : List Entry) → AllByRecursion (IsOfStart past) (bars_of past)

-- of two bars of one worker the first ends before the other begins
abbrev pub EndsBefore : Option ℕ → ℕ → Type 0
EndsBefore None place = ⊥
EndsBefore (Some t) place = t < place

abbrev pub AreApart : Bar → Bar → Type 0
AreApart b c = b.worker ≡ c.worker → b.from < c.from → EndsBefore b.to c.from

abbrev pub LanesAreApart : Type 0
LanesAreApart = OfLegal (λ s past. AllByRecursion (λ b. AllByRecursion (AreApart b) (bars_of past)) (bars_of past))
