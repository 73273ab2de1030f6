-- Laws that tie the definitions of cmwq_model to the words in which the field speaks of them.
use Rattle.std.specs.Prelude.{◌≡◌, ◌≤◌, ◌∷◌}
use Rattle.cmwq_theory_laws.specs.Common.{ℕ, true, List, length, filter, take, Some, AllByRecursion, Call, Entry}
use Rattle.cmwq_theory_laws.specs.Common.{WorkerId, Layout, queueings, still_open, is_active, holds_up, waits_for}
use Rattle.cmwq_theory_laws.specs.Common.{item_at, run, item_run, IsLegal, open_on, active_count}
use Rattle.cmwq_theory_steps.specs.Reasons.{number_given}
use Rattle.cmwq_theory_steps.specs.Rising.{IsRising}

-- a reply that opens a queueing or gives a ticket names its own entry
abbrev pub NamesItself : Type 0
NamesItself = (s : Layout) (past : List Entry) (e : Entry) (k : ℕ) → IsLegal s (e ∷ past)
    → number_given e.reply ≡ Some k → k ≡ length past

-- queueings stand by their numbers, and so do the open ones
abbrev pub StandByNumber : Type 0
StandByNumber = (past : List Entry) → IsRising (queueings past) × IsRising (still_open past)

-- the active queueings of a queue on a CPU are the first of its open ones there, so many
abbrev pub ActiveAreFirst : Type 0
ActiveAreFirst = (s : Layout) (past : List Entry) (q c : ℕ) → filter (is_active s past) (open_on past q c)
    ≡ take (active_count s past q c) (open_on past q c)

-- the number that a ticket waits for is the least of the open queueings that hold it up
abbrev pub WaitsForLeast : Type 0
WaitsForLeast = (past : List Entry) (n m : ℕ) (c : Call) → waits_for past n c ≡ Some m
    → AllByRecursion (λ x. holds_up past n c x ≡ true → m ≤ x.number) (still_open past)

-- on a legal history the run of a worker is the run of its item: so an item has one run at most, whichever worker is
-- asked
abbrev pub RunsAreItems : Type 0
RunsAreItems = (s : Layout) (past : List Entry) (w : WorkerId) (n i : ℕ) → IsLegal s past → run past w ≡ Some n
    → item_at past n ≡ Some i
    → item_run past i ≡ Some (record { worker = w; number = n })
