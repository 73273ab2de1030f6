-- How many are active, and whether an item runs.
use Rattle.cmwq_state.specs.Common.{◌≡◌, ℕ, ◌+◌, ◌-◌, ◌≤◌, List, length, filter, count_by, arith, is_some, refl, ◌∙◌}
use Rattle.cmwq_state.specs.Common.{length-filter, Entry, Queueing, Start, Layout, item_run, item_runs, still_open}
use Rattle.cmwq_state.specs.Common.{IsLegal, is_active, waits, waiting_queueings, flight_of}
use Rattle.std.proofs.lemmas.List.Filters.{length-filter_both}
use Rattle.cmwq_state.proofs.Readings.{run_some, some_mapped}

pub running : (s : Layout) (past : List Entry) (i : ℕ) → IsLegal s past
    → is_some (flight_of past i).run ≡ item_runs past i
running s past i legal = run_some s past i legal ∙ some_mapped (λ (t : Start). t.number) (item_run past i)

pub active_and_waiting : (s : Layout) (past : List Entry) (xs : List Queueing)
    → count_by (is_active s past) xs + length (filter (waits s past) xs) ≡ length xs
active_and_waiting s past xs =
    let all = length-filter_both (is_active s past) (waits s past) (λ x. refl) xs in let counted =
    length-filter (is_active s past) xs in omega arith

pub active_rest : (s : Layout) (past : List Entry) (live many : ℕ) → live ≡ length (still_open past)
    → many ≡ length (waiting_queueings s past)
    → (many ≤ live) × (live - many ≡ count_by (is_active s past) (still_open past))
active_rest s past live many all some = let both = active_and_waiting s past (still_open past) in
    (omega arith, omega arith)
