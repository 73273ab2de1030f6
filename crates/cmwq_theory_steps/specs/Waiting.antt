-- What waits, and how many are active on a queue and CPU, after one more entry.
use Rattle.std.specs.Prelude.{◌≡◌, ◌+◌, ◌-◌, ◌&&◌, ◌∷◌, ◌++◌}
use Rattle.cmwq_theory_steps.specs.Common.{ℕ, not, Bool, false, List, filter, count_by, drop, option_to_list, nat_lt}
use Rattle.cmwq_theory_steps.specs.Common.{option_map_or, Entry, Queueing, Layout, width, still_open, opening}
use Rattle.cmwq_theory_steps.specs.Common.{is_below_max_active, is_active, newly_active}
use Rattle.cmwq_theory_steps.specs.Histories.{one, OfEntries}
use Rattle.cmwq_theory_steps.specs.Places.{is_on, open_on, active_count}
use Rattle.cmwq_theory_steps.specs.Endings.{survives, ending}
use Rattle.cmwq_theory_steps.specs.Activations.{waits, stay_count}

-- ---- what waits: all that is open and inactive, by number

abbrev pub waiting_queueings : Layout → List Entry → List Queueing
waiting_queueings s past = filter (waits s past) (still_open past)

-- what an entry may make active: what waited and is open after it, and so, what waited and survives, then what is
-- opened
abbrev pub candidates : Layout → List Entry → Entry → List Queueing
candidates s past e = filter (waits s past) (still_open (e ∷ past))

abbrev pub CandidatesAre : Type 0
CandidatesAre =
    OfEntries (λ s past e. candidates s past e ≡ filter (survives past e) (waiting_queueings s past)
    ++ option_to_list (opening past e))

-- of these, what is below max_active after the entry becomes active, and what hasn't waits
abbrev pub has_none : Layout → List Entry → Queueing → Bool
has_none s past x = not (is_below_max_active s past x)

abbrev pub CandidatesBelowMaxActive : Type 0
CandidatesBelowMaxActive = (s : Layout) (past : List Entry) (e : Entry)
    → newly_active s past e ≡ filter (is_below_max_active s (e ∷ past)) (candidates s past e)

abbrev pub WaitingGoesOn : Type 0
WaitingGoesOn = (s : Layout) (past : List Entry) (e : Entry)
    → waiting_queueings s (e ∷ past) ≡ filter (has_none s (e ∷ past)) (candidates s past e)

-- one pass finds them: each is below max_active where fewer than the width are active on its pool workqueue, counting
-- those before it that became active in the pass
abbrev pub WayByPicked : Type 0
WayByPicked = (s : Layout) (past : List Entry) (e : Entry) (done : List Queueing) (x : Queueing) (rest : List Queueing)
    → candidates s past e ≡ done ++ x ∷ rest
    → is_below_max_active s (e ∷ past) x
    ≡ nat_lt (stay_count s past e x.place.queue.0 x.place.cpu.0 + count_by (is_on x.place.queue.0 x.place.cpu.0)
    (filter (is_below_max_active s (e ∷ past)) done)) (width s (e ∷ past) x.place.queue.0)

-- on a queue and CPU: all but the first so many as the width that then holds leaves beside those that stay active
abbrev pub waiting_on : Layout → List Entry → ℕ → ℕ → List Queueing
waiting_on s past q c = filter (waits s past) (open_on past q c)

abbrev pub WaitingOnGoesOn : Type 0
WaitingOnGoesOn = (s : Layout) (past : List Entry) (e : Entry) (q c : ℕ)
    → waiting_on s (e ∷ past) q c
    ≡ drop (width s (e ∷ past) q - stay_count s past e q c) (filter (waits s past) (open_on (e ∷ past) q c))

-- ---- how many are active on a queue and CPU

abbrev pub ActiveAreCounted : Type 0
ActiveAreCounted = (s : Layout) (past : List Entry) (q c : ℕ) → count_by (is_active s past) (open_on past q c)
    ≡ active_count s past q c

-- those that stay active, and what became active
abbrev pub ActiveCountsGoOn : Type 0
ActiveCountsGoOn = (s : Layout) (past : List Entry) (e : Entry) (q c : ℕ)
    → active_count s (e ∷ past) q c ≡ stay_count s past e q c + count_by (is_on q c) (newly_active s past e)

-- those that were, less one where an active one on that queue and CPU ends
abbrev pub is_active_on : Layout → List Entry → ℕ → ℕ → Queueing → Bool
is_active_on s past q c x = is_on q c x && is_active s past x

abbrev pub ends_active_on : Layout → List Entry → Entry → ℕ → ℕ → Bool
ends_active_on s past e q c = option_map_or (is_active_on s past q c) (ending past e) false

abbrev pub StaysAreCounted : Type 0
StaysAreCounted =
    OfEntries (λ s past e. (q c : ℕ) → stay_count s past e q c + one (ends_active_on s past e q c)
    ≡ active_count s past q c)
