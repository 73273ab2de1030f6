-- What one more entry makes active, and what it does to the worklists.
use Rattle.std.specs.Prelude.{◌≡◌, ◌-◌, ◌&&◌, ◌||◌, if◌then◌else◌, ◌∷◌, ◌++◌}
use Rattle.cmwq_theory_steps.specs.Common.{ℕ, take, Bool, true, false, not, List, filter, slice_get, count_by, Option}
use Rattle.cmwq_theory_steps.specs.Common.{Some, None, option_to_list, nat_lt, AllByRecursion, PoolId, Entry, Queueing}
use Rattle.cmwq_theory_steps.specs.Common.{Layout, pool_at, width, same_pool, starts, is_started, queueings, is_live}
use Rattle.cmwq_theory_steps.specs.Common.{still_open, opening, same_place, is_below_max_active, is_active}
use Rattle.cmwq_theory_steps.specs.Common.{newly_active, worklist, IsLegal}
use Rattle.cmwq_model.specs.Widths.{keeps_widths}
use Rattle.cmwq_theory_steps.specs.Places.{is_on, open_on}
use Rattle.cmwq_theory_steps.specs.Endings.{survives, ending}

-- after an entry a queueing is active where it is open and was active, or is below max_active now
abbrev pub ActiveGoOn : Type 0
ActiveGoOn = (s : Layout) (past : List Entry) (e : Entry) (x : Queueing)
    → is_active s (e ∷ past) x ≡ (is_live (e ∷ past) x && (is_active s past x || is_below_max_active s (e ∷ past) x))

-- what has started and is open is active
abbrev pub StartedAreActive : Type 0
StartedAreActive = (s : Layout) (past : List Entry) → IsLegal s past
    → AllByRecursion (λ x. is_started past x.number ≡ true → is_live past x ≡ true → is_active s past x ≡ true)
    (queueings past)

-- what is active stays so while it is open
abbrev pub ActiveStay : Type 0
ActiveStay = (s : Layout) (past : List Entry) (e : Entry) (x : Queueing) → is_active s past x ≡ true
    → is_live (e ∷ past) x ≡ true → is_active s (e ∷ past) x ≡ true

-- a pool's worklist after the entry: what is neither ended nor started, then what became active in that pool
abbrev pub is_left : List Entry → Entry → Queueing → Bool
is_left past e x = survives past e x && not (starts x.number e)

abbrev pub is_in : Layout → PoolId → Queueing → Bool
is_in s p x = same_pool (pool_at s x.place) p

abbrev pub WorklistsGoOn : Type 0
WorklistsGoOn = (s : Layout) (past : List Entry) (e : Entry) (p : PoolId) → IsLegal s (e ∷ past)
    → worklist s (e ∷ past) p ≡ filter (is_left past e) (worklist s past p)
    ++ filter (is_in s p) (newly_active s past e)

-- the open queueings on the queue and CPU of this one
abbrev pub is_of_same_pwq : Queueing → Queueing → Bool
is_of_same_pwq x y = same_place y.place x.place

abbrev pub open_of_same_pwq : List Entry → Queueing → List Queueing
open_of_same_pwq past x = filter (is_of_same_pwq x) (still_open past)

-- what isn't active waits
abbrev pub waits : Layout → List Entry → Queueing → Bool
waits s past x = not (is_active s past x)

-- What an entry makes active on a queue and CPU: the first of those that wait there, as many as the width that then
-- holds leaves beside those that stay active.
abbrev pub stay_count : Layout → List Entry → Entry → ℕ → ℕ → ℕ
stay_count s past e q c = count_by (is_active s past) (open_on (e ∷ past) q c)

abbrev pub NewlyActiveOn : Type 0
NewlyActiveOn = (s : Layout) (past : List Entry) (e : Entry) (q c : ℕ)
    → filter (is_on q c) (newly_active s past e)
    ≡ take (width s (e ∷ past) q - stay_count s past e q c) (filter (waits s past) (open_on (e ∷ past) q c))

-- what an entry that changes no width makes active: where a queueing ends that is below max_active, the one just after
-- the width, if it waits; and what is opened, where it is below max_active
abbrev pub behind_width : Layout → List Entry → Option Queueing → Option Queueing
behind_width s past None = None
behind_width s past (Some y) =
    if is_below_max_active s past y then slice_get (open_of_same_pwq past y) (width s past y.place.queue.0) else None

-- what is opened is active at once where fewer than the width are left beside it
abbrev pub is_below_max_active_at_once : Layout → List Entry → Entry → Queueing → Bool
is_below_max_active_at_once s past e x =
    nat_lt (count_by (is_of_same_pwq x) (filter (survives past e) (still_open past))) (width s past x.place.queue.0)

abbrev pub NewlyActiveAre : Type 0
NewlyActiveAre = (s : Layout) (past : List Entry) (e : Entry) → IsLegal s (e ∷ past) → keeps_widths e.reply ≡ true
    → newly_active s past e ≡ filter (waits s past) (option_to_list (behind_width s past (ending past e)))
    ++ filter (is_below_max_active_at_once s past e) (option_to_list (opening past e))

abbrev pub OpenedAreBelowMaxActive : Type 0
OpenedAreBelowMaxActive = (s : Layout) (past : List Entry) (e : Entry) (x : Queueing) → IsLegal s (e ∷ past)
    → opening past e ≡ Some x → is_active s (e ∷ past) x ≡ is_below_max_active_at_once s past e x

-- where a width is set or the system thawed, what waits and is below max_active now
abbrev pub WidenedMakeActive : Type 0
WidenedMakeActive = (s : Layout) (past : List Entry) (e : Entry) → IsLegal s (e ∷ past) → keeps_widths e.reply ≡ false
    → newly_active s past e ≡ filter (λ x. is_below_max_active s (e ∷ past) x && waits s past x) (still_open past)
