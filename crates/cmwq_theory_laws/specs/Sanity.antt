-- Laws that show that the definitions say neither too much nor too little: each call has its one entry, and no item or
-- queueing is two things at once.
use Rattle.std.specs.Prelude.{◌≡◌, ◌≤◌, ◌&&◌, ◌∷◌}
use Rattle.cmwq_theory_laws.specs.Common.{ℕ, Bool, true, false, List, map, filter, count_by, reverse, AllByRecursion}
use Rattle.cmwq_theory_laws.specs.Common.{range_with_len, Who, Call, Entry, Queueing, Layout, fits, is_by, serial_of}
use Rattle.cmwq_theory_laws.specs.Common.{is_started, is_finished, is_cancelled, queueings, still_open, IsLegal, steps}
use Rattle.cmwq_theory_laws.specs.Common.{OfLegal}
use Rattle.cmwq_theory_steps.specs.Pending.{is_run_of}

-- ---- a call that fits has exactly one legal entry after a legal history

abbrev pub IsEntryOf : Who → Call → Entry → Type 0
IsEntryOf who call e = (e.who ≡ who) × (e.call ≡ call)

pub record HasOneEntry (s : Layout) (past : List Entry) (who : Who) (call : Call) : Type 0 where
  pub entry : Entry
  pub is_of : IsEntryOf who call entry
  pub is_legal : IsLegal s (entry ∷ past)
  pub no_other : (e : Entry) → IsEntryOf who call e → IsLegal s (e ∷ past) → e ≡ entry

abbrev pub CallsHaveOneEntry : Type 0
CallsHaveOneEntry = OfLegal (λ s past. (who : Who) (call : Call) → fits s who call ≡ true → HasOneEntry s past who call)

-- ---- the steps of calls that fit are a legal history

abbrev pub StepsAreLegal : Type 0
StepsAreLegal = (s : Layout) (room : ℕ) (calls : List (Who × Call)) → AllByRecursion (λ c. fits s c.0 c.1 ≡ true) calls
    → IsLegal s (steps s room calls).past

-- ---- the serials of a caller's entries are 0, 1, 2, .. from the oldest on, and so are a worker's

abbrev pub serial_told : Entry → ℕ
serial_told e = e.serial

abbrev pub serials : List Entry → Who → List ℕ
serials past who = map serial_told (filter (is_by who) (reverse past))

abbrev pub SerialsCountUp : Type 0
SerialsCountUp = OfLegal (λ s past. (who : Who) → serials past who ≡ range_with_len 0 (serial_of past who))

-- ---- a queueing is never both finished and cancelled: what was cancelled was never started

abbrev pub is_ended_twice : List Entry → Queueing → Bool
is_ended_twice past x = is_finished past x.number && is_cancelled past x.item.0 x.number

abbrev pub QueueingsEndOnce : Type 0
QueueingsEndOnce = OfLegal (λ s past. AllByRecursion (λ x. is_ended_twice past x ≡ false) (queueings past))

abbrev pub is_started_cancelled : List Entry → Queueing → Bool
is_started_cancelled past x = is_started past x.number && is_cancelled past x.item.0 x.number

abbrev pub CancelledNeverStart : Type 0
CancelledNeverStart = OfLegal (λ s past. AllByRecursion (λ x. is_started_cancelled past x ≡ false) (queueings past))

-- ---- an item has at most one run: of its open queueings one at most has started

abbrev pub ItemsHaveOneRun : Type 0
ItemsHaveOneRun = OfLegal (λ s past. (i : ℕ) → count_by (is_run_of past i) (still_open past) ≤ 1)
