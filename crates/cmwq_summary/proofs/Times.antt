-- The time after an entry.
use Rattle.std.proofs.Common.{◌≡◌, ℕ, ◌+◌, ◌<◌, ◌≤◌, true, List, ◌∷◌, length, ap₂, arith}
use Rattle.std.proofs.lemmas.List.{length-reverse}
use Rattle.cmwq_model.specs.declared.entry.Entry.{Entry}
use Rattle.cmwq_summary.specs.declared.span.Span.{Span}
use Rattle.cmwq_state.specs.declared.effect.Effect.{Effect}
use Rattle.cmwq_summary.specs.Spans.{behind, IsSmall}
use Rattle.cmwq_summary.specs.Summed.{IsNext}
use Rattle.cmwq_model.specs.Prelude.{Layout, is_layout, ticks_told, now, has_time, most_time, past_of}
use Rattle.cmwq_state.specs.Effects.{IsEffect}
use Rattle.cmwq_state.proofs.Appended.{time_within}

pub time_more : (past : List Entry) (e : Entry) (time ticks : ℕ) → time ≡ now past → ticks ≡ ticks_told e.call
    → time + ticks ≡ now (e ∷ past)
unfolding now
time_more past e time ticks is told = omega arith

-- the moment after it
pub now_behind : (entries : List Entry) (e : Entry) (time len ticks : ℕ) → len ≡ length entries
    → time ≡ now (past_of entries) → ticks ≡ ticks_told e.call
    → (let to : Span = record { entries = len + 1; ticks = time + ticks } in to) ≡ behind (e ∷ past_of entries)
now_behind entries e time len ticks many is told =
    let as_many : length (past_of entries) ≡ length entries = length-reverse entries in
    let more : len + 1 ≡ length (e ∷ past_of entries) = omega arith in
    ap₂ (λ (n t : ℕ). let to : Span = record { entries = n; ticks = t } in to) more
    (time_more (past_of entries) e time ticks is told)

-- an effect is that of the next entry
pub next_is : (s : Layout) (entries : List Entry) (t : Effect) (time : ℕ) → is_layout s ≡ true
    → IsEffect s (past_of entries) t → time ≡ now (past_of entries) → time ≤ most_time
    → has_time (past_of entries) t.entry.call ≡ true → length entries < 4611686018427387904
    → IsNext s (past_of entries) t
unfolding now
next_is s entries t time inside effect is soon h few =
    let as_many : length (past_of entries) ≡ length entries = length-reverse entries in
    let within = time_within (past_of entries) t.entry.call time is soon h in
    record { inside = inside; effect = effect; few = omega arith; soon = omega arith }

pub small_then : {s : Layout} {past : List Entry} {t : Effect} → IsNext s past t → IsSmall (behind (t.entry ∷ past))
small_then next = let few = next.few in record { entries = omega arith; ticks = next.soon }
