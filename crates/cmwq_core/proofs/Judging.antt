-- A history that is judged from its first entry on.
use Rattle.cmwq_core.specs.Common.{◌≡◌, ◌∷◌, ◌+◌, ◌*◌, ◌^◌, ◌<◌, ◌≤◌, ℕ, true, refl, List, length}
use Rattle.cmwq_core.specs.Common.{take, get_or, sym, subst, ap, arith, take_more, Entry, Call, Layout, is_layout, now}
use Rattle.cmwq_core.specs.Common.{ticks_told, has_room, has_time, most_time, IsLegal, IsTrue, past_of, le-leb}
use Rattle.cmwq_model.specs.Prelude.{most_room}
use Rattle.cmwq_model.specs.declared.call.Call.TheVariants as call
use Rattle.cmwq_model.proofs.Growing.{past_more}
use Rattle.cmwq_core.specs.History.{History}
use Rattle.cmwq_core.specs.Judged.{Judged, judged_none, seen_too}
use Rattle.cmwq_core.proofs.OwedBound.{taken}

-- the judge that has seen so many
abbrev pub judged_at : Layout → List Entry → ℕ → Judged
judged_at s entries k = record { layout = s; entries = take k entries }

-- so many entries are judged: the judge has seen them, and they took less than 2 ^ 32 ticks each
pub record AreJudged (s : Layout) (entries : List Entry) (k : ℕ) (j : Judged) : Type 0 where
  pub seen : j ≡ judged_at s entries k
  pub soon : now (past_of (take k entries)) ≤ k * 2 ^ 32

-- so that each tick of a history of a million entries has time
pub time_for : (past : List Entry) (c : Call) (k : ℕ) → now past ≤ k * 2 ^ 32 → k < 1073741824 → ticks_told c < 2 ^ 32
    → has_time past c ≡ true
time_for past (call.Tick t) k soon few less = le-leb (now past + t) most_time (omega arith)
time_for past c k soon few less = refl

-- and a judge has room
pub room_for : (s : Layout) (entries : List Entry) (e : Entry) → IsTrue (is_layout s) → length entries ≤ 1073741824
    → has_time (past_of entries) e.call ≡ true → IsLegal s (e ∷ past_of entries)
    → has_room s most_room (past_of entries) e.who e.call ≡ true
unfolding IsLegal
room_for s entries e inside few time legal =
    let h : History = record { layout = s; room = most_room; entries = entries } in
    taken h e.who e.call inside (omega arith) time
    (subst (λ (x : Entry). IsLegal s (x ∷ past_of entries)) legal.1 legal)

-- before the first
pub judged_first : (entries : List Entry) (j : Judged) → j ≡ judged_none j.layout → AreJudged j.layout entries 0 j
unfolding now
judged_first entries j fresh = record { seen = fresh; soon = omega arith }

module _ (s : Layout) (entries : List Entry) (k : ℕ) (d : Entry) where
  seen_more : k < length entries → seen_too (judged_at s entries k) (get_or entries k d) ≡ judged_at s entries (k + 1)
  seen_more h =
      ap (λ (es : List Entry). let j : Judged = record { layout = s; entries = es } in j)
      (sym (take_more entries k d h))

  -- and the time is short
  soon_more : k < length entries → now (past_of (take k entries)) ≤ k * 2 ^ 32
      → ticks_told (get_or entries k d).call < 2 ^ 32 → now (past_of (take (k + 1) entries)) ≤ (k + 1) * 2 ^ 32
  unfolding now
  soon_more h soon few = rw (past_more entries k d h) (omega arith)

  pub judged_more : (j : Judged) → k < length entries → AreJudged s entries k j
      → ticks_told (get_or entries k d).call < 2 ^ 32 → AreJudged s entries (k + 1) (seen_too j (get_or entries k d))
  judged_more j h are few = record {
    seen = rw are.seen (seen_more h);
    soon = soon_more h are.soon few;
  }
