-- Room: what histories that are made by steps need of it.
use Rattle.std.specs.Prelude.{◌≡◌, ◌≤◌, ◌∷◌}
use Rattle.cmwq_theory_laws.specs.Common.{ℕ, true, List, length, nat_le, AllByRecursion, Who, Call, Entry, Layout, fits}
use Rattle.cmwq_theory_laws.specs.Common.{now, entry_for, IsWho, IsCall, answer, room_needed, has_room, most_time}
use Rattle.cmwq_theory_laws.specs.Common.{steps, is_promised}

-- a history that is made by steps is within its room
abbrev pub StepsAreWithinRoom : Type 0
StepsAreWithinRoom = (s : Layout) (room : ℕ) (calls : List (Who × Call))
    → (room_needed s (steps s room calls).past ≤ room) × (now (steps s room calls).past ≤ most_time)

-- so after any steps a call that would have such a reply has room
abbrev pub PromisedAreNeverFull : Type 0
PromisedAreNeverFull = (s : Layout) (room : ℕ) (calls : List (Who × Call)) (who : Who) (call : Call)
    → AllByRecursion (λ c. fits s c.0 c.1 ≡ true) calls → fits s who call ≡ true
    → is_promised (answer s (steps s room calls).past who call) ≡ true
    → has_room s room (steps s room calls).past who call ≡ true

-- in a history of at most 1010000 entries the time never binds: a call has room where what it needs is within the room
abbrev pub ShortHaveTime : Type 0
ShortHaveTime = (s : Layout) (room most : ℕ) (past : List Entry) (who : Who) (call : Call)
    → AllByRecursion (λ e. IsWho e.who × IsCall most e.call) past → IsCall most call → length past ≤ 1010000
    → has_room s room past who call ≡ nat_le (room_needed s (entry_for s past who call ∷ past)) room
