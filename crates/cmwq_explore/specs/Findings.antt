-- What a search finds out of the schedules from one stand on.
use Rattle.std.specs.Prelude.{◌≡◌, ◌+◌, ◌-◌, ◌<◌, ◌≤◌, ◌^◌, ℕ, min, max, if◌then◌else◌, List, [], ◌∷◌, ◌++◌, length}
use Rattle.std.specs.Prelude.{reverse, nat_le, nat_lt, Bool, false, Option, Some, None, option_map, IfSome}
use Rattle.cmwq_explore.specs.declared.finding.Marks.{Marks}
use Rattle.cmwq_play.specs.declared.noted.Noted.{Noted}
use Rattle.std.specs.Option.{option_map_or}
use Rattle.std.specs.declared.alloc.Global.{Global}
use Rattle.std.specs.declared.vec.Vec.{Vec}
use Rattle.cmwq_explore.specs.declared.finding.Finding.{Finding}
use Rattle.cmwq_play.specs.Stands.{Stand, moved}
use Rattle.cmwq_play.specs.Searches.{AllEnd, AllEndAfter, GetsStuck, NoneStuck, NoneStuckAfter}

-- a way through the moves of parties, the last first, if one is known
abbrev pub Way : Type 0
Way = Option (List ℕ)

abbrev pub way_of : Option (Vec ℕ Global) → Way
way_of way = option_map (λ (w : Vec ℕ Global). w.items) way

-- a way that begins with the move of this party
abbrev pub longer_by : ℕ → Way → Way
longer_by party way = option_map (λ w. w ++ party ∷ []) way

-- the shorter one, and the first if both are equally long
abbrev pub shorter : Way → Way → Way
shorter None other = other
shorter (Some w) None = Some w
shorter (Some w) (Some v) = if nat_lt (length v) (length w) then Some v else Some w

-- a way has at most one move more than so many
abbrev pub is_shorter : Way → ℕ → Bool
is_shorter way moves = option_map_or (λ (w : List ℕ). nat_le (length w - 1) moves) way false

abbrev pub HasAtLeast : ℕ → Way → Type 0
HasAtLeast n way = IfSome way (λ w. n ≤ length w)

-- a sum, up to the greatest number
abbrev pub sum : ℕ → ℕ → ℕ
sum a b = min (a + b) (2 ^ 64 - 1)

-- of no schedule
abbrev pub no_finding : Finding
no_finding = record {
  height = 0;
  ended = 0;
  stuck = 0;
  cut = 0;
  short_of_room = 0;
  with_refusals = 0;
  with_misuse = 0;
  nearest = None;
  refusing = None;
  cutting = None;
}

-- of the schedule without moves, which has ended
pub record HasEnded (f : Finding) : Type 0 where
  pub height : f.height ≡ 0
  pub stuck : f.stuck ≡ 0
  pub ended : f.ended ≡ 1
  pub cut : f.cut ≡ 0
  pub way : way_of f.nearest ≡ None

-- of the schedule without moves, which is stuck
pub record HasStuck (f : Finding) : Type 0 where
  pub height : f.height ≡ 0
  pub stuck : f.stuck ≡ 1
  pub ended : f.ended ≡ 0
  pub cut : f.cut ≡ 0
  pub way : way_of f.nearest ≡ Some []

-- What is found is true of a stand: each schedule from there on ends within so many moves if none was cut off or got
-- stuck; the way gets stuck, and there is one if a schedule was counted that does; and if none was cut off, none of
-- fewer moves gets stuck.
pub record Tells (depth : ℕ) (f : Finding) (p : Stand) : Type 0 where
  pub within : f.height ≤ depth
  pub ends : f.cut ≡ 0 → f.stuck ≡ 0 → AllEnd f.height p
  pub stuck : IfSome (way_of f.nearest) (λ w. GetsStuck p (reverse w))
  pub known : way_of f.nearest ≡ None → f.stuck ≡ 0
  pub shortest : f.cut ≡ 0 → (n : ℕ) → HasAtLeast n (way_of f.nearest) → NoneStuck n p

-- The same of the schedules that begin with a move of the first so many of these.
pub record TellsAfter (depth : ℕ) (f : Finding) (p : Stand) (movers : List ℕ) (count : ℕ) : Type 0 where
  pub within : f.height ≤ depth
  pub some : f.cut ≡ 0 → 0 < count → 0 < f.height
  pub ends : f.cut ≡ 0 → f.stuck ≡ 0 → AllEndAfter (f.height - 1) p movers count
  pub stuck : IfSome (way_of f.nearest) (λ w. GetsStuck p (reverse w))
  pub known : way_of f.nearest ≡ None → f.stuck ≡ 0
  pub shortest : f.cut ≡ 0 → (n : ℕ) → HasAtLeast n (way_of f.nearest) → NoneStuckAfter (n - 1) p movers count

abbrev pub TellsAll : ℕ → Finding → Stand → List ℕ → Type 0
TellsAll depth f p movers = TellsAfter depth f p movers (length movers)

-- what a move leaves out, has refused and misuses: what is noted after it, and not before it
abbrev pub marks_between : Noted → Noted → Marks
marks_between before after = record {
  left_out = nat_lt before.left_out after.left_out;
  refused = nat_lt before.refused after.refused;
  misused = nat_lt before.misused after.misused;
}

-- the schedules of this finding in which something is found that a move may do: all that were played to their end, if
-- the move before them does it, and else so many
abbrev pub marked : Bool → Finding → ℕ → ℕ
marked is_marked child after = if is_marked then sum child.ended child.stuck else after

pub record CountsMarked (child : Finding) (marks : Marks) (old new : Finding) : Type 0 where
  pub short : new.short_of_room ≡ sum old.short_of_room (marked marks.left_out child child.short_of_room)
  pub refused : new.with_refusals ≡ sum old.with_refusals (marked marks.refused child child.with_refusals)
  pub misused : new.with_misuse ≡ sum old.with_misuse (marked marks.misused child child.with_misuse)

-- the way to a wait that is refused: over a move that has one refused, or to one after it
abbrev pub refusing_of : Finding → Marks → Way
refusing_of child marks = if marks.refused then Some [] else way_of child.refusing

-- what was found of the stand after the move of this party is added
pub record Joins (child : Finding) (party : ℕ) (marks : Marks) (old new : Finding) : Type 0 where
  pub height : new.height ≡ max old.height (child.height + 1)
  pub ended : new.ended ≡ sum old.ended child.ended
  pub stuck : new.stuck ≡ sum old.stuck child.stuck
  pub cut : new.cut ≡ sum old.cut child.cut
  pub counts : CountsMarked child marks old new
  pub nearest : way_of new.nearest ≡ shorter (way_of old.nearest) (longer_by party (way_of child.nearest))
  pub cutting : way_of new.cutting ≡ shorter (way_of old.cutting) (longer_by party (way_of child.cutting))
  pub refusing : way_of new.refusing ≡ shorter (way_of old.refusing) (longer_by party (refusing_of child marks))

-- and it is true of that stand
abbrev pub JoinsMove : ℕ → Stand → ℕ → Finding → Finding → Type 0
JoinsMove depth p party old new =
    (child : Finding) × (marks : Marks) × Tells depth child (moved p party) × Joins child party marks old new
