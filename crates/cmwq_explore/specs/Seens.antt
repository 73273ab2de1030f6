-- What is known of the states that were searched already.
use Rattle.std.specs.Prelude.{◌≡◌, ◌≤◌, ℕ, Bool, true, List, Option, Some, nat_eq}
use Rattle.std.specs.declared.alloc.Global.{Global}
use Rattle.std.specs.declared.vec.Vec.{Vec}
use Rattle.std.specs.Cmp.Lexicographic.{pointwise}
use Rattle.indexmap.specs.IndexMap.{get}
use Rattle.cmwq_explore.specs.declared.finding.Finding.{Finding}
use Rattle.cmwq_explore.specs.declared.finding.Marks.{Marks}
use Rattle.cmwq_explore.specs.declared.seen.Seen.{Seen}
use Rattle.cmwq_explore.specs.declared.search.Search.{Search}
use Rattle.cmwq_play.specs.Searches.{IsReached}
use Rattle.cmwq_play.specs.Stands.{Stand}
use Rattle.cmwq_key.specs.Alike.{IsStand}
use Rattle.cmwq_explore.specs.Findings.{Joins, Tells}
use Rattle.cmwq_key.specs.Keys.{key_of}

abbrev pub Key : Type 0
Key = Vec ℕ Global

abbrev pub is_same_key : Key → Key → Bool
is_same_key a b = pointwise nat_eq a.items b.items

-- what was found of the state with this key
abbrev pub found_of : Seen → Key → Option Finding
found_of seen key = get is_same_key seen.findings key

-- what was found is true of each stand with this key to which a schedule leads
abbrev pub KnowsOf : Stand → List ℕ → Finding → Type 0
KnowsOf start key f = (p : Stand) → IsReached start p → key_of p ≡ key → Tells f.height f p

-- so it is with all that was found and is kept, of which nothing was cut off
abbrev pub KnowsAll : Stand → Seen → Type 0
KnowsAll start seen = (key : Key) (f : Finding) → found_of seen key ≡ Some f → (f.cut ≡ 0) × KnowsOf start key.items f

-- so it is with a search of schedules from here on, where one that looks for states that come again begins at a stand
pub record IsSearch (start : Stand) (s : Search) : Type 0 where
  pub begins : s.merges ≡ true → IsStand start
  pub knows : KnowsAll start s.seen

-- and the key that it has at hand then is that of this stand
abbrev pub IsKeyed : Stand → Search → Type 0
IsKeyed p s = s.merges ≡ true → s.key.items ≡ key_of p

-- what was found of a state with the key of this stand is added, after the move of this party
abbrev pub JoinsSeen : Seen → Stand → ℕ → ℕ → Marks → Finding → Finding → Type 0
JoinsSeen seen p depth party marks old new = (key : Key) × (child : Finding) × (key.items ≡ key_of p)
    × (found_of seen key ≡ Some child) × (child.height ≤ depth) × Joins child party marks old new
