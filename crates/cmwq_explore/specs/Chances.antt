-- Whose move comes next, by a seed.
use Rattle.std.specs.Prelude.{◌≡◌, ◌<◌, ◌≤◌, ◌%◌, ◌==◌, ℕ, zero, suc, if◌then◌else◌, List, [], ◌∷◌, length, max}
use Rattle.std.specs.Prelude.{slice_index}
use Rattle.rand_xoshiro.specs.SplitMix64.{mix_u64}
use Rattle.cmwq_play.specs.Searches.{IsPathTo, Rests, after}
use Rattle.cmwq_play.specs.Stands.{Stand, moved, movers_of}

-- the number that a state of the generator draws, and the state after it
unfoldable pub drawn : ℕ → ℕ
drawn s = (mix_u64 s).0

unfoldable pub after_draw : ℕ → ℕ
after_draw s = (mix_u64 s).1

-- a number below this one, which isn't 0
abbrev pub drawn_below : ℕ → ℕ → ℕ
drawn_below limit s = drawn s % max limit 1

-- the one of these whose move is next
abbrev pub chosen : ℕ → List ℕ → ℕ
chosen s movers = slice_index movers (drawn_below (length movers) s)

-- The first so many moves that a seed chooses from a stand on, or fewer where nobody may move any more: each is made by
-- the one who is chosen of those who may move.
unfoldable pub chosen_by : ℕ → ℕ → Stand → List ℕ
chosen_by zero s p = []
chosen_by (suc n) s p =
    if length (movers_of p) == 0 then []
    else chosen s (movers_of p) ∷ chosen_by n (after_draw s) (moved p (chosen s (movers_of p)))

-- and the stand after them
abbrev pub played : ℕ → ℕ → Stand → Stand
played n s p = after p (chosen_by n s p)

-- a schedule of so many moves, which are as many as are allowed, unless nobody may move after them
pub record IsPlay (start : Stand) (moves made : ℕ) (path : List ℕ) (p : Stand) : Type 0 where
  pub goes : IsPathTo start path p
  pub long : made ≡ length path
  pub within : made ≤ moves
  pub rests : made < moves → Rests p
