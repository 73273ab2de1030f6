-- The first line of a text, and what stands after it. A line ends at a line feed, which isn't part of it, or at the end
-- of the text.
use Rattle.std.specs.Prelude.{◌≡◌, ◌==◌, ◌&&◌, if◌then◌else◌}
use Rattle.cmwq_io.specs.Common.{ℕ, Bool, not, nat_le, List, [], length, nat_lt, Option, Some, None, ⊤, before_first}
use Rattle.cmwq_io.specs.Common.{after_first}
use Rattle.cmwq_io.specs.Feeds.{is_feed, has_feed}
use Rattle.cmwq_io.specs.declared.lines.Found.{Found}
use Rattle.cmwq_io.specs.declared.lines.Found.TheVariants.{Whole, Cut, Long, End}

-- what stands before the first line feed, or the whole text where there is none
abbrev pub first_line : List ℕ → List ℕ
first_line text = before_first is_feed text

-- what stands after the first line feed, or nothing where there is none
abbrev pub after_line : List ℕ → List ℕ
after_line text = after_first is_feed text

abbrev pub is_line_long : List ℕ → Bool
is_line_long text = nat_lt 120 (length (first_line text))

abbrev pub line_found : List ℕ → Found
line_found text =
    if is_line_long text then Long
    else if has_feed text then Whole
    else if length text == 0 then End
    else Cut

-- bytes after which it is still open how the line that they begin ends
abbrev pub is_line_short : List ℕ → Bool
is_line_short bytes = nat_le (length bytes) 120 && not (has_feed bytes)

-- what is given out of the text, and what is left of it: a long line stays where it stands
abbrev pub rest_given : List ℕ → List ℕ
rest_given text = if is_line_long text then [] else first_line text

abbrev pub left_over : List ℕ → List ℕ
left_over text = if is_line_long text then text else after_line text

-- the first line of the old text was taken, and the new text is what is left
pub record TakesLine (old new : List ℕ) (how : Found) (line : List ℕ) : Type 0 where
  pub kind : how ≡ line_found old
  pub bytes : line ≡ rest_given old
  pub rest : new ≡ left_over old

-- the same where the text is known
abbrev pub TakesKnownLine : Option (List ℕ) → Option (List ℕ) → Found → List ℕ → Type 0
TakesKnownLine None new how line = ⊤
TakesKnownLine (Some old) None how line = ⊥
TakesKnownLine (Some old) (Some new) how line = TakesLine old new how line
