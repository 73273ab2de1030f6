-- What the next line of a file may say.
use Rattle.std.specs.Prelude.{◌≡◌, ◌<◌}
use Rattle.cmwq_base.specs.Common.{ℕ, List, Some, line_limit}
use Rattle.cmwq_base.specs.Files.{Kind}

-- a line says it in a format that allows one more after the first n
pub record IsNextLine {X : Type 0} (k : Kind X) (n : ℕ) (x : X) : Type 0 where
  pub version : ℕ
  pub line : List ℕ
  pub says : k.item_of version line ≡ Some x
  pub few : n < line_limit version
