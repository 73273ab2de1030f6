-- Which JSON value the bytes of an input are, and what that says.
use Rattle.std.specs.Prelude.{◌≡◌, ℕ, ◌<◌, ◌≤◌, List, length, None, Some, Result, IsUtf8}
use Rattle.serde_json.specs.Data.{Data}
use Rattle.serde_json.specs.Read.{read}
use Rattle.cmwq_json.specs.declared.refused.Refused.{Refused}

-- an input has at most so many bytes
abbrev pub most_bytes : ℕ
most_bytes = 1048576

abbrev pub IsShort : List ℕ → Type 0
IsShort bytes = length bytes ≤ most_bytes

abbrev pub IsLong : List ℕ → Type 0
IsLong bytes = most_bytes < length bytes

-- they are not too many, they are a text, and as JSON that is this value
pub record IsJson (bytes : List ℕ) (d : Data) : Type 0 where
  pub short : IsShort bytes
  pub text : IsUtf8 bytes
  pub value : read bytes ≡ Some d

-- they are not too many, and no text, or one that is no JSON
pub record IsNoJson (bytes : List ℕ) : Type 0 where
  pub short : IsShort bytes
  pub no_value : IsUtf8 bytes → read bytes ≡ None

-- they are a JSON value that says this: what its words mean, or its first member that is refused
abbrev pub Says : {X : Type 0} → (Data → Result X Refused) → List ℕ → Result X Refused → Type 0
Says said_of bytes said = (d : Data) × IsJson bytes d × (said_of d ≡ said)
