-- How the waits that may be in a deadlock are narrowed down.
use Rattle.std.specs.Prelude.{◌≡◌}
use Rattle.std.specs.Prelude.{◌≤◌, ◌+◌}
use Rattle.cmwq_waits.specs.Common.{ℕ, List, length, Contains, RunWait}
use Rattle.cmwq_waits.specs.HeldUp.{Scene}
use Rattle.cmwq_waits.specs.Looks.{IsKnown}
use Rattle.cmwq_waits.specs.Refused.{left_of}

-- their tickets may be asked for
abbrev pub AreKnown : Scene → List RunWait → Type 0
AreKnown c set = (w : RunWait) → Contains set w → IsKnown c w.ticket

-- Of all waits these are left after so many rounds.
pub record IsNarrowed (c : Scene) (all left : List RunWait) (rounds : ℕ) : Type 0 where
  pub few : rounds ≤ length all
  pub more : (n : ℕ) → n + rounds ≡ length all → left_of n c left ≡ left_of (length all) c all
  pub some : (w : RunWait) → Contains left w → Contains all w
  pub fewer : length left ≤ length all
