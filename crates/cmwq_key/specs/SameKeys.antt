-- What a key is good for: stands with the same key are alike.
use Rattle.std.specs.Prelude.{◌≡◌}
use Rattle.cmwq_key.specs.Alike.{AreAlike, IsStand}
use Rattle.cmwq_key.specs.Keys.{key_of}
use Rattle.cmwq_play.specs.Searches.{IsReached}
use Rattle.cmwq_play.specs.Stands.{Stand}

-- where a legal history without a named ticket leads to both
abbrev pub SameKeysAreAlike : Type 0
SameKeysAreAlike = (start p q : Stand) → IsStand start → IsReached start p → IsReached start q → key_of p ≡ key_of q
    → AreAlike p q
