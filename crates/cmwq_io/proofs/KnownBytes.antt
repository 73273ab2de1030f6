-- What several calls together do to known bytes.
use Rattle.cmwq_io.specs.Common.{ℕ, ◌+◌, ◌-◌, List, length, take, drop, Option, take_rest, take-add, Appends}
use Rattle.std.proofs.KnownBytes.{Appends-trans}

-- the first d bytes, and then n more
pub Appends-more : (a b c : Option (List ℕ)) (bs : List ℕ) (d n : ℕ) → Appends a b (take d bs)
    → Appends b c (take n (take (length bs - d) (drop d bs))) → Appends a c (take (d + n) bs)
Appends-more a b c bs d n p q =
    rw take-add (Appends-trans a b c (take d bs) (take n (drop d bs)) p (rw take_rest at q))
