-- The first line feed, as memchr finds it.
use Rattle.std.proofs.Common.{◌≡◌, ℕ, Bool, true, false, List, length, get_or, Option, Some, None, position, refl}
use Rattle.std.proofs.Common.{arith}
use Rattle.std.proofs.lemmas.Bool.{le-ltb, lt-ltb}
use Rattle.std.proofs.lemmas.List.Sums.{position_or_len_is}
use Rattle.memchr.specs.Find.{IsFirstByte, is_byte}
use Rattle.cmwq_io.specs.Feeds.{is_feed}

is_false : (b : Bool) → (b ≡ true → ⊥) → b ≡ false
is_false true = λ no. absurd (no refl)
is_false false = λ no. refl

pub first_is : (bytes : List ℕ) (found : Option ℕ) → IsFirstByte (is_byte 10) bytes found
    → found ≡ position is_feed bytes
first_is bytes None nowhere =
    let past =
    position_or_len_is is_feed bytes (length bytes) 0 (omega arith)
    (λ k lt. is_false (is_feed (get_or bytes k 0)) (nowhere k (omega arith) lt))
    (λ lt. absurd (omega (arith, lt))) in
    rw (past, le-ltb (length bytes) (length bytes) (omega arith)) refl
first_is bytes (Some at) first =
    let there =
    position_or_len_is is_feed bytes at 0 (omega (arith, first.0.high))
    (λ k lt. is_false (is_feed (get_or bytes k 0)) (first.0.before k (omega arith) lt)) (λ lt. first.1) in
    rw (there, lt-ltb at (length bytes) first.0.high) refl
