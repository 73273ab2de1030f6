-- The bytes read ahead, after some were given out and after more were read after them.
use Rattle.cmwq_io.specs.Common.{◌≡◌, ℕ, ◌+◌, ◌-◌, ◌≤◌, List, ◌++◌, take, drop, slice_range, Option, Some, None, sym}
use Rattle.cmwq_io.specs.Common.{ap, ◌∙◌, arith, append_assoc, take-add, drop-take, drop-drop, Keeps, Consumes}
use Rattle.cmwq_io.specs.Common.{prepend_known}

pub consumed : (xs : List ℕ) (start end count : ℕ) → start + count ≤ end → slice_range xs (start + count) end
    ≡ drop count (slice_range xs start end)
consumed xs start end count inside =
    let parts : end - start ≡ count + (end - (start + count)) = omega arith in
    sym (ap (λ j. drop count (take j (drop start xs))) parts ∙ drop-take count _ (drop start xs)
    ∙ ap (take (end - (start + count))) (drop-drop count start xs))

from_start : (xs : List ℕ) (n : ℕ) → slice_range xs 0 n ≡ take n xs
from_start xs n = let all : n - 0 ≡ n = omega arith in ap (λ k. take k xs) all

-- the first kept bytes of xs are those read ahead, and n bytes came after them
pub Keeps-read : (a b : Option (List ℕ)) (ahead xs : List ℕ) (kept n : ℕ) → take kept xs ≡ ahead
    → Consumes a b (take n (drop kept xs))
    → Keeps (prepend_known ahead a) (prepend_known (slice_range xs 0 (kept + n)) b)
Keeps-read None b ahead xs kept n front more = tt
Keeps-read (Some x) None ahead xs kept n front more = absurd more
Keeps-read (Some x) (Some y) ahead xs kept n front more =
    let all = from_start xs (kept + n) ∙ take-add kept n xs ∙ ap (λ l. l ++ take n (drop kept xs)) front in
    ap (λ l. l ++ y) all ∙ append_assoc ahead (take n (drop kept xs)) y ∙ ap (λ l. ahead ++ l) (sym more)
