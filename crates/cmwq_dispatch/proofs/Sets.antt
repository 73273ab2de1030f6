-- A set of numbers below 64 in a word.
use Rattle.std.proofs.Common.{◌≡◌, ◌<◌, ◌≤◌, ◌==◌, ◌&&◌, ◌||◌, ◌*◌, ◌%◌, ℕ, Bool, true, false, not, arith, refl, sym}
use Rattle.std.proofs.Common.{ap, ◌∙◌, w64, bit_or, bit_and}
use Rattle.std.specs.Prelude.{◌^◌, ◌≢◌}
use Rattle.std.specs.Int.{bit_not, trailing_zeros}
use Rattle.std.proofs.lemmas.Bool.{eq-eqb, eqb-true}
use Rattle.std.proofs.lemmas.Nat.Bits.{bit_at_set_same, bit_at_set_other, bit_at_clear_same, bit_at_clear_other}
use Rattle.std.proofs.lemmas.Nat.Bits.{bit_at-trailing_zeros, bit_at-zero, bit_at_above}
use Rattle.std.proofs.lemmas.Bool.{both_ways}
use Rattle.std.proofs.Common.{⊎_elim}
use Rattle.cmwq_lemmas.proofs.Truth.{or_true, or_false, and_true, and_false}
use Rattle.std.proofs.lemmas.Nat.{and_le_l}
use Rattle.std.proofs.lemmas.Bool.{cases_lt}
use Rattle.cmwq_dispatch.specs.Sets.{has}

differ : (x k : ℕ) → (x == k) ≡ false → x ≢ k
differ x k h same = both_ways (x == k) h (eq-eqb x k same)

pub has_more : (word k x : ℕ) → k < 64
    → has (bit_or word (1 * 2 ^ k % 2 ^ 64)) x ≡ (has word x || (x == k))
has_more word k x within = at (x == k) refl
  where
    at : (b : Bool) → (x == k) ≡ b → has (bit_or word (1 * 2 ^ k % 2 ^ 64)) x ≡ (has word x || b)
    at true is =
        ap (λ j. has (bit_or word (1 * 2 ^ k % 2 ^ 64)) j) (eqb-true x k is)
        ∙ ap (λ b. b == 1) (bit_at_set_same w64 word k within) ∙ sym (or_true (has word x))
    at false is =
        ap (λ b. b == 1) (bit_at_set_other w64 word k within x (differ x k is)) ∙ sym (or_false (has word x))

pub has_less : (word k x : ℕ) → word < 2 ^ 64 → k < 64
    → has (bit_and word (bit_not w64 (1 * 2 ^ k % 2 ^ 64))) x ≡ (has word x && not (x == k))
has_less word k x small within = at (x == k) refl
  where
    less : ℕ
    less = bit_and word (bit_not w64 (1 * 2 ^ k % 2 ^ 64))

    at_most : less ≤ word
    at_most = and_le_l word (bit_not w64 (1 * 2 ^ k % 2 ^ 64))

    at : (b : Bool) → (x == k) ≡ b → has less x ≡ (has word x && not b)
    at true is =
        ap (has less) (eqb-true x k is) ∙ ap (λ b. b == 1) (bit_at_clear_same w64 word k within)
        ∙ sym (and_false (has word x))
    at false is = ⊎_elim (λ low. ap (λ b. b == 1) (bit_at_clear_other w64 word k within x low (differ x k is))
        ∙ sym (and_true (has word x))) (λ high. ap (λ b. b == 1) (bit_at_above less 64 x (omega (arith, at_most)) high)
        ∙ sym (ap (λ b. (b == 1) && true) (bit_at_above word 64 x small high))) (cases_lt x 64)

pub first_has : (word : ℕ) → word ≢ 0 → word < 2 ^ 64
    → (trailing_zeros w64 word < 64) × (has word (trailing_zeros w64 word) ≡ true)
first_has word some small =
    let k = bit_at-trailing_zeros w64 word (omega arith) small in
    (k.0, ap (λ b. b == 1) k.1)

pub none_has : (x : ℕ) → has 0 x ≡ false
none_has x = ap (λ b. b == 1) (bit_at-zero x)

-- a number that is too large is in no set
pub has_not : (word k x : ℕ) → word < 2 ^ 64 → 64 ≤ k → has word x ≡ (has word x && not (x == k))
has_not word k x small high = at (x == k) refl
  where
    at : (b : Bool) → (x == k) ≡ b → has word x ≡ (has word x && not b)
    at true is =
        ap (λ b. b == 1) (bit_at_above word 64 x small (let same = eqb-true x k is in omega arith))
        ∙ sym (and_false (has word x))
    at false is = sym (and_true (has word x))
