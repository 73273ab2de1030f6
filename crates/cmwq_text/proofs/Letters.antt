-- A keyword is found among those with the first letter of its text.
use Rattle.cmwq_text.specs.Common.{◌≡◌, ℕ, Bool, true, false, List, [], ◌∷◌, find, cond, get_or, Option, Some, None}
use Rattle.cmwq_text.specs.Common.{refl, sym, ap, ◌∙◌, nat_eq, bytes_eq-Decides}
use Rattle.std.specs.List.{filter, list_any, slice_get}
use Rattle.std.proofs.Common.{◌-◌, ◌≤◌, arith, drop, length, take}
use Rattle.std.proofs.lemmas.Bool.{eq-eqb}
use Rattle.std.proofs.lemmas.List.{take_rest}
use Rattle.cmwq_lemmas.proofs.Lists.{found_passes}
use Rattle.cmwq_text.specs.declared.keyword.Keyword.{Keyword}
use Rattle.cmwq_text.specs.declared.keyword.TheConstants.{KEYWORDS}
use Rattle.cmwq_text.specs.Keywords.{keyword_text, is_keyword_text, keyword_of}

-- where the first two fail a test, the first that passes it is found after them
pub find_after_two : (p : Keyword → Bool) (ks : List Keyword) (d : Keyword) → 2 ≤ length ks → p (get_or ks 0 d) ≡ false
    → p (get_or ks 1 d) ≡ false
    → find p (take (length ks - 2) (drop 2 ks)) ≡ find p ks
find_after_two p [] d low one two = absurd (omega (arith, low))
find_after_two p (a ∷ []) d low one two = absurd (omega (arith, low))
find_after_two p (a ∷ b ∷ rest) d low one two = rw (take_rest (a ∷ b ∷ rest) 2, one, two) refl

abbrev pub begins_with : ℕ → Keyword → Bool
begins_with letter k = nat_eq (get_or (keyword_text k) 0 0) letter

module _ {A : Type 0} (p q : A → Bool) (kept : (x : A) → p x ≡ true → q x ≡ true) where
  kept_or_not : (x : A) (a b : Bool) → p x ≡ a → q x ≡ b → (xs : List A) → find p (filter q xs) ≡ find p xs
      → find p (cond b (x ∷ filter q xs) (filter q xs)) ≡ cond a (Some x) (find p xs)
  kept_or_not x a b is was xs so = grind arith

  pub find_filter : (xs : List A) → find p (filter q xs) ≡ find p xs
  find_filter [] = refl
  find_filter (x ∷ xs) = kept_or_not x (p x) (q x) refl refl xs (find_filter xs)

-- the letters with which keywords begin
abbrev pub is_letter : ℕ → Bool
is_letter x =
    list_any (nat_eq x) (97 ∷ 98 ∷ 99 ∷ 100 ∷ 101 ∷ 102 ∷ 103 ∷ 104 ∷ 105 ∷ 107 ∷ 109 ∷ 110 ∷ 113 ∷ 114 ∷ 115 ∷ 116
    ∷ 117 ∷ 119 ∷ 121 ∷ [])

letter_of : (k : Keyword) → is_letter (get_or (keyword_text k) 0 0) ≡ true
unfolding keyword_text
letter_of k = grind arith

-- a keyword whose text is the word begins as the word does
same_letter : (x : ℕ) (rest : List ℕ) (k : Keyword) → is_keyword_text (x ∷ rest) k ≡ true
    → get_or (keyword_text k) 0 0 ≡ x
same_letter x rest k is = ap (λ (w : List ℕ). get_or w 0 0) ((bytes_eq-Decides (keyword_text k) (x ∷ rest)).0 is)

pub no_word : (w : List ℕ) → None ≡ slice_get w 0 → None ≡ keyword_of w
unfolding keyword_of keyword_text
no_word w h = grind arith

pub with_letter : (w : List ℕ) (letter x : ℕ) → Some x ≡ slice_get w 0 → x ≡ letter
    → find (is_keyword_text w) (filter (begins_with letter) KEYWORDS) ≡ keyword_of w
unfolding keyword_of
with_letter [] letter x at is = absurd cc
with_letter (y ∷ rest) letter x at is =
    let first : y ≡ letter = cc in
    find_filter (is_keyword_text (y ∷ rest)) (begins_with letter)
    (λ k so. eq-eqb (get_or (keyword_text k) 0 0) letter (same_letter y rest k so ∙ first)) KEYWORDS

pub other_letter : (w : List ℕ) (x : ℕ) → Some x ≡ slice_get w 0 → is_letter x ≡ false → None ≡ keyword_of w
unfolding keyword_of
other_letter [] x at h = absurd cc
other_letter (y ∷ rest) x at h = none (find (is_keyword_text (y ∷ rest)) KEYWORDS) refl
  where
    none : (o : Option Keyword) → find (is_keyword_text (y ∷ rest)) KEYWORDS ≡ o
        → None ≡ find (is_keyword_text (y ∷ rest)) KEYWORDS
    none None e = sym e
    none (Some k) e =
        let same : y ≡ x = cc in
        let letter : get_or (keyword_text k) 0 0 ≡ x =
        same_letter y rest k (found_passes (is_keyword_text (y ∷ rest)) KEYWORDS k e) ∙ same in
        let bad : true ≡ false = sym (letter_of k) ∙ ap is_letter letter ∙ h in
        absurd cc
