-- A template is the characters before its first hole, that hole, and a template again.
use Rattle.std.proofs.Common.{◌≡◌, ℕ, ◌+◌, ◌<◌, ◌≤◌, ◌==◌, ◌||◌, suc, Bool, true, false, List, [], ◌∷◌, ◌++◌, length}
use Rattle.std.proofs.Common.{get_or, take, drop, append-nil, ◌-◌, if◌then◌else◌, refl, sym, ap, ap₂, ◌∙◌, arith}
use Rattle.std.specs.Prelude.{slice_index_or, decimal, ◌%◌}
use Rattle.std.proofs.lemmas.List.{length-drop, drop_more}
use Rattle.std.proofs.Math.ListN.{drop_of_length-le}
use Rattle.std.proofs.Math.Seq.{take-length}
use Rattle.cmwq_chart_text.specs.Filled.{is_hole, piece, filled_from, plain_length}

of_others : (x y : Bool) (a b c : List ℕ) → (x || y) ≡ false → (if x then a else if y then b else c) ≡ c
of_others true y a b c h = cc
of_others false true a b c h = cc
of_others false false a b c h = refl

plain_piece : (c n : ℕ) → is_hole c ≡ false → piece c n ≡ c ∷ []
plain_piece c n h = of_others (c == 36) (c == 126) (decimal n) (n % 256 ∷ []) (c ∷ []) h

pub plain_front : (template numbers : List ℕ) (k : ℕ)
    → filled_from template numbers k ≡ take (plain_length template) template
    ++ filled_from (drop (plain_length template) template) numbers k
unfolding filled_from plain_length
plain_front [] numbers k = refl
plain_front (c ∷ template) numbers k = here (plain_front template numbers k) (is_hole c) refl
  where
    here : filled_from template numbers k ≡ take (plain_length template) template
        ++ filled_from (drop (plain_length template) template) numbers k → (b : Bool) → is_hole c ≡ b
        → piece c (slice_index_or numbers k 0) ++ filled_from template numbers (k + (if is_hole c then 1 else 0))
        ≡ take (if b then 0 else 1 + plain_length template) (c ∷ template)
        ++ filled_from (drop (if b then 0 else 1 + plain_length template) (c ∷ template)) numbers k
    here later true is = refl
    here later false is =
        let one_more : suc (plain_length template) ≡ 1 + plain_length template = omega arith in
        let same : k + (if is_hole c then 1 else 0) ≡ k = ap (λ b. k + (if b then 1 else 0)) is ∙ omega arith in
        ap₂ (λ l j. l ++ filled_from template numbers j) (plain_piece c (slice_index_or numbers k 0) is) same
        ∙ ap (λ l. c ∷ l) later
        ∙ ap (λ j. take j (c ∷ template) ++ filled_from (drop j (c ∷ template)) numbers k) one_more

pub hole_first : (template others : List ℕ) (h : ℕ) → drop (plain_length template) template ≡ h ∷ others
    → is_hole h ≡ true
unfolding plain_length
hole_first [] others h is = cc
hole_first (c ∷ template) others h is = here (λ k. hole_first template others h k) (is_hole c) refl is
  where
    here : (drop (plain_length template) template ≡ h ∷ others → is_hole h ≡ true) → (b : Bool) → is_hole c ≡ b
        → drop (if b then 0 else 1 + plain_length template) (c ∷ template) ≡ h ∷ others → is_hole h ≡ true
    here later true holds k = let same : c ≡ h = cc in ap is_hole (sym same) ∙ holds
    here later false not k =
        let one_more : suc (plain_length template) ≡ 1 + plain_length template = omega arith in
        later (ap (λ j. drop j (c ∷ template)) one_more ∙ k)

pub hole_filled : (others numbers : List ℕ) (h k : ℕ) → is_hole h ≡ true → filled_from (h ∷ others) numbers k
    ≡ piece h (slice_index_or numbers k 0) ++ filled_from others numbers (k + 1)
unfolding filled_from
hole_filled others numbers h k is =
    ap (λ b. piece h (slice_index_or numbers k 0) ++ filled_from others numbers (k + (if b then 1 else 0))) is

pub none_filled : (numbers : List ℕ) (k : ℕ) → filled_from [] numbers k ≡ []
unfolding filled_from
none_filled numbers k = refl

-- one character more before the first hole
pub plain_at : (template : List ℕ) (k d : ℕ) → k < length template
    → plain_length (drop k template)
    ≡ (if is_hole (get_or template k d) then 0 else 1 + plain_length (drop (k + 1) template))
unfolding plain_length
plain_at template k d h = ap plain_length (drop_more template k d h)

pub plain_end : (template : List ℕ) (k : ℕ) → length template ≤ k → plain_length (drop k template) ≡ 0
unfolding plain_length
plain_end template k h = ap plain_length (drop_of_length-le template h)

-- the parts of a template whose first hole, or whose end, is at p
module _ (template numbers : List ℕ) (k p : ℕ) (is : p ≡ plain_length template) where
  pub front_parts : filled_from template numbers k ≡ take p template ++ filled_from (drop p template) numbers k
  front_parts =
      plain_front template numbers k ∙ ap (λ j. take j template ++ filled_from (drop j template) numbers k) (sym is)

  pub all_plain : length template ≤ p → filled_from template numbers k ≡ take p template
  all_plain h = front_parts ∙ ap (λ l. take p template ++ filled_from l numbers k) (drop_of_length-le template h)
      ∙ ap (λ l. take p template ++ l) (none_filled numbers k) ∙ append-nil (take p template)

  pub hole_there : p < length template → is_hole (get_or template p 0) ≡ true
  hole_there h =
      hole_first template (drop (p + 1) template) (get_or template p 0)
      (ap (λ j. drop j template) (sym is) ∙ drop_more template p 0 h)

  pub hole_parts : (rest : List ℕ) → p < length template → rest ≡ drop (p + 1) template
      → filled_from template numbers k ≡ take p template
      ++ (piece (get_or template p 0) (slice_index_or numbers k 0) ++ filled_from rest numbers (k + 1))
  hole_parts rest h same =
      front_parts ∙ ap (λ l. take p template ++ filled_from l numbers k) (drop_more template p 0 h)
      ∙ ap (λ l. take p template ++ l)
      (hole_filled (drop (p + 1) template) numbers (get_or template p 0) k (hole_there h))
      ∙ ap (λ l. take p template
      ++ (piece (get_or template p 0) (slice_index_or numbers k 0) ++ filled_from l numbers (k + 1))) (sym same)

pub rest_taken : (template : List ℕ) (j : ℕ) → take (length template - j) (drop j template) ≡ drop j template
rest_taken template j = ap (λ n. take n (drop j template)) (sym (length-drop j template))
    ∙ take-length (drop j template)
