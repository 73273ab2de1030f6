-- What numbers tell can be told apart again.
use Rattle.std.proofs.Common.{ℕ, zero, suc, ◌≡◌, ◌+◌, ◌*◌, ◌/◌, ◌%◌, ◌<◌, ◌≤◌, Bool, true, false, List, [], ◌∷◌, ◌++◌}
use Rattle.std.proofs.Common.{length, map, Option, Some, None, option_map, nat_lt, append_assoc, ap, sym, ◌∙◌, refl}
use Rattle.std.proofs.Common.{arith, subst, ⊎_elim, inl, inr}
use Rattle.std.specs.List.{AllByRecursion, flat_map}
use Rattle.std.proofs.lemmas.Bool.{ltb-true, ltb-false}
use Rattle.cmwq_lemmas.proofs.Members.{In}
use Rattle.cmwq_key.specs.Alike.{ListsMatch, OptionsMatch}
use Rattle.cmwq_key.specs.Codes.{code, codes, flag, large_code, told_list, told_option}

-- whatever follows, where f tells of x what g tells of y they are related, and the same follows
abbrev pub Splits : {A B : Type 0} → (A → B → Type 0) → (A → List ℕ) → (B → List ℕ) → Type 0
Splits {A} {B} R f g = (x : A) (y : B) (r t : List ℕ) → f x ++ r ≡ g y ++ t → R x y × (r ≡ t)

-- ---- numbers

quotients : (n m : ℕ) → n % 65536 ≡ m % 65536 → n / 65536 ≡ m / 65536 → n ≡ m
quotients n m e f = omega arith

larges : (n m : ℕ) (r t : List ℕ) → large_code n ++ r ≡ large_code m ++ t → (n ≡ m) × (r ≡ t)
larges n m r t e =
    let first : n % 65536 ≡ m % 65536 = cc in
    let second : n / 65536 % 65536 ≡ m / 65536 % 65536 = cc in
    let third : n / 65536 / 65536 % 65536 ≡ m / 65536 / 65536 % 65536 = cc in
    let fourth : n / 65536 / 65536 / 65536 ≡ m / 65536 / 65536 / 65536 = cc in
    let rest : r ≡ t = cc in (
      quotients n m first
          (quotients (n / 65536) (m / 65536) second (quotients (n / 65536 / 65536) (m / 65536 / 65536) third fourth)),
      rest,
    )

small_or_large : (n m : ℕ) (r t : List ℕ) → n < 65535 → n ∷ r ≡ large_code m ++ t → ⊥
small_or_large n m r t less e = let same : n ≡ 65535 = cc in omega arith

pub code_split : (n m : ℕ) (r t : List ℕ) → code n ++ r ≡ code m ++ t → (n ≡ m) × (r ≡ t)
unfolding code
code_split n m r t e = by (nat_lt n 65535) (nat_lt m 65535) refl refl
  where
    by : (a b : Bool) → nat_lt n 65535 ≡ a → nat_lt m 65535 ≡ b → (n ≡ m) × (r ≡ t)
    by true true is it = let h = rw (is, it) at e in (cc, cc)
    by true false is it =
        let h = rw (is, it) at e in
        absurd (small_or_large n m r t (ltb-true n 65535 is) h)
    by false true is it =
        let h = rw (is, it) at e in
        absurd (small_or_large m n t r (ltb-true m 65535 it) (sym h))
    by false false is it = let h = rw (is, it) at e in larges n m r t h

some_code : (n : ℕ) (r : List ℕ) → code n ++ r ≡ [] → ⊥
unfolding code
some_code n r e = by (nat_lt n 65535) refl
  where
    by : (a : Bool) → nat_lt n 65535 ≡ a → ⊥
    by true is = let h = rw is at e in cc
    by false is = let h = rw is at e in cc

-- the same codes are of the same numbers
pub codes_same : (xs ys : List ℕ) → codes xs ≡ codes ys → xs ≡ ys
unfolding codes
codes_same [] [] e = refl
codes_same [] (y ∷ ys) e = absurd (some_code y (flat_map code ys) (sym e))
codes_same (x ∷ xs) [] e = absurd (some_code x (flat_map code xs) e)
codes_same (x ∷ xs) (y ∷ ys) e =
    let k = code_split x y (flat_map code xs) (flat_map code ys) e in
    let head = k.0 in
    let rest = codes_same xs ys k.1 in
    cc

-- ---- flags, options and lists

pub flags_same : (a b : Bool) → flag a ≡ flag b → a ≡ b
flags_same true true e = refl
flags_same false false e = refl
flags_same true false e = cc
flags_same false true e = cc

module _ {A B : Type 0} (R : A → B → Type 0) (f : A → List ℕ) (g : B → List ℕ) (splits : Splits R f g) where
  pub options_split : (o : Option A) (u : Option B) (r t : List ℕ) → told_option f o ++ r ≡ told_option g u ++ t
      → OptionsMatch R o u × (r ≡ t)
  options_split None None r t e = (tt, cc)
  options_split (Some x) (Some y) r t e = let rest : f x ++ r ≡ g y ++ t = cc in splits x y r t rest
  options_split None (Some y) r t e = cc
  options_split (Some x) None r t e = cc

  pub each_split : (xs : List A) (ys : List B) (r t : List ℕ) → length xs ≡ length ys
      → flat_map f xs ++ r ≡ flat_map g ys ++ t → ListsMatch R xs ys × (r ≡ t)
  each_split [] [] r t long e = (tt, e)
  each_split [] (y ∷ ys) r t long e = absurd (omega arith)
  each_split (x ∷ xs) [] r t long e = absurd (omega arith)
  each_split (x ∷ xs) (y ∷ ys) r t long e =
      let here = sym (append_assoc (f x) (flat_map f xs) r) ∙ e ∙ append_assoc (g y) (flat_map g ys) t in
      let k = splits x y (flat_map f xs ++ r) (flat_map g ys ++ t) here in
      let more = each_split xs ys r t (omega arith) k.1 in
      ((k.0, more.0), more.1)

  pub lists_split : (xs : List A) (ys : List B) (r t : List ℕ) → told_list f xs ++ r ≡ told_list g ys ++ t
      → ListsMatch R xs ys × (r ≡ t)
  lists_split xs ys r t e =
      let long : length xs ≡ length ys = cc in
      let rest : flat_map f xs ++ r ≡ flat_map g ys ++ t = cc in
      each_split xs ys r t long rest

-- the same of each of one list
pub rows_split : {A : Type 0} (R : A → Type 0) (f g : A → List ℕ)
    → ((x : A) (r t : List ℕ) → f x ++ r ≡ g x ++ t → R x × (r ≡ t)) → (xs : List A) (r t : List ℕ)
    → flat_map f xs ++ r ≡ flat_map g xs ++ t → AllByRecursion R xs × (r ≡ t)
rows_split R f g splits [] r t e = (tt, e)
rows_split R f g splits (x ∷ xs) r t e =
    let here = sym (append_assoc (f x) (flat_map f xs) r) ∙ e ∙ append_assoc (g x) (flat_map g xs) t in
    let k = splits x (flat_map f xs ++ r) (flat_map g xs ++ t) here in
    let more = rows_split R f g splits xs r t k.1 in
    ((k.0, more.0), more.1)

-- ---- what is matched

module _ {A B : Type 0} where
  pub match_in : (R : A → B → Type 0) (xs : List A) (ys : List B) (x : A) → ListsMatch R xs ys → In x xs
      → (y : B) × In y ys × R x y
  match_in R [] ys x m i = absurd i
  match_in R (z ∷ zs) [] x m i = absurd m
  match_in R (z ∷ zs) (y ∷ ys) x m i =
      ⊎_elim (λ e. (y, inl refl, subst (λ w. R w y) e m.0))
      (λ j. let k = match_in R zs ys x m.1 j in (k.0, inr k.1, k.2)) i

  pub match_back : (R : A → B → Type 0) (xs : List A) (ys : List B) (y : B) → ListsMatch R xs ys → In y ys
      → (x : A) × In x xs × R x y
  match_back R [] [] y m i = absurd i
  match_back R [] (z ∷ zs) y m i = absurd m
  match_back R (x ∷ xs) [] y m i = absurd i
  match_back R (x ∷ xs) (z ∷ zs) y m i =
      ⊎_elim (λ e. (x, inl refl, subst (R x) e m.0))
      (λ j. let k = match_back R xs zs y m.1 j in (k.0, inr k.1, k.2)) i

  pub match_both : (R S : A → B → Type 0) (xs : List A) (ys : List B) → ListsMatch R xs ys → ListsMatch S xs ys
      → ListsMatch (λ x y. R x y × S x y) xs ys
  match_both R S [] [] m n = tt
  match_both R S [] (y ∷ ys) m n = m
  match_both R S (x ∷ xs) [] m n = m
  match_both R S (x ∷ xs) (y ∷ ys) m n = ((m.0, n.0), match_both R S xs ys m.1 n.1)

  -- where each that is matched is made by F, so is the list
  pub match_map : (R : A → B → Type 0) (F : A → B) (xs : List A) (ys : List B) → ListsMatch R xs ys
      → ((x : A) (y : B) → In x xs → In y ys → R x y → y ≡ F x) → ys ≡ map F xs
  match_map R F [] [] m is = refl
  match_map R F [] (y ∷ ys) m is = absurd m
  match_map R F (x ∷ xs) [] m is = absurd m
  match_map R F (x ∷ xs) (y ∷ ys) m is =
      let head = is x y (inl refl) (inl refl) m.0 in
      let tail = match_map R F xs ys m.1 (λ z w i j k. is z w (inr i) (inr j) k) in
      cc

-- what is the same of both is a list that is the same
pub match_same : {A : Type 0} (xs ys : List A) → ListsMatch (λ x y. y ≡ x) xs ys → ys ≡ xs
match_same [] [] m = refl
match_same [] (y ∷ ys) m = absurd m
match_same (x ∷ xs) [] m = absurd m
match_same (x ∷ xs) (y ∷ ys) m = let head = m.0 in let tail = match_same xs ys m.1 in cc
