-- What stands between two numbers, after one is put after another.
use Rattle.std.proofs.Common.{◌≡◌, ◌≢◌, ℕ, Bool, true, false, ◌||◌, not, cond, List, [], ◌∷◌, ◌++◌, length, refl, sym}
use Rattle.std.proofs.Common.{ap, ◌∙◌}
use Rattle.std.specs.Prelude.{nat_eq}
use Rattle.std.proofs.lemmas.Bool.{false≢true, eqb-true}
use Rattle.cmwq_list.specs.Lists.{has_item, without_item, AreDistinct}
use Rattle.cmwq_list.specs.Links.{walk, AreBetween}
use Rattle.cmwq_list.proofs.Members.{lacks, without_none}

-- f1 and g1 put n right after p, and are f and g elsewhere
pub record Puts (f g f1 g1 : ℕ → ℕ) (p n : ℕ) : Type 0 where
  pub there : f1 p ≡ n
  pub back : g1 n ≡ p
  pub nexts : (x : ℕ) → x ≢ p → f1 x ≡ f x
  pub prevs : (x : ℕ) → x ≢ n → g1 x ≡ g x

pub walk_is : (f g : ℕ → ℕ) (a : ℕ) (xs : List ℕ) (z : ℕ) → AreBetween f g a xs z → walk f a (length xs) ≡ xs
walk_is f g a [] z s = refl
walk_is f g a (x ∷ xs) z s = ap (λ y. y ∷ walk f y (length xs)) s.0 ∙ ap (λ ys. x ∷ ys) (walk_is f g x xs z s.2)

pub joined : (f g : ℕ → ℕ) (a : ℕ) (xs : List ℕ) (i z : ℕ) → AreBetween f g a xs i → f i ≡ z → g z ≡ i
    → AreBetween f g a (xs ++ i ∷ []) z
joined f g a [] i z s h k = (s.0, s.1, (h, k))
joined f g a (x ∷ xs) i z s h k = (s.0, s.1, joined f g x xs i z s.2 h k)

-- what is no number of them is not the last
pub last_differs : (f g : ℕ → ℕ) (a : ℕ) (xs : List ℕ) (z q : ℕ) → AreBetween f g a xs z → a ≢ q → has_item q xs ≡ false
    → g z ≢ q
last_differs f g a [] z q s ne h = λ e. ne (sym s.1 ∙ e)
last_differs f g a (x ∷ xs) z q s ne h = let l = lacks q x xs h in last_differs f g x xs z q s.2 l.0 l.1

-- nor is it before one of them, or after one
pub before_differs : (f g : ℕ → ℕ) (a : ℕ) (xs : List ℕ) (z q i : ℕ) → AreBetween f g a xs z → a ≢ q
    → has_item q xs ≡ false → has_item i xs ≡ true → g i ≢ q
before_differs f g a [] z q i s ne h is = absurd (false≢true is)
before_differs f g a (x ∷ xs) z q i s ne h is =
    let l = lacks q x xs h in
    by (nat_eq i x) refl (before_differs f g x xs z q i s.2 l.0 l.1)
  where
    by : (b : Bool) → nat_eq i x ≡ b → (has_item i xs ≡ true → g i ≢ q) → g i ≢ q
    by true t ih = λ e. ne (sym s.1 ∙ (ap g (sym (eqb-true i x t)) ∙ e))
    by false t ih = ih (ap (λ b. b || has_item i xs) (sym t) ∙ is)

first_differs : (f g : ℕ → ℕ) (a : ℕ) (xs : List ℕ) (z q : ℕ) → AreBetween f g a xs z → z ≢ q → has_item q xs ≡ false
    → f a ≢ q
first_differs f g a [] z q s ne h = λ e. ne (sym s.0 ∙ e)
first_differs f g a (x ∷ xs) z q s ne h = λ e. (lacks q x xs h).0 (sym s.0 ∙ e)

pub behind_differs : (f g : ℕ → ℕ) (a : ℕ) (xs : List ℕ) (z q i : ℕ) → AreBetween f g a xs z → z ≢ q
    → has_item q xs ≡ false → has_item i xs ≡ true → f i ≢ q
behind_differs f g a [] z q i s ne h is = absurd (false≢true is)
behind_differs f g a (x ∷ xs) z q i s ne h is =
    by (nat_eq i x) refl (behind_differs f g x xs z q i s.2 ne (lacks q x xs h).1)
  where
    by : (b : Bool) → nat_eq i x ≡ b → (has_item i xs ≡ true → f i ≢ q) → f i ≢ q
    by true t ih = λ e. first_differs f g x xs z q s.2 ne (lacks q x xs h).1 (ap f (sym (eqb-true i x t)) ∙ e)
    by false t ih = ih (ap (λ b. b || has_item i xs) (sym t) ∙ is)

module _ (f g f1 g1 : ℕ → ℕ) where
  -- what has no part in it stays
  pub kept : (p n : ℕ) → Puts f g f1 g1 p n → (a : ℕ) (xs : List ℕ) (z : ℕ) → a ≢ p → has_item p xs ≡ false
      → has_item n xs ≡ false → z ≢ n → AreBetween f g a xs z → AreBetween f1 g1 a xs z
  kept p n j a [] z ap_ no_p no_n zn s = (j.nexts a ap_ ∙ s.0, j.prevs z zn ∙ s.1)
  kept p n j a (x ∷ xs) z ap_ no_p no_n zn s =
      let lp = lacks p x xs no_p in let ln = lacks n x xs no_n in
      (j.nexts a ap_ ∙ s.0, j.prevs x ln.0 ∙ s.1, kept p n j x xs z lp.0 lp.1 ln.1 zn s.2)

  -- another after the last
  pub reaches : (a : ℕ) (xs : List ℕ) (z n : ℕ) → Puts f g f1 g1 (g z) n → has_item a xs ≡ false → AreDistinct xs
      → has_item n xs ≡ false → AreBetween f g a xs z → AreBetween f1 g1 a xs n
  reaches a [] z n j no_a d no_n s = (ap f1 (sym s.1) ∙ j.there, j.back ∙ s.1)
  reaches a (x ∷ xs) z n j no_a d no_n s =
      let la = lacks a x xs no_a in let ln = lacks n x xs no_n in (
        j.nexts a (λ e. last_differs f g x xs z a s.2 la.0 la.1 (sym e)) ∙ s.0,
        j.prevs x ln.0 ∙ s.1,
        reaches x xs z n j d.0 d.1 ln.1 s.2,
      )

  -- the first was i, which is left out
  skipped : (a i : ℕ) → Puts f g f1 g1 a (f i) → (xs : List ℕ) (z : ℕ) → has_item a xs ≡ false → AreDistinct xs
      → has_item z xs ≡ false → AreBetween f g i xs z → AreBetween f1 g1 a xs z
  skipped a i j [] z no_a d no_z s = (j.there ∙ s.0, ap g1 (sym s.0) ∙ j.back)
  skipped a i j (x ∷ xs) z no_a d no_z s =
      let la = lacks a x xs no_a in let lz = lacks z x xs no_z in
      let no_n : has_item (f i) xs ≡ false = ap (λ n. has_item n xs) s.0 ∙ d.0 in
      (j.there ∙ s.0, ap g1 (sym s.0) ∙ j.back, kept a (f i) j x xs z la.0 la.1 no_n (λ e. lz.0 (sym (e ∙ s.0))) s.2)

  pub taken_out : (i : ℕ) → Puts f g f1 g1 (g i) (f i) → (a : ℕ) (xs : List ℕ) (z : ℕ) → has_item a xs ≡ false
      → AreDistinct xs → has_item z xs ≡ false → has_item i xs ≡ true → AreBetween f g a xs z
      → AreBetween f1 g1 a (without_item i xs) z
  taken_out i j a [] z no_a d no_z is s = absurd (false≢true is)
  taken_out i j a (x ∷ xs) z no_a d no_z is s =
      by (nat_eq i x) refl (taken_out i j x xs z d.0 d.1 (lacks z x xs no_z).1)
    where
      by : (b : Bool) → nat_eq i x ≡ b
          → (has_item i xs ≡ true → AreBetween f g x xs z → AreBetween f1 g1 x (without_item i xs) z)
          → AreBetween f1 g1 a (cond (not b) (x ∷ without_item i xs) (without_item i xs)) z
      by true t ih =
          let e : i ≡ x = eqb-true i x t in
          let gone : has_item i xs ≡ false = ap (λ k. has_item k xs) e ∙ d.0 in
          let before : g i ≡ a = ap g e ∙ s.1 in
          let puts : Puts f g f1 g1 a (f i) = rw before at j in
          let linked : AreBetween f g i xs z = rw e s.2 in
          rw (without_none i xs gone) (skipped a i puts xs z (lacks a x xs no_a).1 d.1 (lacks z x xs no_z).1 linked)
      by false t ih =
          let la = lacks a x xs no_a in let lz = lacks z x xs no_z in
          let rest : has_item i xs ≡ true = ap (λ b. b || has_item i xs) (sym t) ∙ is in (
            j.nexts a (λ e. before_differs f g x xs z a i s.2 la.0 la.1 rest (sym e)) ∙ s.0,
            j.prevs x (λ e. behind_differs f g x xs z x i s.2 (λ h. lz.0 (sym h)) d.0 rest (sym e)) ∙ s.1,
            ih rest s.2,
          )
