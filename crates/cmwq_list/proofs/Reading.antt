-- What is read from the numbers.
use Rattle.std.proofs.Common.{◌≡◌, ◌⊎◌, ℕ, zero, suc, ◌+◌, ◌<◌, ◌≤◌, true, ◌||◌, cond, List, [], ◌∷◌, map, length}
use Rattle.std.proofs.Common.{get_or, refl, sym, ap, ◌∙◌, arith, ⊎_elim, inl, inr, subst}
use Rattle.std.specs.Prelude.{nat_lt, Some, None, replicate, slice_get}
use Rattle.std.proofs.lemmas.Bool.{or_right, false≢true, eq-eqb, cases_lt, cond-true, cond-false, lt-ltb, le-ltb}
use Rattle.std.proofs.lemmas.List.{get_or_past, get_or-map, length-map, ext_get_or}
use Rattle.cmwq_list.specs.Lists.{has_item, without_item, AreDistinct, list_of, AreListedOnce}
use Rattle.cmwq_list.specs.Links.{AreBetween, link_at, owner_at, AreLinked, lists_from, lists_of}
use Rattle.cmwq_list.proofs.Members.{without_none}
use Rattle.cmwq_list.proofs.Rings.{length_from, from_at, ring, absent, known, owner_is, there, elsewhere, length_ring}
use Rattle.std.specs.List.{position_or_len}
use Rattle.std.proofs.lemmas.List.Sums.{position_or_len_is}

first_cases : (f g : ℕ → ℕ) (a : ℕ) (xs : List ℕ) (z : ℕ) → AreBetween f g a xs z
    → ((slice_get xs 0 ≡ Some (f a)) × (has_item (f a) xs ≡ true)) ⊎ ((slice_get xs 0 ≡ None) × (f a ≡ z))
first_cases f g a [] z s = inr (refl, s.0)
first_cases f g a (x ∷ xs) z s = inl (ap Some (sym s.0), ap (λ b. b || has_item (f a) xs) (eq-eqb (f a) x s.0))

next_cases : (f g : ℕ → ℕ) (a : ℕ) (xs : List ℕ) (z k i : ℕ) → AreBetween f g a xs z → slice_get xs k ≡ Some i
    → ((slice_get xs (suc k) ≡ Some (f i)) × (has_item (f i) xs ≡ true)) ⊎ ((slice_get xs (suc k) ≡ None) × (f i ≡ z))
next_cases f g a [] z k i s e = grind arith
next_cases f g a (x ∷ xs) z zero i s e = grind (arith, or_right, first_cases, s.2)
next_cases f g a (x ∷ xs) z (suc k) i s e = grind (arith, or_right, next_cases f g x xs z k i s.2 e)

-- lists of no items
pub all_empty : (f : ℕ → ℕ) (s n : ℕ) → lists_from f s (replicate n 0) ≡ replicate n []
all_empty f s zero = refl
all_empty f s (suc n) = ap (λ ls. [] ∷ ls) (all_empty f (s + 1) n)

module _ (next prev owners lens : List ℕ) (is : AreLinked next prev owners lens) where
  abbrev pub lists : List (List ℕ)
  lists = lists_of next owners lens

  pub many_lists : length (lists_of next owners lens) ≡ length lens
  many_lists = length_from (link_at next) (length owners) lens

  abbrev xs : ℕ → List ℕ
  xs = ring next prev owners lens is

  list_is : (l : ℕ) → l < length lens → get_or (lists_of next owners lens) l [] ≡ xs l
  list_is l h = from_at (link_at next) (length owners) lens l h

  pub len_is : (l : ℕ) → l < length lens → get_or lens l 0 ≡ length (get_or (lists_of next owners lens) l [])
  len_is l h = length_ring next prev owners lens is l h ∙ ap length (sym (list_is l h))

  pub first_some : (l : ℕ) → l < length lens → link_at next (length owners + l) < length owners
      → Some (link_at next (length owners + l)) ≡ slice_get (get_or (lists_of next owners lens) l []) 0
  first_some l h low = grind (arith, list_is, first_cases)

  pub first_none : (l : ℕ) → l < length lens → length owners ≤ link_at next (length owners + l)
      → None ≡ slice_get (get_or (lists_of next owners lens) l []) 0
  first_none l h high = ⊎_elim
      (λ c. absurd (let low = known next prev owners lens is (link_at next (length owners + l)) l h c.1 in omega arith))
      (λ c. sym (ap (λ zs. slice_get zs 0) (list_is l h) ∙ c.0))
      (first_cases (link_at next) (link_at prev) (length owners + l) (xs l) (length owners + l) (is.rings l h).linked)

  -- past the lists there is none
  inside : (l k i : ℕ) → slice_get (get_or (lists_of next owners lens) l []) k ≡ Some i → l < length lens
  inside l k i e =
      ⊎_elim (λ h. h)
      (λ g. absurd (let past : get_or (lists_of next owners lens) l [] ≡ [] =
      get_or_past (lists_of next owners lens) l [] (let m = many_lists in omega arith) in let bad : None ≡ Some i =
      sym (ap (λ zs. slice_get zs k) past) ∙ e in cc)) (cases_lt l (length lens))

  pub next_some : (i : ℕ) → link_at next i < length owners → (l k : ℕ)
      → slice_get (get_or (lists_of next owners lens) l []) k ≡ Some i
      → Some (link_at next i) ≡ slice_get (get_or (lists_of next owners lens) l []) (k + 1)
  next_some i low l k e =
      let h = inside l k i e in
      let one : k + 1 ≡ suc k = omega arith in
      let here : slice_get (xs l) k ≡ Some i = sym (ap (λ zs. slice_get zs k) (list_is l h)) ∙ e in
      ⊎_elim
      (λ c. sym (ap (λ zs. slice_get zs (k + 1)) (list_is l h) ∙ (ap (slice_get (xs l)) one ∙ c.0)))
      (λ c. absurd (let e = c.1 in omega arith))
      (next_cases (link_at next) (link_at prev) (length owners + l) (xs l) (length owners + l) k i (is.rings l h).linked
      here)

  pub next_none : (i : ℕ) → length owners ≤ link_at next i → (l k : ℕ)
      → slice_get (get_or (lists_of next owners lens) l []) k ≡ Some i
      → None ≡ slice_get (get_or (lists_of next owners lens) l []) (k + 1)
  next_none i high l k e =
      let h = inside l k i e in
      let one : k + 1 ≡ suc k = omega arith in
      let here : slice_get (xs l) k ≡ Some i = sym (ap (λ zs. slice_get zs k) (list_is l h)) ∙ e in
      ⊎_elim
      (λ c. absurd (let low = known next prev owners lens is (link_at next i) l h c.1 in omega arith))
      (λ c. sym (ap (λ zs. slice_get zs (k + 1)) (list_is l h) ∙ (ap (slice_get (xs l)) one ∙ c.0)))
      (next_cases (link_at next) (link_at prev) (length owners + l) (xs l) (length owners + l) k i (is.rings l h).linked
      here)

  has_at : (i m : ℕ) → m < length lens → has_item i (get_or (lists_of next owners lens) m []) ≡ has_item i (xs m)
  has_at i m h = ap (has_item i) (list_is m h)

  pub owner_some : (i h : ℕ) → owner_at owners i ≡ h → h < length lens → Some h ≡ list_of (lists_of next owners lens) i
  owner_some i h e low =
      let m = many_lists in
      let pos : position_or_len (has_item i) (lists_of next owners lens) ≡ h =
      position_or_len_is (has_item i) (lists_of next owners lens) h [] (omega arith)
      (λ k lt. let lk : k < length lens = omega arith in
      has_at i k lk ∙ elsewhere next prev owners lens is i k lk (λ s. let same : k ≡ h = sym s ∙ e in omega arith))
      (λ lt. has_at i h low ∙ there next prev owners lens is i h low e) in
      sym (ap (λ p. cond (nat_lt p (length (lists_of next owners lens))) (Some p) None) pos
      ∙ cond-true (nat_lt h (length (lists_of next owners lens))) (Some h) None
      (lt-ltb h (length (lists_of next owners lens)) (omega arith)))

  pub owner_none : (i : ℕ) → owner_at owners i ≡ 65535 → None ≡ list_of (lists_of next owners lens) i
  owner_none i e =
      let m = many_lists in
      let n = length (lists_of next owners lens) in
      let pos : position_or_len (has_item i) (lists_of next owners lens) ≡ length (lists_of next owners lens) =
      position_or_len_is (has_item i) (lists_of next owners lens) (length (lists_of next owners lens)) [] (omega arith)
      (λ k lt. let lk : k < length lens = omega arith in has_at i k lk ∙ absent next prev owners lens is i k lk e)
      (λ lt. absurd (omega arith)) in
      sym (ap (λ p. cond (nat_lt p (length (lists_of next owners lens))) (Some p) None) pos
      ∙ cond-false (nat_lt (length (lists_of next owners lens)) (length (lists_of next owners lens)))
      (Some (length (lists_of next owners lens))) None
      (le-ltb (length (lists_of next owners lens)) (length (lists_of next owners lens)) (omega arith)))

  pub is_free : (i : ℕ) → list_of (lists_of next owners lens) i ≡ None → owner_at owners i ≡ 65535
  is_free i e =
      ⊎_elim (λ none. none)
      (λ low. absurd (let bad : Some (owner_at owners i) ≡ None = owner_some i (owner_at owners i) refl low ∙ e in cc))
      (is.settled i)

  -- an item that is in no list is taken out of none
  pub none_taken : (i : ℕ) → owner_at owners i ≡ 65535
      → lists_of next owners lens ≡ map (without_item i) (lists_of next owners lens)
  none_taken i e =
      ext_get_or [] (lists_of next owners lens) (map (without_item i) (lists_of next owners lens))
      (sym (length-map (lists_of next owners lens) (without_item i))) (λ m h.
      let c = many_lists in
      let low : m < length lens = omega arith in
      sym (get_or-map (without_item i) (lists_of next owners lens) m [] [] h
      ∙ without_none i (get_or (lists_of next owners lens) m [])
      (has_at i m low ∙ absent next prev owners lens is i m low e)))

  nothing : (l : ℕ) → length lens ≤ l → get_or (lists_of next owners lens) l [] ≡ []
  nothing l g = get_or_past (lists_of next owners lens) l [] (let m = many_lists in omega arith)

  in_inside : (i l : ℕ) → has_item i (get_or (lists_of next owners lens) l []) ≡ true → l < length lens
  in_inside i l e =
      ⊎_elim (λ h. h) (λ g. absurd (false≢true (ap (has_item i) (sym (nothing l g)) ∙ e))) (cases_lt l (length lens))

  pub are_listed_once : AreListedOnce (record { items = length owners; lists = lists_of next owners lens })
  are_listed_once = record {
    distinct =
        λ l. ⊎_elim (λ h. subst AreDistinct (sym (list_is l h)) (is.rings l h).distinct)
        (λ g. subst AreDistinct (sym (nothing l g)) tt) (cases_lt l (length lens));
    apart = λ i l m a b. let hl = in_inside i l a in let hm = in_inside i m b in
        sym (owner_is next prev owners lens is i l hl (sym (has_at i l hl) ∙ a))
        ∙ owner_is next prev owners lens is i m hm (sym (has_at i m hm) ∙ b);
    known = λ i l a. let hl = in_inside i l a in known next prev owners lens is i l hl (sym (has_at i l hl) ∙ a);
  }
