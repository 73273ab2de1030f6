-- An item is taken out of its list.
use Rattle.std.proofs.Common.{◌≡◌, ◌≢◌, ◌⊎◌, ℕ, ◌+◌, ◌-◌, ◌<◌, true, false, ◌&&◌, not, List, [], map, length, get_or}
use Rattle.std.proofs.Common.{set, refl, sym, ap, ◌∙◌, arith, ⊎_elim, inl, subst}
use Rattle.std.specs.Prelude.{nat_eq, All}
use Rattle.std.proofs.lemmas.Bool.{eq-eqb, ne_eqb, cases_eq, false_from_ne_true}
use Rattle.std.proofs.lemmas.List.{get_or-set_same, get_or-set_other, get_or-map, length-set, length-map, ext_get_or}
use Rattle.std.proofs.lemmas.List.{get_or_default}
use Rattle.std.proofs.lemmas.List.Elements.{All-set, All-get_or}
use Rattle.cmwq_lemmas.proofs.Truth.{and_true, and_false}
use Rattle.cmwq_list.specs.Lists.{has_item, without_item}
use Rattle.cmwq_list.specs.Links.{AreBetween, link_at, owner_at, AreLinked, lists_of}
use Rattle.cmwq_list.proofs.Members.{without_none, has-without, distinct-without, length-without}
use Rattle.cmwq_list.proofs.Between.{Puts, before_differs, behind_differs, kept, taken_out}
use Rattle.cmwq_list.proofs.Rings.{puts, length_from, from_at, AreRings, rings_walked, listed, ring, small, known}
use Rattle.cmwq_list.proofs.Rings.{owner_is, there, elsewhere, no_end, length_ring}

module _ (next prev owners lens : List ℕ) (i : ℕ) (is : AreLinked next prev owners lens) (hi : i < length owners)
    (taken : owner_at owners i ≡ 65535 → ⊥) where
  -- the list that it is in
  abbrev pub l : ℕ
  l = get_or owners i 0

  owner_l : owner_at owners i ≡ l
  owner_l = get_or_default owners i 65535 0 hi

  hl : l < length lens
  hl = ⊎_elim (λ none. absurd (taken none)) (λ h. rw owner_l at h) (is.settled i)

  abbrev pub p : ℕ
  p = get_or prev i 0

  abbrev pub n : ℕ
  n = get_or next i 0

  abbrev pub next2 : List ℕ
  next2 = set next p n

  abbrev pub prev2 : List ℕ
  prev2 = set prev n p

  abbrev pub owners2 : List ℕ
  owners2 = set owners i 65535

  abbrev pub lens2 : List ℕ
  lens2 = set lens l (get_or lens l 0 - 1)

  abbrev xs : ℕ → List ℕ
  xs = ring next prev owners lens is

  p_below : p < length next
  p_below = All-get_or (λ x. x < length next) prev i 0 (let a = is.many in let b = is.twins in omega arith) is.prevs

  n_below : n < length next
  n_below = All-get_or (λ x. x < length next) next i 0 (let a = is.many in omega arith) is.nexts

  closes : Puts (link_at next) (link_at prev) (link_at next2) (link_at prev2) (link_at prev i) (link_at next i)
  closes = puts next prev p n p_below (let a = n_below in let b = is.twins in omega arith)

  in_l : has_item i (xs l) ≡ true
  in_l = there next prev owners lens is i l hl owner_l

  not_in : (m : ℕ) → m < length lens → m ≢ l → has_item i (xs m) ≡ false
  not_in m h ne = elsewhere next prev owners lens is i m h (λ e. ne (sym e ∙ owner_l))

  end_differs : (m : ℕ) → m ≢ l → length owners + l ≢ length owners + m
  end_differs m ne = λ same. ne (omega arith)

  -- what is before it and what is after it are in no other list
  no_p : (m : ℕ) → m < length lens → m ≢ l → has_item p (xs m) ≡ false
  no_p m h ne = false_from_ne_true (has_item p (xs m)) (λ in_it.
      let below = known next prev owners lens is p m h in_it in
      let away : has_item p (xs l) ≡ false =
      elsewhere next prev owners lens is p l hl
      (λ same. ne (sym (owner_is next prev owners lens is p m h in_it) ∙ same)) in
      before_differs (link_at next) (link_at prev) (length owners + l) (xs l) (length owners + l) p i
      (is.rings l hl).linked (λ same. omega arith) away in_l refl)

  no_n : (m : ℕ) → m < length lens → m ≢ l → has_item n (xs m) ≡ false
  no_n m h ne = false_from_ne_true (has_item n (xs m)) (λ in_it.
      let below = known next prev owners lens is n m h in_it in
      let away : has_item n (xs l) ≡ false =
      elsewhere next prev owners lens is n l hl
      (λ same. ne (sym (owner_is next prev owners lens is n m h in_it) ∙ same)) in
      behind_differs (link_at next) (link_at prev) (length owners + l) (xs l) (length owners + l) n i
      (is.rings l hl).linked (λ same. omega arith) away in_l refl)

  linked_other : (m : ℕ) → m < length lens → m ≢ l
      → AreBetween (link_at next2) (link_at prev2) (length owners + m) (xs m) (length owners + m)
  linked_other m h ne =
      let e = length owners + m in
      let e_p : e ≢ p =
      λ same. before_differs (link_at next) (link_at prev) (length owners + l) (xs l) (length owners + l) e i
      (is.rings l hl).linked (end_differs m ne) (no_end next prev owners lens is l m hl) in_l (sym same) in
      let e_n : e ≢ n =
      λ same. behind_differs (link_at next) (link_at prev) (length owners + l) (xs l) (length owners + l) e i
      (is.rings l hl).linked (end_differs m ne) (no_end next prev owners lens is l m hl) in_l (sym same) in
      kept (link_at next) (link_at prev) (link_at next2) (link_at prev2) p n closes e (xs m) e e_p (no_p m h ne)
      (no_n m h ne) e_n (is.rings m h).linked

  linked_there : (m : ℕ) → m < length lens
      → AreBetween (link_at next2) (link_at prev2) (length owners + m) (without_item i (xs m)) (length owners + m)
  linked_there m h = ⊎_elim
      (λ same. let Q : ℕ → Type 0 =
      λ k. AreBetween (link_at next2) (link_at prev2) (length owners + k) (without_item i (xs k))
      (length owners + k) in
      subst Q (sym same) (let no_e = no_end next prev owners lens is l l hl in
      taken_out (link_at next) (link_at prev) (link_at next2) (link_at prev2) i closes (length owners + l) (xs l)
      (length owners + l) no_e (is.rings l hl).distinct no_e in_l (is.rings l hl).linked))
      (λ ne. let Q : List ℕ → Type 0 =
      λ zs. AreBetween (link_at next2) (link_at prev2) (length owners + m) zs (length owners + m) in
      subst Q (sym (without_none i (xs m) (not_in m h ne))) (linked_other m h ne))
      (cases_eq m l)

  owned_there : (m : ℕ) → m < length lens → (j : ℕ) → has_item j (without_item i (xs m)) ≡ nat_eq (owner_at owners2 j) m
  owned_there m h j = has-without j i (xs m) ∙ ⊎_elim same other (cases_eq j i)
    where
      same : j ≡ i → (has_item j (xs m) && not (nat_eq j i)) ≡ nat_eq (owner_at owners2 j) m
      same e = (ap (λ b. has_item j (xs m) && not b) (eq-eqb j i e) ∙ and_false (has_item j (xs m)))
          ∙ sym (ne_eqb (owner_at owners2 j) m (λ s.
          let none : owner_at owners2 j ≡ 65535 = ap (owner_at owners2) e ∙ get_or-set_same owners i 65535 65535 hi in
          let low : m < 65535 = small next prev owners lens is m h in
          let big : m ≡ 65535 = sym s ∙ none in
          omega arith))

      other : (j ≡ i → ⊥) → (has_item j (xs m) && not (nat_eq j i)) ≡ nat_eq (owner_at owners2 j) m
      other ne = (ap (λ b. has_item j (xs m) && not b) (ne_eqb j i ne) ∙ and_true (has_item j (xs m)))
          ∙ ((is.rings m h).owned j ∙ ap (λ k. nat_eq k m) (sym (get_or-set_other owners i j 65535 65535 ne)))

  -- the lists afterwards
  abbrev pub ys : ℕ → List ℕ
  ys m = without_item i (xs m)

  same_many : length owners2 ≡ length owners
  same_many = length-set owners i 65535

  count : length lens2 ≡ length lens
  count = length-set lens l (get_or lens l 0 - 1)

  length_there : (m : ℕ) → m < length lens → get_or lens2 m 0 ≡ length (ys m)
  length_there m h = ⊎_elim
      (λ same. ap (λ k. get_or lens2 k 0) same
      ∙ (get_or-set_same lens l (get_or lens l 0 - 1) 0 hl ∙ (less ∙ ap (λ k. length (ys k)) (sym same))))
      (λ ne. get_or-set_other lens l m (get_or lens l 0 - 1) 0 ne
      ∙ (length_ring next prev owners lens is m h ∙ ap length (sym (without_none i (xs m) (not_in m h ne)))))
      (cases_eq m l)
    where
      less : get_or lens l 0 - 1 ≡ length (without_item i (xs l))
      less = let a = length_ring next prev owners lens is l hl in let b =
          length-without i (xs l) (is.rings l hl).distinct in_l in omega arith

  unlinked_rings : AreRings next2 prev2 owners2 lens2 ys
  unlinked_rings = record {
    rings = λ m h. rw same_many
        (record {
          linked = linked_there m (rw count at h);
          distinct =
              distinct-without i (xs m) (is.rings m (rw count at h)).distinct;
          owned = owned_there m (rw count at h);
        });
    lengths = λ m h. length_there m (rw count at h);
  }

  same_length : length next2 ≡ length next
  same_length = length-set next p n

  settled_there : (j : ℕ) → (get_or owners2 j 65535 ≡ 65535) ⊎ (get_or owners2 j 65535 < length lens2)
  settled_there j = ⊎_elim
      (λ same. inl (ap (owner_at owners2) same ∙ get_or-set_same owners i 65535 65535 hi))
      (λ ne. rw (get_or-set_other owners i j 65535 65535 ne, count) (is.settled j))
      (cases_eq j i)

  pub unlinked : AreLinked next2 prev2 owners2 lens2
  unlinked = record {
    many = same_length ∙ (is.many ∙ sym (ap (λ k. k + length lens2) same_many ∙ ap (λ k. length owners + k) count));
    twins = length-set prev n p ∙ (is.twins ∙ sym same_length);
    few = rw same_length is.few;
    few_lists = rw count is.few_lists;
    nexts = let F : ℕ → Type 0 = λ b. All (λ x. x < b) next2 in
        subst F (sym same_length) (All-set (λ x. x < length next) next p n n_below is.nexts);
    prevs = let F : ℕ → Type 0 = λ b. All (λ x. x < b) prev2 in
        subst F (sym same_length) (All-set (λ x. x < length next) prev n p p_below is.prevs);
    settled = settled_there;
    rings = rings_walked next2 prev2 owners2 lens2 ys unlinked_rings;
  }

  abbrev pub old : List (List ℕ)
  old = lists_of next owners lens

  pub unlinked_lists : lists_of next2 owners2 lens2 ≡ map (without_item i) (lists_of next owners lens)
  unlinked_lists =
      ext_get_or [] (lists_of next2 owners2 lens2) (map (without_item i) old) lengths
      (λ m h. each m (let e = length_from (link_at next2) (length owners2) lens2 in omega arith))
    where
      old_count : length old ≡ length lens
      old_count = length_from (link_at next) (length owners) lens

      lengths : length (lists_of next2 owners2 lens2) ≡ length (map (without_item i) old)
      lengths = length_from (link_at next2) (length owners2) lens2
          ∙ (count ∙ sym (length-map old (without_item i) ∙ old_count))

      each : (m : ℕ) → m < length lens2 → get_or (lists_of next2 owners2 lens2) m []
          ≡ get_or (map (without_item i) old) m []
      each m h =
          let low : m < length lens = rw count at h in
          listed next2 prev2 owners2 lens2 ys unlinked_rings m h
          ∙ (ap (without_item i) (sym (from_at (link_at next) (length owners) lens m low))
          ∙ sym (get_or-map (without_item i) old m [] [] (rw old_count low)))
