-- An item is put after all others of a list.
use Rattle.std.proofs.Common.{◌≡◌, ◌≢◌, ◌⊎◌, ℕ, ◌+◌, ◌<◌, false, ◌||◌, cond, List, [], ◌∷◌, ◌++◌, length, get_or, set}
use Rattle.std.proofs.Common.{refl, sym, ap, ◌∙◌, arith, ⊎_elim, inr, subst}
use Rattle.std.specs.Prelude.{nat_eq, All}
use Rattle.std.proofs.lemmas.Bool.{eq-eqb, ne_eqb, cases_eq, false_from_ne_true, cond-true, cond-false}
use Rattle.std.proofs.lemmas.List.{get_or-set_same, get_or-set_other, length-set, length_push, ext_get_or}
use Rattle.std.proofs.lemmas.List.Elements.{All-set, All-get_or}
use Rattle.cmwq_lemmas.proofs.Truth.{or_true, or_false}
use Rattle.cmwq_list.specs.Lists.{has_item}
use Rattle.cmwq_list.specs.Links.{AreBetween, link_at, owner_at, IsRing, AreLinked, lists_of}
use Rattle.cmwq_list.proofs.Members.{has-push, distinct-push}
use Rattle.cmwq_list.proofs.Between.{Puts, joined, last_differs, kept, reaches}
use Rattle.cmwq_list.proofs.Rings.{puts, length_from, from_at, AreRings, rings_walked, listed, ring, absent, known}
use Rattle.cmwq_list.proofs.Rings.{owner_is, elsewhere, no_end, length_ring}

module _ (next prev owners lens : List ℕ) (l i : ℕ) (is : AreLinked next prev owners lens) (hl : l < length lens)
    (hi : i < length owners) (free : owner_at owners i ≡ 65535) where
  e : ℕ
  e = length owners + l

  abbrev p : ℕ
  p = get_or prev (length owners + l) 0

  abbrev pub next1 : List ℕ
  next1 = set next p i

  abbrev pub prev1 : List ℕ
  prev1 = set prev i p

  abbrev pub next2 : List ℕ
  next2 = set next1 i (length owners + l)

  abbrev pub prev2 : List ℕ
  prev2 = set prev1 (length owners + l) i

  abbrev pub owners2 : List ℕ
  owners2 = set owners i l

  abbrev pub lens2 : List ℕ
  lens2 = set lens l (get_or lens l 0 + 1)

  abbrev xs : ℕ → List ℕ
  xs = ring next prev owners lens is

  p_below : p < length next
  p_below =
      All-get_or (λ x. x < length next) prev (length owners + l) 0 (let a = is.many in let b = is.twins in omega arith)
      is.prevs

  first : Puts (link_at next) (link_at prev) (link_at next1) (link_at prev1) p i
  first = puts next prev p i p_below (let a = is.many in let b = is.twins in omega arith)

  second : Puts (link_at next1) (link_at prev1) (link_at next2) (link_at prev2) i (length owners + l)
  second = puts next1 prev1 i (length owners + l) (let a = is.many in omega (arith, length-set next p i))
      (let a = is.many in let b = is.twins in omega (arith, length-set prev i p))

  no_i : (m : ℕ) → m < length lens → has_item i (xs m) ≡ false
  no_i m h = absent next prev owners lens is i m h free

  -- what is before the end of l is in no other list
  no_p : (m : ℕ) → m < length lens → m ≢ l → has_item p (xs m) ≡ false
  no_p m h ne = false_from_ne_true (has_item p (xs m)) (λ in_it.
      let below = known next prev owners lens is p m h in_it in
      let away : has_item p (xs l) ≡ false =
      elsewhere next prev owners lens is p l hl
      (λ same. ne (sym (owner_is next prev owners lens is p m h in_it) ∙ same)) in
      last_differs (link_at next) (link_at prev) (length owners + l) (xs l) (length owners + l) p (is.rings l hl).linked
      (λ same. omega arith) away refl)

  end_differs : (m : ℕ) → m ≢ l → length owners + m ≢ length owners + l
  end_differs m ne = λ same. ne (omega arith)

  linked_other : (m : ℕ) → m < length lens → m ≢ l
      → AreBetween (link_at next2) (link_at prev2) (length owners + m) (xs m) (length owners + m)
  linked_other m h ne =
      let e_p : length owners + m ≢ p =
      λ same. last_differs (link_at next) (link_at prev) (length owners + l) (xs l) (length owners + l)
      (length owners + m) (is.rings l hl).linked (λ s. end_differs m ne (sym s))
      (no_end next prev owners lens is l m hl) (sym same) in
      let e_i : length owners + m ≢ i = λ same. omega arith in
      kept (link_at next1) (link_at prev1) (link_at next2) (link_at prev2) i (length owners + l) second
      (length owners + m) (xs m) (length owners + m) e_i (no_i m h) (no_end next prev owners lens is m l h)
      (end_differs m ne)
      (kept (link_at next) (link_at prev) (link_at next1) (link_at prev1) p i first (length owners + m) (xs m)
      (length owners + m) e_p (no_p m h ne) (no_i m h) e_i (is.rings m h).linked)

  linked_here : AreBetween (link_at next2) (link_at prev2) (length owners + l) (xs l ++ i ∷ []) (length owners + l)
  linked_here =
      let e_i : length owners + l ≢ i = λ same. omega arith in
      let no_e = no_end next prev owners lens is l l hl in
      joined (link_at next2) (link_at prev2) (length owners + l) (xs l) i (length owners + l)
      (kept (link_at next1) (link_at prev1) (link_at next2) (link_at prev2) i (length owners + l) second
      (length owners + l) (xs l) i e_i (no_i l hl) no_e (λ same. e_i (sym same))
      (reaches (link_at next) (link_at prev) (link_at next1) (link_at prev1) (length owners + l) (xs l)
      (length owners + l) i first no_e (is.rings l hl).distinct (no_i l hl) (is.rings l hl).linked))
      second.there second.back

  owned_here : (j : ℕ) → has_item j (xs l ++ i ∷ []) ≡ nat_eq (owner_at owners2 j) l
  owned_here j = has-push j i (xs l) ∙ ⊎_elim same other (cases_eq j i)
    where
      same : j ≡ i → (has_item j (xs l) || nat_eq j i) ≡ nat_eq (owner_at owners2 j) l
      same h = (ap (λ b. has_item j (xs l) || b) (eq-eqb j i h) ∙ or_true (has_item j (xs l)))
          ∙ sym (eq-eqb (owner_at owners2 j) l (ap (owner_at owners2) h ∙ get_or-set_same owners i l 65535 hi))

      other : (j ≡ i → ⊥) → (has_item j (xs l) || nat_eq j i) ≡ nat_eq (owner_at owners2 j) l
      other ne = (ap (λ b. has_item j (xs l) || b) (ne_eqb j i ne) ∙ or_false (has_item j (xs l)))
          ∙ ((is.rings l hl).owned j ∙ ap (λ n. nat_eq n l) (sym (get_or-set_other owners i j l 65535 ne)))

  owned_other : (m : ℕ) → m < length lens → m ≢ l → (j : ℕ) → has_item j (xs m) ≡ nat_eq (owner_at owners2 j) m
  owned_other m h ne j = ⊎_elim same other (cases_eq j i)
    where
      same : j ≡ i → has_item j (xs m) ≡ nat_eq (owner_at owners2 j) m
      same e = ap (λ k. has_item k (xs m)) e
          ∙ (no_i m h
          ∙ sym (ne_eqb (owner_at owners2 j) m
          (λ s. ne (sym s ∙ (ap (owner_at owners2) e ∙ get_or-set_same owners i l 65535 hi)))))

      other : (j ≡ i → ⊥) → has_item j (xs m) ≡ nat_eq (owner_at owners2 j) m
      other e = (is.rings m h).owned j ∙ ap (λ n. nat_eq n m) (sym (get_or-set_other owners i j l 65535 e))

  -- the lists afterwards
  abbrev pub ys : ℕ → List ℕ
  ys m = cond (nat_eq m l) (xs l ++ i ∷ []) (xs m)

  ys_here : (m : ℕ) → m ≡ l → ys m ≡ xs l ++ i ∷ []
  ys_here m h = cond-true (nat_eq m l) (xs l ++ i ∷ []) (xs m) (eq-eqb m l h)

  ys_other : (m : ℕ) → m ≢ l → ys m ≡ xs m
  ys_other m h = cond-false (nat_eq m l) (xs l ++ i ∷ []) (xs m) (ne_eqb m l h)

  same_many : length owners2 ≡ length owners
  same_many = length-set owners i l

  ring_there : (m : ℕ) → m < length lens
      → IsRing (link_at next2) (link_at prev2) (owner_at owners2) (length owners + m) m (ys m)
  ring_there m h = ⊎_elim
      (λ same. let P : List ℕ → Type 0 =
      λ zs. IsRing (link_at next2) (link_at prev2) (owner_at owners2) (length owners + m) m zs in
      subst P (sym (ys_here m same)) (let Q : ℕ → Type 0 =
      λ k. IsRing (link_at next2) (link_at prev2) (owner_at owners2) (length owners + k) k (xs l ++ i ∷ []) in
      subst Q (sym same)
      (record {
        linked = linked_here;
        distinct = distinct-push i (xs l) (is.rings l hl).distinct (no_i l hl);
        owned = owned_here;
      })))
      (λ ne. let P : List ℕ → Type 0 =
      λ zs. IsRing (link_at next2) (link_at prev2) (owner_at owners2) (length owners + m) m zs in
      subst P (sym (ys_other m ne))
      (record { linked = linked_other m h ne; distinct = (is.rings m h).distinct; owned = owned_other m h ne }))
      (cases_eq m l)

  length_there : (m : ℕ) → m < length lens → get_or lens2 m 0 ≡ length (ys m)
  length_there m h = ⊎_elim
      (λ same. ap (λ k. get_or lens2 k 0) same
      ∙ (get_or-set_same lens l (get_or lens l 0 + 1) 0 hl
      ∙ (ap (λ n. n + 1) (length_ring next prev owners lens is l hl)
      ∙ (sym (length_push (xs l) i) ∙ ap length (sym (ys_here m same))))))
      (λ ne. get_or-set_other lens l m (get_or lens l 0 + 1) 0 ne
      ∙ (length_ring next prev owners lens is m h ∙ ap length (sym (ys_other m ne))))
      (cases_eq m l)

  back_rings : AreRings next2 prev2 owners2 lens2 ys
  back_rings = record {
    rings = λ m h. rw same_many (ring_there m (rw length-set at h));
    lengths = λ m h. length_there m (rw length-set at h);
  }

  same_length : length next2 ≡ length next
  same_length = length-set next1 i (length owners + l) ∙ length-set next p i

  settled_there : (j : ℕ) → (get_or owners2 j 65535 ≡ 65535) ⊎ (get_or owners2 j 65535 < length lens2)
  settled_there j = ⊎_elim
      (λ same. inr (let here : get_or owners2 j 65535 ≡ l =
      ap (owner_at owners2) same ∙ get_or-set_same owners i l 65535 hi in
      rw (here, length-set lens l (get_or lens l 0 + 1)) hl))
      (λ ne. rw (get_or-set_other owners i j l 65535 ne, length-set lens l (get_or lens l 0 + 1)) (is.settled j))
      (cases_eq j i)

  pub back_linked : AreLinked next2 prev2 owners2 lens2
  back_linked =
      let a = is.many in let b = is.twins in
      record {
        many = same_length
            ∙ (is.many
            ∙ sym (ap (λ n. n + length lens2) same_many
            ∙ ap (λ n. length owners + n) (length-set lens l (get_or lens l 0 + 1))));
        twins = length-set prev1 (length owners + l) i ∙ (length-set prev i p ∙ (is.twins ∙ sym same_length));
        few = rw same_length is.few;
        few_lists = rw (length-set lens l (get_or lens l 0 + 1)) is.few_lists;
        nexts = let F : ℕ → Type 0 = λ b. All (λ x. x < b) next2 in
            subst F (sym same_length)
            (All-set (λ x. x < length next) next1 i (length owners + l) (omega arith)
            (All-set (λ x. x < length next) next p i (omega arith) is.nexts));
        prevs = let F : ℕ → Type 0 = λ b. All (λ x. x < b) prev2 in
            subst F (sym same_length)
            (All-set (λ x. x < length next) prev1 (length owners + l) i (omega arith)
            (All-set (λ x. x < length next) prev i p p_below is.prevs));
        settled = settled_there;
        rings = rings_walked next2 prev2 owners2 lens2 ys back_rings;
      }

  abbrev pub old : List (List ℕ)
  old = lists_of next owners lens

  pub back_lists : lists_of next2 owners2 lens2
      ≡ set (lists_of next owners lens) l (get_or (lists_of next owners lens) l [] ++ i ∷ [])
  back_lists =
      ext_get_or [] (lists_of next2 owners2 lens2) (set old l (get_or old l [] ++ i ∷ [])) lengths
      (λ m h. each m (let e = length_from (link_at next2) (length owners2) lens2 in omega arith))
    where
      count : length lens2 ≡ length lens
      count = length-set lens l (get_or lens l 0 + 1)

      old_count : length old ≡ length lens
      old_count = length_from (link_at next) (length owners) lens

      lengths : length (lists_of next2 owners2 lens2) ≡ length (set old l (get_or old l [] ++ i ∷ []))
      lengths = length_from (link_at next2) (length owners2) lens2
          ∙ (count ∙ sym (length-set old l (get_or old l [] ++ i ∷ []) ∙ old_count))

      old_at : (m : ℕ) → m < length lens → get_or old m [] ≡ xs m
      old_at m h = from_at (link_at next) (length owners) lens m h

      each : (m : ℕ) → m < length lens2 → get_or (lists_of next2 owners2 lens2) m []
          ≡ get_or (set old l (get_or old l [] ++ i ∷ [])) m []
      each m h = listed next2 prev2 owners2 lens2 ys back_rings m h ∙ ⊎_elim
          (λ same. ys_here m same
          ∙ (ap (λ zs. zs ++ i ∷ []) (sym (old_at l hl))
          ∙ sym (ap (λ k. get_or (set old l (get_or old l [] ++ i ∷ [])) k []) same
          ∙ get_or-set_same old l (get_or old l [] ++ i ∷ []) [] (rw old_count hl))))
          (λ ne. ys_other m ne
          ∙ (sym (old_at m (rw count at h)) ∙ sym (get_or-set_other old l m (get_or old l [] ++ i ∷ []) [] ne)))
          (cases_eq m l)
