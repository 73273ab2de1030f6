-- The rings after an item is put into one, or taken out.
use Rattle.std.proofs.Common.{◌≡◌, ◌≢◌, ℕ, zero, suc, ◌+◌, ◌<◌, ◌≤◌, true, false, List, [], ◌∷◌, length, get_or, set}
use Rattle.std.proofs.Common.{refl, sym, ap, ◌∙◌, arith, ⊎_elim}
use Rattle.std.proofs.lemmas.Bool.{false≢true, eqb-true, eq-eqb, ne_eqb, cases_lt}
use Rattle.std.proofs.lemmas.List.{get_or-set_same, get_or-set_other, get_or_past}
use Rattle.cmwq_list.specs.Lists.{has_item}
use Rattle.cmwq_list.specs.Links.{walk, link_at, owner_at, IsRing, AreLinked, lists_from, lists_of}
use Rattle.cmwq_list.proofs.Members.{few_below}
use Rattle.cmwq_list.proofs.Between.{Puts, walk_is}

pub puts : (next prev : List ℕ) (p n : ℕ) → p < length next → n < length prev
    → Puts (link_at next) (link_at prev) (link_at (set next p n)) (link_at (set prev n p)) p n
puts next prev p n hp hn = record {
  there = get_or-set_same next p n 0 hp;
  back = get_or-set_same prev n p 0 hn;
  nexts = λ x ne. get_or-set_other next p x n 0 ne;
  prevs = λ x ne. get_or-set_other prev n x p 0 ne;
}

pub length_from : (f : ℕ → ℕ) (s : ℕ) (ns : List ℕ) → length (lists_from f s ns) ≡ length ns
length_from f s [] = refl
length_from f s (n ∷ ns) = ap suc (length_from f (s + 1) ns)

pub from_at : (f : ℕ → ℕ) (s : ℕ) (ns : List ℕ) (m : ℕ) → m < length ns
    → get_or (lists_from f s ns) m [] ≡ walk f (s + m) (get_or ns m 0)
from_at f s [] m h = absurd (omega arith)
from_at f s (n ∷ ns) zero h = let e : s + 0 ≡ s = omega arith in rw e refl
from_at f s (n ∷ ns) (suc m) h = let e : s + 1 + m ≡ s + suc m = omega arith in from_at f (s + 1) ns m (omega arith)
    ∙ ap (λ k. walk f k (get_or ns m 0)) e

pub length_walk : (f : ℕ → ℕ) (a n : ℕ) → length (walk f a n) ≡ n
length_walk f a zero = refl
length_walk f a (suc n) = ap suc (length_walk f (f a) n)

-- what the lists are made of now
pub record AreRings (next prev owners lens : List ℕ) (ys : ℕ → List ℕ) : Type 0 where
  pub rings : (m : ℕ) → m < length lens
      → IsRing (link_at next) (link_at prev) (owner_at owners) (length owners + m) m (ys m)
  pub lengths : (m : ℕ) → m < length lens → get_or lens m 0 ≡ length (ys m)

module _ (next prev owners lens : List ℕ) (ys : ℕ → List ℕ) (are : AreRings next prev owners lens ys) where
  pub walked : (m : ℕ) → m < length lens → walk (link_at next) (length owners + m) (get_or lens m 0) ≡ ys m
  walked m h = grind (arith, walk_is)

  pub rings_walked : (m : ℕ) → m < length lens
      → IsRing (link_at next) (link_at prev) (owner_at owners) (length owners + m) m
      (walk (link_at next) (length owners + m) (get_or lens m 0))
  rings_walked m h = rw (walked m h) (are.rings m h)

  pub listed : (m : ℕ) → m < length lens → get_or (lists_of next owners lens) m [] ≡ ys m
  listed m h = from_at (link_at next) (length owners) lens m h ∙ walked m h

module _ (next prev owners lens : List ℕ) (is : AreLinked next prev owners lens) where
  abbrev pub ring : ℕ → List ℕ
  ring m = walk (link_at next) (length owners + m) (get_or lens m 0)

  pub small : (m : ℕ) → m < length lens → m < 65535
  small m h = let few = is.few_lists in omega arith

  -- what is noted in none is in none
  pub absent : (x m : ℕ) → m < length lens → owner_at owners x ≡ 65535 → has_item x (ring m) ≡ false
  absent x m h none = grind arith

  pub known : (x m : ℕ) → m < length lens → has_item x (ring m) ≡ true → x < length owners
  known x m h in_it =
      ⊎_elim (λ l. l) (λ g. absurd (false≢true (sym (absent x m h (get_or_past owners x 65535 g)) ∙ in_it)))
      (cases_lt x (length owners))

  pub owner_is : (x m : ℕ) → m < length lens → has_item x (ring m) ≡ true → owner_at owners x ≡ m
  owner_is x m h in_it = eqb-true (owner_at owners x) m (sym ((is.rings m h).owned x) ∙ in_it)

  pub there : (x m : ℕ) → m < length lens → owner_at owners x ≡ m → has_item x (ring m) ≡ true
  there x m h e = (is.rings m h).owned x ∙ eq-eqb (owner_at owners x) m e

  -- what is noted elsewhere is not there
  pub elsewhere : (x m : ℕ) → m < length lens → owner_at owners x ≢ m → has_item x (ring m) ≡ false
  elsewhere x m h ne = (is.rings m h).owned x ∙ ne_eqb (owner_at owners x) m ne

  pub no_end : (m k : ℕ) → m < length lens → has_item (length owners + k) (ring m) ≡ false
  no_end m k h = absent (length owners + k) m h (get_or_past owners (length owners + k) 65535 (omega arith))

  pub length_ring : (m : ℕ) → m < length lens → get_or lens m 0 ≡ length (ring m)
  length_ring m h = sym (length_walk (link_at next) (length owners + m) (get_or lens m 0))

  pub few_items : (m : ℕ) → m < length lens → get_or lens m 0 ≤ length owners
  few_items m h = let e = length_ring m h in let f =
      few_below (length owners) (ring m) (is.rings m h).distinct (λ i. known i m h) in omega arith
