-- How links make lists. Each list is a ring, closed by its sentinel: a number past those of the items, which stands
-- before its first item and after its last.
use Rattle.std.specs.Prelude.{◌≡◌, ◌⊎◌, ℕ, zero, suc, ◌+◌, ◌<◌, ◌^◌, List, [], ◌∷◌, All, length, nat_eq, slice_index}
use Rattle.std.specs.Prelude.{slice_index_or}
use Rattle.cmwq_list.specs.Lists.{has_item, AreDistinct}

-- what follows a, so many of them
abbrev pub walk : (ℕ → ℕ) → ℕ → ℕ → List ℕ
walk f a zero = []
walk f a (suc n) = f a ∷ walk f (f a) n

-- the lists of these lengths whose sentinels are numbered from s on
abbrev pub lists_from : (ℕ → ℕ) → ℕ → List ℕ → List (List ℕ)
lists_from f s [] = []
lists_from f s (n ∷ ns) = walk f s n ∷ lists_from f (s + 1) ns

-- between a and z stand these, in order, by what follows each (f) and by what is before it (g)
abbrev pub AreBetween : (ℕ → ℕ) → (ℕ → ℕ) → ℕ → List ℕ → ℕ → Type 0
AreBetween f g a [] z = (f a ≡ z) × (g z ≡ a)
AreBetween f g a (x ∷ xs) z = (f a ≡ x) × (g x ≡ a) × AreBetween f g x xs z

abbrev pub link_at : List ℕ → ℕ → ℕ
link_at xs = λ i. slice_index xs i

-- the list that owns item i; 65535 says that none does
abbrev pub owner_at : List ℕ → ℕ → ℕ
owner_at owners = λ i. slice_index_or owners i 65535

-- list l with its sentinel e: the links both ways, no item twice, and it owns just its own
pub record IsRing (f g owner : ℕ → ℕ) (e l : ℕ) (xs : List ℕ) : Type 0 where
  pub linked : AreBetween f g e xs e
  pub distinct : AreDistinct xs
  pub owned : (i : ℕ) → has_item i xs ≡ nat_eq (owner i) l

-- the links, the owners and the lengths agree
pub record AreLinked (next prev owners lens : List ℕ) : Type 0 where
  pub many : length next ≡ length owners + length lens
  pub twins : length prev ≡ length next
  pub few : length next < 2 ^ 32
  pub few_lists : length lens < 2 ^ 16
  pub nexts : All (λ x. x < length next) next
  pub prevs : All (λ x. x < length next) prev
  pub settled : (i : ℕ) → (slice_index_or owners i 65535 ≡ 65535) ⊎ (slice_index_or owners i 65535 < length lens)
  pub rings : (l : ℕ) → l < length lens
      → IsRing (link_at next) (link_at prev) (owner_at owners) (length owners + l) l
      (walk (link_at next) (length owners + l) (slice_index lens l))

-- no list owns item i
abbrev pub IsUnlisted : List ℕ → ℕ → Type 0
IsUnlisted owners i = owner_at owners i ≡ 65535

-- the lists that the links make
abbrev pub lists_of : List ℕ → List ℕ → List ℕ → List (List ℕ)
lists_of next owners lens = lists_from (link_at next) (length owners) lens
