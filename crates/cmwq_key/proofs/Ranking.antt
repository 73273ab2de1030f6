-- The ranks of numbers, and the number that has the same rank among others.
use Rattle.std.proofs.Common.{ℕ, ◌≡◌, ◌==◌, ◌+◌, ◌<◌, ◌≤◌, Bool, true, false, List, [], ◌∷◌, Option, Some, None, find}
use Rattle.std.proofs.Common.{count_by, nat_lt, ⊎_elim, ap, sym, ◌∙◌, refl, arith, cond, subst}
use Rattle.std.specs.Option.{option_map_or}
use Rattle.std.proofs.lemmas.Bool.{eqb-true, eq-eqb, cases_lt, lt-ltb, le-ltb}
use Rattle.std.proofs.lemmas.Bool.Decides.{nat_tests}
use Rattle.std.proofs.lemmas.Option.{same_Some}
use Rattle.cmwq_lemmas.proofs.Lists.{count_by-cons}
use Rattle.cmwq_lemmas.proofs.Members.{In, found}
use Rattle.cmwq_key.specs.Numbered.{is_below, rank}

one_more : (n m : ℕ) (ns : List ℕ) → rank (m ∷ ns) n ≡ cond (nat_lt m n) 1 0 + rank ns n
one_more n m ns = count_by-cons (is_below n) m ns

pub rank_grows : (ns : List ℕ) (a b : ℕ) → a ≤ b → rank ns a ≤ rank ns b
rank_grows [] a b h = omega arith
rank_grows (m ∷ ns) a b h =
    grind (arith, nat_tests, one_more a m ns, one_more b m ns, rank_grows ns a b h)

pub rank_rises : (ns : List ℕ) (a b : ℕ) → In a ns → a < b → rank ns a < rank ns b
rank_rises [] a b i less = absurd i
rank_rises (m ∷ ns) a b i less =
    ⊎_elim (λ e. here e) (λ j. there (rank_rises ns a b j less)) i
  where
    here : m ≡ a → rank (m ∷ ns) a < rank (m ∷ ns) b
    here e =
        let lt : nat_lt m b ≡ true = lt-ltb m b (omega (arith, e)) in
        let ge : nat_lt m a ≡ false = le-ltb m a (omega (arith, e)) in
        let grows = rank_grows ns a b (omega arith) in
        let x = one_more a m ns ∙ ap (λ c. cond c 1 0 + rank ns a) ge in
        let y = one_more b m ns ∙ ap (λ c. cond c 1 0 + rank ns b) lt in
        omega arith

    there : rank ns a < rank ns b → rank (m ∷ ns) a < rank (m ∷ ns) b
    there h = grind (arith, nat_tests, one_more a m ns, one_more b m ns)

-- a number is known by its rank
pub rank_same : (ns : List ℕ) (a b : ℕ) → In a ns → In b ns → rank ns a ≡ rank ns b → a ≡ b
rank_same ns a b i j same =
    ⊎_elim (λ less. absurd (let k = rank_rises ns a b i less in omega arith))
    (λ more. ⊎_elim (λ less. absurd (let k = rank_rises ns b a j less in omega arith))
    (λ less. (let both : a ≡ b = omega arith in both))
    (cases_lt b a)) (cases_lt a b)

-- and their order is that of the ranks
pub rank_order : (ns : List ℕ) (a b : ℕ) → In a ns → In b ns → nat_lt (rank ns a) (rank ns b) ≡ nat_lt a b
rank_order ns a b i j =
    ⊎_elim
    (λ less. let k = rank_rises ns a b i less in lt-ltb (rank ns a) (rank ns b) k ∙ sym (lt-ltb a b less))
    (λ more. let k = rank_grows ns b a more in le-ltb (rank ns a) (rank ns b) k ∙ sym (le-ltb a b more)) (cases_lt a b)

-- ---- the number of the same rank

abbrev pub has_rank : List ℕ → ℕ → ℕ → Bool
has_rank ms r m = rank ms m == r

pub of_rank : List ℕ → ℕ → ℕ
of_rank ms r = option_map_or (λ m. m) (find (has_rank ms r) ms) 0

-- it is the only one
pub of_rank_is : (ms : List ℕ) (r m : ℕ) → In m ms → rank ms m ≡ r → of_rank ms r ≡ m
unfolding of_rank
of_rank_is ms r m i is = by (find (has_rank ms r) ms) refl
  where
    some : (xs : List ℕ) → In m xs → (find (has_rank ms r) xs ≡ None) → ⊥
    some [] j none = absurd j
    some (x ∷ xs) j none = grind (arith, some xs, eq-eqb (rank ms m) r is, ap (λ k. has_rank ms r k))

    by : (o : Option ℕ) → find (has_rank ms r) ms ≡ o → option_map_or (λ k. k) o 0 ≡ m
    by None none = absurd (some ms i none)
    by (Some k) there =
        let f = found (has_rank ms r) ms k there in
        rank_same ms k m f.0 i (eqb-true (rank ms k) r f.1 ∙ sym is)
