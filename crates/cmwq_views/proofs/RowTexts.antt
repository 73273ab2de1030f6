-- Rows after one another.
use Rattle.std.proofs.Common.{◌≡◌, ℕ, zero, suc, ◌+◌, ◌-◌, ◌<◌, List, [], ◌++◌, Option, Some, None, sym, ap, ◌∙◌, subst}
use Rattle.std.proofs.Common.{arith, append-nil, append_assoc, add-one}
use native.Mathlib.Numerals.{unary_clauses}
use Rattle.std.specs.Io.KnownBytes.{Appends}
use Rattle.cmwq_io.specs.Moves.{AppendsFront}
use Rattle.std.proofs.KnownBytes.{Appends-trans}
use Rattle.cmwq_base.proofs.Fronts.{front_behind}
use Rattle.cmwq_views.specs.Page.{rows_text}

add_suc_right : (a b : ℕ) → a + suc b ≡ suc (a + b)
add_suc_right a b = omega arith

-- the rows before one, that one, and those after it
rows_split : (row : ℕ → List ℕ) (i d : ℕ)
    → (rest : List ℕ) × (rows_text row (i + 1 + d) ≡ rows_text row i ++ (row i ++ rest))
unfolding rows_text
rows_split row i zero = ([], simp unary_clauses (ap (λ l. rows_text row i ++ l) (sym (append-nil (row i)))))
rows_split row i (suc d) =
    let p = rows_split row i d in (
      p.0 ++ row (i + 1 + d),
      rw (add_suc_right (i + 1) d)
          (ap (λ l. l ++ row (i + 1 + d)) p.1 ∙ append_assoc (rows_text row i) (row i ++ p.0) (row (i + 1 + d))
          ∙ ap (λ l. rows_text row i ++ l) (append_assoc (row i) p.0 (row (i + 1 + d)))),
    )

-- a front of a row, after those before it, is a front of all
pub front_of_rows : (row : ℕ → List ℕ) (i n : ℕ) (a b c : Option (List ℕ)) → i < n → Appends a b (rows_text row i)
    → AppendsFront b c (row i) → AppendsFront a c (rows_text row n)
front_of_rows row i n a b c h p q =
    let all : i + 1 + (n - (i + 1)) ≡ n = omega arith in
    let split = rows_split row i (n - (i + 1)) in
    subst (λ k. AppendsFront a c (rows_text row k)) all
    (subst (AppendsFront a c) (sym split.1) (front_behind a b c (rows_text row i) (row i) split.0 p q))

pub one_more_row : (row : ℕ → List ℕ) (i : ℕ) (a b c : Option (List ℕ)) → Appends a b (rows_text row i)
    → Appends b c (row i) → Appends a c (rows_text row (i + 1))
unfolding rows_text
one_more_row row i a b c p q = rw add-one (Appends-trans a b c (rows_text row i) (row i) p q)

pub nothing_written : (row : ℕ → List ℕ) (a : Option (List ℕ)) → Appends a a (rows_text row 0)
unfolding rows_text
nothing_written row None = tt
nothing_written row (Some x) = sym (append-nil x)
