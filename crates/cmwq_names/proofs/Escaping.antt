-- A name that is escaped letter by letter.
use Rattle.std.proofs.Common.{◌≡◌, ◌∙◌, ℕ, zero, suc, ◌-◌, ◌<◌, List, [], ◌∷◌, ◌++◌, length}
use Rattle.std.proofs.Common.{ap, append-nil, append_assoc, arith, drop, sym}
use Rattle.cmwq_names.specs.Escapes.{first_escaped, more_of_first}
unfoldable use Rattle.cmwq_names.specs.Escapes.{escaped_behind}
use Rattle.cmwq_names.specs.declared.form.Form.{Form}

-- a byte is of a letter that was escaped
pub skipped : (form : Form) (text old : List ℕ) (more : ℕ) → 0 < length text → 0 < more
    → old ++ escaped_behind (more - 1) form (drop 1 text) ≡ old ++ escaped_behind more form text
unfolding escaped_behind
skipped form [] old more some left = absurd (omega (arith, some))
skipped form (byte ∷ bytes) old zero some left = absurd (omega (arith, left))
skipped form (byte ∷ bytes) old (suc more) some left =
    let same : suc more - 1 ≡ more = omega arith in ap (λ n. old ++ escaped_behind n form bytes) same

-- the next letter is escaped
pub escaped_on : (form : Form) (text old new : List ℕ) → 0 < length text → new ≡ old ++ first_escaped form text
    → new ++ escaped_behind (more_of_first text) form (drop 1 text) ≡ old ++ escaped_behind 0 form text
unfolding escaped_behind
escaped_on form [] old new some added = absurd (omega (arith, some))
escaped_on form (byte ∷ bytes) old new some added =
    let text = byte ∷ bytes in
    let rest = escaped_behind (more_of_first text) form bytes in
    ap (λ l. l ++ rest) added ∙ append_assoc old (first_escaped form text) rest

-- nothing is left
pub all_escaped : (form : Form) (rest old whole : List ℕ) (more : ℕ) → length rest ≡ 0
    → old ++ escaped_behind more form rest ≡ whole → old ≡ whole
unfolding escaped_behind
all_escaped form [] old whole zero none so_far = sym (append-nil old) ∙ so_far
all_escaped form [] old whole (suc more) none so_far = sym (append-nil old) ∙ so_far
all_escaped form (byte ∷ bytes) old whole more none so_far = absurd (omega (arith, none))
