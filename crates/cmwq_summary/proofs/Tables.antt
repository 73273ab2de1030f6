-- What is read of a table after one of its rows changed.
use Rattle.std.proofs.Common.{◌≡◌, ℕ, ◌<◌, Bool, true, false, List, length, get_or, set, eqb, refl, sym}
use Rattle.std.proofs.Common.{get_or-set_other, get_or-set_same}
use Rattle.std.proofs.lemmas.Bool.{eqb-true, eqb-false}
use Rattle.std.specs.Prelude.{if◌then◌else◌}

pub updated : {X : Type 0} (f : X → X) (rows : List X) (j k : ℕ) (d : X) → k < length rows
    → get_or (set rows j (f (get_or rows j d))) k d ≡ (if eqb j k then f (get_or rows k d) else get_or rows k d)
updated f rows j k d h = by (eqb j k) refl
  where
    by : (b : Bool) → eqb j k ≡ b → get_or (set rows j (f (get_or rows j d))) k d
        ≡ (if b then f (get_or rows k d) else get_or rows k d)
    by true same = let here : j ≡ k = eqb-true j k same in rw here (get_or-set_same rows k (f (get_or rows k d)) d h)
    by false other = get_or-set_other rows j k (f (get_or rows j d)) d (λ e. eqb-false j k other (sym e))
