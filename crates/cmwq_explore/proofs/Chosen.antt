-- One move more of those that a seed chooses, and one more who may move.
use Rattle.std.proofs.Common.{ℕ, zero, suc, ◌≡◌, ◌<◌, true, false, List, [], ◌∷◌, length, ◌==◌, Bool, refl}
use Rattle.std.proofs.Common.{sym, ap, ◌∙◌, arith}
use Rattle.std.proofs.lemmas.Bool.{eqb-true}
use Rattle.cmwq_play.specs.Stands.{Stand, moved, movers_of}
use Rattle.cmwq_explore.specs.Chances.{after_draw, chosen, chosen_by}

-- ---- moves of which so many are to be made

-- none
pub chosen_none : (s : ℕ) (p : Stand) → chosen_by 0 s p ≡ []
unfolding chosen_by
chosen_none s p = refl

-- nobody may move
pub chosen_end : (n s : ℕ) (p : Stand) (movers : List ℕ) → movers ≡ movers_of p → length movers ≡ 0
    → chosen_by n s p ≡ []
unfolding chosen_by
chosen_end zero s p movers all none = refl
chosen_end (suc n) s p movers all none =
    let empty : length (movers_of p) ≡ 0 = ap length (sym all) ∙ none in
    rw empty refl

-- one more is chosen
pub chosen_more : (n s : ℕ) (p : Stand) (movers : List ℕ) (party : ℕ) → movers ≡ movers_of p → 0 < length movers
    → party ≡ chosen s movers → chosen_by (suc n) s p ≡ party ∷ chosen_by n (after_draw s) (moved p party)
unfolding chosen_by
chosen_more n s p movers party all some is = here (length (movers_of p) == 0) refl
  where
    same : length (movers_of p) ≡ length movers
    same = ap length (sym all)

    chose : chosen s (movers_of p) ≡ party
    chose = ap (chosen s) (sym all) ∙ sym is

    here : (b : Bool) → (length (movers_of p) == 0) ≡ b
        → chosen_by (suc n) s p ≡ party ∷ chosen_by n (after_draw s) (moved p party)
    here true none = absurd (let no = eqb-true (length (movers_of p)) 0 none in omega (arith, some, same))
    here false not = rw (not, chose) refl
