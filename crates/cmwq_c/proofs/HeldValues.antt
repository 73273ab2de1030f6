-- The machine values of what is held: of a `Held`, a `HeldBoard` and `HeldLines`. Assumes `Logic`.
use Rattle.cmwq_c.specs.Common.{◌++◌, refl, ap, ◌∙◌, Ura, ty_ptr, ty_struct, tcons, tnil, Val, vstruct, vcons, vnil}
use Rattle.cmwq_c.specs.Common.{of_list, has_ty, WT, ent, emp, Logic, sem, RattleType, Ptr, block_ptr, null_ptr}
use Rattle.cmwq_c.specs.Common.{ptr_val, Struct, shape}
use Rattle.std.proofs.Common.{T, ◌≡◌, List, [], ◌∷◌}
use denote.Laws.{Is}
use denote.Shadow.{makes_shadow}
use Rattle.cmwq_c.specs.contracts.held.Held as held
use Rattle.cmwq_c.specs.contracts.held.HeldBoard as board
use Rattle.cmwq_c.specs.contracts.held.HeldLines as lines

abbrev pub held_of : Ptr → Val
held_of p = vstruct (vcons (ptr_val p) vnil)

pub held_good : (p : Ptr) → T (has_ty (ty_struct [] (tcons ty_ptr tnil)) (held_of p)) × WT (held_of p)
held_good (block_ptr b o) = (tt, (tt, tt))
held_good null_ptr = (tt, (record { fits = lib.Dec.lit< tt }, tt))

abbrev pub Data : RattleType
Data = Struct (shape held.the_type)

pub held_told : (p : Ptr) (vs : List Val) → Is Data (p, tt) vs → vs ≡ held_of p ∷ []
held_told p vs is = is.1.0 ∙ ap (λ (ws : List Val). vstruct (of_list (ws ++ [])) ∷ []) is.1.1.0

pub held_made : {M : Type 1} {𝓤 : Ura M} (𝓛 : Logic 𝓤) (p : Ptr)
    → ent 𝓤 (emp 𝓤) (sem 𝓛 (Data.own_val (p, tt) (held_of p ∷ [])))
held_made 𝓛 p =
    makes_shadow 𝓛 (Data.own_val (p, tt) (held_of p ∷ [])) (λ vss. (tt, (tt, tt)))
    ((ptr_val p ∷ [], tt), (refl, (refl, tt)))

abbrev pub HeldBoard : RattleType
HeldBoard = Struct (shape board.the_type)

pub held_told_board : (p : Ptr) (vs : List Val) → Is HeldBoard (p, tt) vs → vs ≡ held_of p ∷ []
held_told_board p vs is = is.1.0 ∙ ap (λ (ws : List Val). vstruct (of_list (ws ++ [])) ∷ []) is.1.1.0

pub held_made_board : {M : Type 1} {𝓤 : Ura M} (𝓛 : Logic 𝓤) (p : Ptr)
    → ent 𝓤 (emp 𝓤) (sem 𝓛 (HeldBoard.own_val (p, tt) (held_of p ∷ [])))
held_made_board 𝓛 p =
    makes_shadow 𝓛 (HeldBoard.own_val (p, tt) (held_of p ∷ [])) (λ vss. (tt, (tt, tt)))
    ((ptr_val p ∷ [], tt), (refl, (refl, tt)))

abbrev pub HeldLines : RattleType
HeldLines = Struct (shape lines.the_type)

pub held_told_lines : (p : Ptr) (vs : List Val) → Is HeldLines (p, tt) vs → vs ≡ held_of p ∷ []
held_told_lines p vs is = is.1.0 ∙ ap (λ (ws : List Val). vstruct (of_list (ws ++ [])) ∷ []) is.1.1.0

pub held_made_lines : {M : Type 1} {𝓤 : Ura M} (𝓛 : Logic 𝓤) (p : Ptr)
    → ent 𝓤 (emp 𝓤) (sem 𝓛 (HeldLines.own_val (p, tt) (held_of p ∷ [])))
held_made_lines 𝓛 p =
    makes_shadow 𝓛 (HeldLines.own_val (p, tt) (held_of p ∷ [])) (λ vss. (tt, (tt, tt)))
    ((ptr_val p ∷ [], tt), (refl, (refl, tt)))
