-- What is held is a box taken apart.
use Rattle.cmwq_c.specs.Common.{◌++◌, refl, sym, ap, subst, ◌∙◌, Val, vptr, tnil, dnil, SProp, ent, emp, id⊢, never}
use Rattle.cmwq_c.specs.Common.{fst∗, WpFn, sem, ‵, raw, ◌⊛◌, ◌$◌, ◌∵◌, !, qed, by, move, keep, split, fsplit, fsplit3}
use Rattle.cmwq_c.specs.Common.{fjoin, suffices, use0, rewrite, stop, fld, of_opd, no_more, and_then, returns, enter}
use Rattle.cmwq_c.specs.Common.{alloc_all, pass_all, free_all, look_at, get, get_in, sets, agg, sub, whole, fact}
use Rattle.cmwq_c.specs.Common.{fact_i, tables, yes, lone, RattleType, owns, Ptr, block_ptr, null_ptr, in_a_block}
use Rattle.cmwq_c.specs.Common.{types_at, plain, nothing, heard, alive, Stays, stay_dropped, walk_of, Goes-dropped, Al}
use Rattle.cmwq_c.specs.Common.{handle_tells, proved_at, leaves, box_owns}
use types.Kit.{drop}
use mathlib.Core.Bool.{Bool, true}
use Rattle.std.proofs.Common.{◌≡◌, List, [], ◌∷◌}
use mir.Raw.{raw as bare}
use mir.Syntax.{impl as no_impl}
use Rattle.std_heap.specs.contracts.Global as global
use Rattle.std_heap.specs.contracts.GlobalAllocator.TheImpl as impl
use Rattle.std_heap.proofs.Global.TheLaws as laws
use Rattle.cmwq_c.specs.contracts.board_session.BoardSession as board
use Rattle.cmwq_c.specs.Owned.{chunk, owns_board}
use Rattle.cmwq_c.specs.contracts.held.HeldBoard as Held
use Rattle.cmwq_c.proofs.ApartValues.{both, apart_good, apart_in}
use Rattle.cmwq_c.proofs.HeldValues.{held_of, held_good, held_told_board}
use Rattle.cmwq_c.specs.contracts.held.HeldBoard.into_apart.{ended, clauses}
use Rattle.cmwq_c.specs.contracts.held.HeldBoard.into_apart.Key.{name as #self}
use Rattle.cmwq_c.proofs.held.HeldBoard.into_apart.Statement.{statement}
use Rattle.cmwq_c.proofs.held.HeldBoard.into_apart.Code as code

pub into_apart_spec : {M : Type 1} → statement M
into_apart_spec 𝓤 𝓛 𝓜 𝓡 wired =
    let H = 𝓛.H in let 𝓣 = tables 𝓤 H 𝓜 𝓡 𝓡.env in let En = ended in let c = clauses 𝓛 𝓜.mem 𝓡.returns in let fn =
    code.function in
    let R : RattleType = board.the_row in let Z : RattleType = global.the_row in let LZ = laws.the_row_laws in let g =
    impl.ghosts in
    let al : Al = record { row = Z; laws = LZ; g = g; d = no_impl [] tnil dnil; drops = no_impl [] tnil dnil } in
    let hs : Stays En.signature.params En.kept =
    (stay_dropped (plain (λ _. Held.the_row)) yes, (stay_dropped (plain (λ _. Z)) yes, tt)) in
    proved_at 𝓛 En hs c 𝓜 𝓡 (
      Goes-dropped 𝓛 0 (plain (λ _. Held.the_row)) yes (λ κs x f. refl),
      (Goes-dropped 𝓛 0 (plain (λ _. Z)) yes (λ κs x f. refl), tt),
    ) #self fn (code.unfolded 𝓤 H 𝓜 𝓡 wired) (λ z are.
    let κs = z.0.0 in let qs = z.0.1 in let v = z.0.3.0 in let a = z.0.3.1.0 in let Post : Val → SProp 𝓤 =
    (walk_of 𝓛 En hs c).post z in let Run : List Val → SProp 𝓤 = λ ws. WpFn 𝓤 H 𝓣.C 𝓣.Λ fn ws Post in
    qed 𝓛 ((raw (alive 𝓛 En.signature κs qs) ⊛ ‵ (owns (types_at En.signature.params κs) z.0.3 z.0.4))
    ∷ raw (fact 𝓤 (v.full ≡ true)) ∷ []) ∵
    move ! (1 ∷ []) $ heard ! (v.full ≡ true)
    (λ full. split ! $ move ! (1 ∷ []) $ fsplit3 ! $ move ! (1 ∷ []) $ handle_tells al ! a z.0.4.1.0
    (λ h ea fits. move ! (1 ∷ []) $ fsplit ! $ drop ! $
    rewrite ! 0 (λ (x : Bool). ‵ (owns_board x v.at v.board)) full refl $
    in_a_block ! v.at (λ p. box_owns chunk R p v.board) (fst∗ 𝓤 (never 𝓤) (sem 𝓛 (chunk (bare (lone R.mir)) null_ptr)))
    (λ b o e.
    let w : Val = held_of (block_ptr b o) in let us : List Val = w ∷ h ∷ [] in
    let ew : z.0.4.0 ≡ w ∷ [] = held_told_board v.at z.0.4.0 are.0.0 ∙ ap (λ (p : Ptr). held_of p ∷ []) e in
    suffices ! (Run us)
    (subst (λ (ws : List Val). ent 𝓤 (Run us) (Run ws)) (sym (λ i. ew i ++ (ea i ++ []))) (id⊢ 𝓤 (Run us))) $
    enter ! 𝓣.C 𝓣.Λ fn us Post $ alloc_all ! (λ l. pass_all ! refl (held_good (block_ptr b o), (fits, tt)) $
    sets ! (of_opd ! (get_in ! (fld ! refl (stop !)) (sub ! 0 refl (whole !)))) refl (tt, tt) $ sets !
    (of_opd ! (get ! refl)) refl (tt, tt) $
    sets ! (agg ! (and_then ! (get ! refl) (and_then ! (get ! refl) (no_more !)))) refl (apart_good R Z LZ g b o h fits)
    $
    apart_in R Z LZ g ! b o h a v.board $
    use0 𝓛 (raw (fact 𝓤 (v.board ≡ v.board))) (fact_i 𝓤 (v.board ≡ v.board) (emp 𝓤) refl) $ nothing ! $ nothing ! $
    fjoin ! $ nothing ! $ fjoin ! $
    returns ! (look_at ! 0 refl) $ free_all ! refl $ keep ! (4 ∷ 0 ∷ 2 ∷ 1 ∷ []) $ by !
    (leaves 𝓛 En hs c z (both (vptr b o) h) (record { at = block_ptr b o; alloc = a; value = v.board })
    (tt, (tt, tt)) (tt, (tt, tt))))))))
