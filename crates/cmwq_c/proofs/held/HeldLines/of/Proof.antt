-- A box taken apart is held at its pointer.
use Rattle.cmwq_c.specs.Common.{◌++◌, refl, sym, subst, Val, vptr, SProp, ent, emp, id⊢, WpFn, ‵, raw, ◌⊛◌, ◌$◌, ◌∵◌, ! }
use Rattle.cmwq_c.specs.Common.{qed, by, move, keep, split, fsplit, fjoin, suffices, use0, stop, fld, of_opd, no_more}
use Rattle.cmwq_c.specs.Common.{and_then, returns, enter, alloc_all, pass_all, free_all, look_at, get, get_in, sets}
use Rattle.cmwq_c.specs.Common.{agg, sub, whole, fact, fact_i, tables, yes, RattleType, owns, block_ptr, types_at}
use Rattle.cmwq_c.specs.Common.{plain, nothing, alive, Stays, stay_dropped, walk_of, Goes-dropped, proved_at, leaves}
use mathlib.Core.Bool.{true}
use Rattle.std.proofs.Common.{◌≡◌, List, [], ◌∷◌}
use Rattle.std_heap.specs.contracts.Global as global
use Rattle.std_heap.specs.contracts.GlobalAllocator.TheImpl as impl
use Rattle.std_heap.proofs.Global.TheLaws as laws
use Rattle.cmwq_c.specs.contracts.lines.Lines as lines
use Rattle.cmwq_c.specs.contracts.held.HeldLines as held
use Rattle.cmwq_c.proofs.ApartValues.{both, Apart, apart_good, apart_out}
use Rattle.cmwq_c.proofs.HeldValues.{held_of, HeldLines, held_made_lines}
use Rattle.cmwq_c.specs.contracts.held.HeldLines.of.{ended, clauses}
use Rattle.cmwq_c.specs.contracts.held.HeldLines.of.Key.{name as #self}
use Rattle.cmwq_c.proofs.held.HeldLines.of.Statement.{statement}
use Rattle.cmwq_c.proofs.held.HeldLines.of.Code as code

pub of_spec : {M : Type 1} → statement M
of_spec 𝓤 𝓛 𝓜 𝓡 wired =
    let H = 𝓛.H in let 𝓣 = tables 𝓤 H 𝓜 𝓡 𝓡.env in let En = ended in let c = clauses 𝓛 𝓜.mem 𝓡.returns in let fn =
    code.function in
    let R : RattleType = lines.the_row in let Z : RattleType = global.the_row in let LZ = laws.the_row_laws in let g =
    impl.ghosts in
    let hs : Stays En.signature.params En.kept = (stay_dropped (plain (λ _. Apart R Z LZ g)) yes, tt) in
    proved_at 𝓛 En hs c 𝓜 𝓡 (Goes-dropped 𝓛 0 (plain (λ _. Apart R Z LZ g)) yes (λ κs x f. refl), tt) #self fn
    (code.unfolded 𝓤 H 𝓜 𝓡 wired) (λ z are.
    let κs = z.0.0 in let qs = z.0.1 in let v = z.0.3.0 in let Post : Val → SProp 𝓤 = (walk_of 𝓛 En hs c).post z in
    let Run : List Val → SProp 𝓤 = λ ws. WpFn 𝓤 H 𝓣.C 𝓣.Λ fn ws Post in
    qed 𝓛 ((raw (alive 𝓛 En.signature κs qs) ⊛ ‵ (owns (types_at En.signature.params κs) z.0.3 z.0.4))
    ∷ raw ((c κs z.0.3).requires z.1) ∷ []) ∵
    split ! $ move ! (1 ∷ []) $ fsplit ! $ apart_out R Z LZ g ! v z.0.4.0 (λ b o h e ws fits.
    let w : Val = both (vptr b o) h in let r : (held.the_row).Denot =
    record { at = block_ptr b o; full = true; lines = v.value } in let Told : Type 0 =
    (true ≡ true) × (v.value ≡ v.value) in
    suffices ! (Run (w ∷ []))
    (subst (λ (us : List Val). ent 𝓤 (Run (w ∷ [])) (Run us)) (sym (λ i. ws i ++ [])) (id⊢ 𝓤 (Run (w ∷ [])))) $
    enter ! 𝓣.C 𝓣.Λ fn (w ∷ []) Post $ alloc_all ! (λ l. pass_all ! refl (apart_good R Z LZ g b o h fits, tt) $
    sets ! (of_opd ! (get_in ! (fld ! refl (stop !)) (sub ! 0 refl (whole !)))) refl (tt, tt) $ sets !
    (of_opd ! (get ! refl)) refl (tt, tt) $
    sets ! (agg ! (and_then ! (get ! refl) (no_more !))) refl (tt, (tt, tt)) $
    use0 𝓛 (‵ (HeldLines.own_val (block_ptr b o, tt) (held_of (block_ptr b o) ∷ [])))
    (held_made_lines 𝓛 (block_ptr b o)) $ fjoin ! $
    use0 𝓛 (raw (fact 𝓤 Told)) (fact_i 𝓤 Told (emp 𝓤) (refl, refl)) $ nothing ! $ nothing ! $ fjoin ! $
    returns ! (look_at ! 0 refl) $ free_all ! refl $ keep ! (5 ∷ 0 ∷ 2 ∷ 1 ∷ []) $ by !
    (leaves 𝓛 En hs c z (held_of (block_ptr b o)) r (tt, tt) (tt, tt)))))
