use Rattle.std.proofs.Common.{◌≡◌, Some, None, arith, false, get_or, refl, subst, sym, true}
use Rattle.std.specs.List.{list_any}
use Rattle.std.specs.Prelude.{is_some}
use Rattle.std.proofs.lemmas.Bool.{eq-eqb}
use Rattle.cmwq_dispatch.specs.Naming.{is_caller}
use Rattle.cmwq_dispatch.proofs.OneNamed.{passes_not, set_any, set_keeps}
use Rattle.cmwq_dispatch.proofs.wakes.add_caller.Goals as goal

pub returns-then-is_none-clause-added : goal.returns-then-is_none-clause-added
returns-then-is_none-clause-added c t =
    set_any (is_caller c.args.caller.0) c.loop-place.places c.loop-place.place (Some c.args.caller)
    (omega (arith, c.loop-place.auto.places, c.loop-place-test.true)) (eq-eqb c.args.caller.0 c.args.caller.0 refl)

pub returns-then-is_none-clause-kept : goal.returns-then-is_none-clause-kept
returns-then-is_none-clause-kept c n h =
    let free : is_some (get_or c.loop-place.places c.loop-place.place None) ≡ false =
    grind (arith, c.is_none.ensures, c.if-is_none.true) in
    set_keeps (is_caller n) c.loop-place.places c.loop-place.place None (Some c.args.caller)
    (passes_not (is_caller n) _ refl free) (subst (λ ps. list_any (is_caller n) ps ≡ true)
    (sym c.loop-place.invariant) h)
