use Rattle.std.proofs.Common.{◌≡◌, Some, None, arith, false, get_or, refl, subst, sym, true}
use Rattle.std.specs.List.{list_any}
use Rattle.std.specs.Prelude.{is_some}
use Rattle.cmwq_theory_steps.proofs.ItemRuns.{same_worker_itself}
use Rattle.cmwq_dispatch.specs.Naming.{is_worker}
use Rattle.cmwq_dispatch.proofs.OneNamed.{passes_not, set_any, set_keeps}
use Rattle.cmwq_dispatch.proofs.wakes.add_worker.Goals as goal

pub returns-then-is_none-clause-added : goal.returns-then-is_none-clause-added
returns-then-is_none-clause-added c t =
    set_any (is_worker c.args.worker) c.loop-place.places c.loop-place.place (Some c.args.worker)
    (omega (arith, c.loop-place.auto.places, c.loop-place-test.true)) (same_worker_itself c.args.worker)

pub returns-then-is_none-clause-kept : goal.returns-then-is_none-clause-kept
returns-then-is_none-clause-kept c n h =
    let free : is_some (get_or c.loop-place.places c.loop-place.place None) ≡ false =
    grind (arith, c.is_none.ensures, c.if-is_none.true) in
    set_keeps (is_worker n) c.loop-place.places c.loop-place.place None (Some c.args.worker)
    (passes_not (is_worker n) _ refl free) (subst (λ ps. list_any (is_worker n) ps ≡ true)
    (sym c.loop-place.invariant) h)
