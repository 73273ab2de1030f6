use Rattle.std.proofs.Common.{◌∙◌, ap, sym}
use Rattle.std.specs.Prelude.{◌||◌}
use Rattle.std.specs.List.{list_any}
use Rattle.cmwq_waits.specs.Looks.{holds_unstarted}
use Rattle.cmwq_waits.proofs.Held.{held_in_parts}
use Rattle.cmwq_waits.proofs.look.Look.is_held_up.Goals as goal

pub returns-then-awaits_one : goal.returns-then-awaits_one
returns-then-awaits_one c =
    let scene = c.args.self.now in let set = c.args.set.now in let t = c.args.ticket in
    sym
    (held_in_parts scene c.scene.ensures set c.requires.seen t
    ∙ ap (λ b. b || list_any (holds_unstarted scene set t) scene.opened)
    (sym c.awaits_one.ensures ∙ c.if-awaits_one.true)
    ∙ sym c.if-awaits_one.true)

pub returns-else-awaits_one : goal.returns-else-awaits_one
returns-else-awaits_one c =
    let scene = c.args.self.now in let set = c.args.set.now in let t = c.args.ticket in
    c.holds_unstarted.ensures
    ∙ sym
    (held_in_parts scene c.scene.ensures set c.requires.seen t
    ∙ ap (λ b. b || list_any (holds_unstarted scene set t) scene.opened)
    (sym c.awaits_one.ensures ∙ c.if-awaits_one.false))
