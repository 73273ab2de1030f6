use Rattle.std.proofs.Common.{refl, sym, ◌∙◌}
use Rattle.cmwq_base.proofs.UsualSteps.{usual_adds}
use Rattle.cmwq_base.proofs.stage.add_usual.Goals as goal

pub returns-in_ok-take-in-Some : goal.returns-in_ok-take-in-Some
returns-in_ok-take-in-Some g c =
    usual_adds g.G.Item.FileLine.kind c.args.version (g.G.Gather.layout c.args.all.now) (g.G.Gather.layout c.take.new.self)
    (g.G.Gather.items c.args.all.now) (g.G.Gather.items c.take.new.self) c.args.bytes.now c.in-Some.left.now
    c.in-Some.item _ (rw c.in-Some.is at c.read_usual.ensures)
    (sym (rw c.shape.ensures at c.fits.ensures) ∙ c.if-fits.true) c.requires.room c.in_ok-take-in-Some.ensures.shape
    c.in_ok-take-in-Some.ensures.item refl
