use Rattle.std.proofs.Common.{◌∙◌, ap, arith, sym}
use Rattle.std.proofs.Common.{below_more}
use Rattle.cmwq_model.specs.Prelude.{Layout}
use Rattle.cmwq_waits.specs.HeldUp.{Scene}
use Rattle.cmwq_waits.proofs.Filling.{keep_none, next_leaves}
use Rattle.cmwq_waits.proofs.look.Look.fill.Goals as goal

pub loop-cpu-preserved : goal.loop-cpu-preserved
loop-cpu-preserved c =
    let scene = c.args.self.now in
    let many = rw (ap (λ (d : Scene). d.past) c.self.view_is) at c.number.ensures in
    below_more _ _ c.loop-cpu.invariant (
      sym c.have_all_workers.ensures ∙ c.if-have_all_workers.false,
      next_leaves scene c.scene.ensures c.args.set.now c.args.queue c.loop-cpu.cpu c.number.result c.have_all_places.result many
          c.have_all_places.ensures c.if-have_all_places.false,
    )

pub returns : goal.returns
returns c = λ _.
    let scene = c.args.self.now in
    let layout_is = ap (λ (d : Scene). d.layout) c.self.view_is in
    keep_none scene c.scene.ensures c.args.set.now c.args.queue c.loop-cpu.cpu
    (rw (← layout_is)
    (let cpus = ap (λ (s : Layout). s.cpus) c.counts-cpu-end.ensures.counts in omega (arith, cpus, c.loop-cpu-test.false)))
    c.loop-cpu.invariant
