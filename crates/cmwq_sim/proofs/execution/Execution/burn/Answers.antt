use Rattle.cmwq_sim.specs.Common.{◌≡◌, length, refl, sym, subst, arith, with_items_is}
use Rattle.std.specs.Vec.{with_items}
use Rattle.cmwq_sim.specs.Plan.{plan_of}
use Rattle.cmwq_sim.specs.Standing.{LessFirst}
use Rattle.cmwq_sim.proofs.Executions.{burns, as_many}
use Rattle.cmwq_sim.proofs.execution.Execution.burn.Goals as goal

pub returns : goal.returns
returns c =
    let less : LessFirst c.args.self.now.cpu.items c.burn_first.new.cpu =
    subst (λ xs. LessFirst xs c.burn_first.new.cpu) c.as_mut_slice.ensures.value c.burn_first.ensures in
    let many = as_many c.args.self.now.cpu.items c.burn_first.new.cpu less in
    let long : length c.burn_first.new.cpu ≡ c.args.self.now.cpu.len = omega (arith, c.args.self.now.cpu.ok.0) in
    burns (plan_of c.args.scenario.now) c.args.self.now
    (record {
      book = c.args.self.now.book;
      cpu = with_items c.args.self.now.cpu c.burn_first.new.cpu;
      sleeping =
          c.args.self.now.sleeping;
      slots = c.args.self.now.slots;
      lines = c.args.self.now.lines;
    })
    c.requires.stands refl refl refl refl
    (subst (LessFirst c.args.self.now.cpu.items) (sym (with_items_is c.args.self.now.cpu c.burn_first.new.cpu long))
    less)
