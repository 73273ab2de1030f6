use Rattle.cmwq_rt.proofs.Later.{later_trans}
use Rattle.cmwq_cmd_run.proofs.Interpreting.{act_next}
use Rattle.std.proofs.Common.{rules, ◌<◌, ◌∙◌, length}
use Rattle.cmwq_cmd_run.proofs.interpreter.Interpreter.act_all.Goals as goal

pub loop-k-preserved : goal.loop-k-preserved
loop-k-preserved g c =
    let inv = c.loop-k.invariant in
    let v = c.args.context.now.participant in
    let m = c.loop-k.context.participant in
    let w = c.act.new.context.participant in
    let lt : c.loop-k.k < length c.args.actions.now = search rules in (
      later_trans v m w inv.0 c.in_ok-act.ensures.later,
      c.in_ok-act.ensures.done.0,
      c.in_ok-act.ensures.item ∙ inv.2,
      act_next g.N.HubName.layout c.args.context.now.item c.loop-k.context.item c.args.actions.now c.loop-k.k _
          c.args.context.now.left_out c.loop-k.context.left_out c.act.new.context.left_out v m w lt inv.3 inv.2
          c.in_ok-act.ensures.done.1,
    )
