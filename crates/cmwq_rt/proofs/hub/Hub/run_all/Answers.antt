use Rattle.cmwq_rt.specs.Common.{ap, ◌∙◌, subst, suc, is_caller}
use Rattle.cmwq_rt.specs.Running.{IsNextStart}
use Rattle.cmwq_rt.proofs.Later.{later_trans}
use Rattle.cmwq_rt.proofs.hub.Hub.run_all.Goals as goal

pub loop-preserved : goal.loop-preserved
loop-preserved g c =
    let s = g.N.HubName.layout in
    let inv = c.loop.invariant in
    let v = c.args.participant.now in
    let started = c.loop.participant in
    let ran = c.run_in.new.participant in
    let w = c.go_on.new.participant in
    let later = later_trans started ran w c.run_in.ensures.later c.go_on.ensures.later in
    let (n, before, runs, next) = inv.4 in
    let starts = subst (λ o. IsNextStart s before o started) c.in-Some-next.is next in
    let (ended, ends, after) = c.in_ok-next-2.ensures.next in (
      inv.0,
      inv.1,
      later_trans v started w inv.2 later,
      ap is_caller later.0 ∙ inv.3,
      (
        suc n,
        ended,
        (
          before,
          started,
          ran,
          c.in-Some-next.item,
          c.loop.left_out,
          c.in_ok-of_run.of_run,
          runs,
          starts.1,
          c.in_ok-of_run.ensures.ran,
          ends,
          c.plus-left_out.ensures,
        ),
        after,
      ),
    )
