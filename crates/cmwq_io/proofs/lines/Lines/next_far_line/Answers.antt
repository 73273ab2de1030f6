use Rattle.cmwq_io.specs.Common.{arith, err_from_is_err_and}
use Rattle.std.proofs.KnownBytes.{Keeps-trans}
use Rattle.cmwq_io.proofs.Calls.{made_on, given_up_on}
use Rattle.cmwq_io.proofs.lines.Lines.next_far_line.Goals as goal

pub returns-in_err-read_more-clause-calls : goal.returns-in_err-read_more-clause-calls
returns-in_err-read_more-clause-calls g c =
    let p = err_from_is_err_and c.from_residual.result c.from_residual.ensures.1 in
    rw (p.1) (given_up_on _ _ _ c.loop-self.invariant.calls c.in_err-read_more.ensures.calls)

pub returns-then-not-branch-clause-calls : goal.returns-then-not-branch-clause-calls
returns-then-not-branch-clause-calls g c = made_on _ _ _ c.loop-self.invariant.calls c.in_ok-read_more.ensures.calls

pub loop-self-preserved : goal.loop-self-preserved
loop-self-preserved g c =
    let before = c.loop-self.invariant in
    record {
      kept = Keeps-trans _ _ _ before.kept c.in_ok-read_more.ensures.bytes;
      grown = omega (arith, before.grown, c.in_ok-read_more.ensures.grown);
      calls = made_on _ _ _ before.calls c.in_ok-read_more.ensures.calls;
    }
