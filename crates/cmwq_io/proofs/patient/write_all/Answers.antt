use Rattle.cmwq_io.specs.Common.{ℕ, ◌+◌, ◌-◌, ◌≤◌, List, length, take, drop, length-drop, arith, take_rest}
use Rattle.cmwq_io.specs.Common.{err_from_is_err_and}
use Rattle.cmwq_io.proofs.Calls.{made_on, given_up_on}
use Rattle.cmwq_io.proofs.KnownBytes.{Appends-more}
use Rattle.cmwq_io.proofs.patient.write_all.Goals as goal

within_rest : (bs : List ℕ) (d n : ℕ) → d ≤ length bs → n ≤ length (take (length bs - d) (drop d bs))
    → d + n ≤ length bs
within_rest bs d n done more = let left = rw (take_rest, length-drop) at more in omega arith

pub loop-done-preserved : goal.loop-done-preserved
loop-done-preserved g c =
    let before = c.loop-done.invariant in
    let part = c.in_ok-done.ensures.bound in
    let count = c.in_ok-done.ensures.count in
    record {
      within = within_rest c.args.bytes.now c.loop-done.done c.in_ok-done.field-0 before.within part.within;
      bytes = Appends-more _ _ _ c.args.bytes.now c.loop-done.done c.in_ok-done.field-0 before.bytes
          c.in_ok-done.ensures.bytes;
      grown = omega (arith, before.grown, count.grown);
      calls = made_on _ _ _ before.calls c.in_ok-done.ensures.calls;
    }

pub returns-in_err-done-clause-calls : goal.returns-in_err-done-clause-calls
returns-in_err-done-clause-calls g c =
    let p = err_from_is_err_and c.from_residual.result c.from_residual.ensures.1 in
    rw (p.1) (given_up_on _ _ _ c.loop-done.invariant.calls c.in_err-done.ensures.calls)
