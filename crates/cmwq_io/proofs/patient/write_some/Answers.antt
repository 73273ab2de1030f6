use Rattle.std.proofs.Common.{◌≡◌, ◌≤◌, arith}
use Rattle.cmwq_io.proofs.Calls.{made, failed, out_of_tries}
use Rattle.cmwq_io.proofs.patient.write_some.Goals as goal

pub returns-in-Ok-clause-calls : goal.returns-in-Ok-clause-calls
returns-in-Ok-clause-calls g c =
    let few : c.loop-write._write ≤ 1000 = omega (arith, c.loop-write-test.true) in
    made _ _ _ c.loop-write._write few c.loop-write.invariant.calls c.in-Ok.ensures.outcome

pub returns-in-Err-Failed-clause-calls : goal.returns-in-Err-Failed-clause-calls
returns-in-Err-Failed-clause-calls g c =
    let few : c.loop-write._write ≤ 1000 = omega (arith, c.loop-write-test.true) in
    failed _ _ _ c.loop-write._write _ few c.in-Err-Failed.field-0-is c.loop-write.invariant.calls
    c.in-Err-Failed.ensures.outcome

pub returns-clause-calls : goal.returns-clause-calls
returns-clause-calls g c =
    let all : c.loop-write._write ≡ 1001 = omega (arith, c.loop-write-test.false, c.loop-write.auto._write-end) in
    out_of_tries _ _ c.loop-write._write all c.loop-write.invariant.calls
