use Rattle.std.proofs.Common.{◌≡◌, ◌≤◌, arith}
use Rattle.cmwq_io.proofs.Calls.{made, failed, out_of_tries}
use Rattle.cmwq_io.proofs.patient.read_some.Goals as goal

pub returns-in-Ok-clause-calls : goal.returns-in-Ok-clause-calls
returns-in-Ok-clause-calls g c =
    let few : c.loop-read._read ≤ 1000 = omega (arith, c.loop-read-test.true) in
    made _ _ _ c.loop-read._read few c.loop-read.invariant.calls c.in-Ok.ensures.outcome

pub returns-in-Err-Failed-clause-calls : goal.returns-in-Err-Failed-clause-calls
returns-in-Err-Failed-clause-calls g c =
    let few : c.loop-read._read ≤ 1000 = omega (arith, c.loop-read-test.true) in
    failed _ _ _ c.loop-read._read _ few c.in-Err-Failed.field-0-is c.loop-read.invariant.calls
    c.in-Err-Failed.ensures.outcome

pub returns-clause-calls : goal.returns-clause-calls
returns-clause-calls g c =
    let all : c.loop-read._read ≡ 1001 = omega (arith, c.loop-read-test.false, c.loop-read.auto._read-end) in
    out_of_tries _ _ c.loop-read._read all c.loop-read.invariant.calls
