use Rattle.std.proofs.Common.{◌≡◌, ◌≤◌, arith}
use Rattle.cmwq_io.proofs.Calls.{made, failed, out_of_tries}
use Rattle.cmwq_io.proofs.patient.flush_all.Goals as goal

pub returns-in-Ok-clause-calls : goal.returns-in-Ok-clause-calls
returns-in-Ok-clause-calls g c =
    let few : c.loop-flush._flush ≤ 1000 = omega (arith, c.loop-flush-test.true) in
    made _ _ _ c.loop-flush._flush few c.loop-flush.invariant.calls c.in-Ok.ensures.outcome

pub returns-in-Err-Failed-clause-calls : goal.returns-in-Err-Failed-clause-calls
returns-in-Err-Failed-clause-calls g c =
    let few : c.loop-flush._flush ≤ 1000 = omega (arith, c.loop-flush-test.true) in
    failed _ _ _ c.loop-flush._flush _ few c.in-Err-Failed.field-0-is c.loop-flush.invariant.calls
    c.in-Err-Failed.ensures.outcome

pub returns-clause-calls : goal.returns-clause-calls
returns-clause-calls g c =
    let all : c.loop-flush._flush ≡ 1001 = omega (arith, c.loop-flush-test.false, c.loop-flush.auto._flush-end) in
    out_of_tries _ _ c.loop-flush._flush all c.loop-flush.invariant.calls
