use Rattle.cmwq_replay.proofs.Ends.{ends_done}
use Rattle.cmwq_replay.proofs.replay.replay.Goals as goal

pub returns-clause-ends : goal.returns-clause-ends
returns-clause-ends g c =
    let table = c.in_ok-table.ensures.table in
    let whole = rw (c.as_str.ensures.value, table.2) at c.in_ok-write_text.ensures.ok in
    ends_done _ _ _ _ table.0 c.in_ok-value.ensures.value table.1 whole
