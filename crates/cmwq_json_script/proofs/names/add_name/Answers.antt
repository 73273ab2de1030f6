use Rattle.std.proofs.Common.{arith}
use Rattle.cmwq_json_script.proofs.Naming.{name_kept_once}
use Rattle.cmwq_json_script.proofs.names.add_name.Goals as goal

pub returns-in_ok-insert : goal.returns-in_ok-insert
returns-in_ok-insert c =
    name_kept_once c.args.most c.args.names.now.keys c.insert.new.self.keys c.in_ok-from_str.field-0 c.in-Some.name.now
    _ c.in_ok-from_str.ensures.ok
    (omega (arith, c.len.ensures.len, c.if-len-most.true)) c.in_ok-insert.ensures.keys c.in-Some.ensures
