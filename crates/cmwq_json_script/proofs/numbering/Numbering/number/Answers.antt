use Rattle.std.proofs.Common.{arith}
use Rattle.cmwq_json_script.proofs.Numbers.{number_made}
use Rattle.cmwq_json_script.proofs.numbering.Numbering.number.Goals as goal

pub returns : goal.returns
returns c =
    rw (← c.self.view_is)
    (number_made c.self.inside.names.keys c.insert.new.self.keys c.in_ok-from_str.field-0 c.args.name.now
    c.len-number.result c.in_ok-from_str.ensures.ok
    c.len-number.ensures.len (omega (arith, c.len-number.ensures.len, c.if-number-ge-MOST_NAMES.false))
    c.in_ok-insert.ensures.keys c.in_default.ensures.number)
