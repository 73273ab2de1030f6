use Rattle.std.proofs.Common.{arith}
use Rattle.cmwq_json.proofs.Adding.{name_taken, name_added}
use Rattle.cmwq_json.proofs.names.Members.add.Goals as goal

pub returns-then-not-is_new : goal.returns-then-not-is_new
returns-then-not-is_new g c =
    name_taken c.args.self.now.names.keys c.args.self.now.values.items c.in_ok-from_str.field-0 c.args.name.now
    c.args.value c.args.most c.in_ok-is_new.is_new c.in_ok-from_str.ensures.ok c.if-not-is_new.true
    c.in_ok-is_new.ensures.added

pub returns : goal.returns
returns g c =
    name_added c.args.self.now.names.keys c.insert.new.self.keys c.args.self.now.values.items c.push.new.self.items
    c.in_ok-from_str.field-0 c.args.name.now c.args.value c.args.most c.in_ok-is_new.is_new
    c.in_ok-from_str.ensures.ok
    (omega (arith, c.len.ensures.len, c.if-len-most.false)) c.if-not-is_new.false c.in_ok-is_new.ensures.added
    c.in_ok-is_new.ensures.keys c.in_ok-push.ensures.items
