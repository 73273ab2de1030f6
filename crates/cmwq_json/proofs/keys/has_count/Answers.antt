use Rattle.cmwq_json.specs.Common.{as_object, view}
use Rattle.cmwq_json.proofs.Arrays.{counted_object}
use Rattle.cmwq_json.proofs.keys.has_count.Goals as goal

pub returns-in-Some : goal.returns-in-Some
returns-in-Some c = counted_object (as_object (view c.args.value.now)) c.in-Some.found c.args.count c.in-Some.ensures
