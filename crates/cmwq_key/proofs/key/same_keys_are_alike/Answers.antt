use Rattle.cmwq_key.proofs.SameKeys.{same_keys_are_alike}
use Rattle.cmwq_key.proofs.key.same_keys_are_alike.Goals as goal

pub returns : goal.returns
returns c = same_keys_are_alike
