use Rattle.cmwq_key.proofs.AlikeItself.{alike_are_stands, each_is_alike}
use Rattle.cmwq_key.proofs.alike.stands_are_alike_to_themselves.Goals as goal

pub returns : goal.returns
returns c = assumption (each_is_alike, alike_are_stands)
