-- Each reply is marked by one of the laws.
use Rattle.std.proofs.Common.{refl}
use Rattle.cmwq_model.specs.declared.reply.Reply.TheVariants as reply
use Rattle.cmwq_chart_laws.specs.Marks.{RepliesAreMarked}

pub replies_are_marked : RepliesAreMarked
replies_are_marked (reply.Started n) = refl
replies_are_marked (reply.StartedEnlist n x) = refl
replies_are_marked (reply.Finished n) = refl
replies_are_marked reply.Slept = refl
replies_are_marked reply.Woke = refl
replies_are_marked reply.Done = refl
replies_are_marked (reply.Waiting n) = refl
replies_are_marked r = refl
