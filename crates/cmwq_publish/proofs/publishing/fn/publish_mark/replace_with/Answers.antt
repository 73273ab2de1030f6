use Rattle.std.proofs.Common.{drop}
use Rattle.cmwq_publish.proofs.Marking.{made_by, turns_by}
use Rattle.cmwq_publish.proofs.publishing.fn.publish_mark.replace_with.Goals as goal

pub publish_as-requires : goal.publish_as-requires
publish_as-requires g c next is =
    let (mark, one, follows) = c.requires in
    let x = c.args.writer.desk.shown.value in
    turns_by _ _ x next mark follows (made_by x next mark (drop c.args.writer.behind c.args.writer.log.items) one is)
