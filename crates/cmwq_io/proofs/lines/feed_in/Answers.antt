use Rattle.cmwq_io.specs.Common.{take, ap, ◌∙◌, position, take_min}
use Rattle.cmwq_io.specs.Feeds.{is_feed}
use Rattle.cmwq_io.proofs.lines.feed_in.Goals as goal

pub returns-clause-place : goal.returns-clause-place
returns-clause-place c =
    c.first_feed.ensures
    ∙ ap (position is_feed) (ap (λ n. take n c.args.bytes.now) c.min.ensures ∙ take_min 121 c.args.bytes.now)
