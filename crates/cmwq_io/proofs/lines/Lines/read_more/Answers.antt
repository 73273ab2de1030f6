use Rattle.std.proofs.Common.{◌∙◌}
use Rattle.cmwq_io.proofs.ReadAheadLemmas.{Keeps-read}
use Rattle.cmwq_io.proofs.lines.Lines.read_more.Goals as goal

pub returns-clause-bytes : goal.returns-clause-bytes
returns-clause-bytes g c =
    let front = c.in_ok-count.ensures.front ∙ c.move_to_front-kept.ensures.moved ∙ c.self.view_is in
    Keeps-read _ _ c.args.self.now c.read_behind.new.bytes.items c.move_to_front-kept.result c.in_ok-count.count front
    c.in_ok-count.ensures.bytes.0
