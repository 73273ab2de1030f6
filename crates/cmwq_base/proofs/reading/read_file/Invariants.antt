use Rattle.cmwq_base.specs.Common.{◌≤◌, prepend_known}
use Rattle.cmwq_base.specs.Files.{as_front}
use Rattle.cmwq_base.specs.Stages.{stage_of}
use Rattle.cmwq_base.proofs.Progress.{Progress}
use Rattle.cmwq_base.proofs.reading.read_file.Given as goal

abbrev pub invariant-loop-number : goal.invariant-loop-number
invariant-loop-number g l =
    let left = g.S.Source.left in
    record {
      progress : Progress (as_front l.is_front g.G.Item.FileLine.kind) (left l.fn.source)
          (prepend_known l.lines (left l.source)) l.number (stage_of g.G.Gather.layout g.G.Gather.items l.stage);
      troubles : g.S.Source.troubles l.fn.source ≤ g.S.Source.troubles l.source;
    }
