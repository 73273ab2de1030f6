use Rattle.cmwq_cmd_history.specs.Common.{◌≡◌, ◌⊎◌, ◌≤◌, prepend_known, stage_of}
use Rattle.cmwq_cmd_history.proofs.Living.{Living}
use Rattle.cmwq_cmd_history.proofs.live.answer_lines.Given as goal

abbrev pub invariant-loop-number : goal.invariant-loop-number
invariant-loop-number g l =
    let left = g.S.Source.left in
    let written = g.O.Sink.written in
    record {
      living : Living (left l.fn.input) (prepend_known l.lines (left l.input)) l.number
          (stage_of (λ s. s.layout) (λ s. s.calls) l.stage) (written l.fn.output) (written l.output);
      flushed : (g.O.Sink.held l.output ≡ 0) ⊎ (l.output ≡ l.fn.output);
      reads : g.S.Source.troubles l.fn.input ≤ g.S.Source.troubles l.input;
      writes : g.O.Sink.troubles l.fn.output ≤ g.O.Sink.troubles l.output;
    }
