use Rattle.std.proofs.Common.{◌∙◌, ap}
use Rattle.cmwq_model.specs.Prelude.{Layout}
use Rattle.cmwq_text.specs.HistoryText.{counts_in}
use Rattle.cmwq_text.specs.ShapeText.{counts_text}
use Rattle.cmwq_cmd_resume.proofs.Spelled.{all_spelled}
use Rattle.cmwq_cmd_resume.proofs.spelling.spelled.Goals as goal

pub returns : goal.returns
returns c =
    let counts = c.as_bytes.ensures ∙ c.counts_line.ensures
    ∙ ap (λ (s : Layout). counts_text (counts_in s)) c.counts.ensures.counts in
    all_spelled c.args.version c.args.shape.now c.args.calls.now _ _ _ _ _ c.new-text.ensures.items
    c.in_ok-push_format.ensures (rw counts at c.in_ok-extend_from_slice.ensures.items)
    (rw c.queues.ensures at c.in_ok-push_queues.ensures) c.in_ok-push_calls.ensures
