use Rattle.std.proofs.Common.{◌∙◌}
use Rattle.cmwq_cmd_resume.proofs.Spelled.{call_pushed, long_enough}
use Rattle.cmwq_cmd_resume.proofs.spelling.push_call.Goals as goal

pub words_of-requires : goal.words_of-requires
words_of-requires c = long_enough c.args.call c.as_bytes.result.now (c.as_bytes.ensures ∙ c.entry_line-line.ensures)

pub returns : goal.returns
returns c =
    call_pushed c.args.call _ _ _ _ c.as_bytes.result.now (c.as_bytes.ensures ∙ c.entry_line-line.ensures)
    c.in_ok-extend_from_slice.ensures.items (rw (c.words_of.ensures) at c.in_ok-extend_from_slice-2.ensures.items)
    c.in_ok-extend_from_slice-3.ensures.items
