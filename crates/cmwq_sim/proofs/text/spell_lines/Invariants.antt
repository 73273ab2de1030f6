use Rattle.std.proofs.Common.{◌≡◌, map, take, string_bytes}
use Rattle.cmwq_sim.specs.Plan.{event_of}
use Rattle.cmwq_sim.specs.Text.{lines_text}
use Rattle.cmwq_sim.proofs.text.spell_lines.Given as goal

abbrev pub invariant-loop-line : goal.invariant-loop-line
invariant-loop-line l =
    string_bytes l.text ≡ lines_text (map string_bytes l.names) (map event_of (take l.line-index l.lines))
