-- As many lines as entries that were looked at.
use Rattle.std.proofs.Common.{◌≡◌, ◌≤◌, length, take}
use Rattle.cmwq_text.specs.HistoryText.{entries_text}
use Rattle.cmwq_c.specs.Statuses.{IsTextWritten}
use Rattle.cmwq_c.proofs.lines.write_lines.Given as goal

abbrev pub invariant-loop-entry : goal.invariant-loop-entry
invariant-loop-entry l =
    (l.lines ≡ l.entry-index) × IsTextWritten (entries_text (take l.entry-index l.entries)) l.bytes l.fn.out l.out
    × (l.bytes ≤ length l.out) × (length l.out ≡ length l.fn.out)
