-- A line is written, or none is left.
use Rattle.std.proofs.Common.{◌≡◌, List, arith, length, subst}
use Rattle.cmwq_c.specs.BoardStatuses.{write_status}
use Rattle.cmwq_c.specs.Common.{Entry}
use Rattle.cmwq_c.proofs.Growing.{write_ok}
use Rattle.cmwq_c.proofs.lines.Lines.write.Goals as goal
use Rattle.cmwq_c.proofs.lines.Lines.write.Goals.{else-lines-eq0-via-then-lines-eq0+else-not-is_empty}
use Rattle.cmwq_c.proofs.lines.Lines.write.Goals.{else-lines-eq0-via-else-lines-eq0}

pub returns-clause-status : goal.returns-clause-status
returns-clause-status c =
    let done = c.write_lines-lines in
    let status : (done.result.lines ≡ 0 → length c.left.result.now ≡ 0)
    → 0 ≡ write_status c.args.self.now.left (length c.args.out.now) =
    λ some. subst (λ (left : List Entry). 0 ≡ write_status left (length c.args.out.now)) c.left.ensures
    (write_ok c.left.result.now done.result.lines done.result.bytes c.args.out.now done.new.out
    done.ensures.written.text done.auto.out some) in
    elim c.else-lines-eq0.branch [
      | else-lines-eq0-via-then-lines-eq0+else-not-is_empty w ↦ status (λ is.
          let again = w.left-then-lines-eq0.ensures in
          let empty = w.is_empty.ensures in
          let none = w.if-not-is_empty.false in
          let left = c.left.ensures in
          grind (arith, again, empty, none, left))
      | else-lines-eq0-via-else-lines-eq0 w ↦ status (λ is. absurd (w.if-lines-eq0.false is))
    ]
