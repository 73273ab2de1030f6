-- One more line is written.
use Rattle.std.proofs.Common.{◌≡◌, ◌+◌, ◌-◌, ap, arith, length, length-drop, length-take, ◌∙◌, drop}
use borrow.Rule.Slice.PartMut.{put_mid, same_len_mid}
use Rattle.cmwq_c.proofs.Growing.{line_more}
use Rattle.cmwq_c.proofs.lines.write_lines.Goals as goal

pub loop-entry-preserved : goal.loop-entry-preserved
loop-entry-preserved c =
    let l = c.loop-entry in
    let k = l.bytes in
    let out = l.out in
    let new = c.put.new.out in
    let written = c.in-Some.ensures.written in
    let same : length (put_mid k (length out - k) out new) ≡ length out =
    same_len_mid k (length out - k) out new c.put.auto.out in
    let held = c.in-Some.ensures.fits in
    let count = written.count in
    let within = l.invariant.2 in
    let front = length-take (length out - k) (drop k out) in
    let rest = length-drop k out in (
      ap (λ n. n + 1) l.invariant.0,
      line_more c.args.entries.now _ l.entry-index k c.in-Some.more c.as_bytes.result.now c.args.out.now out new
          l.invariant.1 within c.loop-entry-test.true (c.as_bytes.ensures ∙ c.entry_line.ensures) written,
      omega (arith, same, held, count, within, front, rest),
      same ∙ l.invariant.3,
    )
