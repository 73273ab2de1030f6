use Rattle.std.proofs.lemmas.Slice.{put_mid-rotated}
use Rattle.std.proofs.Common.{arith, ◌-◌}
use Rattle.cmwq_flush.proofs.flushes.free_colour.Goals as goal

pub returns : goal.returns
returns c =
    put_mid-rotated c.args.place (16 - c.args.place) c.args.colours.now _ 0 (omega arith) (omega arith)
    c.rotate_left.ensures.after
