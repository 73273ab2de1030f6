use Rattle.cmwq_flush.specs.Common.{ℕ, ◌+◌, ◌↔◌, IsTrue, take, All-take}
use Rattle.std.specs.Prelude.{◌<◌}
use Rattle.cmwq_flush.specs.Colouring.{AreUnused}
use Rattle.cmwq_flush.proofs.Counts.{clear_told}
use Rattle.cmwq_flush.proofs.Recolouring.{ready_from_clear, clear_from_ready}
use Rattle.cmwq_flush.proofs.flushes.is_served_ready.Goals as goal

pub returns-clause-colours : goal.returns-clause-colours
returns-clause-colours c =
    λ rows tally is. rw c.are_clear.ensures
    (clear_told rows c.args.counts.now (take (c.args.place + 1) c.args.colours.now) tally
    (All-take (λ (c : ℕ). c < 16) (c.args.place + 1) c.args.colours.now is.below))

pub returns-clause-bound : goal.returns-clause-bound
returns-clause-bound c = λ rows tally is.
    let r = c.requires in
    let clear : IsTrue c.are_clear.result ↔ AreUnused rows (take (c.args.place + 1) c.args.colours.now) =
    rw c.are_clear.ensures
    (clear_told rows c.args.counts.now (take (c.args.place + 1) c.args.colours.now) tally
    (All-take (λ (c : ℕ). c < 16) (c.args.place + 1) c.args.colours.now is.below)) in (
      λ told. ready_from_clear c.args.colours.now c.args.served.now rows c.args.place r.few r.place r.rise is
          (clear.0 told),
      λ ended. clear.1
          (clear_from_ready c.args.colours.now c.args.served.now rows c.args.place r.few r.place r.rise is ended),
    )
