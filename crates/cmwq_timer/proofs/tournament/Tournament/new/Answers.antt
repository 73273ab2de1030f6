use Rattle.std.proofs.Common.{arith, rules}
use Rattle.cmwq_timer.proofs.Levels.{none_levels}
use Rattle.cmwq_timer.proofs.tournament.Tournament.new.Goals as goal

pub invariant_of-result : goal.invariant_of-result
invariant_of-result c =
    let lows = c.div_ceil-low.ensures in let middles = c.div_ceil-middle.ensures in let highs =
    c.div_ceil-high.ensures in
    let items = c.from-items.ensures in
    rw (
      c.in_ok-vec.ensures.items_if_clones_equal (λ a h. search rules),
      c.in_ok-vec-2.ensures.items_if_clones_equal (λ a h. search rules),
      c.in_ok-vec-3.ensures.items_if_clones_equal (λ a h. search rules),
      c.in_ok-vec-4.ensures.items_if_clones_equal (λ a h. search rules),
    ) (
      search rules,
      none_levels c.from-items.result c.div_ceil-low.result c.div_ceil-middle.result c.div_ceil-high.result
          (omega (arith, lows)) (omega (arith, middles)) (omega (arith, highs))
          (omega (arith, lows, middles, highs, items, c.ranges.items.fits)),
    )
