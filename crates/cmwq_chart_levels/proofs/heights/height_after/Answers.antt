use Rattle.std.proofs.Common.{refl, ap}
use Rattle.cmwq_chart.specs.declared.levels.Height.{Height}
use Rattle.cmwq_chart_levels.proofs.heights.height_after.Goals as goal

pub open_at-requires : goal.open_at-requires
open_at-requires c = ap (λ (h : Height). h.open_count) c.requires.before

pub returns : goal.returns
returns c = rw (c.open_at.ensures, c.active_at.ensures, c.width.ensures, c.state.ensures.layout, c.state.ensures.past) refl
