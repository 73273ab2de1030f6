use Rattle.std.proofs.Common.{rules}
use Rattle.cmwq_model.specs.Queueings.{queueings}
use Rattle.cmwq_model.specs.Widths.{is_frozen, max_active, width}
use Rattle.cmwq_chart.specs.Levels.{level_from}
use Rattle.cmwq_chart_levels.proofs.seen.first_level.Goals as goal

pub returns : goal.returns
unfolding level_from queueings width is_frozen max_active
returns c = search rules
