use Rattle.std.proofs.Common.{rules}
use Rattle.std.proofs.lemmas.Fn.{always_returns_same}
use Rattle.std.proofs.lemmas.List.Sorted.{IsNonDecreasingBy-from_sort_by_key}
use Rattle.cmwq_chart_text.specs.Figures.{figure_number}
use Rattle.cmwq_chart_text.proofs.Rows.{rows_stay}
use Rattle.cmwq_chart_text.proofs.drawn.sort_by_row.Goals as goal

pub returns-clause-sorted : goal.returns-clause-sorted
returns-clause-sorted c =
    IsNonDecreasingBy-from_sort_by_key figure_number _ c.in_ok-sort_by_key.ensures.sorted
    (λ a r q k. search rules)

pub returns-clause-rows : goal.returns-clause-rows
returns-clause-rows c =
    rows_stay _ _ (c.sort_by_key.ensures.stable figure_number
    (always_returns_same _ _ _ (λ a r q k. search rules)))
