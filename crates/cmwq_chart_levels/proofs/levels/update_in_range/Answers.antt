use Rattle.std.proofs.Common.{◌++◌, ap, ◌∙◌}
use Rattle.cmwq_chart_levels.proofs.Outside.{range_turned, range_ended, low_stays, high_stays}
use Rattle.cmwq_chart_levels.proofs.levels.update_in_range.Goals as goal

pub returns-clause-running : goal.returns-clause-running
returns-clause-running c =
    let s = c.args.step.now in
    let xs = c.args.running.now in
    let i = c.count_below-from.result in
    let j = c.count_below-end.result in
    let front = c.split_at_mut-rest.ensures.front in
    let rest = c.split_at_mut-rest.ensures.back in
    let part = c.split_at_mut-part.ensures.front in
    let back = c.split_at_mut-part.ensures.back in
    let low =
    low_stays s.layout s.past s.entry s.told c.requires.effect xs c.args.range i
    c.requires.only c.count_below-from.ensures.below in
    let high =
    high_stays s.layout s.past s.entry s.told c.requires.effect xs c.args.range
    i j c.requires.only (rw rest at c.count_below-end.ensures.from) in
    rw (front, back, rest)
    (range_turned s.layout s.past s.entry s.told c.requires.effect xs
    c.update.new.running i j c.requires.running low high (rw (part, rest) at c.in_ok-update.ensures.running))

pub returns-clause-levels : goal.returns-clause-levels
returns-clause-levels c =
    let s = c.args.step.now in
    let xs = c.args.running.now in
    let i = c.count_below-from.result in
    let j = c.count_below-end.result in
    let rest = c.split_at_mut-rest.ensures.back in
    let part = c.split_at_mut-part.ensures.front in
    let back = c.split_at_mut-part.ensures.back in
    let low =
    low_stays s.layout s.past s.entry s.told c.requires.effect xs c.args.range i
    c.requires.only c.count_below-from.ensures.below in
    let high =
    high_stays s.layout s.past s.entry s.told c.requires.effect xs c.args.range
    i j c.requires.only (rw rest at c.count_below-end.ensures.from) in
    (rw (part, rest) at c.in_ok-update.ensures.levels)
    ∙ ap (λ l. c.args.levels.now.items ++ l)
    (range_ended s.layout s.past s.entry s.told c.requires.effect xs i j low
    high)
