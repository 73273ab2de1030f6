use Rattle.std.proofs.Common.{◌≡◌, ◌++◌, ◌-◌, ◌≤◌, max}
use Rattle.std.specs.Prelude.{flat_map}
use Rattle.std.specs.List.{range_with_len}
use Rattle.cmwq_chart_text.specs.Drawings.{number_parts}
use Rattle.cmwq_chart_text.proofs.drawn.push_numbers.Given as goal

abbrev pub invariant-loop-place : goal.invariant-loop-place
invariant-loop-place l = record {
  parts : (l.parts).items ≡ (l.initial.parts).items
      ++ flat_map (number_parts l.page l.band l.top l.height) (range_with_len l.from (l.place - l.from));
  within : l.place ≤ max l.from l.end;
}
