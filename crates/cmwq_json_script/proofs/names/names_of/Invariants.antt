use Rattle.cmwq_json_script.specs.Common.{◌≡◌, ◌≤◌, [], drop, length, map, string_bytes, items_view}
use Rattle.cmwq_json_script.specs.Known.{names_after}
use Rattle.cmwq_json_script.proofs.names.names_of.Given as goal

abbrev pub invariant-loop-value : goal.invariant-loop-value
invariant-loop-value l = record {
  left : names_after l.most [] (items_view l.values)
      ≡ names_after l.most (map string_bytes l.names.keys) (items_view (drop l.value-index l.values));
  few : length l.names.keys ≤ l.most;
}
