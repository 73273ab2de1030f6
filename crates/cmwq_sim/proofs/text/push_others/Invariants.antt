use Rattle.cmwq_sim.specs.Common.{◌≡◌, ◌++◌, map, take, string_bytes, flat_map}
use Rattle.cmwq_sim.specs.Text.{and_name}
use Rattle.cmwq_sim.proofs.text.push_others.Given as goal

abbrev pub invariant-loop-other : goal.invariant-loop-other
invariant-loop-other l = string_bytes l.text ≡ string_bytes l.initial.text
    ++ flat_map (and_name (map string_bytes l.names)) (take l.other-index l.others)
