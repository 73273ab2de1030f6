use Rattle.cmwq_json_script.specs.Common.{[], map, string_bytes, sym, arith, items_view}
use Rattle.cmwq_json_script.specs.Known.{names_after}
use Rattle.cmwq_json_script.proofs.Naming.{few_names_kept, next_name, names_done}
use Rattle.cmwq_json_script.proofs.names.names_of.Goals as goal

pub loop-value-preserved : goal.loop-value-preserved
loop-value-preserved c = record {
  left = next_name c.args.most c.args.values.now c.loop-value.value-index (map string_bytes c.loop-value.names.keys)
      (map string_bytes c.add_name.new.names.keys) (names_after c.args.most [] (items_view c.args.values.now))
      c.value-item.result c.value-item.result (omega arith) (sym c.value-item.is) c.loop-value.invariant.left
      c.in_ok-add_name.ensures;
  few = few_names_kept c.args.most c.loop-value.names.keys c.add_name.new.names.keys _ c.loop-value.invariant.few
      c.in_ok-add_name.ensures;
}

pub returns-clause-all : goal.returns-clause-all
returns-clause-all c =
    names_done c.args.most c.args.values.now c.loop-value.value-index (map string_bytes c.loop-value.names.keys)
    (names_after c.args.most [] (items_view c.args.values.now)) (omega arith) c.loop-value.invariant.left
