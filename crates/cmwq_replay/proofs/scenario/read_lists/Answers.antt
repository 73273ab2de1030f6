use Rattle.cmwq_replay.specs.Common.{◌∙◌, sym, ap, length, string_bytes, length-map, plan_item, items_view, named_of}
use Rattle.cmwq_json.specs.Readings.{map_ok}
use Rattle.cmwq_replay.specs.Readings.{named_items}
use Rattle.cmwq_replay.proofs.Limited.{within_limits, names_few, some_left}
use Rattle.cmwq_replay.proofs.scenario.read_lists.Goals as goal

pub read_items-requires : goal.read_items-requires
read_items-requires c =
    names_few string_bytes c.in-Ok.queues.names.keys c.in-Ok.queues.values.items 0 (items_view c.args.queues.now)
    (sym c.in_ok-queues.ensures ∙ ap (map_ok named_of) c.in-Ok.is)

pub returns-clause-within_limits : goal.returns-clause-within_limits
returns-clause-within_limits c =
    let k = within_limits (named_of c.in-Ok.queues) (named_items c.in-Ok-2.items) 0 0 (items_view c.args.queues.now)
    (items_view c.args.items.now) (sym c.in_ok-queues.ensures ∙ ap (map_ok named_of) c.in-Ok.is)
    (some_left _ c.in-Ok.queues.values.items c.is_empty.result c.in-Ok.queues.values.ok.0 c.is_empty.ensures
    c.if-is_empty.false)
    (sym c.in_ok-items.ensures ∙ ap (map_ok named_items) c.in-Ok-2.is) in (
      k.0,
      ap length c.in_ok-names.ensures ∙ sym (length-map c.in-Ok-2.items.names.keys string_bytes) ∙ k.1
          ∙ length-map c.in-Ok-2.items.values.items plan_item,
    )
