use Rattle.cmwq_json_script.specs.Common.{◌≡◌, ◌∙◌, ◌+◌, sym, ap, arith, length, length-map, most_callers, most_items}
use Rattle.cmwq_json_script.specs.Common.{Layout, layout_of, is_layout}
use Rattle.cmwq_model.specs.declared.shape.Counts.{Counts}
use Rattle.cmwq_json_script.specs.Views.{top_of, named_actions_of, crew_of}
use Rattle.cmwq_json_script.proofs.Readings.{when_read}
use Rattle.cmwq_json_script.proofs.Within.{at_most_newest, layout_counted, made_may_run}
use Rattle.cmwq_json_script.proofs.script.script_of.Goals as goal

pub overflow_cast-counts : goal.overflow_cast-counts
overflow_cast-counts c =
    omega (
      arith,
      c.requires.within.few_callers,
      at_most_newest c.args.top.now.version 64 most_callers (omega arith),
      c.len.ensures,
      c.args.callers.scripts.ok.0,
      length-map c.args.callers.scripts.items (λ actions. actions.items),
    )

pub overflow_add-counts : goal.overflow_add-counts
overflow_add-counts c =
    omega (
      arith,
      c.requires.within.few_callers,
      c.requires.waits,
      at_most_newest c.args.top.now.version 64 most_callers (omega arith),
      c.len.ensures,
      c.args.callers.scripts.ok.0,
      length-map c.args.callers.scripts.items (λ actions. actions.items),
    )

pub overflow_cast-counts-2 : goal.overflow_cast-counts-2
overflow_cast-counts-2 c =
    omega (
      arith,
      c.requires.within.few_items,
      at_most_newest c.args.top.now.version 256 most_items (omega arith),
      c.len-2.ensures,
      c.args.items.values.ok.0,
      length-map c.args.items.values.items (λ actions. actions.items),
    )

pub unwrap-shape-requires : goal.unwrap-shape-requires
unwrap-shape-requires c =
    c.new.ensures.allowed
    ∙ ap is_layout
    (layout_counted (top_of c.args.top.now) c.args.queues.items (named_actions_of c.args.items) (crew_of c.args.callers)
    (c.len.result + c.args.waits) c.len-2.result
    (ap (λ n. n + c.args.waits)
    (c.len.ensures ∙ c.args.callers.scripts.ok.0
    ∙ sym (length-map c.args.callers.scripts.items (λ actions. actions.items)))
    ∙ ap (λ n. length ((crew_of c.args.callers).scripts) + n) c.requires.waits)
    (c.len-2.ensures ∙ c.args.items.values.ok.0
    ∙ sym (length-map c.args.items.values.items (λ actions. actions.items))))
    ∙ c.requires.within.allowed

pub returns-clause-within : goal.returns-clause-within
returns-clause-within c =
    let t = top_of c.args.top.now in
    let callers = c.len.result + c.args.waits in
    let n : Counts =
    record {
      cpus = c.args.top.now.cpus;
      workers = c.args.top.now.workers;
      callers = callers;
      items =
          c.len-2.result;
      room = c.args.top.now.room;
    } in
    let made =
    when_read (λ (s : Layout). s ≡ layout_of n c.args.queues.items) c.new.result c.unwrap-shape.result
    c.new.ensures.made c.unwrap-shape.ensures in
    let counted =
    layout_counted t c.args.queues.items (named_actions_of c.args.items) (crew_of c.args.callers) callers c.len-2.result
    (ap (λ n. n + c.args.waits)
    (c.len.ensures ∙ c.args.callers.scripts.ok.0
    ∙ sym (length-map c.args.callers.scripts.items (λ actions. actions.items)))
    ∙ ap (λ n. length ((crew_of c.args.callers).scripts) + n) c.requires.waits)
    (c.len-2.ensures ∙ c.args.items.values.ok.0
    ∙ sym (length-map c.args.items.values.items (λ actions. actions.items))) in
    made_may_run t c.args.queues.items c.args.items c.args.callers c.unwrap-shape.result c.in_ok-names.names
    c.in_ok-gates.gates c.in_ok-locks.locks c.args.waits (made ∙ counted) c.in_ok-names.ensures c.in_ok-gates.ensures
    c.in_ok-locks.ensures c.requires.waits c.requires.within
