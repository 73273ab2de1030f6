-- What the reader's parts are as plain values.
use Rattle.std.specs.Prelude.{◌∷◌}
use Rattle.cmwq_json_script.specs.Common.{List, [], map, Global, Vec, items_view, Call, QueueShape, Named, map_named}
use Rattle.cmwq_json_script.specs.Common.{named_of}
use Rattle.cmwq_json.specs.declared.names.Members.{Members}
use Rattle.cmwq_json_script.specs.declared.action.Action.{Action}
use Rattle.cmwq_json_script.specs.declared.action.Action.TheVariants as action
use Rattle.cmwq_json_script.specs.declared.item.Items.{Items}
use Rattle.cmwq_json_script.specs.declared.caller.Callers.{Callers}
use Rattle.cmwq_json_script.specs.declared.top.Top as declared
use Rattle.cmwq_json_script.specs.Known.{Known}
use Rattle.cmwq_json_script.specs.Items.{Work}
use Rattle.cmwq_json_script.specs.Callers.{Crew}
use Rattle.cmwq_json_script.specs.Tops.{Top}

-- what each of many does
abbrev pub actions_of : Vec (Vec Action Global) Global → List (List Action)
actions_of all = map (λ actions. actions.items) all.items

-- the calls among actions, in their order
abbrev pub calls_in : List Action → List Call
calls_in [] = []
calls_in (action.Call c ∷ rest) = c ∷ calls_in rest
calls_in (a ∷ rest) = calls_in rest

abbrev pub named_actions_of : Members (Vec Action Global) → Named (List Action)
named_actions_of members = map_named (λ actions. actions.items) (named_of members)

abbrev pub work_of : Items → Work
work_of w = record { items = named_actions_of w.members; used = w.used }

abbrev pub crew_of : Callers → Crew
crew_of c = record { scripts = actions_of c.scripts; used = c.used }

abbrev pub top_of : declared.Top → Top
top_of t =
    record {
      cpus = t.cpus;
      workers = t.workers;
      room = t.room;
      version = t.version;
      journal = t.journal;
      waits =
          t.waits;
      queues = items_view t.queues.now;
      items = items_view t.items.now;
      callers = items_view t.callers.now;
    }

-- the queues, by the names that calls know them by
abbrev pub queues_of : Known → Vec QueueShape Global → Named QueueShape
queues_of known queues = record { names = known.queues; values = queues.items }
