-- What a JSON value says of a run, or which member of it is refused first.
use Rattle.std.specs.Prelude.{◌+◌, ◌-◌, if◌then◌else◌}
use Rattle.cmwq_json_script.specs.Common.{ℕ, List, [], length, Option, Some, None, Result, Ok, Err, nat_lt, list_any}
use Rattle.cmwq_json_script.specs.Common.{option_map_or, Data, QueueShape, Layout, Refused, in_turn, Named}
use Rattle.cmwq_json_script.specs.Common.{nobody}
use Rattle.cmwq_json.specs.Parts.{top, queues, items, callers}
use Rattle.cmwq_json_script.specs.declared.action.Action.{Action}
use Rattle.cmwq_json_script.specs.Actions.{is_wait}
use Rattle.cmwq_json_script.specs.Tops.{Top, top_said}
use Rattle.cmwq_json_script.specs.Limits.{callers_in, items_in, queues_in}
use Rattle.cmwq_json_script.specs.Known.{Known, names_after}
use Rattle.cmwq_json_script.specs.Items.{Work, no_work, add_item}
use Rattle.cmwq_json_script.specs.Queues.{add_queue}
use Rattle.cmwq_json_script.specs.Callers.{Crew, no_crew, add_caller}

-- the layout, the items by name and what each does, the gates and the locks by name, what each caller does, how many
-- runs may wait at once, and how the history is written
pub record Run : Type 0 where
  pub layout : Layout
  pub names : List (List ℕ)
  pub does : List (List Action)
  pub gates : List (List ℕ)
  pub locks : List (List ℕ)
  pub callers : List (List Action)
  pub waits : ℕ
  pub version : ℕ
  pub journal : Option ℕ

-- a part with at least one member, of which none is refused
abbrev pub some_of : {S : Type 0} → (ℕ → Refused) → (S → ℕ) → Result S ℕ → Result S Refused
some_of refused count (Err i) = Err (refused i)
some_of refused count (Ok s) = if nat_lt 0 (count s) then Ok s else Err (refused 0)

abbrev pub queues_said : Top → Result (Named QueueShape) Refused
queues_said t = some_of queues (λ qs. length qs.values) (in_turn (add_queue (queues_in t.version)) 0 nobody t.queues)

abbrev pub items_said : Known → Top → Result Work Refused
items_said known t =
    some_of items (λ w. length w.items.values) (in_turn (add_item (items_in t.version) known) 0 no_work t.items)

-- It is 1 where it is left out and an item waits.
abbrev pub waits_of : Option ℕ → List (List Action) → ℕ
waits_of (Some n) does = n
waits_of None does = if list_any (list_any is_wait) does then 1 else 0

abbrev pub waits_in : Top → Named (List Action) → ℕ
waits_in t is = waits_of t.waits is.values

-- the callers of runs that wait are among those that there may be
abbrev pub callers_said : Known → Top → Work → Result Crew Refused
callers_said known t w =
    some_of callers (λ c. length c.scripts)
    (in_turn (add_caller (callers_in t.version - waits_in t w.items) known) 0 (no_crew w.used) t.callers)

abbrev pub known_in : Top → Named QueueShape → Known
known_in t qs = record { items = names_after (items_in t.version) [] t.items; queues = qs.names; cpus = t.cpus }

abbrev pub layout_in : Top → List QueueShape → Named (List Action) → Crew → Layout
layout_in t qs is c =
    record {
      cpus = t.cpus;
      workers = t.workers;
      callers = length c.scripts + waits_in t is;
      items = length is.values;
      room = t.room;
      queues = qs;
    }

abbrev pub run_in : Top → List QueueShape → Named (List Action) → Crew → Run
run_in t qs is c =
    record {
      layout = layout_in t qs is c;
      names = is.names;
      does = is.values;
      gates = c.used.gates;
      locks = c.used.locks;
      callers = c.scripts;
      waits = waits_in t is;
      version = t.version;
      journal = t.journal;
    }

abbrev pub with_callers : Top → Named QueueShape → Work → Result Crew Refused → Result Run Refused
with_callers t qs w (Err refused) = Err refused
with_callers t qs w (Ok c) = Ok (run_in t qs.values w.items c)

abbrev pub with_items : Top → Named QueueShape → Result Work Refused → Result Run Refused
with_items t qs (Err refused) = Err refused
with_items t qs (Ok w) = with_callers t qs w (callers_said (known_in t qs) t w)

abbrev pub with_queues : Top → Result (Named QueueShape) Refused → Result Run Refused
with_queues t (Err refused) = Err refused
with_queues t (Ok qs) = with_items t qs (items_said (known_in t qs) t)

-- the queues are looked at first, then the items, then the callers
abbrev pub run_said : Data → Result Run Refused
run_said d = option_map_or (λ t. with_queues t (queues_said t)) (top_said d) (Err top)
