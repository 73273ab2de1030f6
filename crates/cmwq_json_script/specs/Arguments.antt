-- The grammar of actions as a table: who does what a word names, the arguments that stand after it, and what is made of
-- them.
use Rattle.cmwq_text.specs.Words.{◌>>=◌}
use Rattle.std.specs.Prelude.{if◌then◌else◌, ◌∷◌}
use Rattle.cmwq_json_script.specs.Common.{ℕ, Bool, true, false, List, [], Option, Some, None, Data, Items, no_items}
use Rattle.cmwq_json_script.specs.Common.{item}
use Rattle.cmwq_model.specs.declared.call.Call.TheVariants as call
use Rattle.cmwq_json_script.specs.declared.word.Word.{Word}
use Rattle.cmwq_json_script.specs.declared.word.Word.TheVariants as word
use Rattle.cmwq_json_script.specs.declared.word.Argument.{Argument}
use Rattle.cmwq_json_script.specs.declared.word.Argument.TheVariants as argument
use Rattle.cmwq_json_script.specs.declared.argument.Given.{Given}
use Rattle.cmwq_json_script.specs.declared.used.Used.{Used}
use Rattle.cmwq_json_script.specs.declared.action.Action.{Action}
use Rattle.cmwq_json_script.specs.declared.action.Action.TheVariants as action
use Rattle.cmwq_json_script.specs.declared.action.Actor.{Actor}
use Rattle.cmwq_json_script.specs.declared.action.Actor.TheVariants.{Item, Caller}
use Rattle.cmwq_json_script.specs.Known.{Known, item_known, queue_known, cpu_said}
use Rattle.cmwq_json_script.specs.Calls.{ticks_said, width_in_call}
use Rattle.cmwq_json_script.specs.Used.{gate_said, lock_said}

-- An item sleeps at a gate, and a caller waits at it.
unfoldable pub is_done_by : Word → Actor → Bool
is_done_by word.Tick Item = false
is_done_by word.SetMax Item = false
is_done_by word.Freeze Item = false
is_done_by word.Thaw Item = false
is_done_by word.Destroy Item = false
is_done_by word.Wait Item = false
is_done_by word.SleepAt Caller = false
is_done_by w actor = true

unfoldable pub arguments_of : Word → List Argument
arguments_of word.Queue = argument.Item ∷ argument.Queue ∷ argument.Cpu ∷ []
arguments_of word.Delay = argument.Item ∷ argument.Queue ∷ argument.Cpu ∷ argument.Ticks ∷ []
arguments_of word.Modify = argument.Item ∷ argument.Queue ∷ argument.Cpu ∷ argument.Ticks ∷ []
arguments_of word.Cancel = argument.Item ∷ []
arguments_of word.CancelSync = argument.Item ∷ []
arguments_of word.FlushItem = argument.Item ∷ []
arguments_of word.FlushDelayed = argument.Item ∷ []
arguments_of word.Tick = argument.Ticks ∷ []
arguments_of word.Flush = argument.Queue ∷ []
arguments_of word.Drain = argument.Queue ∷ []
arguments_of word.Destroy = argument.Queue ∷ []
arguments_of word.SetMax = argument.Queue ∷ argument.MaxActive ∷ []
arguments_of word.Freeze = []
arguments_of word.Thaw = []
arguments_of word.Open = argument.Gate ∷ []
arguments_of word.SleepAt = argument.Gate ∷ []
arguments_of word.Wait = argument.Gate ∷ []
arguments_of word.Lock = argument.Lock ∷ []
arguments_of word.Unlock = argument.Lock ∷ []

unfoldable pub action_of : Word → Given → Action
action_of word.Queue g = action.Call (call.Queue g.item g.queue g.cpu)
action_of word.Delay g = action.Call (call.Delay g.item g.queue g.cpu g.ticks)
action_of word.Modify g = action.Call (call.Modify g.item g.queue g.cpu g.ticks)
action_of word.Cancel g = action.Call (call.Cancel g.item)
action_of word.CancelSync g = action.Call (call.CancelSync g.item)
action_of word.FlushItem g = action.Call (call.FlushItem g.item)
action_of word.FlushDelayed g = action.Call (call.FlushDelayed g.item)
action_of word.Tick g = action.Call (call.Tick g.ticks)
action_of word.Flush g = action.Call (call.Flush g.queue)
action_of word.Drain g = action.Call (call.Drain g.queue)
action_of word.Destroy g = action.Call (call.Destroy g.queue)
action_of word.SetMax g = action.Call (call.SetMax g.queue g.max_active)
action_of word.Freeze g = action.Call call.Freeze
action_of word.Thaw g = action.Call call.Thaw
action_of word.Open g = action.Open g.gate
action_of word.SleepAt g = action.SleepAt g.gate
action_of word.Wait g = action.SleepAt g.gate
action_of word.Lock g = action.Lock g.lock
action_of word.Unlock g = action.Unlock g.lock

-- ---- what arguments say

abbrev pub nothing : Given
nothing = record {
  item = record { 0 = 0 };
  queue = record { 0 = 0 };
  cpu = record { 0 = 0 };
  ticks = 0;
  max_active = 0;
  gate = 0;
  lock = 0;
}

-- what is given and used after one more argument
abbrev pub argument_said : Known → Given × Used → Argument → Data → Option (Given × Used)
argument_said known s argument.Item d = do
  i ← item_known known d
  Some (record s.0 { item = i }, s.1)
argument_said known s argument.Queue d = do
  q ← queue_known known d
  Some (record s.0 { queue = q }, s.1)
argument_said known s argument.Cpu d = do
  c ← cpu_said known d
  Some (record s.0 { cpu = c }, s.1)
argument_said known s argument.Ticks d = do
  n ← ticks_said d
  Some (record s.0 { ticks = n }, s.1)
argument_said known s argument.MaxActive d = do
  n ← width_in_call d
  Some (record s.0 { max_active = n }, s.1)
argument_said known s argument.Gate d = do
  gate ← gate_said s.1 d
  Some (record s.0 { gate = gate.0 }, gate.1)
argument_said known s argument.Lock d = do
  lock ← lock_said s.1 d
  Some (record s.0 { lock = lock.0 }, lock.1)

-- each argument in turn, of which there are exactly as many as there should be
abbrev pub arguments_said : Known → List Argument → Given × Used → Items → Option (Given × Used)
arguments_said known [] s no_items = Some s
arguments_said known [] s (item d ds) = None
arguments_said known (a ∷ rest) s no_items = None
arguments_said known (a ∷ rest) s (item d ds) = do
  after ← argument_said known s a d
  arguments_said known rest after ds

-- what is done by a word, and what is used then
abbrev pub done_by : Actor → Known → Word → Used → Items → Option (Action × Used)
done_by actor known w used ds = if is_done_by w actor then (do
  s ← arguments_said known (arguments_of w) (nothing, used) ds
  Some (action_of w s.0, s.1)) else None
