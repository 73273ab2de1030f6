-- The words in which the examples are written, close to the lines of a history's text.
use Rattle.std.specs.Prelude.{◌≡◌, ℕ, Bool, true, false, List, map}
use Rattle.cmwq_model.specs.declared.id.Who.{Who}
use Rattle.cmwq_model.specs.declared.id.Who.TheVariants.{Caller, Worker}
use Rattle.cmwq_model.specs.declared.call.Call.{Call}
use Rattle.cmwq_model.specs.declared.reply.Reply.{Reply}
use Rattle.cmwq_model.specs.declared.entry.Entry.{Entry}
use Rattle.cmwq_model.specs.declared.shape.QueueShape.{QueueShape}
use Rattle.cmwq_model.specs.Prelude.{Layout, past_of, steps}
use Rattle.cmwq_model.specs.declared.call.Call.TheVariants as call
use Rattle.cmwq_model.specs.declared.reply.Reply.TheVariants as reply

abbrev pub caller : ℕ → Who
caller c = Caller (record { 0 = c })

-- the worker of a CPU's pool of normal or of high priority
abbrev pub worker : Bool → ℕ → ℕ → Who
worker high c x = Worker (record { pool = record { cpu = record { 0 = c }; high = high }; index = x })

abbrev pub normal : ℕ → ℕ → Who
normal = worker false

abbrev pub high : ℕ → ℕ → Who
high = worker true

abbrev pub queue : ℕ → ℕ → ℕ → Call
queue i q c = call.Queue (record { 0 = i }) (record { 0 = q }) (record { 0 = c })

abbrev pub delay : ℕ → ℕ → ℕ → ℕ → Call
delay i q c t = call.Delay (record { 0 = i }) (record { 0 = q }) (record { 0 = c }) t

abbrev pub modify : ℕ → ℕ → ℕ → ℕ → Call
modify i q c t = call.Modify (record { 0 = i }) (record { 0 = q }) (record { 0 = c }) t

abbrev pub cancel : ℕ → Call
cancel i = call.Cancel (record { 0 = i })

abbrev pub tick : ℕ → Call
tick t = call.Tick t

abbrev pub fire : Call
fire = call.Fire

abbrev pub flush : ℕ → Call
flush q = call.Flush (record { 0 = q })

abbrev pub drain : ℕ → Call
drain q = call.Drain (record { 0 = q })

abbrev pub flush_item : ℕ → Call
flush_item i = call.FlushItem (record { 0 = i })

abbrev pub flush_delayed : ℕ → Call
flush_delayed i = call.FlushDelayed (record { 0 = i })

abbrev pub cancel_sync : ℕ → Call
cancel_sync i = call.CancelSync (record { 0 = i })

abbrev pub end : ℕ → Call
end t = call.End t

abbrev pub take : Call
take = call.Take

abbrev pub finish : Call
finish = call.Finish

abbrev pub sleep : Call
sleep = call.Sleep

abbrev pub wake : Call
wake = call.Wake

abbrev pub retire : Call
retire = call.Retire

abbrev pub set_max : ℕ → ℕ → Call
set_max q n = call.SetMax (record { 0 = q }) n

abbrev pub freeze : Call
freeze = call.Freeze

abbrev pub thaw : Call
thaw = call.Thaw

abbrev pub destroy : ℕ → Call
destroy q = call.Destroy (record { 0 = q })

abbrev pub reply_fired : ℕ → ℕ → Reply
reply_fired i k = reply.Fired (record { 0 = i }) k

abbrev pub entry : Who → ℕ → Call → Reply → Entry
entry who serial call reply = record { who = who; serial = serial; call = call; reply = reply }

-- a queue: its max_active, whether it is high, and whether it is CPU intensive
abbrev pub wq : ℕ → Bool → Bool → QueueShape
wq max_active high intensive = record { max_active = max_active; high = high; intensive = intensive; freezable = false }

-- a freezable one
abbrev pub wqf : ℕ → QueueShape
wqf max_active = record { max_active = max_active; high = false; intensive = false; freezable = true }

-- CPUs, workers in each pool, callers, items, room, queues
abbrev pub system : ℕ → ℕ → ℕ → ℕ → ℕ → List QueueShape → Layout
system cpus workers callers items room queues =
    record { cpus = cpus; workers = workers; callers = callers; items = items; room = room; queues = queues }

-- calls, the history that they must give, and how many of them are left out of it for want of room
pub record Example : Type 0 where
  pub layout : Layout
  pub calls : List (Who × Call)
  pub history : List Entry
  pub left_out : ℕ

abbrev pub call_made : Entry → Who × Call
call_made e = (e.who, e.call)

-- of the calls that stand in the history
abbrev pub example : Layout → List Entry → Example
example layout history = record { layout = layout; calls = map call_made history; history = history; left_out = 0 }

abbrev pub example_without : ℕ → Layout → List (Who × Call) → List Entry → Example
example_without n layout calls history = record { layout = layout; calls = calls; history = history; left_out = n }

-- the steps of the calls are the history
abbrev pub Holds : Example → Type 0
Holds x = steps x.layout x.layout.room x.calls ≡ record { past = past_of x.history; left_out = x.left_out }
