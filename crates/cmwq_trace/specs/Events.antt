-- The events of a trace, in the Trace Event Format, and their texts. A time is the number of an entry.
use Rattle.std.specs.Prelude.{ℕ, ◌+◌, ◌-◌, ◌*◌, Bool, true, false, if◌then◌else◌, List, [], ◌∷◌, ◌++◌, map, flat_map}
use Rattle.std.specs.Prelude.{Option, Some, None, is_some, option_map, slice_get}
use Rattle.std.specs.Option.{option_map_or}
use Rattle.std.specs.List.{range_with_len}
use Rattle.cmwq_model.specs.declared.entry.Entry.{Entry}
use Rattle.cmwq_model.specs.declared.id.CallerId.{CallerId}
use Rattle.cmwq_model.specs.declared.id.CpuId.{CpuId}
use Rattle.cmwq_model.specs.declared.id.PoolId.{PoolId}
use Rattle.cmwq_model.specs.declared.id.Who.{Who}
use Rattle.cmwq_model.specs.declared.id.Who.TheVariants as who
use Rattle.cmwq_model.specs.declared.id.WorkerId.{WorkerId}
use Rattle.cmwq_model.specs.Prelude.{Layout, most_tickets}
use Rattle.cmwq_chart.specs.declared.bars.Bar.{Bar}
use Rattle.cmwq_chart.specs.declared.signs.Sign.{Sign}
use Rattle.cmwq_chart.specs.declared.sleeps.Sleep.{Sleep}
use Rattle.cmwq_chart.specs.declared.levels.Level.{Level}
use Rattle.cmwq_chart.specs.declared.waits.CallerLane.{CallerLane}
use Rattle.cmwq_chart.specs.declared.waits.CallerWait.{CallerWait}
use Rattle.cmwq_chart_text.specs.Filled.{filled_template}
use Rattle.cmwq_trace.specs.declared.event.Event.{Event}
use Rattle.cmwq_trace.specs.declared.event.Event.TheVariants as event
use Rattle.cmwq_trace.specs.declared.event.TheConstants.{CALLER, CPU, END, HEAD, LANE, LEVEL, QUEUED, ROW, RUN, RUN_ON}
use Rattle.cmwq_trace.specs.declared.event.TheConstants.{SLEEP, STARTED, WAIT, WAIT_ON}
use Rattle.cmwq_trace.specs.Calls.{call_template}

-- ---- a process for the queues, one for the callers, in which each caller is a thread and each row of its waits, and
-- one for each pool, in which each worker is a thread

abbrev pub pool_process : PoolId → ℕ
pool_process p = 3 + 2 * p.cpu.0 + (if p.high then 1 else 0)

abbrev pub pool_of : CpuId → Bool → PoolId
pool_of c high = record { cpu = c; high = high }

abbrev pub worker_thread : WorkerId → ℕ
worker_thread w = 1 + 128 * w.pool.cpu.0 + (if w.pool.high then 64 else 0) + w.index

-- beyond the numbers of all workers
abbrev pub row_thread : CallerId → ℕ → ℕ
row_thread c row = 10000 + most_tickets * c.0 + row

-- beyond the numbers of all rows
abbrev pub caller_thread : CallerId → ℕ
caller_thread c = 30000 + c.0

abbrev pub who_process : Who → ℕ
who_process (who.Caller c) = 2
who_process (who.Worker w) = pool_process w.pool

abbrev pub who_thread : Who → ℕ
who_thread (who.Caller c) = caller_thread c
who_thread (who.Worker w) = worker_thread w

-- h or n
abbrev pub letter : PoolId → ℕ
letter p = if p.high then 104 else 110

-- what goes on from one entry up to and with another, or to the end of the history, lasts so many
abbrev pub entries_between : ℕ → Option ℕ → ℕ → ℕ
entries_between from to end = option_map_or (λ last. last + 1) to end - from

-- ---- what the texts are, with a hole for each number

abbrev pub event_template : Event → List ℕ
event_template event.Head = HEAD.now
event_template (event.Cpu c) = CPU.now
event_template (event.Caller c) = CALLER.now
event_template (event.Row c r) = ROW.now
event_template (event.Lane w) = LANE.now
event_template (event.Call c sign) = call_template sign.kind sign.item
event_template (event.Wait wait) = if is_some wait.to then WAIT.now else WAIT_ON.now
event_template (event.Run bar) = if is_some bar.to then RUN.now else RUN_ON.now
event_template (event.Sleep sleep) = SLEEP.now
event_template (event.Queued w number) = QUEUED.now
event_template (event.Started bar) = STARTED.now
event_template (event.Level level) = LEVEL.now
event_template event.End = END.now

-- ---- the numbers, and 0 beyond

abbrev pub cpu_numbers : CpuId → List ℕ
cpu_numbers c = c.0 ∷ pool_process (pool_of c false) ∷ c.0 ∷ pool_process (pool_of c true) ∷ 0 ∷ 0 ∷ 0 ∷ 0 ∷ 0 ∷ 0 ∷ []

abbrev pub caller_numbers : CallerId → List ℕ
caller_numbers c = c.0 ∷ caller_thread c ∷ 0 ∷ 0 ∷ 0 ∷ 0 ∷ 0 ∷ 0 ∷ 0 ∷ 0 ∷ []

abbrev pub row_numbers : CallerId → ℕ → List ℕ
row_numbers c row = c.0 ∷ row ∷ row_thread c row ∷ 0 ∷ 0 ∷ 0 ∷ 0 ∷ 0 ∷ 0 ∷ 0 ∷ []

abbrev pub lane_numbers : WorkerId → List ℕ
lane_numbers w = w.pool.cpu.0 ∷ letter w.pool ∷ w.index ∷ pool_process w.pool ∷ worker_thread w ∷ 0 ∷ 0 ∷ 0 ∷ 0 ∷ 0 ∷ []

abbrev pub call_numbers_of : CallerId → ℕ → Option ℕ → List ℕ
call_numbers_of c at (Some item) = at ∷ item ∷ item ∷ caller_thread c ∷ at ∷ 0 ∷ 0 ∷ 0 ∷ 0 ∷ 0 ∷ []
call_numbers_of c at None = at ∷ caller_thread c ∷ at ∷ 0 ∷ 0 ∷ 0 ∷ 0 ∷ 0 ∷ 0 ∷ 0 ∷ []

abbrev pub call_numbers : CallerId → Sign → List ℕ
call_numbers c sign = call_numbers_of c sign.at sign.item

-- a ticket has the number of the entry that gave it
abbrev pub wait_numbers : ℕ → CallerWait → List ℕ
wait_numbers end wait = wait.caller.0 ∷ wait.from ∷ entries_between wait.from wait.to end ∷ wait.from
    ∷ row_thread wait.caller wait.row ∷ wait.from ∷ 0 ∷ 0 ∷ 0 ∷ 0 ∷ []

abbrev pub run_numbers : ℕ → Bar → List ℕ
run_numbers end bar =
    bar.item.0 ∷ bar.number ∷ bar.worker.pool.cpu.0 ∷ letter bar.worker.pool ∷ bar.worker.index
    ∷ entries_between bar.from bar.to end ∷ bar.item.0
    ∷ pool_process bar.worker.pool ∷ worker_thread bar.worker ∷ bar.from ∷ []

abbrev pub sleep_numbers : ℕ → Sleep → List ℕ
sleep_numbers end sleep =
    sleep.worker.pool.cpu.0 ∷ letter sleep.worker.pool ∷ sleep.worker.index ∷ entries_between sleep.from sleep.to end
    ∷ pool_process sleep.worker.pool ∷ worker_thread sleep.worker ∷ sleep.from ∷ 0 ∷ 0 ∷ 0 ∷ []

-- a queueing has the number of the entry that made it
abbrev pub queued_numbers : Who → ℕ → List ℕ
queued_numbers w number = number ∷ who_process w ∷ who_thread w ∷ number ∷ 0 ∷ 0 ∷ 0 ∷ 0 ∷ 0 ∷ 0 ∷ []

abbrev pub started_numbers : Bar → List ℕ
started_numbers bar = bar.number ∷ pool_process bar.worker.pool ∷ worker_thread bar.worker ∷ bar.from
    ∷ 0 ∷ 0 ∷ 0 ∷ 0 ∷ 0 ∷ 0 ∷ []

abbrev pub level_numbers : Level → List ℕ
level_numbers level =
    level.height.active_count ∷ level.height.open_count ∷ level.height.width ∷ level.place.queue.0 ∷ level.place.cpu.0
    ∷ level.from ∷ 0 ∷ 0 ∷ 0 ∷ 0 ∷ []

abbrev pub event_numbers : ℕ → Event → List ℕ
event_numbers end event.Head = 0 ∷ 0 ∷ 0 ∷ 0 ∷ 0 ∷ 0 ∷ 0 ∷ 0 ∷ 0 ∷ 0 ∷ []
event_numbers end (event.Cpu c) = cpu_numbers c
event_numbers end (event.Caller c) = caller_numbers c
event_numbers end (event.Row c row) = row_numbers c row
event_numbers end (event.Lane w) = lane_numbers w
event_numbers end (event.Call c sign) = call_numbers c sign
event_numbers end (event.Wait wait) = wait_numbers end wait
event_numbers end (event.Run bar) = run_numbers end bar
event_numbers end (event.Sleep sleep) = sleep_numbers end sleep
event_numbers end (event.Queued w number) = queued_numbers w number
event_numbers end (event.Started bar) = started_numbers bar
event_numbers end (event.Level level) = level_numbers level
event_numbers end event.End = 0 ∷ 0 ∷ 0 ∷ 0 ∷ 0 ∷ 0 ∷ 0 ∷ 0 ∷ 0 ∷ 0 ∷ []

abbrev pub event_text : ℕ → Event → List ℕ
event_text end e = filled_template (event_template e) (event_numbers end e)

-- ---- all events: the names of processes and threads, and then what goes on

abbrev pub cpu_event : ℕ → Event
cpu_event c = event.Cpu (record { 0 = c })

abbrev pub rows_events : CallerLane → List Event
rows_events lane = map (event.Row lane.caller) (range_with_len 0 lane.rows)

abbrev pub caller_events : CallerLane → List Event
caller_events lane = event.Caller lane.caller ∷ rows_events lane

abbrev pub names_of : ℕ → List CallerLane → List WorkerId → List Event
names_of cpus callers lanes =
    event.Head ∷ [] ++ map cpu_event (range_with_len 0 cpus) ++ flat_map caller_events callers ++ map event.Lane lanes

-- ---- the calls of callers, and an arrow from each queueing that was started to its start

abbrev pub call_by : Who → Sign → List Event
call_by (who.Caller c) sign = event.Call c sign ∷ []
call_by (who.Worker w) sign = []

abbrev pub call_events : Sign → List Event
call_events sign = call_by sign.who sign

abbrev pub maker_of : List Entry → ℕ → Option Who
maker_of entries number = option_map (λ e. e.who) (slice_get entries number)

abbrev pub arrow_from : Bar → Option Who → List Event
arrow_from bar (Some w) = event.Queued w bar.number ∷ event.Started bar ∷ []
arrow_from bar None = []

abbrev pub arrow_events : List Entry → Bar → List Event
arrow_events entries bar = arrow_from bar (maker_of entries bar.number)

unfoldable pub events_of : Layout → List Entry → List CallerLane → List WorkerId → List Sign → List CallerWait → List Bar
    → List Sleep → List Level → List Event
events_of s entries callers lanes signs waits bars sleeps levels =
    names_of s.cpus callers lanes ++ flat_map call_events signs ++ map event.Wait waits ++ map event.Run bars
    ++ map event.Sleep sleeps ++ flat_map (arrow_events entries) bars ++ map event.Level levels ++ event.End ∷ []
