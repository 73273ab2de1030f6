-- What a call of a service answers, and what it leaves.
use Rattle.std.specs.Prelude.{◌≡◌, ◌⊎◌, ◌≤◌, ℕ, Bool, true, false, List, length, take, Result, Ok, Err, Option, Some}
use Rattle.std.specs.Prelude.{None}
use Rattle.std.specs.Prelude.{IfOk, IfErr}
use Rattle.std.specs.List.{list_all}
use Rattle.cmwq_model.specs.Prelude.{Layout, has_numbers}
use Rattle.cmwq_model.specs.declared.call.Call.{Call}
use Rattle.cmwq_model.specs.declared.call.Call.TheVariants as call
use Rattle.cmwq_model.specs.declared.entry.Entry.{Entry}
use Rattle.cmwq_model.specs.declared.id.ItemId.{ItemId}
use Rattle.cmwq_model.specs.declared.reply.Reply.{Reply}
use Rattle.cmwq_monitor.specs.Calls.{Extends}
use Rattle.cmwq_monitor.specs.Participants.{View, Gains}
use Rattle.cmwq_monitor.specs.Faults.{Refused}
use Rattle.cmwq_monitor.specs.Whole.{BrokeOff, Completes}
use Rattle.cmwq_monitor.specs.declared.fault.RunFault.{RunFault}
use Rattle.cmwq_monitor.specs.declared.fault.RunFault.TheVariants.{Full}
use Rattle.cmwq_rt.specs.Batches.{StopsBatch}
use Rattle.cmwq_rt.specs.Later.{Later}
use Rattle.cmwq_rt.specs.declared.batch.BatchFault.{BatchFault}
use Rattle.cmwq_rt.specs.Waiting.{HadNoRoom, HasWaited, IsRefusedFor, is_for_itself}
use Rattle.cmwq_rt.specs.declared.wait_fault.WaitFault.{WaitFault}
use Rattle.cmwq_rt.specs.declared.wait_fault.WaitFault.TheVariants as wait
use Rattle.cmwq_service.specs.Outside.{IsFirstOutside, IsOutside, is_allowed}
use Rattle.cmwq_service.specs.declared.fault.Awaited.{Awaited}
use Rattle.cmwq_service.specs.declared.fault.Awaited.TheVariants.{Item, Queue}
use Rattle.cmwq_service.specs.declared.fault.Fault.{Fault}
use Rattle.cmwq_service.specs.declared.fault.Fault.TheVariants.{Outside, Run, Itself, Deadlock, NoCaller, Own}

-- A call of one entry made none: a number of it isn't inside the shape, which the fault tells, and nothing has changed,
-- or the hub refused it. No call answers a fault of the service's own.
abbrev pub Denied : Layout → View → Call → Fault → View → Type 0
Denied s v c (Outside o) w = (has_numbers s c ≡ false) × IsOutside s c o × (w ≡ v)
Denied s v c (Run f) w = Refused s v c f w
Denied _ _ _ f _ = ⊥

-- A batch of calls stopped: one of them isn't of its maker, the first of which the fault tells, and none was made, or
-- the hub refused one.
abbrev pub DeniedBatch : (Call → Bool) → Layout → View → List Call → ℕ → Fault → List Reply → List Reply → View → Type 0
DeniedBatch is_made s v cs made (Outside o) old new w =
    (made ≡ 0) × (list_all (is_allowed is_made s) cs ≡ false) × IsFirstOutside is_made s cs o × (new ≡ old) × (w ≡ v)
DeniedBatch is_made s v cs made (Run f) old new w = StopsBatch s v cs made f old new w
DeniedBatch _ _ _ _ _ f _ _ _ = ⊥

-- a call of several entries: so too, or it stopped after some of them
abbrev pub Interrupted : Layout → View → Call → Fault → View → Type 0
Interrupted s v c (Outside o) w = (has_numbers s c ≡ false) × IsOutside s c o × (w ≡ v)
Interrupted s v c (Run f) w = BrokeOff s v c f w
Interrupted _ _ _ f _ = ⊥

-- what a call waits for by which a run waits
abbrev pub awaited_by : Call → Option Awaited
awaited_by (call.FlushItem i) = Some (Item i.0)
awaited_by (call.FlushDelayed i) = Some (Item i.0)
awaited_by (call.CancelSync i) = Some (Item i.0)
awaited_by (call.Flush q) = Some (Queue q.0)
awaited_by (call.Drain q) = Some (Queue q.0)
awaited_by c = None

-- A wait of this item's run was refused for this reason, which tells the item and what it would have waited for.
pub record IsRefused (s : Layout) (first : ℕ) (own : ItemId) (v : View) (c : Call) (f : WaitFault) (n : ℕ)
    (a : Awaited) (w : View) : Type 0 where
  pub item : n ≡ own.0
  pub awaited : awaited_by c ≡ Some a
  pub reason : IsRefusedFor s first own v c f w

-- A run's wait was refused, or it broke off.
abbrev pub Unwaited : Layout → ℕ → ItemId → View → Call → Fault → View → Type 0
Unwaited s first own v c (Outside o) w = (has_numbers s c ≡ false) × IsOutside s c o × (w ≡ v)
Unwaited s first own v c (Run f) w = Later v w
Unwaited s first own v c (Itself i a) w = IsRefused s first own v c wait.Itself i a w
Unwaited s first own v c (Deadlock i a) w = IsRefused s first own v c wait.Deadlock i a w
Unwaited s first own v c (NoCaller i a) w = IsRefused s first own v c wait.NoCaller i a w
Unwaited s first own v c (Own _) w = ⊥

-- the answer to a run that would wait for itself
abbrev pub TellsItself : Result Reply Fault → Type 0
TellsItself (Err (Itself _ _)) = Unit {0}
TellsItself _ = ⊥

-- ---- what a call leaves, by its answer

-- a call of one entry
pub record MadeOrDenied (s : Layout) (v : View) (c : Call) (answer : Result Reply Fault) (w : View) : Type 0 where
  pub made : IfOk answer (λ r. Extends s v c r w)
  pub denied : IfErr answer (λ f. Denied s v c f w)

-- a call of several entries
pub record DoneOrInterrupted (s : Layout) (v : View) (c : Call) (answer : Result Reply Fault) (w : View) : Type 0 where
  pub done : IfOk answer (λ r. Completes s v c r w)
  pub broke : IfErr answer (λ f. Interrupted s v c f w)

-- a wait of this item's run, where callers from this number on are lent to runs
pub record WaitedOrNot (s : Layout) (first : ℕ) (own : ItemId) (v : View) (c : Call) (answer : Result Reply Fault)
    (w : View) : Type 0 where
  pub waited : IfOk answer (λ r. HasWaited s first v c r w)
  pub unwaited : IfErr answer (λ f. Unwaited s first own v c f w)
  pub itself : is_for_itself own c ≡ true → has_numbers s c ≡ true → TellsItself answer × (w ≡ v)
  pub full : IfErr answer (λ f. f ≡ Run Full → HadNoRoom s first v c w)

-- ---- what a service sees of a hub

-- the fault of a wait of this item's run for this, as a service sees it
abbrev pub fault_of_wait : ItemId → Awaited → WaitFault → Fault
fault_of_wait own a wait.Itself = Itself own.0 a
fault_of_wait own a wait.Deadlock = Deadlock own.0 a
fault_of_wait own a wait.NoCaller = NoCaller own.0 a
fault_of_wait own a (wait.Run f) = Run f

abbrev pub IsFaultOfWait : ItemId → Call → WaitFault → Fault → Type 0
IsFaultOfWait own c f g = (a : Awaited) × (awaited_by c ≡ Some a) × (g ≡ fault_of_wait own a f)

-- the answer of a hub to a batch, as a service sees it
abbrev pub IsBatchAnswer : Result (Unit {0}) (BatchFault RunFault) → Result (Unit {0}) (BatchFault Fault) → Type 0
IsBatchAnswer (Ok u) answer = answer ≡ Ok u
IsBatchAnswer (Err stopped) answer = answer ≡ Err (record { made = stopped.made; fault = Run stopped.fault })

-- the same caller, which sees all that it had seen, and has made these entries since and no others
pub record Continues (v w : View) : Type 0 where
  pub entries : List Entry
  pub gains : Gains v entries w

-- so does a caller, whose entries are not told
abbrev pub GoesOn : View → View → Type 0
GoesOn v w = (w.who ≡ v.who) × ∥ Continues v w ∥₁

-- the same worker, which has made no fewer entries, and sees all that it had seen
abbrev pub IsAfter : View → View → Type 0
IsAfter v w = (w.who ≡ v.who) × (v.serial ≤ w.serial) × (take (length v.seen) w.seen ≡ v.seen)
