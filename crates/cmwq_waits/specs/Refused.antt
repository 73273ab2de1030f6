-- Which waits are refused when a run is about to wait.
use Rattle.std.specs.Prelude.{◌++◌, ◌==◌, ◌∷◌, ◌≡◌, ◌⊎◌}
use Rattle.cmwq_waits.specs.Common.{ℕ, Bool, true, false, List, [], not, filter, length, Option}
use Rattle.cmwq_waits.specs.Common.{Some, None, option_map_or, option_to_list, Layout, Entry, Call, Queueing}
use Rattle.cmwq_waits.specs.Common.{Ticket, RunWait, is_held_back, queued_of_booked, still_open}
use Rattle.cmwq_model.specs.Prelude.{is_unstarted}
use Rattle.cmwq_model.specs.declared.id.ItemId.{ItemId}
use Rattle.cmwq_model.specs.declared.call.Call.TheVariants as call
use Rattle.std.specs.Prelude.{zero, suc, AllPairs, ◌≢◌, if◌then◌else◌}
use Rattle.cmwq_waits.specs.Common.{list_any}
use Rattle.cmwq_waits.specs.HeldUp.{NeverEnds, Scene, awaits, is_held_up}
use Rattle.cmwq_waits.specs.declared.waits.Stuck.{Stuck}
use Rattle.cmwq_waits.specs.declared.waits.Stuck.TheVariants.{Itself, Circle}

-- ---- the scene once the call is made

-- the item of which the call takes back what has not started, and what the call queues of a booked item
abbrev pub item_taken_back : Call → Option ItemId
item_taken_back (call.CancelSync i) = Some i
item_taken_back c = None

abbrev pub item_flushed : Call → Option ItemId
item_flushed (call.FlushDelayed i) = Some i
item_flushed c = None

abbrev pub queued : List Entry → Call → Option Queueing
queued past (call.FlushDelayed i) = queued_of_booked past i.0
queued past c = None

abbrev pub stays_open : List Entry → Option ItemId → Queueing → Bool
stays_open past o x = not (option_map_or (λ (i : ItemId). is_unstarted past i.0 x) o false)

abbrev pub scene_with : Layout → List Entry → Option ItemId → Option Queueing → Scene
scene_with s past taken more = record {
  layout = s;
  past = past;
  opened =
      filter (stays_open past taken) (still_open past) ++ option_to_list more;
}

abbrev pub scene_after : Layout → List Entry → Call → Scene
scene_after s past c = scene_with s past (item_taken_back c) (queued past c)

-- ---- the wait that begins then

-- the call waits for nothing, since its item is booked on a queue that is drained
abbrev pub is_turned_away : List Entry → Call → Bool
is_turned_away past (call.FlushDelayed i) = is_held_back past i.0
is_turned_away past c = false

-- the ticket that the call gives has the number of the next entry; whose it is doesn't matter
abbrev pub next_ticket : List Entry → Call → Ticket
next_ticket past c = record { caller = record { 0 = 0 }; call = c; number = length past }

abbrev pub next_wait : List Entry → Queueing → Call → RunWait
next_wait past run c = record { run = run; ticket = next_ticket past c }

-- the other runs that wait, and this one
abbrev pub is_other : ℕ → RunWait → Bool
is_other run w = not (w.run.number == run)

abbrev pub waits_with : List Entry → List RunWait → Queueing → Call → List RunWait
waits_with past waits run c = filter (is_other run.number) waits ++ next_wait past run c ∷ []

-- A wait of this run by this call is refused, where these wait already: it would wait for its own run, or it could
-- never end since it would be in a deadlock. It is not refused where neither is so, or it would wait for nothing.
abbrev pub CouldNeverEnd : Layout → List Entry → List RunWait → Queueing → Call → Type 0
CouldNeverEnd s past waits run c =
    NeverEnds (scene_after s past c) (waits_with past waits run c) run.number

abbrev pub Refuses : Layout → List Entry → List RunWait → Queueing → Call → Option Stuck → Type 0
Refuses s past waits run c (Some Itself) =
    (is_turned_away past c ≡ false) × (awaits past (next_ticket past c) run ≡ true)
Refuses s past waits run c (Some Circle) =
    (is_turned_away past c ≡ false) × (awaits past (next_ticket past c) run ≡ false)
    × CouldNeverEnd s past waits run c
Refuses s past waits run c None =
    (is_turned_away past c ≡ true)
    ⊎ ((awaits past (next_ticket past c) run ≡ false) × (CouldNeverEnd s past waits run c → ⊥))

-- ---- the same as a function

-- Of some waits those stay that are held up by all of them; and of these again, so many times.
abbrev pub stays : Scene → List RunWait → RunWait → Bool
stays c set w = is_held_up c set w.ticket

unfoldable pub left_of : ℕ → Scene → List RunWait → List RunWait
left_of zero c set = set
left_of (suc n) c set = left_of n c (filter (stays c set) set)

-- what is left of as many waits as there are is the greatest deadlock
abbrev pub is_of_run : ℕ → RunWait → Bool
is_of_run run w = w.run.number == run

abbrev pub never_ends : Scene → List RunWait → ℕ → Bool
never_ends c waits run = list_any (is_of_run run) (left_of (length waits) c waits)

abbrev pub refusal : Layout → List Entry → List RunWait → Queueing → Call → Option Stuck
refusal s past waits run c =
    if is_turned_away past c then None
    else if awaits past (next_ticket past c) run then Some Itself
    else if never_ends (scene_after s past c) (waits_with past waits run c) run.number then Some Circle
    else None

-- no run waits twice
abbrev pub AreApart : List RunWait → Type 0
AreApart waits = AllPairs (λ (v w : RunWait). v.run.number ≢ w.run.number) waits

-- where no run waits twice, the function is the definition
abbrev pub RefusalsAreRefused : Type 0
RefusalsAreRefused = (s : Layout) (past : List Entry) (waits : List RunWait) (run : Queueing) (c : Call)
    → AreApart waits → Refuses s past waits run c (refusal s past waits run c)
