-- What an item or a caller does: its actions in turn. Each makes a call, or is at a gate or a lock.
use Rattle.cmwq_text.specs.Words.{◌>>=◌}
use Rattle.std.specs.Prelude.{if◌then◌else◌, ◌∷◌, ◌++◌}
use Rattle.cmwq_json_script.specs.Common.{ℕ, Bool, false, not, List, [], length, Option, Some, None, nat_lt}
use Rattle.cmwq_json_script.specs.Common.{result_ok, is_workers, Call, Data, Items, as_array, in_turn}
use Rattle.cmwq_json_script.specs.declared.word.Word.{Word}
use Rattle.cmwq_json_script.specs.declared.word.Word.TheVariants as word
use Rattle.cmwq_json_script.specs.declared.used.Used.{Used}
use Rattle.cmwq_json_script.specs.declared.action.Action.{Action}
use Rattle.cmwq_json_script.specs.declared.action.Action.TheVariants as action
use Rattle.cmwq_json_script.specs.declared.action.Actor.{Actor}
use Rattle.cmwq_json_script.specs.declared.action.Actor.TheVariants.{Item, Caller}
use Rattle.cmwq_json_script.specs.Lists.{whole, first_item, word_of_items}
use Rattle.cmwq_json_script.specs.Known.{Known}
use Rattle.cmwq_json_script.specs.Calls.{own_call_after, call_with_members}
use Rattle.cmwq_json_script.specs.Used.{gate_said, lock_said}

-- an action by which a run waits: a call that workers don't make
abbrev pub is_wait : Action → Bool
is_wait (action.Call c) = not (is_workers c)
is_wait a = false

abbrev pub most_actions : Actor → ℕ
most_actions Item = 64
most_actions Caller = 1000

-- the calls that items make, and those of callers
abbrev pub call_after : Actor → Known → Word → Items → Option (Call × Items)
call_after Item = own_call_after
call_after Caller = call_with_members

abbrev pub with_call : Actor → Known → Word → Used → Items → Option (Action × Used)
with_call actor known w used ds = do
  call ← whole (call_after actor known w ds)
  Some (action.Call call, used)

-- the gate or the lock that the only part of a list names
abbrev pub only_named : (Used → Data → Option (ℕ × Used)) → Used → Items → Option (ℕ × Used)
only_named says used ds = do
  d ← whole (first_item ds)
  says used d

abbrev pub at_gate : (ℕ → Action) → Used → Items → Option (Action × Used)
at_gate make used ds = do
  gate ← only_named gate_said used ds
  Some (make gate.0, gate.1)

abbrev pub at_lock : (ℕ → Action) → Used → Items → Option (Action × Used)
at_lock make used ds = do
  lock ← only_named lock_said used ds
  Some (make lock.0, lock.1)

-- An item sleeps at a gate, and a caller waits at it.
unfoldable pub action_after : Actor → Known → Word → Used → Items → Option (Action × Used)
action_after actor known word.Open = at_gate action.Open
action_after actor known word.Lock = at_lock action.Lock
action_after actor known word.Unlock = at_lock action.Unlock
action_after Item known word.SleepAt = at_gate action.SleepAt
action_after Caller known word.Wait = at_gate action.SleepAt
action_after actor known w = with_call actor known w

-- an action, and what is used after it
abbrev pub action_said : Actor → Known → Used → Data → Option (Action × Used)
action_said actor known used d = do
  ds ← as_array d
  word ← word_of_items ds
  action_after actor known word.0 used word.1

-- the actions so far, and what they use
pub record Does : Type 0 where
  pub actions : List Action
  pub used : Used

abbrev pub with_action : Actor → Does → Action × Used → Option Does
with_action actor before x = if nat_lt (length before.actions) (most_actions actor)
    then Some (record { actions = before.actions ++ x.0 ∷ []; used = x.1 }) else None

abbrev pub add_action : Actor → Known → Does → Data → Option Does
add_action actor known before d = do
  x ← action_said actor known before.used d
  with_action actor before x

abbrev pub does_said : Actor → Known → Used → Data → Option Does
does_said actor known used d = do
  ds ← as_array d
  result_ok (in_turn (add_action actor known) 0 (record { actions = []; used = used }) ds)
