-- Actions that are read have numbers inside the layout, and gates and locks that there are.
use Rattle.cmwq_json_script.specs.Common.{◌≡◌, ℕ, ◌≤◌, ◌<◌, Bool, true, false, nat_lt, List, [], ◌∷◌, ◌++◌, length}
use Rattle.cmwq_json_script.specs.Common.{Option, Some, None, refl, arith, if◌then◌else◌, length-append}
use Rattle.cmwq_json_script.specs.Common.{option_and_then, IfSome, bytes_eq, AllByRecursion, nat_tests, Data, Items}
use Rattle.cmwq_json_script.specs.Common.{as_array, Call, Layout, has_numbers, IsScripted, IfSome_then, name_said}
use Rattle.cmwq_json_script.specs.Common.{number_of_name, placed, All_push}
use Rattle.cmwq_json_script.specs.declared.word.Word.{Word}
use Rattle.cmwq_json_script.specs.declared.word.Word.TheVariants as word
use Rattle.cmwq_json_script.specs.declared.used.Used.{Used}
use Rattle.cmwq_json_script.specs.declared.action.Action.{Action}
use Rattle.cmwq_json_script.specs.declared.action.Action.TheVariants as action
use Rattle.cmwq_json_script.specs.declared.action.Actor.{Actor}
use Rattle.cmwq_json_script.specs.declared.action.Actor.TheVariants.{Item, Caller}
use Rattle.cmwq_json_script.specs.Lists.{word_of_items, whole, first_item}
use Rattle.cmwq_json_script.specs.Known.{Known}
use Rattle.cmwq_json_script.specs.Calls.{own_call_after}
use Rattle.cmwq_json_script.specs.Numbering.{numbered, number_said}
use Rattle.cmwq_json_script.specs.Used.{gate_said, lock_said}
use Rattle.cmwq_json_script.specs.Actions.{most_actions, call_after, with_call, only_named, at_gate, at_lock}
use Rattle.cmwq_json_script.specs.Actions.{action_after, action_said, Does, with_action, add_action, does_said}
use Rattle.cmwq_json_script.specs.Scripts.{is_own, IsActionOf}
use Rattle.cmwq_json_script.proofs.Readings.{any_read, then_holds, when_read, list_read, whole_holds}
use Rattle.cmwq_json_script.proofs.CallLimits.{AreIn, own_call_in, call_in}
use Rattle.cmwq_lemmas.proofs.Lists.{All_map}

-- ---- what is used grows

-- there are no fewer names than before, and not too many
pub record Grows (before after : List (List ℕ)) : Type 0 where
  pub more : length before ≤ length after
  pub few : length before ≤ 16 → length after ≤ 16

pub record UsesMore (before after : Used) : Type 0 where
  pub gates : Grows before.gates after.gates
  pub locks : Grows before.locks after.locks

same_names : (names : List (List ℕ)) → Grows names names
same_names names = record { more = omega arith; few = λ h. h }

pub same_used : (used : Used) → UsesMore used used
same_used used = record { gates = same_names used.gates; locks = same_names used.locks }

grows_on : (a b c : List (List ℕ)) → Grows a b → Grows b c → Grows a c
grows_on a b c g h =
    let x = g.more in
    let y = h.more in
    record { more = omega arith; few = λ few. h.few (g.few few) }

pub uses_more : (a b c : Used) → UsesMore a b → UsesMore b c → UsesMore a c
uses_more a b c g h =
    record {
      gates = grows_on a.gates b.gates c.gates g.gates h.gates;
      locks = grows_on a.locks b.locks c.locks g.locks h.locks;
    }

number_in : (names : List (List ℕ)) (d : Data)
    → IfSome (number_said names d) (λ r. (r.0 < length r.1) × Grows names r.1)
number_in names d =
    then_holds (λ _. Unit {0}) (λ r. (r.0 < length r.1) × Grows names r.1)
    (λ name. numbered names name (number_of_name names name)) (name_said d) (any_read (name_said d))
    (λ name _. at name (number_of_name names name) (placed (bytes_eq name) names))
  where
    room : (name : List ℕ) (b : Bool) → nat_lt (length names) 16 ≡ b
        → IfSome {T = ℕ × List (List ℕ)} (if b then Some (length names, names ++ name ∷ []) else None)
        (λ r. (r.0 < length r.1) × Grows names r.1)
    room name true h =
        let less : length names < 16 = grind (arith, nat_tests) in
        let more = length-append names (name ∷ []) in
        (omega arith, record { more = omega arith; few = λ _. omega arith })
    room name false h = tt

    at : (name : List ℕ) (o : Option ℕ) → IfSome o (λ i. i < length names)
        → IfSome (numbered names name o) (λ r. (r.0 < length r.1) × Grows names r.1)
    at name (Some n) less = (less, same_names names)
    at name None _ = room name (nat_lt (length names) 16) refl

gate_in : (used : Used) (d : Data)
    → IfSome (gate_said used d) (λ r. (r.0 < length r.1.gates) × UsesMore used r.1)
gate_in used d =
    then_holds (λ r. (r.0 < length r.1) × Grows used.gates r.1)
    (λ (r : ℕ × Used). (r.0 < length r.1.gates) × UsesMore used r.1)
    (λ gate. Some (gate.0, record used { gates = gate.1 })) (number_said used.gates d) (number_in used.gates d)
    (λ gate h. (h.0, record { gates = h.1; locks = same_names used.locks }))

lock_in : (used : Used) (d : Data)
    → IfSome (lock_said used d) (λ r. (r.0 < length r.1.locks) × UsesMore used r.1)
lock_in used d =
    then_holds (λ r. (r.0 < length r.1) × Grows used.locks r.1)
    (λ (r : ℕ × Used). (r.0 < length r.1.locks) × UsesMore used r.1)
    (λ lock. Some (lock.0, record used { locks = lock.1 })) (number_said used.locks d) (number_in used.locks d)
    (λ lock h. (h.0, record { gates = same_names used.gates; locks = h.1 }))

-- ---- actions

-- the calls that items, or callers, may make
abbrev pub MayCall : Actor → Layout → Call → Type 0
MayCall Item s = λ c. (is_own c ≡ true) × (has_numbers s c ≡ true)
MayCall Caller s = IsScripted s

-- an action among what is used
abbrev pub IsIn : Actor → Layout → Used → Action → Type 0
IsIn actor s used = IsActionOf (MayCall actor s) (length used.gates) (length used.locks)

action_grows : (actor : Actor) (s : Layout) (u v : Used) → UsesMore u v → (a : Action) → IsIn actor s u a
    → IsIn actor s v a
action_grows actor s u v more (action.Call c) h = h
action_grows actor s u v more (action.Open gate) h = let k = more.gates.more in omega arith
action_grows actor s u v more (action.SleepAt gate) h = let k = more.gates.more in omega arith
action_grows actor s u v more (action.Lock lock) h = let k = more.locks.more in omega arith
action_grows actor s u v more (action.Unlock lock) h = let k = more.locks.more in omega arith

pub actions_grow : (actor : Actor) (s : Layout) (u v : Used) → UsesMore u v → (actions : List Action)
    → AllByRecursion (IsIn actor s u) actions → AllByRecursion (IsIn actor s v) actions
actions_grow actor s u v more actions =
    All_map (IsIn actor s u) (IsIn actor s v) actions (action_grows actor s u v more)

-- actions, and what is used after them where this was used before
pub record AreRead (actor : Actor) (s : Layout) (before : Used) (m : Does) : Type 0 where
  pub each : AllByRecursion (IsIn actor s m.used) m.actions
  pub few : length m.actions ≤ most_actions actor
  pub used : UsesMore before m.used

module _ (known : Known) (s : Layout) (are : AreIn known s) where
  abbrev IsNext : Actor → Used → Action × Used → Type 0
  IsNext actor used r = IsIn actor s r.1 r.0 × UsesMore used r.1

  may_call : (actor : Actor) (w : Word) (ds : Items) → IfSome (call_after actor known w ds) (λ r. MayCall actor s r.0)
  may_call Item w ds =
      IfSome_then (own_call_after known w ds) (own_call_in known s are w ds) (λ r h. (h.own, h.numbers))
  may_call Caller w ds = call_in known s are w ds

  of_call : (actor : Actor) (w : Word) (used : Used) (ds : Items)
      → IfSome (with_call actor known w used ds) (IsNext actor used)
  of_call actor w used ds =
      then_holds (MayCall actor s) (IsNext actor used) (λ call. Some (action.Call call, used))
      (whole (call_after actor known w ds))
      (whole_holds (MayCall actor s) (call_after actor known w ds) (may_call actor w ds)) (λ c h. (h, same_used used))

  of_gate : (actor : Actor) (make : ℕ → Action)
      → ((gate : ℕ) (used : Used) → gate < length used.gates → IsIn actor s used (make gate))
      → (used : Used) (ds : Items) → IfSome (at_gate make used ds) (IsNext actor used)
  of_gate actor make is used ds =
      then_holds (λ r. (r.0 < length r.1.gates) × UsesMore used r.1) (IsNext actor used)
      (λ gate. Some (make gate.0, gate.1)) (only_named gate_said used ds)
      (then_holds (λ _. Unit {0}) (λ r. (r.0 < length r.1.gates) × UsesMore used r.1) (gate_said used)
      (whole (first_item ds)) (any_read (whole (first_item ds))) (λ d _. gate_in used d))
      (λ r h. (is r.0 r.1 h.0, h.1))

  of_lock : (actor : Actor) (make : ℕ → Action)
      → ((lock : ℕ) (used : Used) → lock < length used.locks → IsIn actor s used (make lock))
      → (used : Used) (ds : Items) → IfSome (at_lock make used ds) (IsNext actor used)
  of_lock actor make is used ds =
      then_holds (λ r. (r.0 < length r.1.locks) × UsesMore used r.1) (IsNext actor used)
      (λ lock. Some (make lock.0, lock.1)) (only_named lock_said used ds)
      (then_holds (λ _. Unit {0}) (λ r. (r.0 < length r.1.locks) × UsesMore used r.1) (lock_said used)
      (whole (first_item ds)) (any_read (whole (first_item ds))) (λ d _. lock_in used d))
      (λ r h. (is r.0 r.1 h.0, h.1))

  next_in : (actor : Actor) (w : Word) (used : Used) (ds : Items)
      → IfSome (action_after actor known w used ds) (IsNext actor used)
  unfolding action_after
  next_in actor word.Open used ds = of_gate actor action.Open (λ gate u less. less) used ds
  next_in actor word.Lock used ds = of_lock actor action.Lock (λ lock u less. less) used ds
  next_in actor word.Unlock used ds = of_lock actor action.Unlock (λ lock u less. less) used ds
  next_in Item word.SleepAt used ds = of_gate Item action.SleepAt (λ gate u less. less) used ds
  next_in Caller word.SleepAt used ds = of_call Caller word.SleepAt used ds
  next_in Item word.Wait used ds = of_call Item word.Wait used ds
  next_in Caller word.Wait used ds = of_gate Caller action.SleepAt (λ gate u less. less) used ds
  next_in actor word.Queue used ds = of_call actor word.Queue used ds
  next_in actor word.Delay used ds = of_call actor word.Delay used ds
  next_in actor word.Modify used ds = of_call actor word.Modify used ds
  next_in actor word.Cancel used ds = of_call actor word.Cancel used ds
  next_in actor word.Tick used ds = of_call actor word.Tick used ds
  next_in actor word.Flush used ds = of_call actor word.Flush used ds
  next_in actor word.FlushItem used ds = of_call actor word.FlushItem used ds
  next_in actor word.FlushDelayed used ds = of_call actor word.FlushDelayed used ds
  next_in actor word.CancelSync used ds = of_call actor word.CancelSync used ds
  next_in actor word.Drain used ds = of_call actor word.Drain used ds
  next_in actor word.SetMax used ds = of_call actor word.SetMax used ds
  next_in actor word.Freeze used ds = of_call actor word.Freeze used ds
  next_in actor word.Thaw used ds = of_call actor word.Thaw used ds
  next_in actor word.Destroy used ds = of_call actor word.Destroy used ds

  action_in : (actor : Actor) (used : Used) (d : Data) → IfSome (action_said actor known used d) (IsNext actor used)
  action_in actor used d =
      then_holds (λ _. Unit {0}) (IsNext actor used)
      (λ ds. option_and_then (λ w. action_after actor known w.0 used w.1) (word_of_items ds)) (as_array d)
      (any_read (as_array d))
      (λ ds _. then_holds (λ _. Unit {0}) (IsNext actor used) (λ w. action_after actor known w.0 used w.1)
      (word_of_items ds) (any_read (word_of_items ds)) (λ w _. next_in actor w.0 used w.1))

  one_more : (actor : Actor) (before : Used) (m : Does) → AreRead actor s before m → (x : Action × Used)
      → IsNext actor m.used x → IfSome (with_action actor m x) (AreRead actor s before)
  one_more actor before m k x h = at (nat_lt (length m.actions) (most_actions actor)) refl
    where
      at : (b : Bool) → nat_lt (length m.actions) (most_actions actor) ≡ b
          → IfSome (if b then Some (record { actions = m.actions ++ x.0 ∷ []; used = x.1 }) else None)
          (AreRead actor s before)
      at true room =
          let less : length m.actions < most_actions actor = grind (arith, nat_tests) in
          let more = length-append m.actions (x.0 ∷ []) in
          record {
            each = All_push (IsIn actor s x.1) m.actions x.0
                (actions_grow actor s m.used x.1 h.1 m.actions k.each) h.0;
            few = omega arith;
            used = uses_more before m.used x.1 k.used h.1;
          }
      at false room = tt

  pub does_in : (actor : Actor) (used : Used) (d : Data)
      → IfSome (does_said actor known used d) (AreRead actor s used)
  does_in actor used d =
      then_holds (λ _. Unit {0}) (AreRead actor s used) _ (as_array d) (any_read (as_array d))
      (λ ds _. list_read (AreRead actor s used) (add_action actor known) (record { actions = []; used = used }) keeps
      (record { each = tt; few = omega arith; used = same_used used }) ds)
    where
      keeps : (m : Does) (d : Data) (after : Does) → AreRead actor s used m → add_action actor known m d ≡ Some after
          → AreRead actor s used after
      keeps m d after k is =
          when_read (AreRead actor s used) (add_action actor known m d) after
          (then_holds (IsNext actor m.used) (AreRead actor s used) (with_action actor m)
          (action_said actor known m.used d) (action_in actor m.used d) (one_more actor used m k)) is
