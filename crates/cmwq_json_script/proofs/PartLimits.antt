-- Queues, items and callers that are read keep to the limits.
use Rattle.cmwq_json_script.specs.Common.{◌≡◌, ℕ, ◌+◌, ◌≤◌, ◌<◌, ◌&&◌, not, Bool, true, false, nat_lt, List, [], ◌∷◌}
use Rattle.cmwq_json_script.specs.Common.{◌++◌, length, Option, Some, None, Ok, Err, refl, ap, ◌∙◌, arith}
use Rattle.cmwq_json_script.specs.Common.{if◌then◌else◌, length-append, option_and_then, IfSome, codes, option_map_or}
use Rattle.cmwq_json_script.specs.Common.{AllByRecursion, result_unwrap_or, nat_tests, same_Some, Data, Items, no_items}
use Rattle.cmwq_json_script.specs.Common.{item, get, as_bool, QueueShape, Layout, in_turn, has_keys, Named, nobody}
use Rattle.cmwq_json_script.specs.Common.{add_named, is_taken, parts_said, AreKept, added, parts_limits, kept, All_push}
use Rattle.cmwq_json_script.specs.declared.used.Used.{Used}
use Rattle.cmwq_json_script.specs.declared.action.Action.{Action}
use Rattle.cmwq_json_script.specs.declared.action.Actor.TheVariants.{Item, Caller}
use Rattle.cmwq_json_script.specs.Known.{Known, known_name, with_name, names_after}
use Rattle.cmwq_json_script.specs.Used.{none_used}
use Rattle.cmwq_json_script.specs.Actions.{Does, does_said}
use Rattle.cmwq_json_script.specs.Items.{item_said, Work, no_work, add_item}
use Rattle.cmwq_json_script.specs.Queues.{has_queue_keys, freezable_said, queue_said, add_queue}
use Rattle.cmwq_json_script.specs.Callers.{Crew, no_crew, with_script, add_caller}
use Rattle.cmwq_json_script.specs.Scripts.{IsCallersScript}
use Rattle.cmwq_json_script.proofs.Readings.{any_read, then_holds, when_read}
use Rattle.cmwq_json_script.proofs.CallLimits.{AreIn}
use Rattle.cmwq_json_script.proofs.ActionLimits.{UsesMore, same_used, uses_more, IsIn, actions_grow, AreRead, does_in}
use Rattle.cmwq_lemmas.proofs.Lists.{All_map}

named_kept : {X : Type 0} (most : ℕ) (P : X → Type 0) (before : Named X) (x : List ℕ × X) → AreKept most P before
    → P x.1 → IfSome (add_named most before x) (AreKept most P)
named_kept {X} most P before x k one = at (add_named most before x) (λ after is. added most P before after x k one is)
  where
    at : (o : Option (Named X)) → ((after : Named X) → o ≡ Some after → AreKept most P after)
        → IfSome o (AreKept most P)
    at None h = tt
    at (Some after) h = h after refl

-- ---- queues

abbrev pub IsWide : QueueShape → Type 0
IsWide q = (1 ≤ q.max_active) × (q.max_active ≤ 512)

queue_wide : (d : Data) → IfSome (queue_said d) (λ x. IsWide x.1)
queue_wide d = at (has_queue_keys d)
  where
    at : (b : Bool)
        → IfSome (if b
        then option_and_then
        (λ parts.
        option_and_then
        (λ flag. option_and_then
        (λ high. option_and_then
        (λ freezable.
        Some (parts.0, record { max_active = parts.1; high = high; intensive = parts.2; freezable = freezable }))
        (freezable_said d)) (as_bool flag)) (get (codes "high") d)) (parts_said d) else None)
        (λ (x : List ℕ × QueueShape). IsWide x.1)
    at false = tt
    at true =
        then_holds (λ parts. (1 ≤ parts.1) × (parts.1 ≤ 512)) (λ (x : List ℕ × QueueShape). IsWide x.1) _ (parts_said d)
        (parts_limits d)
        (λ parts h. then_holds (λ _. Unit {0}) (λ (x : List ℕ × QueueShape). IsWide x.1) _ (get (codes "high") d)
        (any_read (get (codes "high") d))
        (λ flag _. then_holds (λ _. Unit {0}) (λ (x : List ℕ × QueueShape). IsWide x.1) _ (as_bool flag)
        (any_read (as_bool flag))
        (λ high _. then_holds (λ _. Unit {0}) (λ (x : List ℕ × QueueShape). IsWide x.1) _ (freezable_said d)
        (any_read (freezable_said d)) (λ freezable _. h))))

pub queues_kept : (most : ℕ) (ds : Items) (qs : Named QueueShape) → in_turn (add_queue most) 0 nobody ds ≡ Ok qs
    → AreKept most IsWide qs
queues_kept most ds qs is =
    kept (AreKept most IsWide) (add_queue most) one 0 nobody ds qs
    (record { same = refl; few = omega arith; values = tt }) is
  where
    one : (before : Named QueueShape) (d : Data) (after : Named QueueShape) → AreKept most IsWide before
        → add_queue most before d ≡ Some after → AreKept most IsWide after
    one before d after k said =
        when_read (AreKept most IsWide) (add_queue most before d) after
        (then_holds (λ x. IsWide x.1) (AreKept most IsWide) (add_named most before) (queue_said d) (queue_wide d)
        (λ x h. named_kept most IsWide before x k h)) said

-- ---- items

-- items and what they use
pub record AreItems (most : ℕ) (s : Layout) (w : Work) : Type 0 where
  pub items : AreKept most (AllByRecursion (IsIn Item s w.used)) w.items
  pub used : UsesMore none_used w.used

module _ (most : ℕ) (known : Known) (s : Layout) (are : AreIn known s) where
  item_in : (used : Used) (d : Data) → IfSome (item_said known used d) (λ said. AreRead Item s used said.1)
  item_in used d = at (has_keys (codes "does" ∷ codes "name" ∷ []) d)
    where
      at : (b : Bool)
          → IfSome (if b
          then option_and_then
          (λ name. option_and_then
          (λ actions. option_and_then (λ does. Some (name, does)) (does_said Item known used actions))
          (get (codes "does") d)) (known_name d) else None) (λ (said : List ℕ × Does). AreRead Item s used said.1)
      at false = tt
      at true =
          then_holds (λ _. Unit {0}) (λ (said : List ℕ × Does). AreRead Item s used said.1) _ (known_name d)
          (any_read (known_name d))
          (λ name _. then_holds (λ _. Unit {0}) (λ (said : List ℕ × Does). AreRead Item s used said.1) _
          (get (codes "does") d) (any_read (get (codes "does") d))
          (λ actions _. then_holds (AreRead Item s used) (λ (said : List ℕ × Does). AreRead Item s used said.1) _
          (does_said Item known used actions) (does_in known s are Item used actions) (λ does h. h)))

  one_more : (before : Work) → AreItems most s before → (said : List ℕ × Does) → AreRead Item s before.used said.1
      → IfSome (option_and_then (λ items. Some (record { items = items; used = said.1.used }))
      (add_named most before.items (said.0, said.1.actions))) (AreItems most s)
  one_more before k said h =
      let grown : AreKept most (AllByRecursion (IsIn Item s said.1.used)) before.items = record {
        same = k.items.same;
        few = k.items.few;
        values = All_map (AllByRecursion (IsIn Item s before.used)) (AllByRecursion (IsIn Item s said.1.used))
            before.items.values (actions_grow Item s before.used said.1.used h.used) k.items.values;
      } in
      then_holds (AreKept most (AllByRecursion (IsIn Item s said.1.used))) (AreItems most s) _
      (add_named most before.items (said.0, said.1.actions))
      (named_kept most (AllByRecursion (IsIn Item s said.1.used)) before.items (said.0, said.1.actions) grown h.each)
      (λ items l. record { items = l; used = uses_more none_used before.used said.1.used k.used h.used })

  pub items_kept : (ds : Items) (w : Work) → in_turn (add_item most known) 0 no_work ds ≡ Ok w → AreItems most s w
  items_kept ds w is =
      kept (AreItems most s) (add_item most known) one 0 no_work ds w
      (record { items = record { same = refl; few = omega arith; values = tt }; used = same_used none_used }) is
    where
      one : (before : Work) (d : Data) (after : Work) → AreItems most s before
          → add_item most known before d ≡ Some after → AreItems most s after
      one before d after k said =
          when_read (AreItems most s) (add_item most known before d) after
          (then_holds (λ x. AreRead Item s before.used x.1) (AreItems most s) _ (item_said known before.used d)
          (item_in before.used d) (one_more before k)) said

-- each item that is read has a name
pub items_named : (most : ℕ) (known : Known) (ds : Items) (w : Work) → in_turn (add_item most known) 0 no_work ds ≡ Ok w
    → AreKept most (λ _. Unit {0}) w.items
items_named most known ds w is =
    kept (λ m. AreKept most (λ _. Unit {0}) m.items) (add_item most known) one 0 no_work ds w
    (record { same = refl; few = omega arith; values = tt }) is
  where
    one : (before : Work) (d : Data) (after : Work) → AreKept most (λ _. Unit {0}) before.items
        → add_item most known before d ≡ Some after → AreKept most (λ _. Unit {0}) after.items
    one before d after k said =
        when_read (λ (m : Work). AreKept most (λ _. Unit {0}) m.items) (add_item most known before d) after
        (then_holds (λ _. Unit {0}) (λ (m : Work). AreKept most (λ _. Unit {0}) m.items) _
        (item_said known before.used d) (any_read (item_said known before.used d))
        (λ x _. then_holds (AreKept most (λ _. Unit {0})) (λ (m : Work). AreKept most (λ _. Unit {0}) m.items) _
        (add_named most before.items (x.0, x.1.actions))
        (named_kept most (λ _. Unit {0}) before.items (x.0, x.1.actions) k tt) (λ items l. l))) said

-- the names of the items that are read are those that are known
name_added : (most : ℕ) (before : Work) (name : List ℕ) (does : Does) (after : Work)
    → option_and_then (λ items. Some (record { items = items; used = does.used }))
    (add_named most before.items (name, does.actions)) ≡ Some after → with_name most before.items.names (Some name)
    ≡ after.items.names
name_added most before name does after is =
    at (nat_lt (length before.items.names) most && not (is_taken before.items.names name)) is
  where
    at : (b : Bool)
        → option_and_then (λ items. Some (record { items = items; used = does.used }))
        (if b then Some
        (record { names = before.items.names ++ name ∷ []; values = before.items.values ++ does.actions ∷ [] })
        else None) ≡ Some after
        → (if b then before.items.names ++ name ∷ [] else before.items.names) ≡ after.items.names
    at true h =
        ap (λ (w : Work). w.items.names)
        (same_Some
        (record {
          items =
              record { names = before.items.names ++ name ∷ []; values = before.items.values ++ does.actions ∷ [] };
          used = does.used;
        }) after h)
    at false h = cc

name_known : (most : ℕ) (known : Known) (before : Work) (d : Data) (after : Work)
    → add_item most known before d ≡ Some after → with_name most before.items.names (known_name d) ≡ after.items.names
name_known most known before d after is = at (has_keys (codes "does" ∷ codes "name" ∷ []) d) (known_name d) is
  where
    does_at : (name : List ℕ) (o : Option Does)
        → option_and_then
        (λ (said : List ℕ × Does). option_and_then (λ items. Some (record { items = items; used = said.1.used }))
        (add_named most before.items (said.0, said.1.actions))) (option_and_then (λ does. Some (name, does)) o)
        ≡ Some after → with_name most before.items.names (Some name) ≡ after.items.names
    does_at name None h = cc
    does_at name (Some does) h = name_added most before name does after h

    actions_at : (name : List ℕ) (o : Option Data)
        → option_and_then
        (λ (said : List ℕ × Does). option_and_then (λ items. Some (record { items = items; used = said.1.used }))
        (add_named most before.items (said.0, said.1.actions)))
        (option_and_then
        (λ actions. option_and_then (λ does. Some (name, does)) (does_said Item known before.used actions)) o)
        ≡ Some after
        → with_name most before.items.names (Some name) ≡ after.items.names
    actions_at name None h = cc
    actions_at name (Some actions) h = does_at name (does_said Item known before.used actions) h

    at : (b : Bool) (name : Option (List ℕ))
        → option_and_then
        (λ (said : List ℕ × Does). option_and_then (λ items. Some (record { items = items; used = said.1.used }))
        (add_named most before.items (said.0, said.1.actions)))
        (if b then option_and_then
        (λ name. option_and_then
        (λ actions. option_and_then (λ does. Some (name, does)) (does_said Item known before.used actions))
        (get (codes "does") d)) name else None) ≡ Some after
        → with_name most before.items.names name ≡ after.items.names
    at false name h = cc
    at true None h = cc
    at true (Some name) h = actions_at name (get (codes "does") d) h

pub names_are_known : (most : ℕ) (known : Known) (n : ℕ) (before : Work) (ds : Items) (after : Work)
    → in_turn (add_item most known) n before ds ≡ Ok after → names_after most before.items.names ds ≡ after.items.names
names_are_known most known n before no_items after is = ap (λ r. (result_unwrap_or r before).items.names) is
names_are_known most known n before (item d ds) after is =
    at (add_item most known before d) (name_known most known before d)
    (λ w. names_are_known most known (n + 1) w ds after) is
  where
    at : (o : Option Work)
        → ((w : Work) → o ≡ Some w → with_name most before.items.names (known_name d) ≡ w.items.names)
        → ((w : Work) → in_turn (add_item most known) (n + 1) w ds ≡ Ok after
        → names_after most w.items.names ds ≡ after.items.names)
        → option_map_or (λ w. in_turn (add_item most known) (n + 1) w ds) o (Err n) ≡ Ok after
        → names_after most (with_name most before.items.names (known_name d)) ds ≡ after.items.names
    at None named rest h = cc
    at (Some w) named rest h = ap (λ names. names_after most names ds) (named w refl) ∙ rest w h

-- ---- callers

abbrev IsScriptIn : Layout → Used → List Action → Type 0
IsScriptIn s used = IsCallersScript s (length used.gates) (length used.locks)

-- callers, of whom there are so many at most, and what they use where this was used before
pub record AreCallers (most : ℕ) (s : Layout) (before : Used) (c : Crew) : Type 0 where
  pub scripts : AllByRecursion (IsScriptIn s c.used) c.scripts
  pub few : length c.scripts ≤ most
  pub used : UsesMore before c.used

scripts_grow : (s : Layout) (u v : Used) → UsesMore u v → (scripts : List (List Action))
    → AllByRecursion (IsScriptIn s u) scripts → AllByRecursion (IsScriptIn s v) scripts
scripts_grow s u v more scripts =
    All_map (IsScriptIn s u) (IsScriptIn s v) scripts (λ actions h. (actions_grow Caller s u v more actions h.0, h.1))

module _ (most : ℕ) (known : Known) (s : Layout) (are : AreIn known s) where
  one_more_caller : (first : Used) (before : Crew) → AreCallers most s first before → (does : Does)
      → AreRead Caller s before.used does → IfSome (with_script most before does) (AreCallers most s first)
  one_more_caller first before k does h = at (nat_lt (length before.scripts) most) refl
    where
      at : (b : Bool) → nat_lt (length before.scripts) most ≡ b
          → IfSome (if b
          then Some (record { scripts = before.scripts ++ does.actions ∷ []; used = does.used }) else None)
          (AreCallers most s first)
      at true room =
          let less : length before.scripts < most = grind (arith, nat_tests) in
          let more = length-append before.scripts (does.actions ∷ []) in
          record {
            scripts = All_push (IsScriptIn s does.used) before.scripts does.actions
                (scripts_grow s before.used does.used h.used before.scripts k.scripts) (h.each, h.few);
            few = omega arith;
            used = uses_more first before.used does.used k.used h.used;
          }
      at false room = tt

  pub callers_kept : (used : Used) (ds : Items) (c : Crew) → in_turn (add_caller most known) 0 (no_crew used) ds ≡ Ok c
      → AreCallers most s used c
  callers_kept used ds c is =
      kept (AreCallers most s used) (add_caller most known) one 0 (no_crew used) ds c
      (record { scripts = tt; few = omega arith; used = same_used used }) is
    where
      one : (before : Crew) (d : Data) (after : Crew) → AreCallers most s used before
          → add_caller most known before d ≡ Some after → AreCallers most s used after
      one before d after k said =
          when_read (AreCallers most s used) (add_caller most known before d) after
          (then_holds (AreRead Caller s before.used) (AreCallers most s used) (with_script most before)
          (does_said Caller known before.used d) (does_in known s are Caller before.used d)
          (one_more_caller used before k)) said
