-- No script that is read names a ticket by its number.
use Rattle.std.specs.Prelude.{◌++◌, ◌∷◌, ◌+◌, ◌-◌, [], if◌then◌else◌, nat_lt, not, length}
use Rattle.std.specs.List.{list_any}
use Rattle.std.proofs.Common.{◌≡◌, ℕ, option_and_then, Bool, true, false, List, Option, Some, None, Result, Ok, Err, ap}
use Rattle.std.proofs.Common.{refl, subst, arith}
use Rattle.std.proofs.lemmas.Option.{option_and_then_some, same_Some}
use Rattle.cmwq_model.specs.declared.call.Call.{Call}
use Rattle.cmwq_model.specs.declared.call.Call.TheVariants as call
use Rattle.cmwq_json_script.specs.Common.{Data, Items, Named, QueueShape, Refused, add_named, as_array, codes, get}
use Rattle.cmwq_json_script.specs.Common.{in_turn, item, no_items, option_map_or, result_ok}
use Rattle.cmwq_json_script.specs.declared.action.Action.{Action}
use Rattle.cmwq_json_script.specs.declared.action.Action.TheVariants as action
use Rattle.cmwq_json_script.specs.declared.action.Actor.{Actor}
use Rattle.cmwq_json_script.specs.declared.action.Actor.TheVariants.{Item, Caller}
use Rattle.cmwq_json_script.specs.declared.used.Used.{Used}
use Rattle.cmwq_json_script.specs.declared.word.Word.{Word}
use Rattle.cmwq_json_script.specs.declared.word.Word.TheVariants as word
use Rattle.cmwq_json_script.specs.Actions.{Does, action_said, add_action, at_gate, at_lock, call_after, does_said}
use Rattle.cmwq_json_script.specs.Actions.{most_actions, only_named, with_call}
unfoldable use Rattle.cmwq_json_script.specs.Actions.{action_after}
use Rattle.cmwq_json_script.specs.Callers.{Crew, add_caller, no_crew}
unfoldable use Rattle.cmwq_json_script.specs.Calls.{call_with_members, own_call_after}
use Rattle.cmwq_json_script.specs.Items.{Work, add_item, item_said, no_work}
use Rattle.cmwq_json_script.specs.Known.{Known, known_name}
use Rattle.cmwq_json_script.specs.Limits.{callers_in, items_in}
use Rattle.cmwq_json_script.specs.Lists.{has_no_item, items_four, items_one, items_three, items_two, part_in, whole}
use Rattle.cmwq_json_script.specs.Lists.{word_of_items}
use Rattle.cmwq_json_script.specs.Runs.{Run, callers_said, items_said, known_in, queues_said, some_of, waits_in}
use Rattle.cmwq_json_script.specs.Runs.{with_callers, with_items, with_queues}
use Rattle.cmwq_json.specs.Parts.{callers, items}
use Rattle.cmwq_json_script.specs.Tops.{Top, top_said}
use Rattle.cmwq_json_script.specs.Used.{gate_said, lock_said}
use Rattle.cmwq_key.specs.Alike.{NoneNames, ReadRunsNameNone, names_ticket}

-- ---- what is made of parts

module _ {Y : Type 0} (P : Y → Type 0) where
  one_makes : {A : Type 0} (says : Data → Option A) (make : A → Y) (ds : Items) (x : Y × Items) → ((a : A) → P (make a))
      → items_one says make ds ≡ Some x → P x.0
  one_makes says make ds x each h =
      option_and_then_some _ (part_in says ds) x h
      (λ a got same. subst P (ap (λ y. y.0) (same_Some _ x same)) (each a.0))

  two_makes : {A B : Type 0} (says_a : Data → Option A) (says_b : Data → Option B) (make : A → B → Y) (ds : Items)
      (x : Y × Items) → ((a : A) (b : B) → P (make a b)) → items_two says_a says_b make ds ≡ Some x → P x.0
  two_makes says_a says_b make ds x each h =
      option_and_then_some _ (part_in says_a ds) x h (λ a got rest.
      option_and_then_some _ (part_in says_b a.1) x rest (λ b more same.
      subst P (ap (λ y. y.0) (same_Some _ x same)) (each a.0 b.0)))

  three_makes : {A B C : Type 0} (says_a : Data → Option A) (says_b : Data → Option B) (says_c : Data → Option C)
      (make : A → B → C → Y) (ds : Items) (x : Y × Items) → ((a : A) (b : B) (c : C) → P (make a b c))
      → items_three says_a says_b says_c make ds ≡ Some x → P x.0
  three_makes says_a says_b says_c make ds x each h =
      option_and_then_some _ (part_in says_a ds) x h (λ a got rest.
      option_and_then_some _ (part_in says_b a.1) x rest (λ b more left.
      option_and_then_some _ (part_in says_c b.1) x left (λ c last same.
      subst P (ap (λ y. y.0) (same_Some _ x same)) (each a.0 b.0 c.0))))

  four_makes : {A B C D : Type 0} (says_a : Data → Option A) (says_b : Data → Option B) (says_c : Data → Option C)
      (says_d : Data → Option D) (make : A → B → C → D → Y) (ds : Items) (x : Y × Items)
      → ((a : A) (b : B) (c : C) (d : D) → P (make a b c d))
      → items_four says_a says_b says_c says_d make ds ≡ Some x → P x.0
  four_makes says_a says_b says_c says_d make ds x each h =
      option_and_then_some _ (part_in says_a ds) x h (λ a got rest.
      option_and_then_some _ (part_in says_b a.1) x rest (λ b more left.
      option_and_then_some _ (part_in says_c b.1) x left (λ c fewer end.
      option_and_then_some _ (part_in says_d c.1) x end (λ d last same.
      subst P (ap (λ y. y.0) (same_Some _ x same)) (each a.0 b.0 c.0 d.0)))))

-- ---- calls

abbrev NamesNone : Call → Type 0
NamesNone c = names_ticket (action.Call c) ≡ false

own_call_names_none : (known : Known) (w : Word) (ds : Items) (x : Call × Items) → own_call_after known w ds ≡ Some x
    → NamesNone x.0
unfolding own_call_after
own_call_names_none known word.Queue ds x h = three_makes NamesNone _ _ _ call.Queue ds x (λ a b c. refl) h
own_call_names_none known word.Delay ds x h = four_makes NamesNone _ _ _ _ call.Delay ds x (λ a b c d. refl) h
own_call_names_none known word.Modify ds x h = four_makes NamesNone _ _ _ _ call.Modify ds x (λ a b c d. refl) h
own_call_names_none known word.Cancel ds x h = one_makes NamesNone _ call.Cancel ds x (λ a. refl) h
own_call_names_none known word.FlushItem ds x h = one_makes NamesNone _ call.FlushItem ds x (λ a. refl) h
own_call_names_none known word.FlushDelayed ds x h = one_makes NamesNone _ call.FlushDelayed ds x (λ a. refl) h
own_call_names_none known word.CancelSync ds x h = one_makes NamesNone _ call.CancelSync ds x (λ a. refl) h
own_call_names_none known word.Flush ds x h = one_makes NamesNone _ call.Flush ds x (λ a. refl) h
own_call_names_none known word.Drain ds x h = one_makes NamesNone _ call.Drain ds x (λ a. refl) h
own_call_names_none known w ds x h = absurd (cc h)

call_names_none : (known : Known) (w : Word) (ds : Items) (x : Call × Items) → call_with_members known w ds ≡ Some x
    → NamesNone x.0
unfolding call_with_members
call_names_none known word.Tick ds x h = one_makes NamesNone _ call.Tick ds x (λ a. refl) h
call_names_none known word.SetMax ds x h = two_makes NamesNone _ _ call.SetMax ds x (λ a b. refl) h
call_names_none known word.Freeze ds x h = subst NamesNone (ap (λ y. y.0) (same_Some _ x h)) refl
call_names_none known word.Thaw ds x h = subst NamesNone (ap (λ y. y.0) (same_Some _ x h)) refl
call_names_none known word.Destroy ds x h = one_makes NamesNone _ call.Destroy ds x (λ a. refl) h
call_names_none known w ds x h = own_call_names_none known w ds x h

either_names_none : (actor : Actor) (known : Known) (w : Word) (ds : Items) (x : Call × Items)
    → call_after actor known w ds ≡ Some x → NamesNone x.0
either_names_none Item known w ds x h = own_call_names_none known w ds x h
either_names_none Caller known w ds x h = call_names_none known w ds x h

-- ---- actions

with_call_names_none : (actor : Actor) (known : Known) (w : Word) (used : Used) (ds : Items) (x : Action × Used)
    → with_call actor known w used ds ≡ Some x → names_ticket x.0 ≡ false
with_call_names_none actor known w used ds x h =
    option_and_then_some _ (whole (call_after actor known w ds)) x h (λ c got same.
    option_and_then_some _ (call_after actor known w ds) c got (λ a read all.
    subst (λ d. names_ticket d ≡ false) (ap (λ y. y.0) (same_Some _ x same))
    (subst NamesNone (kept (has_no_item a.1) a.0 c all) (either_names_none actor known w ds a read))))
  where
    kept : (b : Bool) (c d : Call) → (if b then Some c else None) ≡ Some d → c ≡ d
    kept true c d h = same_Some c d h
    kept false c d h = absurd (cc h)

gate_names_none : (make : ℕ → Action) → ((n : ℕ) → names_ticket (make n) ≡ false) → (used : Used) (ds : Items)
    (x : Action × Used) → at_gate make used ds ≡ Some x → names_ticket x.0 ≡ false
gate_names_none make each used ds x h =
    option_and_then_some _ (only_named gate_said used ds) x h (λ gate got same.
    subst (λ d. names_ticket d ≡ false) (ap (λ y. y.0) (same_Some _ x same)) (each gate.0))

lock_names_none : (make : ℕ → Action) → ((n : ℕ) → names_ticket (make n) ≡ false) → (used : Used) (ds : Items)
    (x : Action × Used) → at_lock make used ds ≡ Some x → names_ticket x.0 ≡ false
lock_names_none make each used ds x h =
    option_and_then_some _ (only_named lock_said used ds) x h (λ lock got same.
    subst (λ d. names_ticket d ≡ false) (ap (λ y. y.0) (same_Some _ x same)) (each lock.0))

action_names_none : (actor : Actor) (known : Known) (w : Word) (used : Used) (ds : Items) (x : Action × Used)
    → action_after actor known w used ds ≡ Some x → names_ticket x.0 ≡ false
unfolding action_after
action_names_none actor known word.Open used ds x h = gate_names_none action.Open (λ n. refl) used ds x h
action_names_none actor known word.Lock used ds x h = lock_names_none action.Lock (λ n. refl) used ds x h
action_names_none actor known word.Unlock used ds x h = lock_names_none action.Unlock (λ n. refl) used ds x h
action_names_none Item known word.SleepAt used ds x h = gate_names_none action.SleepAt (λ n. refl) used ds x h
action_names_none Caller known word.Wait used ds x h = gate_names_none action.SleepAt (λ n. refl) used ds x h
action_names_none actor known w used ds x h = with_call_names_none actor known w used ds x h

-- ---- lists of what is read in turn

same_ok : {S E : Type 0} (x y : S) → ◌≡◌ {A = Result S E} (Ok x) (Ok y) → x ≡ y
same_ok x y h = grind arith

-- what holds at first, and stays so, holds of what is read
module _ {S : Type 0} (P : S → Type 0) (adds : S → Data → Option S)
    (keeps : (before : S) (d : Data) (later : S) → P before → adds before d ≡ Some later → P later) where
  in_turn_keeps : (n : ℕ) (before : S) (ds : Items) (later : S) → P before → in_turn adds n before ds ≡ Ok later
      → P later
  in_turn_keeps n before no_items later holds h = subst P (same_ok before later h) holds
  in_turn_keeps n before (item d ds) later holds h =
      at (λ next good. in_turn_keeps (n + 1) next ds later good) (adds before d) refl h
    where
      at : ((next : S) → P next → in_turn adds (n + 1) next ds ≡ Ok later → P later) → (o : Option S)
          → adds before d ≡ o → option_map_or (λ next. in_turn adds (n + 1) next ds) o (Err n) ≡ Ok later → P later
      at rest None is h = absurd (cc h)
      at rest (Some next) is h = rest next (keeps before d next holds is) h

none_more : {X : Type 0} (p : X → Bool) (xs : List X) (y : X) → list_any p xs ≡ false → p y ≡ false
    → list_any p (xs ++ y ∷ []) ≡ false
none_more p [] y none not = grind arith
none_more p (x ∷ xs) y none not = grind (arith, none_more p xs y)

-- one more action
actions_name_none : (actor : Actor) (known : Known) (before : Does) (d : Data) (later : Does)
    → list_any names_ticket before.actions ≡ false → add_action actor known before d ≡ Some later
    → list_any names_ticket later.actions ≡ false
actions_name_none actor known before d later none h =
    option_and_then_some _ (action_said actor known before.used d) later h (λ x said more.
    subst (λ does. list_any names_ticket does.actions ≡ false)
    (kept (nat_lt (length before.actions) (most_actions actor)) _ later more)
    (none_more names_ticket before.actions x.0 none (said_none x said)))
  where
    kept : (b : Bool) (x y : Does) → (if b then Some x else None) ≡ Some y → x ≡ y
    kept true x y h = same_Some x y h
    kept false x y h = absurd (cc h)

    said_none : (x : Action × Used) → action_said actor known before.used d ≡ Some x → names_ticket x.0 ≡ false
    said_none x said =
        option_and_then_some _ (as_array d) x said (λ ds array rest.
        option_and_then_some _ (word_of_items ds) x rest (λ word read after.
        action_names_none actor known word.0 before.used word.1 x after))

does_name_none : (actor : Actor) (known : Known) (used : Used) (d : Data) (does : Does)
    → does_said actor known used d ≡ Some does → list_any names_ticket does.actions ≡ false
does_name_none actor known used d does h =
    option_and_then_some _ (as_array d) does h (λ ds array rest.
    in_turn_keeps (λ (x : Does). list_any names_ticket x.actions ≡ false) (add_action actor known)
    (actions_name_none actor known) 0 (record { actions = []; used = used }) ds does refl
    (ok_is (in_turn (add_action actor known) 0 (record { actions = []; used = used }) ds) rest))
  where
    ok_is : (r : Result Does ℕ) → result_ok r ≡ Some does → r ≡ Ok does
    ok_is (Ok x) h = ap Ok (same_Some x does h)
    ok_is (Err e) h = absurd (cc h)

-- ---- items and callers

scripts_name_none : (scripts : List (List Action)) (actions : List Action) → NoneNames scripts
    → list_any names_ticket actions ≡ false → NoneNames (scripts ++ actions ∷ [])
scripts_name_none scripts actions none not = none_more (list_any names_ticket) scripts actions none not

if_some : {X : Type 0} (b : Bool) (x y : X) → (if b then Some x else None) ≡ Some y → x ≡ y
if_some true x y h = same_Some x y h
if_some false x y h = absurd (cc h)

if_read : {X : Type 0} (b : Bool) (o : Option X) (y : X) → (if b then o else None) ≡ Some y → o ≡ Some y
if_read true o y h = h
if_read false o y h = absurd (cc h)

callers_name_none : (most : ℕ) (known : Known) (before : Crew) (d : Data) (later : Crew) → NoneNames before.scripts
    → add_caller most known before d ≡ Some later → NoneNames later.scripts
callers_name_none most known before d later none h =
    option_and_then_some _ (does_said Caller known before.used d) later h (λ does said more.
    subst (λ (crew : Crew). NoneNames crew.scripts) (if_some (nat_lt (length before.scripts) most) _ later more)
    (scripts_name_none before.scripts does.actions none (does_name_none Caller known before.used d does said)))

same_pair : (x y : List ℕ × Does) → ◌≡◌ {A = Option (List ℕ × Does)} (Some x) (Some y) → x ≡ y
same_pair x y h = same_Some x y h

-- the actions of an item
named_does : (known : Known) (used : Used) (actions : Data) (name : List ℕ) (said : List ℕ × Does) (o : Option Does)
    → does_said Item known used actions ≡ o
    → option_and_then {U = List ℕ × Does} (λ (does : Does). Some (name, does)) o ≡ Some said
    → list_any names_ticket said.1.actions ≡ false
named_does known used actions name said None is h = absurd (cc h)
named_does known used actions name said (Some does) is h =
    subst (λ (x : Does). list_any names_ticket x.actions ≡ false)
    (ap (λ (x : List ℕ × Does). x.1) (same_pair (name, does) said h)) (does_name_none Item known used actions does is)

item_names_none : (known : Known) (used : Used) (d : Data) (said : List ℕ × Does) → item_said known used d ≡ Some said
    → list_any names_ticket said.1.actions ≡ false
item_names_none known used d said is =
    option_and_then_some _ (known_name d) said (if_read _ _ said is) (λ name known_as rest.
    option_and_then_some _ (get (codes "does") d) said rest (λ actions got more.
    named_does known used actions name said (does_said Item known used actions) refl more))

items_name_none : (most : ℕ) (known : Known) (before : Work) (d : Data) (later : Work) → NoneNames before.items.values
    → add_item most known before d ≡ Some later → NoneNames later.items.values
items_name_none most known before d later none h =
    option_and_then_some _ (item_said known before.used d) later h (λ said is rest.
    option_and_then_some _ (add_named most before.items (said.0, said.1.actions)) later rest (λ items named same.
    subst (λ (work : Work). NoneNames work.items.values) (same_Some _ later same)
    (subst (λ (names : Named (List Action)). NoneNames names.values) (if_some _ _ items named)
    (scripts_name_none before.items.values said.1.actions none (item_names_none known before.used d said is)))))

-- ---- scripts

some_is : {S : Type 0} (refused : ℕ → Refused) (count : S → ℕ) (r : Result S ℕ) (x : S) → some_of refused count r ≡ Ok x
    → r ≡ Ok x
some_is refused count (Err i) x h = absurd (cc h)
some_is {S} refused count (Ok y) x h = at (nat_lt 0 (count y)) h
  where
    at : (b : Bool) → ◌≡◌ {A = Result S Refused} (if b then Ok y else Err (refused 0)) (Ok x)
        → ◌≡◌ {A = Result S ℕ} (Ok y) (Ok x)
    at true h = ap Ok (same_ok y x h)
    at false h = absurd (cc h)

works_name_none : (known : Known) (t : Top) (w : Work) → items_said known t ≡ Ok w → NoneNames w.items.values
works_name_none known t w said =
    in_turn_keeps (λ (work : Work). NoneNames work.items.values) (add_item (items_in t.version) known)
    (items_name_none (items_in t.version) known) 0 no_work t.items w refl
    (some_is items (λ (work : Work). length work.items.values) _ w said)

crews_name_none : (known : Known) (t : Top) (w : Work) (c : Crew) → callers_said known t w ≡ Ok c → NoneNames c.scripts
crews_name_none known t w c said =
    in_turn_keeps (λ (crew : Crew). NoneNames crew.scripts)
    (add_caller (callers_in t.version - waits_in t w.items) known)
    (callers_name_none (callers_in t.version - waits_in t w.items) known) 0 (no_crew w.used) t.callers c refl
    (some_is callers (λ (crew : Crew). length crew.scripts) _ c said)

pub read_runs_name_none : ReadRunsNameNone
read_runs_name_none d r h = with_top (top_said d) _ h
  where
    with_crew : (t : Top) (qs : Named QueueShape) (w : Work) → NoneNames w.items.values → (c : Result Crew Refused)
        → callers_said (known_in t qs) t w ≡ c → with_callers t qs w c ≡ Ok r → NoneNames r.callers × NoneNames r.does
    with_crew t qs w none (Err e) said h = absurd (cc h)
    with_crew t qs w none (Ok c) said h =
        subst (λ (run : Run). NoneNames run.callers × NoneNames run.does) (same_ok _ r h)
        (crews_name_none (known_in t qs) t w c said, none)

    with_work : (t : Top) (qs : Named QueueShape) (w : Result Work Refused) → items_said (known_in t qs) t ≡ w
        → with_items t qs w ≡ Ok r → NoneNames r.callers × NoneNames r.does
    with_work t qs (Err e) said h = absurd (cc h)
    with_work t qs (Ok w) said h =
        with_crew t qs w (works_name_none (known_in t qs) t w said) (callers_said (known_in t qs) t w) refl h

    with_named : (t : Top) (qs : Result (Named QueueShape) Refused) → with_queues t qs ≡ Ok r
        → NoneNames r.callers × NoneNames r.does
    with_named t (Err e) h = absurd (cc h)
    with_named t (Ok qs) h = with_work t qs (items_said (known_in t qs) t) refl h

    with_top : (o : Option Top) (refused : Refused)
        → option_map_or (λ t. with_queues t (queues_said t)) o (Err refused) ≡ Ok r
        → NoneNames r.callers × NoneNames r.does
    with_top None refused h = absurd (cc h)
    with_top (Some t) refused h = with_named t (queues_said t) h
