-- A run that is read keeps to its limits.
use Rattle.cmwq_json_script.specs.Common.{◌≡◌, ℕ, ◌+◌, ◌-◌, ◌≤◌, ◌<◌, ◌&&◌, Bool, true, false, nat_lt, nat_le}
use Rattle.cmwq_json_script.specs.Common.{List, [], ◌∷◌, length, map, Result, Ok, Err, refl, sym, ap, subst, ◌∙◌, arith}
use Rattle.cmwq_json_script.specs.Common.{if◌then◌else◌, string_bytes, All, String, AllByRecursion, list_all, Global}
use Rattle.cmwq_json_script.specs.Common.{Vec, nat_tests, length-map, QueueShape, most_callers, most_cpus}
use Rattle.cmwq_json_script.specs.Common.{most_items, most_queues, most_room, most_workers, ◌==◌, Layout, layout_of}
use Rattle.cmwq_json_script.specs.Common.{is_queue, Refused, in_turn, Named, nobody}
use Rattle.std.proofs.lemmas.List.Elements.{All-from_recursion}
use Rattle.cmwq_json.specs.Parts as refused
use Rattle.cmwq_json.specs.declared.names.Members.{Members}
use Rattle.cmwq_json_script.specs.declared.action.Action.{Action}
use Rattle.cmwq_json_script.specs.declared.action.Actor.TheVariants.{Item}
use Rattle.cmwq_json_script.specs.declared.caller.Callers.{Callers}
use Rattle.cmwq_json_script.specs.declared.script.Script.{Script}
use Rattle.cmwq_json_script.specs.Used.{none_used}
use Rattle.cmwq_json_script.specs.Items.{Work, no_work, add_item}
use Rattle.cmwq_json_script.specs.Queues.{add_queue}
use Rattle.cmwq_json_script.specs.Callers.{Crew, no_crew, add_caller}
use Rattle.cmwq_json_script.specs.Limits.{callers_in, items_in, queues_in}
use Rattle.cmwq_json_script.specs.Tops.{Top, AreJournalSettings}
use Rattle.cmwq_json_script.specs.Runs.{Run, some_of, queues_said, items_said, callers_said, known_in, waits_in}
use Rattle.cmwq_json_script.specs.Runs.{layout_in, run_in}
use Rattle.cmwq_json_script.specs.Scripts.{run_of, IsAction, IsCallersAction, IsCallersScript, IsRunWithin, MayRun}
use Rattle.cmwq_json_script.specs.Views.{actions_of, named_actions_of, crew_of}
use Rattle.cmwq_json_script.proofs.Readings.{all_unmapped}
use Rattle.cmwq_json_script.proofs.CallLimits.{AreIn}
use Rattle.cmwq_json_script.proofs.ActionLimits.{uses_more, IsIn, actions_grow}
use Rattle.cmwq_json_script.proofs.PartLimits.{IsWide, queues_kept, items_kept, items_named, names_are_known}
use Rattle.cmwq_json_script.proofs.PartLimits.{callers_kept}
use Rattle.std.proofs.lemmas.Bool.{and_from}
use Rattle.cmwq_lemmas.proofs.Lists.{All_map}

-- a part has at least one member, and none is refused
pub some_read : {S : Type 0} (refused : ℕ → Refused) (count : S → ℕ) (r : Result S ℕ) (s : S)
    → some_of refused count r ≡ Ok s → (r ≡ Ok s) × (0 < count s)
some_read refused count (Err i) s is = cc
some_read {S} refused count (Ok t) s is =
    let found = at (nat_lt 0 (count t)) refl (Ok t) is in
    let one : t ≡ s = cc (found.0) in
    (ap Ok one, subst (λ (x : S). 0 < count x) one found.1)
  where
    at : (b : Bool) → nat_lt 0 (count t) ≡ b → (r : Result S Refused) → (if b then r else Err (refused 0)) ≡ Ok s
        → (r ≡ Ok s) × (0 < count t)
    at true less r h =
        let some : 0 < count t = grind (arith, nat_tests) in
        (h, some)
    at false less r h = cc

within : (low high n : ℕ) → low ≤ n → n ≤ high → (nat_le low n && nat_le n high) ≡ true
within low high n a b = and_from (nat_le low n) (nat_le n high) (grind (arith, nat_tests)) (grind (arith, nat_tests))

at_most : (n high : ℕ) → n ≤ high → nat_le n high ≡ true
at_most n high h = grind (arith, nat_tests)

-- what a format has at most, none has more than the newest
pub at_most_newest : (version old new : ℕ) → old ≤ new → (if version == 3 then new else old) ≤ new
at_most_newest version old new less = by (version == 3)
  where
    by : (b : Bool) → (if b then new else old) ≤ new
    by true = omega arith
    by false = less

queues_allowed : (qs : List QueueShape) → AllByRecursion IsWide qs → list_all is_queue qs ≡ true
queues_allowed [] all = refl
queues_allowed (q ∷ qs) all =
    and_from (is_queue q) (list_all is_queue qs) (within 1 512 q.max_active all.0.0 all.0.1) (queues_allowed qs all.1)

-- what is read is inside the limits
module _ (t : Top) (qs : Named QueueShape) (w : Work) (c : Crew) (queues_read : queues_said t ≡ Ok qs)
    (items_read : items_said (known_in t qs) t ≡ Ok w)
    (callers_read : callers_said (known_in t qs) t w ≡ Ok c) where
  pub is_within : (1 ≤ t.cpus) × (t.cpus ≤ most_cpus) × (1 ≤ t.workers) × (t.workers ≤ most_workers)
      × (t.room ≤ most_room) → waits_in t w.items < callers_in t.version → AreJournalSettings t.version t.journal
      → IsRunWithin (run_in t qs.values w.items c)
  is_within limits few_waits recorded =
      let s = layout_in t qs.values w.items c in
      let known = known_in t qs in
      let most_written = callers_in t.version - waits_in t w.items in
      let q = some_read refused.queues (λ (m : Named QueueShape). length m.values)
      (in_turn (add_queue (queues_in t.version)) 0 nobody t.queues) qs queues_read in
      let i = some_read refused.items (λ (m : Work). length m.items.values)
      (in_turn (add_item (items_in t.version) known) 0 no_work t.items) w items_read in
      let r = some_read refused.callers (λ (m : Crew). length m.scripts)
      (in_turn (add_caller most_written known) 0 (no_crew w.used) t.callers) c callers_read in
      let some_queues : 0 < length qs.values = q.1 in
      let some_items : 0 < length w.items.values = i.1 in
      let some_callers : 0 < length c.scripts = r.1 in
      let wide = queues_kept (queues_in t.version) t.queues qs q.0 in
      let queues_same = wide.same in
      let queues_few = wide.few in
      let named = items_named (items_in t.version) known t.items w i.0 in
      let items_same = named.same in
      let items_few = named.few in
      let all_named = ap length (names_are_known (items_in t.version) known 0 no_work t.items w i.0) in
      let are : AreIn known s = record { items = omega arith; queues = omega arith; cpus = omega arith } in
      let items = items_kept (items_in t.version) known s are t.items w i.0 in
      let callers = callers_kept most_written known s are w.used t.callers c r.0 in
      let callers_few = callers.few in
      let used = uses_more none_used w.used c.used items.used callers.used in
      let all_callers : callers_in t.version ≤ most_callers = at_most_newest t.version 64 most_callers (omega arith) in
      let all_items : items_in t.version ≤ most_items = at_most_newest t.version 256 most_items (omega arith) in
      let all_queues : queues_in t.version ≤ most_queues = at_most_newest t.version 64 most_queues (omega arith) in
      record {
        allowed =
            and_from _ _
            (and_from _ _
            (and_from _ _
            (and_from _ _
            (and_from _ _ (within 1 most_cpus t.cpus limits.0 limits.1)
            (within 1 most_workers t.workers limits.2 limits.3))
            (within 1 most_callers (length c.scripts + waits_in t w.items) (omega arith) (omega arith)))
            (within 1 most_items (length w.items.values) (omega arith) (omega arith)))
            (at_most t.room most_room limits.4))
            (and_from _ _ (within 1 most_queues (length qs.values) (omega arith) (omega arith))
            (queues_allowed qs.values wide.values));
        few_callers = omega arith;
        callers = refl;
        scripts = callers.scripts;
        few_items = omega arith;
        items = refl;
        does = All_map (AllByRecursion (IsIn Item s w.used)) (AllByRecursion (IsIn Item s c.used)) w.items.values
            (actions_grow Item s w.used c.used callers.used) items.items.values;
        few_gates = used.gates.few (omega arith);
        few_locks = used.locks.few (omega arith);
        recorded = recorded;
      }

pub few_queue_names : (t : Top) (keys : List (String Global)) (values : List QueueShape)
    → queues_said t ≡ Ok (record { names = map string_bytes keys; values = values }) → length keys ≤ most_queues
few_queue_names t keys values is =
    let named : Named QueueShape = record { names = map string_bytes keys; values = values } in
    let wide =
    queues_kept (queues_in t.version) t.queues named
    (some_read refused.queues (λ (m : Named QueueShape). length m.values)
    (in_turn (add_queue (queues_in t.version)) 0 nobody t.queues) named is).0 in
    let few = wide.few in
    let l = length-map keys string_bytes in
    let all : queues_in t.version ≤ most_queues = at_most_newest t.version 64 most_queues (omega arith) in
    omega arith

-- the layout is that of the numbers that are counted
pub layout_counted : (t : Top) (qs : List QueueShape) (is : Named (List Action)) (c : Crew) (callers items : ℕ)
    → callers ≡ length c.scripts + waits_in t is → items ≡ length is.values
    → layout_of (record { cpus = t.cpus; workers = t.workers; callers = callers; items = items; room = t.room }) qs
    ≡ layout_in t qs is c
layout_counted t qs is c callers items callers_are items_are =
    ap (λ n. layout_of (record { cpus = t.cpus; workers = t.workers; callers = n; items = items; room = t.room }) qs)
    callers_are
    ∙ ap (λ n.
    layout_of (record {
      cpus = t.cpus;
      workers = t.workers;
      callers = length c.scripts + waits_in t is;
      items = n;
      room = t.room;
    }) qs) items_are

-- what holds of each list of actions
lists_hold : (P : List Action → Type 0) (lists : Vec (Vec Action Global) Global) → AllByRecursion P (actions_of lists)
    → All (λ actions. P actions.items) lists.items
lists_hold P lists h = All-from_recursion _ lists.items (all_unmapped P (λ actions. actions.items) lists.items h)

at_numbers : (P : ℕ → ℕ → Type 0) (a b c d : ℕ) → a ≡ b → c ≡ d → P a c → P b d
at_numbers P a b c d h k p = subst (λ n. P b n) k (subst (λ n. P n c) h p)

pub may_run : (script : Script) → IsRunWithin (run_of script) → MayRun script
may_run script r =
    let callers = length-map script.callers.items (λ actions. actions.items) in
    let does = length-map script.does.items (λ actions. actions.items) in
    let gates = length-map script.gates.items string_bytes in
    let locks = length-map script.locks.items string_bytes in
    let all : callers_in script.version ≤ most_callers = at_most_newest script.version 64 most_callers (omega arith) in
    let a = r.few_callers in
    let b = r.callers in
    let d = r.items in
    let e = r.few_gates in
    let f = r.few_locks in
    record {
      few_callers = omega arith;
      callers = omega arith;
      scripts = at_numbers AreScripts _ _ _ _ gates locks (scripts_at _ _ r.scripts);
      items = omega arith;
      does = at_numbers AreDone _ _ _ _ gates locks (does_at _ _ r.does);
      few_gates = omega arith;
      few_locks = omega arith;
      recorded = r.recorded;
    }
  where
    IsScript : ℕ → ℕ → List Action → Type 0
    IsScript n m actions = All (IsCallersAction script.shape n m) actions × (length actions ≤ 1000)

    AreScripts : ℕ → ℕ → Type 0
    AreScripts n m = All (λ actions. All (IsCallersAction script.shape n m) actions.items
        × (length actions.items ≤ 1000)) script.callers.items

    AreDone : ℕ → ℕ → Type 0
    AreDone n m = All (λ actions. All (IsAction script.shape n m) actions.items) script.does.items

    scripts_at : (n m : ℕ) → AllByRecursion (IsCallersScript script.shape n m) (actions_of script.callers)
        → AreScripts n m
    scripts_at n m h =
        lists_hold (IsScript n m) script.callers
        (All_map (IsCallersScript script.shape n m) (IsScript n m) (actions_of script.callers)
        (λ actions k. (All-from_recursion (IsCallersAction script.shape n m) actions k.0, k.1)) h)

    does_at : (n m : ℕ) → AllByRecursion (AllByRecursion (IsAction script.shape n m)) (actions_of script.does)
        → AreDone n m
    does_at n m h =
        lists_hold (All (IsAction script.shape n m)) script.does
        (All_map (AllByRecursion (IsAction script.shape n m)) (All (IsAction script.shape n m)) (actions_of script.does)
        (All-from_recursion (IsAction script.shape n m)) h)

-- so may the script that is made of parts inside the limits
module _ (t : Top) (qs : List QueueShape) (items : Members (Vec Action Global)) (callers : Callers) where
  abbrev made : Layout → List (List ℕ) → List (List ℕ) → List (List ℕ) → ℕ → Run
  made s names gates locks waits = record {
    layout = s;
    names = names;
    does = actions_of items.values;
    gates = gates;
    locks = locks;
    callers = actions_of callers.scripts;
    waits = waits;
    version = t.version;
    journal = t.journal;
  }

  pub made_may_run : (s : Layout) (names gates locks : Vec (String Global) Global) (waits : ℕ)
      → s ≡ layout_in t qs (named_actions_of items) (crew_of callers)
      → names.items ≡ items.names.keys → map string_bytes gates.items ≡ callers.used.gates
      → map string_bytes locks.items ≡ callers.used.locks → waits ≡ waits_in t (named_actions_of items)
      → IsRunWithin (run_in t qs (named_actions_of items) (crew_of callers))
      → MayRun (record {
        shape = s;
        names = names;
        does = items.values;
        gates = gates;
        locks = locks;
        callers = callers.scripts;
        waits = waits;
        version = t.version;
        journal = t.journal;
      })
  made_may_run s names gates locks waits shape_is names_are gates_are locks_are waits_are run =
      let layout = layout_in t qs (named_actions_of items) (crew_of callers) in
      let known = map string_bytes items.names.keys in
      may_run (record {
        shape = s;
        names = names;
        does = items.values;
        gates = gates;
        locks = locks;
        callers = callers.scripts;
        waits = waits;
        version = t.version;
        journal = t.journal;
      })
      (subst (λ l. IsRunWithin (made l (map string_bytes names.items) (map string_bytes gates.items)
      (map string_bytes locks.items) waits)) (sym shape_is)
      (subst (λ x. IsRunWithin (made layout x (map string_bytes gates.items) (map string_bytes locks.items) waits))
      (sym (ap (map string_bytes) names_are))
      (subst (λ g. IsRunWithin (made layout known g (map string_bytes locks.items) waits)) (sym gates_are)
      (subst (λ l. IsRunWithin (made layout known callers.used.gates l waits)) (sym locks_are)
      (subst (λ n. IsRunWithin (made layout known callers.used.gates callers.used.locks n)) (sym waits_are) run)))))
