-- A caller goes through its actions, and has followed their calls.
use Rattle.std.proofs.Common.{◌≡◌, ◌∙◌, ◌+◌, ◌<◌, ◌≤◌, ◌^◌, ◌++◌, ◌∷◌, ℕ, List, [], Some, length, map, take, drop}
use Rattle.std.proofs.Common.{get_or, option_map, refl, sym, ap, subst, arith, append-nil, append_assoc, length-append}
use Rattle.std.proofs.lemmas.List.{take-append-drop, take_all, take_more, length-map}
use Rattle.std.proofs.lemmas.List.Elements.{All-from_recursion, All-map, recursion_from_All}
use Rattle.std.proofs.lemmas.Option.{same_Some, slice_get-get_or, slice_get-map, slice_get_within}
use Rattle.std.specs.List.{AllByRecursion}
use Rattle.std.specs.Prelude.{All, slice_get}
use Rattle.std.specs.declared.alloc.Global.{Global}
use Rattle.std.specs.declared.vec.Vec.{Vec}
use Rattle.cmwq_model.specs.Prelude.{IsScripted, Layout}
use Rattle.cmwq_model.specs.declared.call.Call.{Call}
use Rattle.cmwq_monitor.specs.Participants.{View}
use Rattle.cmwq_json_script.specs.Views.{calls_in}
use Rattle.cmwq_json_script.specs.Scripts.{IsCallersAction, MayRun}
use Rattle.cmwq_json_script.specs.declared.script.Script.{Script}
use Rattle.cmwq_json_script.specs.declared.action.Action.{Action}
use Rattle.cmwq_json_script.specs.declared.action.Action.TheVariants as action
use Rattle.cmwq_rt.specs.Scripts.{HasFollowed}
use Rattle.cmwq_rt.proofs.Following.{followed_none}
use Rattle.cmwq_rt_scripts.specs.Followed.{AreFit}
use Rattle.cmwq_rt_scripts.proofs.Following.{followed_both, followed_few}
use Rattle.cmwq_cmd_run.specs.Followed.{IsOnWay}
use Rattle.cmwq_cmd_run.specs.declared.caller.Way.{Way}

-- ---- the calls among actions

calls_append : (xs ys : List Action) → calls_in (xs ++ ys) ≡ calls_in xs ++ calls_in ys
calls_append [] ys = refl
calls_append (action.Call c ∷ xs) ys = ap (λ cs. c ∷ cs) (calls_append xs ys)
calls_append (action.Open gate ∷ xs) ys = calls_append xs ys
calls_append (action.SleepAt gate ∷ xs) ys = calls_append xs ys
calls_append (action.Lock lock ∷ xs) ys = calls_append xs ys
calls_append (action.Unlock lock ∷ xs) ys = calls_append xs ys

pub calls_few : (xs : List Action) → length (calls_in xs) ≤ length xs
calls_few [] = omega arith
calls_few (action.Call c ∷ xs) = let few = calls_few xs in omega arith
calls_few (action.Open gate ∷ xs) = let few = calls_few xs in omega arith
calls_few (action.SleepAt gate ∷ xs) = let few = calls_few xs in omega arith
calls_few (action.Lock lock ∷ xs) = let few = calls_few xs in omega arith
calls_few (action.Unlock lock ∷ xs) = let few = calls_few xs in omega arith

pub calls_scripted : (s : Layout) (gates locks : ℕ) (xs : List Action)
    → AllByRecursion (IsCallersAction s gates locks) xs → AllByRecursion (IsScripted s) (calls_in xs)
calls_scripted s gates locks [] all = tt
calls_scripted s gates locks (action.Call c ∷ xs) all = (all.0, calls_scripted s gates locks xs all.1)
calls_scripted s gates locks (action.Open gate ∷ xs) all = calls_scripted s gates locks xs all.1
calls_scripted s gates locks (action.SleepAt gate ∷ xs) all = calls_scripted s gates locks xs all.1
calls_scripted s gates locks (action.Lock lock ∷ xs) all = calls_scripted s gates locks xs all.1
calls_scripted s gates locks (action.Unlock lock ∷ xs) all = calls_scripted s gates locks xs all.1

-- those of one action more
calls_more : (xs : List Action) (k : ℕ) (d : Action) → k < length xs
    → calls_in (take (k + 1) xs) ≡ calls_in (take k xs) ++ calls_in (get_or xs k d ∷ [])
calls_more xs k d lt = ap calls_in (take_more xs k d lt) ∙ calls_append (take k xs) (get_or xs k d ∷ [])

-- those of the first actions begin them all
calls_split : (xs : List Action) (k : ℕ) → calls_in xs ≡ calls_in (take k xs) ++ calls_in (drop k xs)
calls_split xs k = ap calls_in (sym (take-append-drop k xs)) ∙ calls_append (take k xs) (drop k xs)

all_front : {X : Type 0} (P : X → Type 0) (xs ys : List X) → AllByRecursion P (xs ++ ys) → AllByRecursion P xs
all_front P [] ys h = tt
all_front P (x ∷ xs) ys h = (h.0, all_front P xs ys h.1)

all_back : {X : Type 0} (P : X → Type 0) (xs ys : List X) → AllByRecursion P (xs ++ ys) → AllByRecursion P ys
all_back P [] ys h = h
all_back P (x ∷ xs) ys h = all_back P xs ys h.1

-- ---- on the way

module _ (s : Layout) (v : View) where
  pub on_way_first : (way : Way) → way.next ≡ [] → way.full ≡ 0 → IsOnWay s v [] way v
  on_way_first way none zero =
      ([], subst (λ n. HasFollowed s [] n v v) (sym zero) (followed_none s v), sym none)

  -- it makes the next calls
  pub on_way_made : (calls : List Call) (way after : Way) (n : ℕ) (m w : View) → IsOnWay s v calls way m
      → HasFollowed s way.next n m w → after.next ≡ [] → after.full ≡ way.full + n → IsOnWay s v calls after w
  on_way_made calls way after n m w (made, has, is) next none sum = (
    made ++ way.next,
    subst (λ k. HasFollowed s (made ++ way.next) k v w) (sym sum)
        (followed_both s made way.next way.full n v m w has next),
    is ∙ sym (append-nil (made ++ way.next)) ∙ ap (λ xs. (made ++ way.next) ++ xs) (sym none),
  )

  -- one call joins them
  pub on_way_call : (calls : List Call) (c : Call) (way after : Way) (w : View) → IsOnWay s v calls way w
      → after.next ≡ way.next ++ c ∷ [] → after.full ≡ way.full → IsOnWay s v (calls ++ c ∷ []) after w
  on_way_call calls c way after w (made, has, is) more same = (
    made,
    subst (λ k. HasFollowed s made k v w) (sym same) has,
    ap (λ xs. xs ++ c ∷ []) is ∙ append_assoc made way.next (c ∷ []) ∙ ap (λ xs. made ++ xs) (sym more),
  )

  pub on_way_same : (calls : List Call) (way : Way) (w : View) → IsOnWay s v calls way w
      → IsOnWay s v (calls ++ []) way w
  on_way_same calls way w is = subst (λ xs. IsOnWay s v xs way w) (sym (append-nil calls)) is

  -- no more calls are left out, or still to be made, than there are
  on_way_few : (calls : List Call) (way : Way) (w : View) → IsOnWay s v calls way w
      → way.full + length way.next ≤ length calls
  on_way_few calls way w (made, has, is) =
      let few = followed_few s made way.full v w has in
      let both = length-append made way.next in
      let same = ap length is in
      omega arith

  on_way_scripted : (calls : List Call) (way : Way) (w : View) → IsOnWay s v calls way w
      → AllByRecursion (IsScripted s) calls → All (IsScripted s) way.next
  on_way_scripted calls way w (made, has, is) all =
      All-from_recursion (IsScripted s) way.next
      (all_back (IsScripted s) made way.next (subst (AllByRecursion (IsScripted s)) is all))

  -- among all actions: what the next step needs
  pub some_scripted : (xs : List Action) (k : ℕ) (way : Way) (w : View) → IsOnWay s v (calls_in (take k xs)) way w
      → All (IsScripted s) (calls_in xs) → All (IsScripted s) way.next
  some_scripted xs k way w is all =
      on_way_scripted (calls_in (take k xs)) way w is
      (all_front (IsScripted s) (calls_in (take k xs)) (calls_in (drop k xs))
      (subst (AllByRecursion (IsScripted s)) (calls_split xs k) (recursion_from_All (IsScripted s) (calls_in xs) all)))

  pub some_few : (xs : List Action) (k : ℕ) (way : Way) (w : View) → IsOnWay s v (calls_in (take k xs)) way w
      → length (calls_in xs) < 2 ^ 32 → way.full + length way.next < 2 ^ 32
  some_few xs k way w is few =
      let here = on_way_few (calls_in (take k xs)) way w is in
      let both = length-append (calls_in (take k xs)) (calls_in (drop k xs)) in
      let same = ap length (calls_split xs k) in
      omega arith

  pub on_way_more : (xs : List Action) (k : ℕ) (d : Action) (after : Way) (w : View) → k < length xs → (a : Action)
      → a ≡ get_or xs k d → IsOnWay s v (calls_in (take k xs) ++ calls_in (a ∷ [])) after w
      → IsOnWay s v (calls_in (take (k + 1) xs)) after w
  on_way_more xs k d after w lt a at is =
      subst (λ cs. IsOnWay s v cs after w) (sym (calls_more xs k d lt))
      (subst (λ b. IsOnWay s v (calls_in (take k xs) ++ calls_in (b ∷ [])) after w) at is)

  pub taken_all : (xs : List Action) (k : ℕ) (way : Way) (w : View) → length xs ≤ k
      → IsOnWay s v (calls_in (take k xs)) way w → IsOnWay s v (calls_in xs) way w
  taken_all xs k way w past is = subst (λ ys. IsOnWay s v (calls_in ys) way w) (take_all k xs past) is

  -- all calls are made
  pub followed_all : (calls : List Call) (way : Way) (w : View) → IsOnWay s v calls way w → way.next ≡ []
      → HasFollowed s calls way.full v w
  followed_all calls way w (made, has, is) none =
      subst (λ cs. HasFollowed s cs way.full v w)
      (sym (is ∙ ap (λ xs. made ++ xs) none ∙ append-nil made)) has

-- the calls of each caller
abbrev pub scripts_of : List (Vec Action Global) → List (List Call)
scripts_of all = map calls_in (map (λ actions. actions.items) all)

same_number : (all : List (Vec Action Global)) → length (scripts_of all) ≡ length all
same_number all =
    length-map (map (λ (y : Vec Action Global). y.items) all) calls_in
    ∙ length-map all (λ (y : Vec Action Global). y.items)

-- those of the actions of this place
pub calls_at : (all : List (Vec Action Global)) (k : ℕ) (x d : Vec Action Global) (script : List Call)
    → x ≡ get_or all k d → slice_get (scripts_of all) k ≡ Some script → calls_in x.items ≡ script
calls_at all k x d script is at =
    let same = same_number all in
    let within = slice_get_within (scripts_of all) k script at in
    let lt : k < length all = omega arith in
    ap (λ (y : Vec Action Global). calls_in y.items) is
    ∙ same_Some _ script
    (sym (slice_get-map calls_in (map (λ (y : Vec Action Global). y.items) all) k
    ∙ ap (option_map calls_in) (slice_get-map (λ (y : Vec Action Global). y.items) all k
    ∙ ap (option_map (λ (y : Vec Action Global). y.items)) (slice_get-get_or all k d lt))) ∙ at)

unmapped : {X Y : Type 0} (P : Y → Type 0) (f : X → Y) (xs : List X) → AllByRecursion P (map f xs)
    → AllByRecursion (λ x. P (f x)) xs
unmapped P f [] all = tt
unmapped P f (x ∷ xs) all = (all.0, unmapped P f xs all.1)

pub fit_at : (s : Layout) (all : List (Vec Action Global)) (k : ℕ) (x d : Vec Action Global) → AreFit s (scripts_of all)
    → k < length (scripts_of all) → x ≡ get_or all k d
    → All (IsScripted s) (calls_in x.items) × (length (calls_in x.items) < 2 ^ 32)
fit_at s all k x d (few, fit) within is =
    let same = same_number all in
    let lt : k < length all = omega arith in
    let each : All (λ (y : Vec Action Global). IsFit (calls_in y.items)) all =
    All-from_recursion _ all
    (unmapped (λ actions. IsFit (calls_in actions)) (λ (y : Vec Action Global). y.items) all
    (unmapped IsFit calls_in (map (λ (y : Vec Action Global). y.items) all)
    (recursion_from_All IsFit (scripts_of all) fit))) in
    subst (λ (y : Vec Action Global). IsFit (calls_in y.items)) (sym is) (each k d lt)
  where
    IsFit : List Call → Type 0
    IsFit calls = All (IsScripted s) calls × (length calls < 2 ^ 32)

-- the calls of a script that may run fit its shape
pub scripts_fit : (script : Script) → MayRun script
    → AreFit script.shape (scripts_of script.callers.items)
scripts_fit script may =
    let same = same_number script.callers.items in
    let few = may.few_callers in (
      omega arith,
      All-map IsFit calls_in (map (λ (y : Vec Action Global). y.items) script.callers.items)
          (All-map (λ actions. IsFit (calls_in actions)) (λ (y : Vec Action Global). y.items) script.callers.items
          (λ k d lt. fit _ (may.scripts k d lt))),
    )
  where
    IsFit : List Call → Type 0
    IsFit calls = All (IsScripted script.shape) calls × (length calls < 2 ^ 32)

    fit : (actions : List Action) → All (IsCallersAction script.shape (length script.gates.items)
        (length script.locks.items)) actions × (length actions ≤ 1000) → IsFit (calls_in actions)
    fit actions (all, few) =
        let fewer = calls_few actions in (
          All-from_recursion (IsScripted script.shape) (calls_in actions)
              (calls_scripted script.shape (length script.gates.items) (length script.locks.items) actions
              (recursion_from_All _ actions all)),
          omega arith,
        )
