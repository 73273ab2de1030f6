-- What a value names keeps to the limits.
use Rattle.cmwq_replay.specs.Common.{◌≡◌, ℕ, ◌<◌, ◌≤◌, Bool, true, false, ◌==◌, map, List, [], ◌∷◌, ◌++◌, length}
use Rattle.cmwq_replay.specs.Common.{Option, Some, None, Result, Ok, Err, refl, sym, subst, ◌∙◌, arith, if◌then◌else◌}
use Rattle.cmwq_replay.specs.Common.{option_map, option_and_then, codes, IfSome, length-map, Data, Items, get, as_str}
use Rattle.cmwq_replay.specs.Common.{as_array, SimQueue, Item, IsBetween, IsQueue, IsItem, IsWithinLimits, in_turn}
use Rattle.cmwq_replay.specs.Common.{has_keys, Named, nobody, add_named, is_in_range, name_said, number_of_name}
use Rattle.cmwq_replay.specs.Common.{number_between, parts_said, kept}
use Rattle.std.specs.Str.{bytes_eq}
use Rattle.std.specs.List.{AllByRecursion}
use Rattle.std.proofs.lemmas.Bool.{eq-eqb}
use Rattle.std.proofs.lemmas.Option.{same_Some}
use Rattle.cmwq_replay.specs.Scenarios.{sim_queue_said, add_sim_queue, add_part, if_few, ms_said, queue_number}
use Rattle.cmwq_replay.specs.Scenarios.{item_with, sim_item_said, add_sim_item}
use Rattle.cmwq_json.proofs.Limited.{AreKept, added, between, number_limits, parts_limits, placed, then_said}
use Rattle.cmwq_lemmas.proofs.Lists.{All_push}

-- ---- queues

queue_limits : (d : Data) (x : List ℕ × SimQueue) → sim_queue_said d ≡ Some x → IsQueue x.1
queue_limits d x is =
    at (has_keys (codes "intensive" ∷ codes "max_active" ∷ codes "name" ∷ []) d) (parts_said d) (parts_limits d) is
  where
    at : (b : Bool) (parts : Option (List ℕ × ℕ × Bool)) → IfSome parts (λ p. IsBetween 1 512 p.1)
        → (if b then option_map (λ p. (p.0, record { max_active = p.1; intensive = p.2 })) parts else None) ≡ Some x
        → IsQueue x.1
    at false parts h said = cc
    at true None h said = cc
    at true (Some p) h said =
        subst (λ (y : List ℕ × SimQueue). IsQueue y.1)
        (same_Some (p.0, record { max_active = p.1; intensive = p.2 }) x said) h

pub queues_kept : (n : ℕ) (ds : Items) (m : Named SimQueue) → in_turn add_sim_queue n nobody ds ≡ Ok m
    → AreKept 8 IsQueue m
queues_kept n ds m is =
    kept (AreKept 8 IsQueue) add_sim_queue one n nobody ds m (record { same = refl; few = omega arith; values = tt }) is
  where
    one : (before : Named SimQueue) (d : Data) (after : Named SimQueue) → AreKept 8 IsQueue before
        → add_sim_queue before d ≡ Some after → AreKept 8 IsQueue after
    one before d after k said = at (sim_queue_said d) refl said
      where
        at : (o : Option (List ℕ × SimQueue)) → sim_queue_said d ≡ o → option_and_then (add_named 8 before) o
            ≡ Some after → AreKept 8 IsQueue after
        at None h none = cc
        at (Some x) h some = added 8 IsQueue before after x k (queue_limits d x h) some

-- ---- items

queue_number_limits : (names : List (List ℕ)) (d : Data) → IfSome (queue_number names d) (λ i. i < length names)
queue_number_limits names d = at (as_str d)
  where
    at : (o : Option (List ℕ)) → IfSome (option_and_then (number_of_name names) o) (λ i. i < length names)
    at None = tt
    at (Some name) = placed (bytes_eq name) names

pub record AreParts (ms : List ℕ) : Type 0 where
  pub few : IsBetween 1 8 (length ms)
  pub each : AllByRecursion (IsBetween 1 1000) ms

parts_kept : (n : ℕ) (ds : Items) (ms : List ℕ) → in_turn add_part n [] ds ≡ Ok ms
    → AllByRecursion (IsBetween 1 1000) ms
parts_kept n ds ms is = kept (AllByRecursion (IsBetween 1 1000)) add_part one n [] ds ms tt is
  where
    one : (before : List ℕ) (d : Data) (after : List ℕ) → AllByRecursion (IsBetween 1 1000) before
        → add_part before d ≡ Some after → AllByRecursion (IsBetween 1 1000) after
    one before d after k said = at (number_between 1 1000 d) (number_limits 1 1000 d) said
      where
        at : (o : Option ℕ) → IfSome o (IsBetween 1 1000) → option_map (λ n. before ++ n ∷ []) o ≡ Some after
            → AllByRecursion (IsBetween 1 1000) after
        at None h none = cc
        at (Some n) h some =
            subst (AllByRecursion (IsBetween 1 1000)) (same_Some (before ++ n ∷ []) after some)
            (All_push (IsBetween 1 1000) before n k h)

ms_limits : (d : Data) → IfSome (ms_said d) AreParts
ms_limits d = at (as_array d)
  where
    pick : (ds : Items) (r : Result (List ℕ) ℕ) → in_turn add_part 0 [] ds ≡ r → IfSome (if_few r) AreParts
    pick ds (Err i) said = tt
    pick ds (Ok ms) said = few (is_in_range 1 8 (length ms)) refl
      where
        few : (b : Bool) → is_in_range 1 8 (length ms) ≡ b → IfSome (if b then Some ms else None) AreParts
        few true h = record { few = between 1 8 (length ms) h; each = parts_kept 0 ds ms said }
        few false h = tt

    at : (o : Option Items) → IfSome (option_and_then (λ ds. if_few (in_turn add_part 0 [] ds)) o) AreParts
    at None = tt
    at (Some ds) = pick ds (in_turn add_part 0 [] ds) refl

item_limits : (names : List (List ℕ)) (d : Data) (x : List ℕ × Item) → sim_item_said names d ≡ Some x
    → IsItem (length names) x.1
item_limits names d x is =
    at (has_keys (codes "ms" ∷ codes "name" ∷ codes "queue" ∷ []) d) (option_and_then name_said (get (codes "name") d))
    (option_and_then (queue_number names) (get (codes "queue") d)) (option_and_then ms_said (get (codes "ms") d))
    (then_said (λ i. i < length names) (queue_number names) (queue_number_limits names) (get (codes "queue") d))
    (then_said AreParts ms_said ms_limits (get (codes "ms") d)) is
  where
    at : (b : Bool) (name : Option (List ℕ)) (q : Option ℕ) (ms : Option (List ℕ)) → IfSome q (λ i. i < length names)
        → IfSome ms AreParts → (if b then item_with name q ms else None) ≡ Some x → IsItem (length names) x.1
    at false name q ms h k said = cc
    at true None q ms h k said = cc
    at true (Some n) None ms h k said = cc
    at true (Some n) (Some q) None h k said = cc
    at true (Some n) (Some q) (Some ms) h k said =
        subst (λ (y : List ℕ × Item). IsItem (length names) y.1) (same_Some (n, record { queue = q; ms = ms }) x said)
        (record { queue = h; parts = k.few; ms = k.each })

items_kept : (names : List (List ℕ)) (n : ℕ) (ds : Items) (m : Named Item) → in_turn (add_sim_item names) n nobody ds
    ≡ Ok m → AreKept 8 (IsItem (length names)) m
items_kept names n ds m is =
    kept (AreKept 8 (IsItem (length names))) (add_sim_item names) one n nobody ds m
    (record { same = refl; few = omega arith; values = tt }) is
  where
    one : (before : Named Item) (d : Data) (after : Named Item) → AreKept 8 (IsItem (length names)) before
        → add_sim_item names before d ≡ Some after → AreKept 8 (IsItem (length names)) after
    one before d after k said = at (sim_item_said names d) refl said
      where
        at : (o : Option (List ℕ × Item)) → sim_item_said names d ≡ o → option_and_then (add_named 8 before) o
            ≡ Some after → AreKept 8 (IsItem (length names)) after
        at None h none = cc
        at (Some x) h some = added 8 (IsItem (length names)) before after x k (item_limits names d x h) some

-- ---- the whole

pub within_limits : (qs : Named SimQueue) (is : Named Item) (n k : ℕ) (ds es : Items)
    → in_turn add_sim_queue n nobody ds ≡ Ok qs → 0 < length qs.values → in_turn (add_sim_item qs.names) k nobody es
    ≡ Ok is
    → IsWithinLimits (record { queues = qs.values; items = is.values }) × (length is.names ≡ length is.values)
within_limits qs is n k ds es some_queues some some_items =
    let q = queues_kept n ds qs some_queues in
    let i = items_kept qs.names k es is some_items in
    let q_same = q.same in
    let q_few = q.few in
    let i_same = i.same in
    let i_few = i.few in (
      record {
        few_queues = (omega arith, omega arith);
        queues = q.values;
        few_items = omega arith;
        items =
            subst (λ c. AllByRecursion (IsItem c) is.values) q_same i.values;
      },
      i_same,
    )

pub names_few : {K : Type 0} (f : K → List ℕ) (keys : List K) (values : List SimQueue) (n : ℕ) (ds : Items)
    → in_turn add_sim_queue n nobody ds ≡ Ok (record { names = map f keys; values = values }) → length keys ≤ 8
names_few f keys values n ds is =
    let k = queues_kept n ds (record { names = map f keys; values = values }) is in
    let few = k.few in
    let l = length-map keys f in
    omega arith

pub some_left : {X : Type 0} (n : ℕ) (xs : List X) (b : Bool) → n ≡ length xs → b ≡ (n == 0) → b ≡ false → 0 < length xs
some_left n [] b same said none = let bad : true ≡ false = sym (eq-eqb n 0 same) ∙ sym said ∙ none in cc
some_left n (x ∷ xs) b same said none = omega arith
