-- Which flushes are in overflow, as nodes move from one list to another.
use Rattle.cmwq_flush.specs.Common.{◌≡◌, ◌≢◌, ℕ, ◌+◌, ◌<◌, ◌≤◌, Bool, true, false, not, cond, List, [], ◌∷◌, ◌++◌}
use Rattle.cmwq_flush.specs.Common.{length, get_or, set, zero, suc, replicate, Option, Some, None, IsSome, is_some, sym}
use Rattle.cmwq_flush.specs.Common.{ap, ap₂, refl, ◌∙◌, arith, ⊎_elim, map, find, All, Contains, ◌↔◌, false≢true}
use Rattle.cmwq_flush.specs.Common.{cases_lt, get_or-map, length-map, length-append, map-set, map_push, get_or-set_same}
use Rattle.cmwq_flush.specs.Common.{get_or-set_other, range_with_len}
use Rattle.std.specs.Prelude.{◌&&◌, ◌||◌, nat_eq, slice_get}
use Rattle.std.specs.List.{list_any, sum_by}
use Rattle.std.proofs.lemmas.Bool.{or_parts, eq-eqb, eqb-true, eqb-false, leb-true, leb-false, ne_eqb, or_cases}
use Rattle.std.proofs.lemmas.Bool.{and_parts}
use Rattle.std.proofs.lemmas.List.{length-set}
use Rattle.std.proofs.lemmas.List.Sums.{sum_by-cons, sum_by-set}
use Rattle.std.proofs.lemmas.List.Folds.{sum_by-replicate}
use Rattle.std.proofs.Common.{add-one, zero-add, subst}
use Rattle.std.specs.List.{AllByRecursion}
use Rattle.std.proofs.lemmas.List.Elements.{All-from_recursion}
use Rattle.std.proofs.lemmas.List.FromFn.{length-range_with_len}
use Rattle.cmwq_lemmas.proofs.Lists.{range_below, range_more}
use Rattle.cmwq_lemmas.proofs.Truth.{and_false}
use Rattle.cmwq_list.specs.Lists.{Listed, AreDistinct, AreListedOnce, has_item, without_item, list_at, list_of}
use Rattle.cmwq_list.specs.Lists.{lists_with, lists_without}
use Rattle.cmwq_list.proofs.Members.{without_none, length-without}
use Rattle.cmwq_flush.specs.FlushBook.{without_oldest}
use Rattle.cmwq_flush.specs.Numbers.{AreRising, is_other_number, without}
use Rattle.cmwq_flush.specs.Openings.{is_node_listed}
use Rattle.cmwq_flush.specs.Overflow.{AreNodes, tickets_at, ticket_of_node, tickets_of_nodes, overflow_of, is_from}
use Rattle.cmwq_flush.proofs.Nodes.{set_one, in_list, listed-pushed, listed-removed, not_listed, at_of}

-- ---- the lists of queues

pub tickets_at-of : (lists : List (List ℕ)) (tickets : List ℕ) (q : ℕ) → tickets_at (overflow_of lists tickets) q
    ≡ tickets_of_nodes tickets (list_at lists (suc q))
tickets_at-of [] tickets q = refl
tickets_at-of (free ∷ lists) tickets q = at lists q
  where
    at : (ls : List (List ℕ)) (k : ℕ) → get_or (map (tickets_of_nodes tickets) ls) k []
        ≡ tickets_of_nodes tickets (get_or ls k [])
    at [] k = refl
    at (x ∷ xs) zero = refl
    at (x ∷ xs) (suc k) = at xs k

pub queues_many : (lists : List (List ℕ)) (tickets : List ℕ) → 0 < length lists → length (overflow_of lists tickets) + 1
    ≡ length lists
queues_many [] tickets some = absurd (omega arith)
queues_many (free ∷ lists) tickets some = let size = length-map lists (tickets_of_nodes tickets) in omega arith

pub list_there : (lists : List (List ℕ)) (tickets : List ℕ) (q : ℕ) → 0 < length lists
    → q < length (overflow_of lists tickets) → suc q < length lists
list_there lists tickets q some there = let many = queues_many lists tickets some in omega arith

-- how many are free is how many more there may be
pub free_counted : (lists : List (List ℕ)) (tickets : List ℕ)
    → sum_by length lists ≡ length (list_at lists 0) + sum_by length (overflow_of lists tickets)
free_counted [] tickets = refl
free_counted (free ∷ lists) tickets = sum_by-cons length free lists ∙ ap (λ n. length free + n) (same lists)
  where
    same : (ls : List (List ℕ)) → sum_by length ls ≡ sum_by length (map (tickets_of_nodes tickets) ls)
    same [] = refl
    same (x ∷ xs) = sum_by-cons length x xs ∙ ap₂ (λ m n. m + n) (sym (length-map x (ticket_of_node tickets))) (same xs)
        ∙ sym (sum_by-cons length (tickets_of_nodes tickets x) (map (tickets_of_nodes tickets) xs))

-- ---- a node moves

-- a node that is in a list is in that list alone
pub alone : (s : Listed) (l v : ℕ) → AreListedOnce s → l < length s.lists → has_item v (list_at s.lists l) ≡ true
    → map (without_item v) s.lists ≡ set s.lists l (without_item v (list_at s.lists l))
alone s l v once lt here =
    set_one (without_item v) s.lists l lt
    (λ m differs. without_none v (list_at s.lists m) (apart m differs (has_item v (list_at s.lists m)) refl))
  where
    apart : (m : ℕ) → m ≢ l → (b : Bool) → has_item v (list_at s.lists m) ≡ b → has_item v (list_at s.lists m) ≡ false
    apart m differs b e = grind arith

-- it is then in none
pub in_none : (lists : List (List ℕ)) (v : ℕ) → list_of (map (without_item v) lists) v ≡ None
in_none lists v =
    not_listed (map (without_item v) lists) v
    (listed-removed lists v v ∙ ap (λ b. list_any (has_item v) lists && not b) (eq-eqb v v refl)
    ∙ and_false (list_any (has_item v) lists))

-- and each node stands in some list still
pub nodes_moved : (s : Listed) (tickets changed : List ℕ) (l m v : ℕ) → AreListedOnce s → AreNodes s tickets
    → length changed ≡ length tickets → l < length s.lists → m < length s.lists → has_item v (list_at s.lists l) ≡ true
    → AreNodes (lists_with (lists_without s v) m v) changed
nodes_moved s tickets changed l m v once are same lt fits here = record {
  free = let some = are.free in omega (arith, size);
  many = same ∙ are.many;
  known = λ w h. ⊎_elim (λ (old : is_node_listed left w ≡ true). are.known w (was w old))
      (λ (e : nat_eq w v ≡ true). let at = eqb-true w v e in let low = are.known v (in_list s.lists v l here) in
      omega arith)
      (or_cases (is_node_listed left w) (nat_eq w v) (sym (listed-pushed left m v w inside) ∙ h));
  all = moved ∙ are.all;
}
  where
    inside : m < length (map (without_item v) s.lists)
    inside = let n = length-map s.lists (without_item v) in omega arith

    was : (w : ℕ) → is_node_listed (map (without_item v) s.lists) w ≡ true → is_node_listed s.lists w ≡ true
    was w h = (and_parts (is_node_listed s.lists w) (not (nat_eq w v)) (sym (listed-removed s.lists v w) ∙ h)).0

    left : List (List ℕ)
    left = map (without_item v) s.lists

    size : length (set left m (list_at left m ++ v ∷ [])) ≡ length s.lists
    size = length-set left m (list_at left m ++ v ∷ []) ∙ length-map s.lists (without_item v)

    moved : sum_by length (set left m (list_at left m ++ v ∷ [])) ≡ sum_by length s.lists
    moved =
        let put = sum_by-set length left m (list_at left m ++ v ∷ []) [] inside in
        let longer = length-append (list_at left m) (v ∷ []) in
        let taken = ap (sum_by length) (alone s l v once lt here) in
        let took = sum_by-set length s.lists l (without_item v (list_at s.lists l)) [] lt in
        let shorter = length-without v (list_at s.lists l) (once.distinct l) here in
        omega arith

-- the first of a list leaves the others
pub first_left : (xs : List ℕ) (v : ℕ) → AreDistinct xs → Some v ≡ slice_get xs 0
    → without_item v xs ≡ without_oldest xs
first_left xs v distinct e = grind (arith, without_none)

pub some_first : (xs : List ℕ) (o : Option ℕ) → o ≡ slice_get xs 0 → 0 < length xs → IsSome o
some_first [] o e some = absurd (omega arith)
some_first (x ∷ xs) o e some = ap is_some e

pub first_has : (xs : List ℕ) (v : ℕ) → Some v ≡ slice_get xs 0 → has_item v xs ≡ true
first_has [] v e = cc
first_has (x ∷ xs) v e = ap (λ b. b || has_item v xs) (eq-eqb v x cc)

-- a node of a queue's list is freed
pub overflow-freed : (s : Listed) (tickets : List ℕ) (q v : ℕ) → AreListedOnce s → suc q < length s.lists
    → has_item v (list_at s.lists (suc q)) ≡ true
    → overflow_of (lists_with (lists_without s v) 0 v).lists tickets
    ≡ set (overflow_of s.lists tickets) q (tickets_of_nodes tickets (without_item v (list_at s.lists (suc q))))
overflow-freed s tickets q v once lt here =
    ap (λ ls. overflow_of (set ls 0 (list_at ls 0 ++ v ∷ [])) tickets) (alone s (suc q) v once lt here)
    ∙ by s.lists (without_item v (list_at s.lists (suc q)))
  where
    by : (lists : List (List ℕ)) (ys : List ℕ)
        → overflow_of (set (set lists (suc q) ys) 0 (list_at (set lists (suc q) ys) 0 ++ v ∷ [])) tickets
        ≡ set (overflow_of lists tickets) q (tickets_of_nodes tickets ys)
    by [] ys = refl
    by (free ∷ lists) ys = map-set (tickets_of_nodes tickets) lists q ys

-- a write at a node changes no ticket of the others
kept_list : (tickets : List ℕ) (v t : ℕ) (xs : List ℕ) → has_item v xs ≡ false → tickets_of_nodes (set tickets v t) xs
    ≡ tickets_of_nodes tickets xs
kept_list tickets v t [] h = refl
kept_list tickets v t (x ∷ xs) h =
    let parts = or_parts (nat_eq v x) (has_item v xs) h in
    ap₂ (λ y ys. y ∷ ys) (get_or-set_other tickets v x t 0 (λ e. eqb-false v x parts.0 (sym e)))
    (kept_list tickets v t xs parts.1)

kept_lists : (lists : List (List ℕ)) (tickets : List ℕ) (v t : ℕ) → ((l : ℕ) → has_item v (list_at lists l) ≡ false)
    → map (tickets_of_nodes (set tickets v t)) lists ≡ map (tickets_of_nodes tickets) lists
kept_lists [] tickets v t lacks = refl
kept_lists (x ∷ xs) tickets v t lacks =
    ap₂ (λ y ys. y ∷ ys) (kept_list tickets v t x (lacks 0)) (kept_lists xs tickets v t (λ l. lacks (suc l)))

-- a free node stands for a flush from now on
pub overflow-taken : (s : Listed) (tickets : List ℕ) (q v t : ℕ) → AreListedOnce s → suc q < length s.lists
    → v < length tickets → has_item v (list_at s.lists 0) ≡ true
    → overflow_of (lists_with (lists_without s v) (suc q) v).lists (set tickets v t)
    ≡ set (overflow_of s.lists tickets) q (tickets_at (overflow_of s.lists tickets) q ++ t ∷ [])
overflow-taken s tickets q v t once lt inside here =
    ap (λ ls. overflow_of (set ls (suc q) (list_at ls (suc q) ++ v ∷ [])) (set tickets v t))
    (alone s 0 v once (omega arith) here)
    ∙ by s.lists (without_item v (list_at s.lists 0)) (λ l. lacks l (has_item v (list_at s.lists (suc l))) refl)
    ∙ ap (λ ts. set (overflow_of s.lists tickets) q (ts ++ t ∷ [])) (sym (tickets_at-of s.lists tickets q))
  where
    lacks : (l : ℕ) (b : Bool) → has_item v (list_at s.lists (suc l)) ≡ b → has_item v (list_at s.lists (suc l)) ≡ false
    lacks l b e = grind arith

    by : (lists : List (List ℕ)) (ys : List ℕ) → ((l : ℕ) → has_item v (list_at lists (suc l)) ≡ false)
        → overflow_of (set (set lists 0 ys) (suc q) (list_at (set lists 0 ys) (suc q) ++ v ∷ [])) (set tickets v t)
        ≡ set (overflow_of lists tickets) q (tickets_of_nodes tickets (list_at lists (suc q)) ++ t ∷ [])
    by [] ys none = refl
    by (free ∷ lists) ys none =
        let xs = list_at lists q in
        map-set (tickets_of_nodes (set tickets v t)) lists q (xs ++ v ∷ [])
        ∙ ap₂ (λ ls ts. set ls q ts) (kept_lists lists tickets v t none)
        (map_push (ticket_of_node (set tickets v t)) xs v
        ∙ ap₂ (λ ts u. ts ++ u ∷ []) (kept_list tickets v t xs (none q)) (get_or-set_same tickets v t 0 inside))

-- ---- tickets of a list, by rising number

pub oldest_of : (tickets : List ℕ) (xs : List ℕ) → tickets_of_nodes tickets (without_oldest xs)
    ≡ without_oldest (tickets_of_nodes tickets xs)
oldest_of tickets xs = grind arith

pub first_ticket : (tickets : List ℕ) (xs : List ℕ) (v : ℕ) → Some v ≡ slice_get xs 0
    → Some (ticket_of_node tickets v) ≡ slice_get (tickets_of_nodes tickets xs) 0
first_ticket tickets [] v e = cc
first_ticket tickets (x ∷ xs) v e = let same : v ≡ x = cc in ap (λ w. Some (ticket_of_node tickets w)) same

pub no_first : (tickets : List ℕ) (xs : List ℕ) → None ≡ slice_get xs 0 → xs ≡ []
no_first tickets [] e = refl
no_first tickets (x ∷ xs) e = cc

above : (tickets : List ℕ) (x : ℕ) (xs : List ℕ) → AreRising (tickets_of_nodes tickets (x ∷ xs))
    → All (λ u. ticket_of_node tickets x < u) (tickets_of_nodes tickets xs)
above tickets x xs rise k d lt = rise 0 (suc k) d (omega arith) (omega arith)

rest_rises : (tickets : List ℕ) (x : ℕ) (xs : List ℕ) → AreRising (tickets_of_nodes tickets (x ∷ xs))
    → AreRising (tickets_of_nodes tickets xs)
rest_rises tickets x xs rise i j d lt within = rise (suc i) (suc j) d (omega arith) (omega arith)

-- the first from a ticket on is the one that has it, where one does
pub from_has : (tickets : List ℕ) (t v : ℕ) (xs : List ℕ) → find (is_from tickets t) xs ≡ Some v → has_item v xs ≡ true
from_has tickets t v [] e = cc
from_has tickets t v (x ∷ xs) e = grind (arith, from_has tickets t v xs)

pub has_ticket : (tickets : List ℕ) (v : ℕ) (xs : List ℕ) → has_item v xs ≡ true
    → Contains (tickets_of_nodes tickets xs) (ticket_of_node tickets v)
has_ticket tickets v xs h =
    let at = at_of xs v h in (
      at.0,
      rw length-map at.1,
      get_or-map (ticket_of_node tickets) xs at.0 0 (ticket_of_node tickets v) at.1
          ∙ ap (ticket_of_node tickets) at.2,
    )

-- of a list without its first
later_has : (tickets : List ℕ) (t x : ℕ) (xs : List ℕ) → ticket_of_node tickets x ≢ t
    → Contains (tickets_of_nodes tickets (x ∷ xs)) t → Contains (tickets_of_nodes tickets xs) t
later_has tickets t x xs differs h5 = grind arith

pub from_is : (tickets : List ℕ) (t : ℕ) (xs : List ℕ) → AreRising (tickets_of_nodes tickets xs)
    → Contains (tickets_of_nodes tickets xs) t → (v : ℕ) × (find (is_from tickets t) xs ≡ Some v)
    × (ticket_of_node tickets v ≡ t)
from_is tickets t [] rise found = grind (arith, found.1)
from_is tickets t (x ∷ xs) rise found =
    grind (arith, later_has, above, from_is tickets t xs (rest_rises tickets x xs rise))

pub none_from : (tickets : List ℕ) (t : ℕ) (xs : List ℕ)
    → (find (is_from tickets t) xs ≡ None) ↔ All (λ u. u < t) (tickets_of_nodes tickets xs)
none_from tickets t [] = ((λ e k d lt. absurd (omega arith)), (λ all. refl))
none_from tickets t (x ∷ xs) = by (is_from tickets t x) refl (none_from tickets t xs)
  where
    IsBefore : ℕ → Type 0
    IsBefore u = u < t

    by : (b : Bool) → is_from tickets t x ≡ b
        → (find (is_from tickets t) xs ≡ None) ↔ All (λ u. u < t) (tickets_of_nodes tickets xs)
        → (find (is_from tickets t) (x ∷ xs) ≡ None) ↔ All (λ u. u < t) (tickets_of_nodes tickets (x ∷ xs))
    by true e later = (
      (λ none. let some : Some x ≡ None = sym (ap (λ b. cond b (Some x) (find (is_from tickets t) xs)) e) ∙ none in cc),
      (λ all. let least = leb-true t (ticket_of_node tickets x) e in let less = all 0 0 (omega arith) in
          absurd (omega arith)),
    )
    by false e later =
        let less = leb-false t (ticket_of_node tickets x) e in
        let skip : find (is_from tickets t) (x ∷ xs) ≡ find (is_from tickets t) xs =
        ap (λ b. cond b (Some x) (find (is_from tickets t) xs)) e in (
          (λ none k d lt. place (later.0 (sym skip ∙ none)) k d lt),
          (λ all. skip ∙ later.1 (λ k d lt. all (suc k) d (omega arith))),
        )
      where
        place : All (λ u. u < t) (tickets_of_nodes tickets xs) → All (λ u. u < t) (tickets_of_nodes tickets (x ∷ xs))
        place all zero d lt = let less = leb-false t (ticket_of_node tickets x) e in omega arith
        place all (suc k) d lt = all k d (omega arith)

pub found_ticket : (tickets : List ℕ) (t v : ℕ) (xs : List ℕ) → AreRising (tickets_of_nodes tickets xs)
    → Contains (tickets_of_nodes tickets xs) t → find (is_from tickets t) xs ≡ Some v → ticket_of_node tickets v ≡ t
found_ticket tickets t v xs rise found e = let is = from_is tickets t xs rise found in let both : Some v ≡ Some is.0 =
    sym e ∙ is.1 in let same : v ≡ is.0 = cc in ap (ticket_of_node tickets) same ∙ is.2

pub found_some : (tickets : List ℕ) (t : ℕ) (xs : List ℕ) (o : Option ℕ) → o ≡ find (is_from tickets t) xs
    → AreRising (tickets_of_nodes tickets xs) → Contains (tickets_of_nodes tickets xs) t → IsSome o
found_some tickets t xs o e rise found = let is = from_is tickets t xs rise found in ap is_some (e ∙ is.1)

-- two nodes of a list have two tickets
one_node : (tickets : List ℕ) (xs : List ℕ) (v w : ℕ) → AreRising (tickets_of_nodes tickets xs) → has_item v xs ≡ true
    → has_item w xs ≡ true → ticket_of_node tickets v ≡ ticket_of_node tickets w → v ≡ w
one_node tickets xs v w rise hv hw same =
    let i = at_of xs v hv in
    let j = at_of xs w hw in
    let at_i = get_or-map (ticket_of_node tickets) xs i.0 0 0 i.1 ∙ ap (ticket_of_node tickets) i.2 in
    let at_j = get_or-map (ticket_of_node tickets) xs j.0 0 0 j.1 ∙ ap (ticket_of_node tickets) j.2 in
    ⊎_elim (λ (before : i.0 < j.0). let less = rise i.0 j.0 0 before (rw length-map j.1) in absurd (omega arith))
    (λ (after : j.0 ≤ i.0).
    ⊎_elim (λ (before : j.0 < i.0). let less = rise j.0 i.0 0 before (rw length-map i.1) in absurd (omega arith))
    (λ (le : i.0 ≤ j.0).
    let at : i.0 ≡ j.0 = omega arith in sym i.2 ∙ ap (λ k. get_or xs k 0) at ∙ j.2) (cases_lt j.0 i.0))
    (cases_lt i.0 j.0)

-- what goes with a node is its ticket alone
pub ticket_gone : (tickets : List ℕ) (xs : List ℕ) (v t : ℕ) → AreRising (tickets_of_nodes tickets xs)
    → has_item v xs ≡ true → ticket_of_node tickets v ≡ t → tickets_of_nodes tickets (without_item v xs)
    ≡ without t (tickets_of_nodes tickets xs)
ticket_gone tickets xs v t rise here is =
    gone xs (λ w h. told w h (nat_eq v w) (is_other_number t (ticket_of_node tickets w)) refl refl)
  where
    told : (w : ℕ) → has_item w xs ≡ true → (b c : Bool) → nat_eq v w ≡ b → is_other_number t (ticket_of_node tickets w)
        ≡ c → not (nat_eq v w) ≡ is_other_number t (ticket_of_node tickets w)
    told w h b c e k = grind (arith, false≢true, one_node)

    gone : (ys : List ℕ)
        → ((w : ℕ) → has_item w ys ≡ true → not (nat_eq v w) ≡ is_other_number t (ticket_of_node tickets w))
        → tickets_of_nodes tickets (without_item v ys) ≡ without t (tickets_of_nodes tickets ys)
    gone [] h = refl
    gone (y ∷ ys) h = grind (arith, gone ys)

-- ---- at first

abbrev pub free_nodes : ℕ → ℕ → List (List ℕ)
free_nodes n queues = range_with_len 0 n ∷ replicate queues []

-- the next of them is in no list yet
lacks_next : (xs : List ℕ) (n : ℕ) → AllByRecursion (λ i. i < n) xs → has_item n xs ≡ false
lacks_next [] n below = refl
lacks_next (x ∷ xs) n below = let less = below.0 in
    ap₂ (λ a b. a || b) (ne_eqb n x (λ same. absurd (omega arith))) (lacks_next xs n below.1)

all_below : (n : ℕ) → AllByRecursion (λ i. i < n) (range_with_len 0 n)
all_below n = subst (λ m. AllByRecursion (λ i. i < m) (range_with_len 0 n)) (zero-add n) (range_below 0 n)

pub none_listed : (queues v : ℕ) → is_node_listed (replicate queues []) v ≡ false
none_listed zero v = refl
none_listed (suc queues) v = none_listed queues v

pub next_free : (n queues : ℕ) → list_of (free_nodes n queues) n ≡ None
next_free n queues =
    not_listed (free_nodes n queues) n
    (ap₂ (λ a b. a || b) (lacks_next (range_with_len 0 n) n (all_below n)) (none_listed queues n))

pub one_more_free : (room n queues l : ℕ) → l ≡ 0
    → lists_with (record { items = room; lists = free_nodes n queues }) l n
    ≡ record { items = room; lists = free_nodes (n + 1) queues }
one_more_free room n queues l e = ap (λ k. lists_with (record { items = room; lists = free_nodes n queues }) k n) e
    ∙ ap (λ (xs : List ℕ). let s : Listed = record { items = room; lists = xs ∷ replicate queues [] } in s)
    (sym (ap (range_with_len 0) (add-one n) ∙ range_more 0 n ∙ ap (λ k. range_with_len 0 n ++ k ∷ []) (zero-add n)))

known_free : (n queues v : ℕ) → is_node_listed (free_nodes n queues) v ≡ true → v < n
known_free n queues v h = grind (arith, at_of, All-from_recursion, all_below, false≢true, none_listed)

pub nodes_at_first : (queues n : ℕ) (tickets : List ℕ) → length tickets ≡ n
    → AreNodes (record { items = n; lists = free_nodes n queues }) tickets
nodes_at_first queues n tickets many = record {
  free = omega arith;
  many = many;
  known = known_free n queues;
  all = let none = sum_by-replicate {X = List ℕ} length queues [] in let first =
      sum_by-cons length (range_with_len 0 n) (replicate queues []) in let size = length-range_with_len 0 n in
      omega arith;
}

pub overflow_at_first : (queues n : ℕ) (tickets : List ℕ) → overflow_of (free_nodes n queues) tickets
    ≡ replicate queues []
overflow_at_first queues n tickets = empty queues
  where
    empty : (m : ℕ) → map (tickets_of_nodes tickets) (replicate m []) ≡ replicate m []
    empty zero = refl
    empty (suc m) = ap (λ xs. [] ∷ xs) (empty m)
