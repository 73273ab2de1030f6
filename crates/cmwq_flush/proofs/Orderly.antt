-- What each call keeps of the order of a flush book.
use Rattle.cmwq_flush.specs.Common.{◌≡◌, ℕ, ◌+◌, ◌-◌, ◌<◌, ◌≤◌, Bool, List, [], ◌∷◌, ◌++◌, length, suc, ⊎_elim, refl}
use Rattle.cmwq_flush.specs.Common.{◌∙◌, arith, All, AllPairs, map, filter, remove, IsNonDecreasingBy, append_assoc}
use Rattle.cmwq_flush.specs.Common.{map_push, map-append, take-map, drop-map, length-map, length-append}
use Rattle.cmwq_flush.specs.Common.{get_or_append_left, get_or-append-add, get_or-map, All-push, All-weaker, All-filter}
use Rattle.cmwq_flush.specs.Common.{All-take, All-drop, All-append, length-remove, remove-append_left, all_pairs_push}
use Rattle.cmwq_flush.specs.Common.{all_pairs_remove, cases_lt, IsNonDecreasingBy-push}
use Rattle.std.proofs.lemmas.List.Kept.{AllPairs-filter, AllPairs-cons}
use Rattle.cmwq_flush.specs.declared.served.Served.{Served}
use Rattle.cmwq_flush.specs.declared.openings.Row.{Row}
use Rattle.cmwq_flush.specs.Numbers.{IsBelowNumber, AreRising, is_other_number, without}
use Rattle.cmwq_flush.specs.Rows.{is_other_row, without_row}
use Rattle.cmwq_flush.specs.Served.{ticket_of_served, bound_of, IsOlderServed}
use Rattle.cmwq_flush.specs.FlushBook.{FlushBook, flush_from, flush_tickets, IsLatestFlush}
use Rattle.cmwq_flush.specs.Colouring.{IsOrderly}

abbrev IsOld : ℕ → Row → Type 0
IsOld next r = r.number < next

abbrev IsBounded : ℕ → Served → Type 0
IsBounded next s = s.bound ≤ next

-- a queueing is opened
pub orderly_opened : (b : FlushBook) (rows : List Row) (r : Row) (opened : List ℕ) → b.next ≤ r.number
    → IsOrderly b rows → IsOrderly (record b { next = r.number + 1; opened = opened }) (rows ++ r ∷ [])
orderly_opened b rows r opened later is = record {
  older = All-push (IsOld (r.number + 1)) rows r
      (All-weaker (IsOld b.next) (IsOld (r.number + 1)) (λ x lt. omega arith) rows is.older) (omega arith);
  bounds_rise = is.bounds_rise;
  bounds = All-weaker (IsBounded b.next) (IsBounded (r.number + 1)) (λ s le. omega arith) b.served is.bounds;
  tickets_rise = is.tickets_rise;
  few = is.few;
}

-- one ends
pub orderly_ended : (b : FlushBook) (rows : List Row) (n : ℕ) (opened : List ℕ) → IsOrderly b rows
    → IsOrderly (record b { opened = opened }) (without_row n rows)
orderly_ended b rows n opened is = record {
  older = All-filter (is_other_row n) (IsOld b.next) rows is.older;
  bounds_rise = is.bounds_rise;
  bounds = is.bounds;
  tickets_rise = is.tickets_rise;
  few = is.few;
}

-- a flush begins, in overflow at first
pub orderly_overflow : (b : FlushBook) (rows : List Row) (t : ℕ) → IsLatestFlush b t → IsOrderly b rows
    → IsOrderly (record b { overflow = b.overflow ++ t ∷ [] }) rows
orderly_overflow b rows t later is = record {
  older = is.older;
  bounds_rise = is.bounds_rise;
  bounds = is.bounds;
  tickets_rise =
      rw (← append_assoc (map ticket_of_served b.served) b.overflow (t ∷ []))
      (all_pairs_push IsBelowNumber (flush_tickets b) t is.tickets_rise later);
  few = is.few;
}

-- the oldest of the overflow is served
pub orderly_served : (b : FlushBook) (rows : List Row) (t : ℕ) (rest : List ℕ) → length b.served < 15
    → IsOrderly (record b { overflow = t ∷ rest }) rows
    → IsOrderly (record b { served = b.served ++ flush_from t b.next ∷ []; overflow = rest }) rows
orderly_served b rows t rest fits is = record {
  older = is.older;
  bounds_rise =
      IsNonDecreasingBy-push bound_of b.served (flush_from t b.next) is.bounds_rise
      (λ d some. is.bounds (length b.served - 1) d (omega arith));
  bounds = All-push (IsBounded b.next) b.served (flush_from t b.next) is.bounds (omega arith);
  tickets_rise = rw (map_push, append_assoc) is.tickets_rise;
  few = let longer = length-append b.served (flush_from t b.next ∷ []) in omega arith;
}

non_decreasing_remove : (xs : List Served) (i : ℕ) → i < length xs → IsNonDecreasingBy bound_of xs
    → IsNonDecreasingBy bound_of (remove xs i)
non_decreasing_remove xs i lt rise j k d le in_range =
    let pairs =
    all_pairs_remove (λ (x y : Served). x.bound ≤ y.bound) xs i lt
    (λ m n e before within. rise m n e (omega arith) within) in
    ⊎_elim (λ (before : j < k). pairs j k d before in_range) (λ (after : k ≤ j). let same : j ≡ k = omega arith in
    rw same (omega arith)) (cases_lt j k)

pub All_left : {X : Type 0} (P : X → Type 0) (xs ys : List X) → All P (xs ++ ys) → All P xs
All_left P xs ys all k d lt = rw (← get_or_append_left xs ys d k lt) (all k d (rw length-append (omega arith)))

pub All_right : {X : Type 0} (P : X → Type 0) (xs ys : List X) → All P (xs ++ ys) → All P ys
All_right P xs ys all k d lt =
    rw (← get_or-append-add xs ys k d) (all (length xs + k) d (rw length-append (omega arith)))

-- what rises still does where the second part is filtered
rising_filter : (p : ℕ → Bool) (xs ys : List ℕ) → AreRising (xs ++ ys) → AreRising (xs ++ filter p ys)
rising_filter p [] ys rise = AllPairs-filter IsBelowNumber p ys rise
rising_filter p (x ∷ xs) ys rise =
    let above : All (IsBelowNumber x) (xs ++ ys) = λ k d lt. rise 0 (suc k) d (omega arith) (omega arith) in
    let tail : AreRising (xs ++ ys) = λ i j d lt within. rise (suc i) (suc j) d (omega arith) (omega arith) in
    AllPairs-cons IsBelowNumber x (xs ++ filter p ys)
    (All-append (IsBelowNumber x) xs (filter p ys) (All_left (IsBelowNumber x) xs ys above)
    (All-filter p (IsBelowNumber x) ys (All_right (IsBelowNumber x) xs ys above))) (rising_filter p xs ys tail)

pub map-remove : {X Y : Type 0} (f : X → Y) (xs : List X) (i : ℕ) → map f (remove xs i) ≡ remove (map f xs) i
map-remove f xs i = rw (map-append, take-map, drop-map) refl

-- a flush that is served ends
pub orderly_removed : (b : FlushBook) (rows : List Row) (i : ℕ) → i < length b.served → IsOrderly b rows
    → IsOrderly (record b { served = remove b.served i }) rows
orderly_removed b rows i lt is = record {
  older = is.older;
  bounds_rise = non_decreasing_remove b.served i lt is.bounds_rise;
  bounds = All-append (IsBounded b.next) _ _ (All-take (IsBounded b.next) i b.served is.bounds)
      (All-drop (IsBounded b.next) (suc i) b.served is.bounds);
  tickets_rise =
      let within : i < length (map ticket_of_served b.served) = rw length-map lt in
      let whole : i < length (flush_tickets b) = rw length-append (omega arith) in
      rw (
        map-remove ticket_of_served b.served i,
        ← remove-append_left (map ticket_of_served b.served) b.overflow i within,
      )
      (all_pairs_remove IsBelowNumber (flush_tickets b) i whole is.tickets_rise);
  few = let shorter = length-remove b.served i lt in let before = is.few in omega arith;
}

-- one in overflow ends
pub orderly_left : (b : FlushBook) (rows : List Row) (t : ℕ) → IsOrderly b rows
    → IsOrderly (record b { overflow = without t b.overflow }) rows
orderly_left b rows t is = record {
  older = is.older;
  bounds_rise = is.bounds_rise;
  bounds = is.bounds;
  tickets_rise = rising_filter (is_other_number t) (map ticket_of_served b.served) b.overflow is.tickets_rise;
  few = is.few;
}

-- the tickets of each kind rise by themselves
pub rising_served : (served : List Served) (overflow : List ℕ) → AreRising (map ticket_of_served served ++ overflow)
    → AllPairs IsOlderServed served
rising_served served overflow rise i j d lt within =
    let whole = rise i j d.ticket lt (rw (length-append, length-map) (omega arith)) in
    let at_i = get_or_append_left (map ticket_of_served served) overflow d.ticket i (rw length-map (omega arith))
    ∙ get_or-map ticket_of_served served i d d.ticket (omega arith) in
    let at_j = get_or_append_left (map ticket_of_served served) overflow d.ticket j (rw length-map within)
    ∙ get_or-map ticket_of_served served j d d.ticket within in
    omega arith

pub rising_overflow : (xs ys : List ℕ) → AreRising (xs ++ ys) → AreRising ys
rising_overflow xs ys rise i j d lt within =
    let whole = rise (length xs + i) (length xs + j) d (omega arith) (rw length-append (omega arith)) in
    let at_i = get_or-append-add xs ys i d in
    let at_j = get_or-append-add xs ys j d in
    omega arith
