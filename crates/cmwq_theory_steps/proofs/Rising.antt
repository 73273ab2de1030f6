-- Queueings stand by their numbers.
use Rattle.cmwq_theory_steps.specs.Common.{◌≡◌, ◌<◌, ◌≤◌, ℕ, suc, Bool, true, false, cond, List, [], ◌∷◌, ◌++◌, length}
use Rattle.cmwq_theory_steps.specs.Common.{append-nil, filter, find, Option, Some, None, option_to_list, refl, sym, ap}
use Rattle.cmwq_theory_steps.specs.Common.{arith, subst, AllByRecursion, option_map, option_and_then, if◌then◌else◌}
use Rattle.cmwq_theory_steps.specs.Common.{Entry, Queueing, item_of, queueings, opening, opens, is_live, queued_at}
use Rattle.cmwq_theory_steps.specs.Common.{place_wanted, still_open}
use Rattle.cmwq_model.specs.declared.record.Place.{Place}
use Rattle.cmwq_theory_steps.specs.Rising.{IsRising}
use Rattle.cmwq_lemmas.proofs.Lists.{All_map, All_append, All_filter}

abbrev pub IsBelow : ℕ → Queueing → Type 0
IsBelow n x = x.number < n

rising_head : (x : Queueing) (xs : List Queueing) (b : Bool) → AllByRecursion (λ y. x.number < y.number) xs
    → IsRising xs → IsRising (cond b (x ∷ xs) xs)
rising_head x xs true h k = (h, k)
rising_head x xs false h k = k

pub rising_filter : (p : Queueing → Bool) (xs : List Queueing) → IsRising xs → IsRising (filter p xs)
rising_filter p [] h = tt
rising_filter p (x ∷ xs) h =
    let later =
    All_filter (λ y. x.number < y.number) p xs
    (All_map (λ y. x.number < y.number) (λ y. p y ≡ true → x.number < y.number) xs (λ y less passes. less) h.0) in
    rising_head x (filter p xs) (p x) later (rising_filter p xs h.1)

pub rising_snoc : (xs : List Queueing) (y : Queueing) → IsRising xs → AllByRecursion (IsBelow y.number) xs
    → IsRising (xs ++ y ∷ [])
rising_snoc [] y h k = (tt, tt)
rising_snoc (x ∷ xs) y h k = (All_append (λ z. x.number < z.number) xs (y ∷ []) h.0 (k.0, tt), rising_snoc xs y h.1 k.1)

-- what an entry opens has the entry's number
placed_number : (past : List Entry) (i : ℕ) (o : Option Place) (x : Queueing) → option_map (queued_at past i) o ≡ Some x
    → x.number ≡ length past
placed_number past i None x h = cc
placed_number past i (Some p) x h = let is : queued_at past i p ≡ x = cc in sym (ap (λ (y : Queueing). y.number) is)

wanted_number : (past : List Entry) (b : Bool) (o : Option ℕ) (f : ℕ → Option Place) (x : Queueing)
    → (if b then option_and_then (λ i. option_map (queued_at past i) (f i)) o else None) ≡ Some x
    → x.number ≡ length past
wanted_number past false o f x h = cc
wanted_number past true None f x h = cc
wanted_number past true (Some i) f x h = placed_number past i (f i) x h

pub opening_number : (past : List Entry) (e : Entry) (x : Queueing) → opening past e ≡ Some x → x.number ≡ length past
opening_number past e x h = wanted_number past (opens e.reply) (item_of e) (place_wanted past e.call) x h

below_more : (n : ℕ) (xs : List Queueing) (o : Option Queueing) → AllByRecursion (IsBelow n) xs
    → ((x : Queueing) → o ≡ Some x → x.number ≡ n) → AllByRecursion (IsBelow (suc n)) (xs ++ option_to_list o)
below_more n xs o h k =
    All_append (IsBelow (suc n)) xs (option_to_list o)
    (All_map (IsBelow n) (IsBelow (suc n)) xs (λ x less. omega arith) h) (opened o k)
  where
    opened : (o : Option Queueing) → ((x : Queueing) → o ≡ Some x → x.number ≡ n)
        → AllByRecursion (IsBelow (suc n)) (option_to_list o)
    opened None k = tt
    opened (Some x) k = let is : x.number ≡ n = k x refl in (omega arith, tt)

pub queueings_below : (past : List Entry) → AllByRecursion (IsBelow (length past)) (queueings past)
unfolding queueings
queueings_below [] = tt
queueings_below (e ∷ past) =
    below_more (length past) (queueings past) (opening past e) (queueings_below past) (opening_number past e)

rising_more : (n : ℕ) (xs : List Queueing) (o : Option Queueing) → IsRising xs → AllByRecursion (IsBelow n) xs
    → ((x : Queueing) → o ≡ Some x → x.number ≡ n) → IsRising (xs ++ option_to_list o)
rising_more n xs None h below k = rw append-nil h
rising_more n xs (Some x) h below k =
    rising_snoc xs x h (subst (λ m. AllByRecursion (IsBelow m) xs) (sym (k x refl)) below)

pub queueings_rise : (past : List Entry) → IsRising (queueings past)
unfolding queueings
queueings_rise [] = tt
queueings_rise (e ∷ past) =
    rising_more (length past) (queueings past) (opening past e) (queueings_rise past) (queueings_below past)
    (opening_number past e)

pub open_rise : (past : List Entry) → IsRising (still_open past)
open_rise past = rising_filter (is_live past) (queueings past) (queueings_rise past)

-- what is found first is the least that passes
pub find_least : (p : Queueing → Bool) (xs : List Queueing) (y : Queueing) → IsRising xs → find p xs ≡ Some y
    → AllByRecursion (λ x. p x ≡ true → y.number ≤ x.number) xs
find_least p [] y h found = tt
find_least p (x ∷ xs) y h found = least (p x) refl found (find_least p xs y h.1)
  where
    least : (b : Bool) → p x ≡ b → cond b (Some x) (find p xs) ≡ Some y
        → (find p xs ≡ Some y → AllByRecursion (λ z. p z ≡ true → y.number ≤ z.number) xs)
        → AllByRecursion (λ z. p z ≡ true → y.number ≤ z.number) (x ∷ xs)
    least true passes found later =
        let is : x.number ≡ y.number = ap (λ (z : Queueing). z.number) (let same : x ≡ y = cc in same) in (
          (λ e. omega arith),
          All_map (λ z. x.number < z.number) (λ z. p z ≡ true → y.number ≤ z.number) xs
              (λ z less e. omega arith) h.0,
        )
    least false fails found later = ((λ e. cc), later found)

-- what is open is older than the next entry
pub open_below : (past : List Entry) → AllByRecursion (λ x. x.number < length past) (still_open past)
open_below past =
    All_filter _ (is_live past) (queueings past)
    (All_map (IsBelow (length past)) _ (queueings past) (λ x less live. less) (queueings_below past))
