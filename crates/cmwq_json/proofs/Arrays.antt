-- Lists seen through a view of each element.
use Rattle.cmwq_json.specs.Common.{◌≡◌, ℕ, suc, ◌||◌, ◌&&◌, ◌+◌, ◌==◌, nat_eq, Bor, Bool, true, false, cond, not, List}
use Rattle.cmwq_json.specs.Common.{[], ◌∷◌, length, map, position, Option, Some, None, refl, ap, ap₂, nat_lt, ◌∙◌, sym}
use Rattle.cmwq_json.specs.Common.{length-map, list_any, list_all, filter, prefix_len, String, option_map}
use Rattle.cmwq_json.specs.Common.{option_map_or, option_eq, Members, Global, Value, members_view}
use Rattle.std.proofs.lemmas.List.Folds.{list_all-map}
use Rattle.std.proofs.lemmas.Option.{same_Some}
use Rattle.cmwq_json.specs.Keys.{count_of}

pub count_of-members_view : (ms : List (String Global × Value)) → count_of (members_view ms) ≡ length ms
count_of-members_view [] = refl
count_of-members_view (m ∷ ms) = ap suc (count_of-members_view ms)

prefix_len-map : {X Y : Type 0} (p : Y → Bool) (f : X → Y) (xs : List X)
    → prefix_len p (map f xs) ≡ prefix_len (λ x. p (f x)) xs
prefix_len-map p f [] = refl
prefix_len-map p f (x ∷ xs) = ap (λ n. cond (p (f x)) (1 + n) 0) (prefix_len-map p f xs)

pub position-map : {X Y : Type 0} (p : Y → Bool) (f : X → Y) (xs : List X)
    → position p (map f xs) ≡ position (λ x. p (f x)) xs
position-map p f xs =
    ap₂ (λ i n. cond (nat_lt i n) (Some i) None) (prefix_len-map (λ y. not (p y)) f xs) (length-map xs f)

pub list_any-map : {X Y : Type 0} (p : Y → Bool) (f : X → Y) (xs : List X)
    → list_any p (map f xs) ≡ list_any (λ x. p (f x)) xs
list_any-map p f [] = refl
list_any-map p f (x ∷ xs) = ap (λ b. p (f x) || b) (list_any-map p f xs)

pub keys_counted : (keys : List (Bor (List ℕ))) (object : Option Members) (count : Option ℕ) (each : Bool)
    (test : List ℕ → Bool) → count ≡ option_map count_of object → true ≡ option_eq nat_eq count (Some (length keys))
    → each ≡ list_all (λ (key : Bor (List ℕ)). test key.now) keys
    → each ≡ (option_map_or (λ ms. count_of ms == length (map (λ (key : Bor (List ℕ)). key.now) keys)) object false
    && list_all test (map (λ (key : Bor (List ℕ)). key.now) keys))
keys_counted keys None count each test is same all = let bad : true ≡ false =
    same ∙ ap (λ n. option_eq nat_eq n (Some (length keys))) is in cc
keys_counted keys (Some ms) count each test is same all =
    let counted : (count_of ms == length (map (λ (key : Bor (List ℕ)). key.now) keys)) ≡ true =
    ap (λ n. count_of ms == n) (length-map keys (λ (key : Bor (List ℕ)). key.now))
    ∙ sym (same ∙ ap (λ n. option_eq nat_eq n (Some (length keys))) is) in
    all ∙ sym (list_all-map test (λ (key : Bor (List ℕ)). key.now) keys)
    ∙ sym (ap (λ c. c && list_all test (map (λ (key : Bor (List ℕ)). key.now) keys)) counted)

pub filtered_map : {X Y : Type 0} (p : Y → Bool) (f : X → Y) (xs : List X)
    → length (filter p (map f xs)) ≡ length (filter (λ x. p (f x)) xs)
filtered_map p f [] = refl
filtered_map p f (x ∷ xs) = at (p (f x)) (filtered_map p f xs)
  where
    at : (b : Bool) → length (filter p (map f xs)) ≡ length (filter (λ y. p (f y)) xs)
        → length (cond b (f x ∷ filter p (map f xs)) (filter p (map f xs)))
        ≡ length (cond b (x ∷ filter (λ y. p (f y)) xs) (filter (λ y. p (f y)) xs))
    at true same = ap suc same
    at false same = same

pub counted_object : (object : Option Members) (found count : ℕ) → Some found ≡ option_map count_of object
    → nat_eq found count ≡ option_map_or (λ ms. count_of ms == count) object false
counted_object None found count is = cc
counted_object (Some ms) found count is = ap (λ n. nat_eq n count) (same_Some found (count_of ms) is)

-- the count and the keys of an object, some of which may be left out
pub counted_keys : (keys : List (Bor (List ℕ))) (object : Option Members) (n m : ℕ) (test : List ℕ → Bool)
    (counted : Bool) → n ≡ length keys + m → counted ≡ option_map_or (λ ms. count_of ms == n) object false
    → (counted && list_all (λ (key : Bor (List ℕ)). test key.now) keys)
    ≡ (option_map_or (λ ms. count_of ms == length (map (λ (key : Bor (List ℕ)). key.now) keys) + m) object false
    && list_all test (map (λ (key : Bor (List ℕ)). key.now) keys))
counted_keys keys object n m test counted is count =
    ap₂ (λ a b. a && b)
    (count ∙ ap (λ k. option_map_or (λ ms. count_of ms == k) object false)
    (is ∙ ap (λ l. l + m) (sym (length-map keys (λ (key : Bor (List ℕ)). key.now)))))
    (sym (list_all-map test (λ (key : Bor (List ℕ)). key.now) keys))
