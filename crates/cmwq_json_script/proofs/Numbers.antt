-- Names that are numbered first.
use Rattle.cmwq_json_script.specs.Common.{◌≡◌, ◌<◌, ◌≤◌, ◌+◌, suc, ℕ, ◌||◌, Bool, true, false, not, cond, List, [], ◌∷◌}
use Rattle.cmwq_json_script.specs.Common.{◌++◌, length, map, position, Some, None, refl, sym, ap, ap₂, nat_lt, ◌∙◌}
use Rattle.cmwq_json_script.specs.Common.{string_bytes, if◌then◌else◌, arith, String, bytes_eq, list_any, prefix_len}
use Rattle.cmwq_json_script.specs.Common.{Global, lt-ltb, ltb-false, length-map, map-append, insert_key, number_of_name}
use Rattle.cmwq_json_script.specs.Common.{same, taken}
use Rattle.cmwq_json_script.specs.Numbering.{numbered}

none_before_end : {X : Type 0} (p : X → Bool) (xs : List X) → length xs ≤ prefix_len (λ x. not (p x)) xs
    → list_any p xs ≡ false
none_before_end p [] h = refl
none_before_end p (x ∷ xs) h = at (p x) h (none_before_end p xs)
  where
    at : (b : Bool) → suc (length xs) ≤ cond (not b) (1 + prefix_len (λ y. not (p y)) xs) 0
        → (length xs ≤ prefix_len (λ y. not (p y)) xs → list_any p xs ≡ false) → (b || list_any p xs) ≡ false
    at true h rest = absurd (omega arith)
    at false h rest = rest (omega arith)

not_placed : {X : Type 0} (p : X → Bool) (xs : List X) → None ≡ position p xs → list_any p xs ≡ false
not_placed p xs h = none_before_end p xs (ltb-false _ _ (at (nat_lt (prefix_len (λ x. not (p x)) xs) (length xs)) h))
  where
    at : (b : Bool) → None ≡ cond b (Some (prefix_len (λ x. not (p x)) xs)) None → b ≡ false
    at true h = cc
    at false h = refl

pub number_made : (names after : List (String Global)) (s : String Global) (name : List ℕ) (n : ℕ)
    → string_bytes s ≡ name → n ≡ length names → length names < 16 → after ≡ insert_key same names s
    → None ≡ number_of_name (map string_bytes names) name
    → Some (n, map string_bytes after)
    ≡ numbered (map string_bytes names) name (number_of_name (map string_bytes names) name)
number_made names after s name n is last room keys new =
    let free : list_any (same s) names ≡ false =
    sym (taken names s name is) ∙ not_placed (bytes_eq name) (map string_bytes names) new in
    let more : map string_bytes after ≡ map string_bytes names ++ name ∷ [] =
    ap (map string_bytes) (keys ∙ ap (λ t. if t then names else names ++ s ∷ []) free)
    ∙ map-append string_bytes names (s ∷ []) ∙ ap (λ x. map string_bytes names ++ x ∷ []) is in
    let count : n ≡ length (map string_bytes names) = last ∙ sym (length-map names string_bytes) in
    let few : nat_lt (length (map string_bytes names)) 16 ≡ true = ap (λ k. nat_lt k 16) (length-map names string_bytes)
    ∙ lt-ltb (length names) 16 room in
    ap₂ (λ a b. Some (a, b)) count more
    ∙ sym (ap (λ b. if b then Some (length (map string_bytes names), map string_bytes names ++ name ∷ []) else None)
    few)
    ∙ ap (numbered (map string_bytes names) name) new
