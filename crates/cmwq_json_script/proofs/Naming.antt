-- The names of items, each once.
use Rattle.cmwq_json_script.specs.Common.{◌≡◌, ◌<◌, ◌≤◌, ◌+◌, ℕ, ◌&&◌, Bool, true, false, not, List, [], ◌∷◌, ◌++◌}
use Rattle.cmwq_json_script.specs.Common.{length, map, get_or, drop, Option, Some, None, refl, sym, ap, ap₂, nat_lt}
use Rattle.cmwq_json_script.specs.Common.{◌∙◌, add-one, drop-cons, string_bytes, if◌then◌else◌, arith, length-append}
use Rattle.cmwq_json_script.specs.Common.{String, list_any, Global, lt-ltb, nat_tests, length-map, map-append}
use Rattle.cmwq_json_script.specs.Common.{insert_key, item, Value, view, items_view, is_taken, same, taken, drop_end}
use Rattle.cmwq_json_script.specs.Known.{known_name, with_name, names_after}

-- a name is added where none of them is the same
pub name_kept_once : (most : ℕ) (names after : List (String Global)) (s : String Global) (name : List ℕ)
    (o : Option (List ℕ)) → string_bytes s ≡ name → length names < most → after ≡ insert_key same names s
    → Some name ≡ o
    → map string_bytes after ≡ with_name most (map string_bytes names) o
name_kept_once most names after s name o is room keys some =
    ap (map string_bytes) keys ∙ at (list_any (same s) names)
    ∙ sym (ap₂ (λ a t. if a && not t then map string_bytes names ++ name ∷ [] else map string_bytes names)
    (ap (λ n. nat_lt n most) (length-map names string_bytes) ∙ lt-ltb (length names) most room)
    (taken names s name is))
    ∙ ap (with_name most (map string_bytes names)) some
  where
    at : (t : Bool) → map string_bytes (if t then names else names ++ s ∷ [])
        ≡ (if true && not t then map string_bytes names ++ name ∷ [] else map string_bytes names)
    at true = refl
    at false = map-append string_bytes names (s ∷ []) ∙ ap (λ n. map string_bytes names ++ n ∷ []) is

few_names : (most : ℕ) (before : List (List ℕ)) (o : Option (List ℕ)) → length before ≤ most
    → length (with_name most before o) ≤ most
few_names most before None few = few
few_names most before (Some name) few = at (nat_lt (length before) most) refl (is_taken before name)
  where
    at : (room : Bool) → nat_lt (length before) most ≡ room → (t : Bool)
        → length (if room && not t then before ++ name ∷ [] else before) ≤ most
    at true room false =
        let less : length before < most = grind (arith, nat_tests) in
        let more = length-append before (name ∷ []) in
        omega arith
    at true room true = few
    at false room t = few

pub few_names_kept : (most : ℕ) (names after : List (String Global)) (o : Option (List ℕ)) → length names ≤ most
    → map string_bytes after ≡ with_name most (map string_bytes names) o → length after ≤ most
few_names_kept most names after o few is =
    let a = length-map after string_bytes in
    let b = length-map names string_bytes in
    let c = ap length is in
    let d = few_names most (map string_bytes names) o (omega arith) in
    omega arith

-- what is left of the members
pub next_name : (most : ℕ) (all : List Value) (i : ℕ) (before after names : List (List ℕ)) (v d : Value)
    → i < length all → get_or all i d ≡ v → names ≡ names_after most before (items_view (drop i all))
    → after ≡ with_name most before (known_name (view v))
    → names ≡ names_after most after (items_view (drop (i + 1) all))
next_name most all i before after names v d less at so is =
    so ∙ ap (λ vs. names_after most before (items_view vs)) (drop-cons all i d less)
    ∙ ap (λ j. names_after most before (item (view (get_or all i d)) (items_view (drop j all)))) (sym (add-one i))
    ∙ ap (λ w. names_after most (with_name most before (known_name (view w))) (items_view (drop (i + 1) all))) at
    ∙ sym (ap (λ b. names_after most b (items_view (drop (i + 1) all))) is)

pub names_done : (most : ℕ) (all : List Value) (i : ℕ) (before names : List (List ℕ)) → length all ≤ i
    → names ≡ names_after most before (items_view (drop i all)) → before ≡ names
names_done most all i before names past so =
    sym (so ∙ ap (λ vs. names_after most before (items_view vs)) (drop_end i all past))
