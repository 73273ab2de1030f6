-- The keys of an object.
use Rattle.std.specs.Prelude.{◌&&◌, ◌+◌, ◌==◌}
use Rattle.cmwq_json.specs.Common.{ℕ, suc, Bool, false, List, length, is_some, option_map_or, filter, list_all, Data}
use Rattle.cmwq_json.specs.Common.{Members, no_members, member, get, as_object}

abbrev pub count_of : Members → ℕ
count_of no_members = 0
count_of (member k d ms) = suc (count_of ms)

-- an object that has as many members as there are keys, and each key
abbrev pub has_keys : List (List ℕ) → Data → Bool
has_keys keys d = option_map_or (λ ms. count_of ms == length keys) (as_object d) false
    && list_all (λ key. is_some (get key d)) keys

-- an object with each of these keys, and beside them none but of those that may be left out
abbrev pub has_keys_with_optional : List (List ℕ) → List (List ℕ) → Data → Bool
has_keys_with_optional keys optional d =
    option_map_or (λ ms. count_of ms == length keys + length (filter (λ key. is_some (get key d)) optional))
    (as_object d) false
    && list_all (λ key. is_some (get key d)) keys
