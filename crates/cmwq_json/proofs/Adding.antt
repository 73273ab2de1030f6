-- A member added under a name.
use Rattle.cmwq_json.specs.Common.{◌≡◌, ◌<◌, ℕ, ◌&&◌, Bool, true, false, not, List, [], ◌∷◌, ◌++◌, length, map, Option}
use Rattle.cmwq_json.specs.Common.{Some, None, refl, sym, ap, ap₂, nat_lt, ◌∙◌, string_bytes, if◌then◌else◌, String}
use Rattle.cmwq_json.specs.Common.{Global, bytes_eq, list_any, lt-ltb, length-map, map-append}
use Rattle.indexmap.specs.IndexSet.{insert_key}
use Rattle.cmwq_json.specs.Names.{Named, add_named, is_taken}
use Rattle.cmwq_json.proofs.Arrays.{list_any-map}

abbrev pub same : String Global → String Global → Bool
same a b = bytes_eq (string_bytes a) (string_bytes b)

pub taken : (names : List (String Global)) (s : String Global) (name : List ℕ) → string_bytes s ≡ name
    → is_taken (map string_bytes names) name ≡ list_any (same s) names
taken names s name is = list_any-map (bytes_eq name) string_bytes names
    ∙ ap (λ n. list_any (λ k. bytes_eq n (string_bytes k)) names) (sym is)

turned : (b : Bool) → true ≡ not b → b ≡ false
turned true h = cc
turned false h = refl

not_added : (b : Bool) → false ≡ not b → b ≡ true
not_added true h = refl
not_added false h = cc

abbrev offered : {X : Type 0} → Bool → Bool → List (List ℕ) → List X → Option (Named X)
offered room is names values = if room && not is then Some (record { names = names; values = values }) else None

pub name_taken : {X : Type 0} (names : List (String Global)) (values : List X) (s : String Global) (name : List ℕ)
    (x : X) (most : ℕ) (b : Bool) → string_bytes s ≡ name → b ≡ false → b ≡ not (list_any (same s) names)
    → add_named most (record { names = map string_bytes names; values = values }) (name, x) ≡ None
name_taken names values s name x most b is refused said =
    ap (λ t. offered (nat_lt (length (map string_bytes names)) most) t (map string_bytes names ++ name ∷ [])
    (values ++ x ∷ [])) (taken names s name is ∙ not_added (list_any (same s) names) (sym refused ∙ said))
    ∙ never (nat_lt (length (map string_bytes names)) most)
  where
    never : (a : Bool) → offered a true (map string_bytes names ++ name ∷ []) (values ++ x ∷ []) ≡ None
    never true = refl
    never false = refl

pub name_added : {X : Type 0} (names after : List (String Global)) (values more : List X) (s : String Global)
    (name : List ℕ) (x : X) (most : ℕ) (b : Bool) → string_bytes s ≡ name → length names < most → b ≡ true
    → b ≡ not (list_any (same s) names)
    → after ≡ insert_key same names s → more ≡ values ++ x ∷ []
    → add_named most (record { names = map string_bytes names; values = values }) (name, x)
    ≡ Some (record { names = map string_bytes after; values = more })
name_added names after values more s name x most b is room added said keys items =
    ap₂ (λ a t. offered a t (map string_bytes names ++ name ∷ []) (values ++ x ∷ []))
    (ap (λ n. nat_lt n most) (length-map names string_bytes) ∙ lt-ltb (length names) most room)
    (taken names s name is ∙ free)
    ∙ sym (ap₂ (offered true false) (ap (map string_bytes) (keys ∙ ap (λ t. if t then names else names ++ s ∷ []) free)
    ∙ map-append string_bytes names (s ∷ []) ∙ ap (λ n. map string_bytes names ++ n ∷ []) is) items)
  where
    free : list_any (same s) names ≡ false
    free = turned (list_any (same s) names) (sym added ∙ said)
