-- A list, and one element more where there is one.
use Rattle.std.proofs.Common.{◌≡◌, ◌+◌, Bool, List, [], ◌∷◌, ◌++◌, Some, None, filter, find, count_by, if◌then◌else◌}
use Rattle.std.proofs.Common.{ap, ◌∙◌, zero-add, length, length-append, append-nil}
use Rattle.std.specs.List.{list_any}
use Rattle.std.specs.Option.{option_or}
use Rattle.std.proofs.lemmas.List.Elements.{filter-append}
use Rattle.std.proofs.lemmas.List.Folds.{find-append}
use Rattle.std.proofs.lemmas.List.Sums.{sum_by-append}
use Rattle.cmwq_lemmas.proofs.Passing.{last_any}

pub filter_push_none : {X : Type 0} (p : X → Bool) (xs : List X) → filter p (xs ++ []) ≡ filter p xs ++ []
filter_push_none p xs = filter-append p xs []

pub filter_push_some : {X : Type 0} (p : X → Bool) (xs : List X) (x : X) → filter p (xs ++ x ∷ []) ≡ filter p xs
    ++ (if p x then x ∷ [] else [])
filter_push_some p xs x = filter-append p xs (x ∷ [])

pub ruleset filter_push = (filter_push_none, filter_push_some)

pub find_push_none : {X : Type 0} (p : X → Bool) (xs : List X) → find p (xs ++ []) ≡ find p xs
find_push_none p xs = ap (find p) (append-nil xs)

pub find_push_some : {X : Type 0} (p : X → Bool) (xs : List X) (x : X)
    → find p (xs ++ x ∷ []) ≡ option_or (find p xs) (if p x then Some x else None)
find_push_some p xs x = find-append p xs (x ∷ [])

pub ruleset find_push = (find_push_none, find_push_some)

pub any_push_none : {X : Type 0} (p : X → Bool) (xs : List X) → list_any p (xs ++ []) ≡ list_any p xs
any_push_none p xs = ap (list_any p) (append-nil xs)

pub ruleset any_push = (any_push_none, last_any)

pub count_push_none : {X : Type 0} (p : X → Bool) (xs : List X) → count_by p (xs ++ []) ≡ count_by p xs
count_push_none p xs = ap (count_by p) (append-nil xs)

pub count_push_some : {X : Type 0} (p : X → Bool) (xs : List X) (x : X)
    → count_by p (xs ++ x ∷ []) ≡ count_by p xs + (if p x then 1 else 0)
count_push_some p xs x = sum_by-append (λ y. if p y then 1 else 0) xs (x ∷ [])
    ∙ ap (λ n. count_by p xs + n) (zero-add (if p x then 1 else 0))

pub ruleset count_push = (count_push_none, count_push_some)

pub length_push_none : {X : Type 0} (xs : List X) → length (xs ++ []) ≡ length xs
length_push_none xs = ap length (append-nil xs)

pub length_push_some : {X : Type 0} (xs : List X) (x : X) → length (xs ++ x ∷ []) ≡ length xs + 1
length_push_some xs x = length-append xs (x ∷ [])

pub ruleset length_push = (length_push_none, length_push_some)
