-- A front of one text after the whole of another is a front of both together.
use Rattle.cmwq_base.specs.Common.{◌≡◌, ◌+◌, ◌≤◌, ℕ, List, [], ◌∷◌, ◌++◌, length, take, drop, Option, refl, sym, ap}
use Rattle.cmwq_base.specs.Common.{◌∙◌, subst, arith, min, get_or, add-one, drop-cons, append-nil, ◌<◌}
use Rattle.cmwq_base.specs.Common.{take-append-drop, take-append-le, take_min, flat_map, Appends, Keeps, Appends-trans}
use Rattle.std.proofs.Math.Seq.{take-append-add, take-length}
use Rattle.std.proofs.lemmas.List.Concat.{flat_map-cons}
use Rattle.std.proofs.lemmas.Grind.{flat_map-append}
use Rattle.cmwq_io.specs.Moves.{AppendsFront}
use Rattle.std.proofs.KnownBytes.{Appends-kept}

take_behind : (xs ys zs : List ℕ) (n : ℕ) → take (length xs + min n (length ys)) (xs ++ (ys ++ zs)) ≡ xs ++ take n ys
take_behind xs ys zs n =
    let within : min n (length ys) ≤ length ys = omega arith in
    take-append-add xs (ys ++ zs) (min n (length ys))
    ∙ ap (λ l. xs ++ l) (take-append-le (min n (length ys)) ys zs within ∙ take_min n ys)

pub front_behind : (a b c : Option (List ℕ)) (xs ys zs : List ℕ) → Appends a b xs → AppendsFront b c ys
    → AppendsFront a c (xs ++ (ys ++ zs))
front_behind a b c xs ys zs p q = (
  length xs + min q.0 (length ys),
  subst (Appends a c) (sym (take_behind xs ys zs q.0)) (Appends-trans a b c xs (take q.0 ys) p q.1),
)

-- what a list spells is what stands before an element, that element, and what stands after it
pub flat_map-split : {X : Type 0} (f : X → List ℕ) (xs : List X) (i : ℕ) (d : X) → i < length xs
    → flat_map f xs ≡ flat_map f (take i xs) ++ (f (get_or xs i d) ++ flat_map f (drop (i + 1) xs))
flat_map-split f xs i d h =
    let parts : xs ≡ take i xs ++ (get_or xs i d ∷ drop (i + 1) xs) =
    sym (take-append-drop i xs) ∙ ap (λ l. take i xs ++ l) (drop-at i d xs h) in
    ap (flat_map f) parts ∙ flat_map-append f (take i xs) (get_or xs i d ∷ drop (i + 1) xs)
    ∙ ap (λ l. flat_map f (take i xs) ++ l) (flat_map-cons f (get_or xs i d) (drop (i + 1) xs))
  where
    drop-at : {X : Type 0} (i : ℕ) (d : X) (xs : List X) → i < length xs → drop i xs ≡ get_or xs i d ∷ drop (i + 1) xs
    drop-at i d xs h = rw (add-one, drop-cons xs i d) refl

-- a front of an element's text, after all before it, is a front of the whole
pub front_at : {X : Type 0} (f : X → List ℕ) (xs : List X) (i : ℕ) (d : X) (a b c : Option (List ℕ)) → i < length xs
    → Appends a b (flat_map f (take i xs)) → AppendsFront b c (f (get_or xs i d)) → AppendsFront a c (flat_map f xs)
front_at f xs i d a b c h p q =
    subst (AppendsFront a c) (sym (flat_map-split f xs i d h))
    (front_behind a b c (flat_map f (take i xs)) (f (get_or xs i d)) (flat_map f (drop (i + 1) xs)) p q)

-- a front of the first text is one of both
pub front_before : (a b : Option (List ℕ)) (xs ys : List ℕ) → AppendsFront a b xs → AppendsFront a b (xs ++ ys)
front_before a b xs ys q = (
  min q.0 (length xs),
  subst (Appends a b) (sym (take-append-le (min q.0 (length xs)) xs ys (omega arith) ∙ take_min q.0 xs)) q.1,
)

pub front_after : (a b c : Option (List ℕ)) (xs ys : List ℕ) → Appends a b xs → AppendsFront b c ys
    → AppendsFront a c (xs ++ ys)
front_after a b c xs ys p q =
    subst (AppendsFront a c) (ap (λ l. xs ++ l) (append-nil ys)) (front_behind a b c xs ys [] p q)

-- a whole text is a front of itself
pub front_whole : (a b c : Option (List ℕ)) (xs : List ℕ) → Appends a b xs → Keeps b c → AppendsFront a c xs
front_whole a b c xs p k = (length xs, subst (Appends a c) (sym (take-length xs)) (Appends-kept a b c xs p k))
