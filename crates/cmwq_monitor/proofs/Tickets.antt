-- Whether a caller has an unended ticket.
use Rattle.std.specs.Prelude.{filter, is_some, slice_get}
use Rattle.std.specs.List.{list_any}
use Rattle.std.proofs.Common.{◌≡◌, ◌∙◌, ◌||◌, ◌∷◌, Bool, List, [], ap, false, if◌then◌else◌, refl, sym, true}

-- there is a first one that passes where some one passes
pub first_is_some : {X : Type 0} (p : X → Bool) (xs : List X) → is_some (slice_get (filter p xs) 0) ≡ list_any p xs
first_is_some p [] = refl
first_is_some p (x ∷ xs) = of (first_is_some p xs) (p x) refl
  where
    of : is_some (slice_get (filter p xs) 0) ≡ list_any p xs → (b : Bool) → p x ≡ b
        → is_some (slice_get (filter p (x ∷ xs)) 0) ≡ list_any p (x ∷ xs)
    of rest true is =
        ap (λ c. is_some (slice_get (if c then x ∷ filter p xs else filter p xs) 0)) is
        ∙ sym (ap (λ c. c || list_any p xs) is)
    of rest false is =
        ap (λ c. is_some (slice_get (if c then x ∷ filter p xs else filter p xs) 0)) is
        ∙ rest ∙ sym (ap (λ c. c || list_any p xs) is)
