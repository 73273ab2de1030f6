-- What `get_one::<bool>` reads of matches.
use Rattle.std.proofs.Common.{ℕ, Bool, true, false, List, Option, Some, None, ◌≡◌, refl, codes}
use Rattle.std.specs.Option.{option_map_or, unwrap_or}
use Rattle.std.specs.Str.{bytes_eq}
use Rattle.std.specs.Str.Parse.{ParsesBool, true_text}
use Rattle.std.specs.Bool.{Decides}
use Rattle.std.proofs.lemmas.Slice.Eq.{bytes_eq-Decides}
use Rattle.clap.specs.Matches.{ReadsOne}

another_text : (text : List ℕ) (b : Bool) → Decides b (text ≡ true_text) → (text ≡ true_text → ⊥) → false ≡ b
another_text text true same other = absurd (other (same.0 refl))
another_text text false same other = refl

-- a truth that is read of a text, or false where there is none, says whether the text is `true`
pub truth_of_text : (E : Type 0) (found : Option (List ℕ)) (read : Option Bool) → (found ≡ None → read ≡ None)
    → ((text : List ℕ) → found ≡ Some text → ReadsOne {T = Bool} {E = E} ParsesBool text read)
    → unwrap_or read false ≡ option_map_or (λ text. bytes_eq text (codes "true")) found false
truth_of_text E None read none some = rw (none refl) refl
truth_of_text E (Some text) read none some = of_read read (some text refl)
  where
    of_read : (r : Option Bool) → ReadsOne {T = Bool} {E = E} ParsesBool text r
        → unwrap_or r false ≡ bytes_eq text (codes "true")
    of_read (Some true) is = rw is refl
    of_read (Some false) is = rw is refl
    of_read None not = another_text text (bytes_eq text true_text) (bytes_eq-Decides text true_text) not.1.0
