-- What `get_one::<u64>` reads of matches.
use Rattle.std.proofs.Common.{ℕ, ◌≡◌, ◌-◌, ◌^◌, ◌≤◌, Bool, true, false, List, Option, Some, None, Result, Ok, Err, refl}
use Rattle.std.proofs.Common.{sym, ap, ◌∙◌, arith}
use Rattle.std.specs.Prelude.{option_and_then, if◌then◌else◌}
use Rattle.std.specs.Str.Parse.{ParsesUnsigned, digits_value, without_leading_plus}
use Rattle.clap.specs.Matches.{ReadsOne}
use Rattle.clap.specs.ValueTests.{is_unsigned_in}
use Rattle.clap.specs.declared.builder.value_parser.ValueParser.TheVariants.{Unsigned}
use Rattle.clap.proofs.ValueTestLemmas.{accepts-Accepts, Accepts-accepts}
use Rattle.cmwq_cli.specs.Explore.{number_of_text}

-- a number that is read of a text, if it is one, is what the test and the digits say
module _ {E : Type 0} (gives : List ℕ → Result ℕ E → Type 0) (parses : (text : List ℕ) (r : Result ℕ E) → gives text r
    → ParsesUnsigned 64 10 text r) where
  number_read : (text : List ℕ) (read : Option ℕ) → ReadsOne {T = ℕ} {E = E} gives text read
      → read ≡ number_of_text text
  number_read text (Some n) is =
      let p = parses text (Ok n) is in
      let most : digits_value 10 (without_leading_plus text) ≤ 2 ^ 64 - 1 = let small = p.0.1 in omega arith in
      let accepted : is_unsigned_in 0 (2 ^ 64 - 1) text ≡ true =
      Accepts-accepts false (Unsigned 0 (2 ^ 64 - 1)) text (p.0.0, p.0.1, omega arith, most) in
      ap Some p.1 ∙ ap (λ b. if b then Some (digits_value 10 (without_leading_plus text)) else None) (sym accepted)
  number_read text None is = here (is_unsigned_in 0 (2 ^ 64 - 1) text) refl
    where
      here : (b : Bool) → is_unsigned_in 0 (2 ^ 64 - 1) text ≡ b
          → None ≡ (if b then Some (digits_value 10 (without_leading_plus text)) else None)
      here false not = refl
      here true is_number =
          let a = accepts-Accepts false (Unsigned 0 (2 ^ 64 - 1)) text is_number in
          absurd (parses text (Err is.0) is.1 (a.0, a.1))

  pub number_of_found : (found : Option (List ℕ)) (read : Option ℕ) → (found ≡ None → read ≡ None)
      → ((text : List ℕ) → found ≡ Some text → ReadsOne {T = ℕ} {E = E} gives text read)
      → read ≡ option_and_then number_of_text found
  number_of_found None read none some = none refl
  number_of_found (Some text) read none some = number_read text read (some text refl)
