-- One more entry, and one more number of a range.
use Rattle.std.proofs.Common.{◌≡◌, ℕ, ◌+◌, List, [], ◌∷◌, ◌++◌, length, sym, ap, ◌∙◌, arith, append-nil, append_assoc}
use Rattle.std.proofs.lemmas.Grind.{flat_map-append}
use Rattle.std.proofs.lemmas.List.{length-reverse, map-id}
use Rattle.std.proofs.lemmas.List.Concat.{flat_map-cons}
use Rattle.std.proofs.lemmas.List.FromFn.{map-range_with_len_more}
use Rattle.std.specs.Prelude.{flat_map}
use Rattle.std.specs.List.{range_with_len}
use Rattle.cmwq_model.specs.declared.entry.Entry.{Entry}
use Rattle.cmwq_model.specs.Prelude.{past_of}

pub length_past : (entries : List Entry) → length (past_of entries) ≡ length entries
length_past entries = length-reverse entries

-- what is spelled out of a range that is one longer
pub range_more : (n : ℕ) → range_with_len 0 (n + 1) ≡ range_with_len 0 n ++ n ∷ []
range_more n = sym (map-id (range_with_len 0 (n + 1))) ∙ map-range_with_len_more (λ (k : ℕ). k) 0 n n (omega arith)
    ∙ ap (λ l. l ++ n ∷ []) (map-id (range_with_len 0 n))

-- and what is made of each of its numbers
pub flat_more : {X : Type 0} (f : ℕ → List X) (old before new : List X) (n : ℕ)
    → before ≡ old ++ flat_map f (range_with_len 0 n) → new ≡ before ++ f n
    → new ≡ old ++ flat_map f (range_with_len 0 (n + 1))
flat_more f old before new n so_far more =
    grind (arith, range_more, flat_map-append, flat_map-cons, append-nil, append_assoc)
