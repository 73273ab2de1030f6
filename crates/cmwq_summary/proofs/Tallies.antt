-- A table of counts goes on as the definition does.
use Rattle.std.proofs.Common.{◌≡◌, ◌⊎◌, ℕ, ◌+◌, ◌<◌, ◌≤◌, Bool, true, false, List, [], ◌∷◌, length, get_or, set, eqb}
use Rattle.std.proofs.Common.{Option, Some, None, refl, sym, ap, ◌∙◌, inl, inr, arith, replicate, length-set}
use Rattle.std.proofs.Common.{get_or-set_other, get_or-set_same}
use Rattle.std.proofs.lemmas.List.{length-replicate, get_or-replicate, get_or_past}
use Rattle.std.proofs.lemmas.Bool.{cases_lt, eqb-true, eqb-false}
use Rattle.std.specs.Prelude.{if◌then◌else◌, slice_index}
use Rattle.cmwq_model.specs.declared.entry.Entry.{Entry}
use Rattle.cmwq_model.specs.Prelude.{is_at}
use Rattle.cmwq_summary.specs.Tallies.{Key, tally, IsTallyTable, with_one}
use Rattle.cmwq_summary.proofs.Tables.{updated}

-- at first nothing is counted
pub none_tallied : (key : Key) (many : ℕ) → IsTallyTable key many [] (replicate many 0)
unfolding tally
none_tallied key many = record { many_are = length-replicate many 0; each = λ k h. get_or-replicate many k 0 0 h }

-- no count is greater than the number of entries
pub tally_within : (key : Key) (past : List Entry) (k : ℕ) → tally key past k ≤ length past
unfolding tally
tally_within key [] k = omega arith
tally_within key (e ∷ past) k = of (is_at (key past e) k) (tally_within key past k)
  where
    of : (b : Bool) → tally key past k ≤ length past → tally key past k + (if b then 1 else 0) ≤ length (e ∷ past)
    of true h = omega arith
    of false h = omega arith

pub counts_within : (key : Key) (many : ℕ) (past : List Entry) (counts : List ℕ) (k : ℕ)
    → IsTallyTable key many past counts → slice_index counts k ≤ length past
counts_within key many past counts k t = of (cases_lt k many)
  where
    of : (k < many) ⊎ (many ≤ k) → slice_index counts k ≤ length past
    of (inl h) = let same = t.each k h in let within = tally_within key past k in omega arith
    of (inr h) = let past_all : length counts ≤ k = let m = t.many_are in omega arith in let none =
        get_or_past counts k 0 past_all in omega arith

pub counts_few : (key : Key) (many : ℕ) (past : List Entry) (counts : List ℕ) → length past < 9223372036854775808
    → IsTallyTable key many past counts → (k : ℕ) → slice_index counts k < 9223372036854775808
counts_few key many past counts few t k = let within = counts_within key many past counts k t in omega arith

-- after an entry
pub tally_goes_on : (key : Key) (many : ℕ) (past : List Entry) (e : Entry) (counts : List ℕ) (at : Option ℕ)
    → key past e ≡ at → IsTallyTable key many past counts → IsTallyTable key many (e ∷ past) (with_one counts at)
unfolding tally
tally_goes_on key many past e counts None is t =
    record { many_are = t.many_are; each = λ k h. let same = t.each k h in rw is (omega arith) }
tally_goes_on key many past e counts (Some j) is t = record {
  many_are = length-set counts j _ ∙ t.many_are;
  each = λ k h. let long = t.many_are in
      rw is (updated (λ n. n + 1) counts j k 0 (omega arith)
      ∙ (ap (λ n. if eqb j k then n + 1 else n) (t.each k h) ∙ by (eqb j k) (tally key past k)));
}
  where
    by : (b : Bool) (n : ℕ) → (if b then n + 1 else n) ≡ n + (if b then 1 else 0)
    by true n = refl
    by false n = omega arith

pub told_tally : (key : Key) (many : ℕ) (past : List Entry) (e : Entry) (old new : List ℕ) (at : Option ℕ)
    → at ≡ key past e → new ≡ with_one old at → IsTallyTable key many past old → IsTallyTable key many (e ∷ past) new
told_tally key many past e old new at is made t = rw made (tally_goes_on key many past e old at (sym is) t)
