-- How calls go on after others.
use Rattle.cmwq_io.specs.Common.{◌≡◌, ℕ, ◌≤◌, List, [], ◌∷◌, ◌++◌, Option, Some, None, refl, sym, ap, ◌∙◌, append_assoc}
use Rattle.cmwq_io.specs.Common.{append-nil, inl, inr, zero, suc, arith, All}
use Rattle.std.proofs.lemmas.List.Elements.{All-append}
use Rattle.std.proofs.lemmas.Grind.{flat_map-append}
use Rattle.cmwq_io.specs.declared.trouble.Trouble.{Trouble}
use Rattle.cmwq_io.specs.declared.trouble.Trouble.TheVariants.{Failed}
use Rattle.cmwq_io.specs.Outcomes.{interruptions, made_after, IsAllMade, IsGivenUp, EndsGivenUp, GoesOnBy}

abbrev Calls : Type 0
Calls = List (Option Trouble)

parts : (a b c : Calls) (xs ys : Calls) → b ≡ a ++ xs → c ≡ b ++ ys → c ≡ a ++ (xs ++ ys)
parts a b c xs ys p q = q ∙ ap (λ l. l ++ ys) p ∙ append_assoc a xs ys

only : (n : ℕ) → n ≤ 1000 → All (λ m. m ≤ 1000) (n ∷ [])
only n few zero d inside = few
only n few (suc k) d inside = absurd (omega (arith, inside))

made_once : (n : ℕ) → n ≤ 1000 → IsAllMade (made_after n)
made_once n few = record {
  times = n ∷ [];
  few = only n few;
  calls = sym (append-nil (made_after n));
}

pub made : (a b c : Calls) (n : ℕ) → n ≤ 1000 → b ≡ a ++ interruptions n → c ≡ b ++ None ∷ [] → GoesOnBy IsAllMade a c
made a b c n few p q = (made_after n, parts a b c _ _ p q, made_once n few)

no_call : IsAllMade []
no_call = record { times = []; few = λ k d inside. absurd (omega (arith, inside)); calls = refl }

pub none_made : (a : Calls) → GoesOnBy IsAllMade a a
none_made a = ([], sym (append-nil a), no_call)

ends_at : (calls : Calls) → IsGivenUp calls → EndsGivenUp calls
ends_at calls h = record { made = []; given_up = calls; well = no_call; ends = h; calls = refl }

pub failed : (a b c : Calls) (n : ℕ) (t : Trouble) → n ≤ 1000 → t ≡ Failed → b ≡ a ++ interruptions n
    → c ≡ b ++ Some t ∷ [] → GoesOnBy EndsGivenUp a c
failed a b c n t few is p q = (
  interruptions n ++ Some t ∷ [],
  parts a b c _ _ p q,
  ends_at _ (inl (n, few, ap (λ x. interruptions n ++ Some x ∷ []) is)),
)

pub out_of_tries : (a b : Calls) (n : ℕ) → n ≡ 1001 → b ≡ a ++ interruptions n → GoesOnBy EndsGivenUp a b
out_of_tries a b n all p = (interruptions n, p, ends_at _ (inr (n, all, refl)))

both_made : (xs ys : Calls) → IsAllMade xs → IsAllMade ys → IsAllMade (xs ++ ys)
both_made xs ys p q = record {
  times = p.times ++ q.times;
  few = All-append (λ n. n ≤ 1000) p.times q.times p.few q.few;
  calls = rw (p.calls, q.calls) (sym (flat_map-append made_after p.times q.times));
}

pub made_on : (a b c : Calls) → GoesOnBy IsAllMade a b → GoesOnBy IsAllMade b c → GoesOnBy IsAllMade a c
made_on a b c p q = (p.0 ++ q.0, parts a b c _ _ p.1 q.1, both_made p.0 q.0 p.2 q.2)

pub given_up_on : (a b c : Calls) → GoesOnBy IsAllMade a b → GoesOnBy EndsGivenUp b c → GoesOnBy EndsGivenUp a c
given_up_on a b c p q = (
  p.0 ++ q.0,
  parts a b c _ _ p.1 q.1,
  record {
    made = p.0 ++ q.2.made;
    given_up = q.2.given_up;
    well = both_made p.0 q.2.made p.2 q.2.well;
    ends = q.2.ends;
    calls = ap (λ l. p.0 ++ l) q.2.calls ∙ sym (append_assoc p.0 q.2.made q.2.given_up);
  },
)
