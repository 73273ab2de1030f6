-- The text of more entries.
use Rattle.cmwq_rt_journal.specs.Common.{◌≡◌, ◌+◌, ℕ, List, ◌++◌, length, take, Option, sym, ap, ◌∙◌, subst, arith}
use Rattle.cmwq_rt_journal.specs.Common.{append_assoc, Appends, AppendsFront, Appends-trans, front_after, Entry, Layout}
use Rattle.cmwq_rt_journal.specs.Common.{entry_text, head_text, body_text, entries_text}
use Rattle.std.proofs.Math.Seq.{take-length}
use Rattle.std.proofs.lemmas.List.{take-append-le, length-append}
use Rattle.std.proofs.lemmas.Grind.{flat_map-append}
use Rattle.cmwq_rt_journal.specs.Breaking.{BreaksOff}

pub body_more : (s : Layout) (xs ys : List Entry) → body_text 3 s (xs ++ ys) ≡ body_text 3 s xs ++ entries_text ys
body_more s xs ys = ap (λ l. head_text 3 s ++ l) (flat_map-append entry_text xs ys)
    ∙ sym (append_assoc (head_text 3 s) (entries_text xs) (entries_text ys))

pub batch_breaks : (s : Layout) (xs ys zs : List Entry) (a b c : Option (List ℕ)) → zs ≡ xs ++ ys
    → Appends a b (body_text 3 s xs) → AppendsFront b c (entries_text ys) → BreaksOff s zs (length xs) a c
batch_breaks s xs ys zs a b c e p q = subst (λ l. BreaksOff s l (length xs) a c) (sym e) (record {
  front = subst (AppendsFront a c) (sym (body_more s xs ys))
      (front_after a b c (body_text 3 s xs) (entries_text ys) p q);
  within = (let n = length-append xs ys in omega (arith, n));
  whole = λ h. (
    take q.0 (entries_text ys),
    subst (λ l. Appends a c (body_text 3 s l ++ take q.0 (entries_text ys)))
        (sym (take_front xs ys)) (Appends-trans a b c (body_text 3 s xs) (take q.0 (entries_text ys)) p q.1),
  );
})
  where
    take_front : (xs ys : List Entry) → take (length xs) (xs ++ ys) ≡ xs
    take_front xs ys = take-append-le (length xs) xs ys (omega arith) ∙ take-length xs
