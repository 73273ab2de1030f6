-- The texts that a journal leaves.
use Rattle.std.proofs.Common.{Ok, Err, Result}
use Rattle.std.proofs.KnownBytes.{Keeps-refl, Appends-nil}
use Rattle.std.specs.Io.KnownBytes.{Keeps}
use Rattle.std.specs.Prelude.{OnOk, IfErr}
unfoldable use Rattle.cmwq_model.specs.Prelude.{IsLegal}
use Rattle.cmwq_text.specs.HistoryText.{text_of_format}
use Rattle.cmwq_rt_journal.specs.Common.{◌≡◌, ◌+◌, ℕ, List, [], length, Option, sym, ap, ◌∙◌, subst, arith, Appends}
use Rattle.cmwq_rt_journal.specs.Common.{AppendsFront, Entry, Layout, body_text, last_text, front_before, front_after}
use Rattle.cmwq_rt_journal.specs.Common.{front_whole}
use Rattle.cmwq_rt_journal.specs.Faults.{Broke, EndBroke, ending_text}
use Rattle.cmwq_rt_journal.specs.Kept.{HasKept, WritesFront}
use Rattle.cmwq_rt_journal.specs.declared.fault.JournalFault.{JournalFault}
use Rattle.cmwq_rt_journal.specs.declared.fault.JournalFault.TheVariants.{Late, Write, Hub}
use Rattle.cmwq_model.proofs.Growing.{nothing_is_legal}

-- nothing is a front of any text
nothing_is_front : (a b : Option (List ℕ)) (text : List ℕ) → b ≡ a → AppendsFront a b text
nothing_is_front a b text same = subst (λ c. AppendsFront a c text) (sym same) (0, Appends-nil a)

pub nothing_written : (s : Layout) (a b : Option (List ℕ)) → b ≡ a → WritesFront s a b
nothing_written s a b same = ([], nothing_is_legal s, nothing_is_front a b (text_of_format 3 s []) same)

-- a body is a front of the whole text
body_is_front : (s : Layout) (seen : List Entry) (a b c : Option (List ℕ)) → Appends a b (body_text 3 s seen)
    → Keeps b c → AppendsFront a c (text_of_format 3 s seen)
body_is_front s seen a b c body same =
    front_before a c (body_text 3 s seen) (last_text 3 (length seen)) (front_whole a b c (body_text 3 s seen) body same)

-- what a journal that broke off wrote
pub broke_is_front : (s : Layout) (old seen : List Entry) (a b : Option (List ℕ)) (f : JournalFault)
    → Broke s old seen a b f → AppendsFront a b (text_of_format 3 s seen)
broke_is_front s old seen a b (Late n) x = nothing_is_front a b (text_of_format 3 s seen) (x.3)
broke_is_front s old seen a b (Write n) x =
    front_before a b (body_text 3 s seen) (last_text 3 (length seen)) (x.1.front)
broke_is_front s old seen a b (Hub f n) x = body_is_front s seen a b b (x.2) (Keeps-refl b)

pub has_kept : (s : Layout) (seen : List Entry) (a b : Option (List ℕ)) (kept : Result (Unit {0}) JournalFault)
    → HasKept s seen a b kept → AppendsFront a b (text_of_format 3 s seen)
has_kept s seen a b (Ok u) x = body_is_front s seen a b b x (Keeps-refl b)
has_kept s seen a b (Err f) x = x

-- a journal at its end
pub keeps_so : (s : Layout) (old seen : List Entry) (a b : Option (List ℕ)) (kept : Result (Unit {0}) JournalFault)
    → OnOk kept (Appends a b (body_text 3 s seen)) → IfErr kept (λ f. Broke s old seen a b f) → HasKept s seen a b kept
keeps_so s old seen a b (Ok u) whole broke = whole
keeps_so s old seen a b (Err f) whole broke = broke_is_front s old seen a b f broke

-- the last line alone ends the body
ending_is_last : (seen rest : List Entry) → rest ≡ [] → ending_text seen rest ≡ last_text 3 (length seen)
ending_is_last seen rest none = ap (ending_text seen) none ∙ ap (last_text 3) (plus_nothing (length seen))
  where
    plus_nothing : (n : ℕ) → n + 0 ≡ n
    plus_nothing n = omega arith

-- what the end of a journal wrote where it broke off
pub end_is_front : (s : Layout) (seen rest : List Entry) (first : ℕ) (a b c : Option (List ℕ)) (f : JournalFault)
    → rest ≡ [] → Appends a b (body_text 3 s seen) → EndBroke seen first rest b c f
    → AppendsFront a c (text_of_format 3 s seen)
end_is_front s seen rest first a b c (Late n) none body x = absurd x
end_is_front s seen rest first a b c (Write n) none body x =
    front_after a b c (body_text 3 s seen) (last_text 3 (length seen)) body
    (subst (AppendsFront b c) (ending_is_last seen rest none) (x.1))
end_is_front s seen rest first a b c (Hub f n) none body x =
    subst (λ d. AppendsFront a d (text_of_format 3 s seen)) (sym (x.3)) (body_is_front s seen a b b body (Keeps-refl b))
