-- The first wrong entry of a history stays that when more is read after it.
use Rattle.std.proofs.Common.{◌≡◌, ℕ, List, [], ◌∷◌, ◌++◌, length, Option, Result, Ok, Err, refl, ap, ◌∙◌, append_assoc}
use Rattle.std.proofs.Common.{subst}
use Rattle.std.specs.Prelude.{OnOk, OnErr, IfErr}
use Rattle.std.specs.Io.KnownBytes.{Appends}
use Rattle.cmwq_io.specs.Moves.{AppendsFront}
use Rattle.cmwq_base.specs.declared.refusal.Refusal.{Refusal}
use Rattle.cmwq_base.specs.declared.refusal.Refusal.TheVariants as refusal
use Rattle.cmwq_history.specs.Views.{WriteEnds}
use Rattle.cmwq_model.specs.declared.entry.Entry.{Entry}
use Rattle.cmwq_model.specs.declared.verdict.Illegal.{Illegal}
use Rattle.std.proofs.lemmas.List.{reverse-append, reverse-reverse}
use Rattle.std.proofs.Common.{reverse, sym}
use Rattle.std.specs.Prelude.{true}
use Rattle.cmwq_history.specs.Steps.{IsStep}
use Rattle.cmwq_model.specs.Prelude.{Layout, IsLegal, past_of, Wants, IsFirstWrong, is_layout, has_room, most_room}

pub wrong_stays : (s : Layout) (entries : List Entry) (x : Entry) (i : Illegal) → IsFirstWrong s entries i
    → IsFirstWrong s (entries ++ x ∷ []) i
wrong_stays s entries x i w = record {
  before = w.before;
  entry = w.entry;
  rest = w.rest ++ x ∷ [];
  parts = ap (λ l. l ++ x ∷ []) w.parts ∙ append_assoc w.before (w.entry ∷ w.rest) (x ∷ []);
  place = w.place;
  is_legal = w.is_legal;
  wants = w.wants;
}

pub wrong_now : (s : Layout) (entries : List Entry) (x : Entry) (i : Illegal) → i.at ≡ length entries
    → IsLegal s (past_of entries) → Wants s (past_of entries) x i.wanted → IsFirstWrong s (entries ++ x ∷ []) i
wrong_now s entries x i at legal wants =
    record { before = entries; entry = x; rest = []; parts = refl; place = at; is_legal = legal; wants = wants }

-- an entry that is right is a step
pub past_more : (entries : List Entry) (x : Entry) → past_of (entries ++ x ∷ []) ≡ x ∷ past_of entries
past_more entries x = reverse-append entries (x ∷ [])

pub step_made : {T : Type 0} (tells : Layout → List Entry → Entry → T → Type 0) (s : Layout) (entries : List Entry)
    (e : Entry) (t : T) → is_layout s ≡ true → tells s (past_of entries) e t
    → has_room s most_room (past_of entries) e.who e.call ≡ true
    → IsStep tells (record { layout = s; entries = entries ++ e ∷ [] }) e t
step_made tells s entries e t inside told few =
    let p = past_more entries e in
    record { seen = rw p refl; next = rw p (record { inside = inside; told_is = told; few = few }) }

-- histories with one past are one
pub same_entries : (xs ys : List Entry) → past_of xs ≡ past_of ys → xs ≡ ys
same_entries xs ys h = sym (reverse-reverse xs) ∙ ap reverse h ∙ reverse-reverse ys

-- a text was written whole, or a front of it
pub write_ends : (old new : Option (List ℕ)) (text : List ℕ) (r : Result (Unit {0}) Refusal)
    → OnOk r (Appends old new text) → OnErr r (AppendsFront old new text) → IfErr r (λ e. e ≡ refusal.WriteFault)
    → WriteEnds old new text r
write_ends old new text (Ok u) whole front only = whole
write_ends old new text (Err e) whole front only = subst (λ f. WriteEnds old new text (Err f)) (sym only) front
