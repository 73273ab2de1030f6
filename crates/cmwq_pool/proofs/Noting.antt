-- The notes of items, as they are kept.
use Rattle.cmwq_pool.specs.Common.{◌≡◌, ℕ, zero, suc, ◌<◌, Bool, false, List, [], ◌∷◌, length, get_or, set, refl, ap}
use Rattle.cmwq_pool.specs.Common.{ap₂, arith, replicate}
use Rattle.cmwq_pool.specs.declared.note.Note.{Note}
use Rattle.cmwq_pool.specs.Notes.{notes_of}
use Rattle.cmwq_pool.specs.Upkeep.{no_note, note_at}

pub none_noted : (n : ℕ) → notes_of (replicate n 0) (replicate n false) ≡ replicate n no_note
none_noted zero = refl
none_noted (suc n) = ap (λ ys. no_note ∷ ys) (none_noted n)

pub length-notes_of : (ns : List ℕ) (bs : List Bool) → length bs ≡ length ns → length (notes_of ns bs) ≡ length ns
length-notes_of [] bs e = refl
length-notes_of (n ∷ ns) [] e = absurd (omega arith)
length-notes_of (n ∷ ns) (b ∷ bs) e = ap suc (length-notes_of ns bs (omega arith))

pub note_within : (ns : List ℕ) (bs : List Bool) (i : ℕ) → length bs ≡ length ns → i < length (notes_of ns bs)
    → i < length ns
note_within ns bs i e low = rw (← length-notes_of ns bs e) low

note_with : ℕ → Bool → Note
note_with n b = record { number = n; intensive = b }

same_note : (x y : Note) → x.number ≡ y.number → x.intensive ≡ y.intensive → x ≡ y
unfolding note_with
same_note x y number intensive = ap₂ note_with number intensive

pub noted : (ns : List ℕ) (bs : List Bool) (i : ℕ) → length bs ≡ length ns → i < length ns → (note : Note)
    → note.number ≡ get_or ns i 0 → note.intensive ≡ get_or bs i false → note ≡ note_at (notes_of ns bs) i
noted ns bs i e low note number intensive = by ns bs i e low number intensive
  where
    by : (ns : List ℕ) (bs : List Bool) (i : ℕ) → length bs ≡ length ns → i < length ns → note.number ≡ get_or ns i 0
        → note.intensive ≡ get_or bs i false → note ≡ note_at (notes_of ns bs) i
    by [] bs i e low number intensive = absurd (omega arith)
    by (n ∷ ns) [] i e low number intensive = absurd (omega arith)
    by (n ∷ ns) (b ∷ bs) zero e low number intensive =
        same_note note (record { number = n; intensive = b }) number intensive
    by (n ∷ ns) (b ∷ bs) (suc i) e low number intensive = by ns bs i (omega arith) (omega arith) number intensive

pub notes_set : (ns : List ℕ) (bs : List Bool) (i : ℕ) (note : Note) → length bs ≡ length ns → i < length ns
    → notes_of (set ns i note.number) (set bs i note.intensive) ≡ set (notes_of ns bs) i note
notes_set [] bs i note e low = absurd (omega arith)
notes_set (n ∷ ns) [] i note e low = absurd (omega arith)
notes_set (n ∷ ns) (b ∷ bs) zero note e low = refl
notes_set (n ∷ ns) (b ∷ bs) (suc i) note e low =
    ap (λ ys. (record { number = n; intensive = b }) ∷ ys) (notes_set ns bs i note (omega arith) (omega arith))
