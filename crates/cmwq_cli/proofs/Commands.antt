-- What is asked of the program, from what is known of its parts.
use Rattle.std.proofs.Common.{◌≡◌, ◌∙◌, Bool, List, Option, Some, None, ap, codes, sym}
use Rattle.std.proofs.Common.{refl}
use Rattle.std.specs.Prelude.{option_map}
use Rattle.clap.specs.Words.{Row, Text, first_of}
use Rattle.cmwq_cli.specs.declared.word.Word.{Word}
use Rattle.cmwq_cli.specs.Word.{asked_found, word_found}
use Rattle.cmwq_cli.specs.Explore.{followed_found, has_flag, other_found}

-- what is asked, of its parts
pub asked : (name : Text) (rows : List Row) (w : Word) (e : Bool) (f o l : Option Text)
    → word_found (name, rows) ≡ Some w → e ≡ has_flag (codes "explain") rows → f ≡ first_of (codes "FILE") rows
    → o ≡ other_found rows → l ≡ first_of (codes "leave-out") rows
    → Some (record { word = w; explain = e; file = f; other = o; leave_out = l }) ≡ asked_found (name, rows)
asked name rows w e f o l is explains has_file has_other leaves_out =
    let other = other_found rows in
    let parts : Some (record { word = w; explain = e; file = f; other = o; leave_out = l }) ≡ Some (record {
      word = w;
      explain = has_flag (codes "explain") rows;
      file = first_of (codes "FILE") rows;
      other = other;
      leave_out = first_of (codes "leave-out") rows;
    }) = rw (explains, has_file, has_other, leaves_out) refl in
    parts ∙ ap
    (option_map
    (λ (v : Word). record {
      word = v;
      explain = has_flag (codes "explain") rows;
      file = first_of (codes "FILE") rows;
      other = other;
      leave_out = first_of (codes "leave-out") rows;
    })) (sym is)

-- the name of the file with the moves, if there is one
pub followed_first : (rows : List Row) (name : Text) → first_of (codes "path") rows ≡ Some name
    → Some name ≡ followed_found rows
followed_first rows name is = rw is refl

-- and else that of the history
pub followed_second : (rows : List Row) (o : Option Text) → first_of (codes "path") rows ≡ None
    → o ≡ first_of (codes "follow") rows → o ≡ followed_found rows
followed_second rows o none is = rw (none, is) refl

-- before both that of the names
pub other_first : (rows : List Row) (name : Text) → first_of (codes "names") rows ≡ Some name
    → Some name ≡ other_found rows
other_first rows name is = rw is refl

pub other_second : (rows : List Row) (o : Option Text) → first_of (codes "names") rows ≡ None
    → o ≡ followed_found rows → o ≡ other_found rows
other_second rows o none is = rw none is
