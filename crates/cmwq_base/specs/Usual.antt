-- How usual lines are spelled, part by part: what bytes begin with, and what is left after it. The numbers are such as
-- each format has.
use Rattle.std.specs.Prelude.{◌≡◌, ◌≤◌, ◌==◌, ◌∷◌, ◌++◌, drop}
use Rattle.cmwq_base.specs.Common.{ℕ, true, false, List, length, Option, Some, None, Ok, All, Who, Call, IsWho}
use Rattle.cmwq_base.specs.Common.{IsCall, greatest_number, call_words}
use Rattle.cmwq_model.specs.Prelude.{IsReply}
use Rattle.cmwq_model.specs.declared.reply.Reply.{Reply}
use Rattle.cmwq_text.specs.Words.{space_words}
use Rattle.cmwq_text.specs.IdText.{who_text}
use Rattle.cmwq_text.specs.CallText.{sets_some}
use Rattle.cmwq_text.specs.ReplyText.{reply_words}
use Rattle.cmwq_text.specs.Formats.{is_short_call, is_short_reply, is_timely}
use Rattle.cmwq_base.specs.Files.{Kind, Stage, after_whole_line, end_of_format}

pub record IsUsualWho (bytes : List ℕ) (who : Who) (left : List ℕ) : Type 0 where
  pub text : bytes ≡ who_text who ++ left
  pub inside : IsWho who

-- the call stands after a space
pub record IsUsualCall (bytes : List ℕ) (c : Call) (left : List ℕ) : Type 0 where
  pub text : bytes ≡ space_words (call_words c) ++ left
  pub inside : IsCall greatest_number c
  pub short : is_short_call c ≡ true
  pub some : sets_some c ≡ true

pub record IsUsualReply (bytes : List ℕ) (r : Reply) (left : List ℕ) : Type 0 where
  pub text : 32 ∷ bytes ≡ space_words (reply_words r) ++ left
  pub inside : IsReply greatest_number r
  pub short : is_short_reply r ≡ true
  pub timely : is_timely r ≡ true

-- Bytes begin with a whole line and its line feed, and these are left after them. No other line feed stands inside it,
-- and it is no longer than a line may be.
pub record BeginsWhole (bytes line left : List ℕ) : Type 0 where
  pub text : bytes ≡ line ++ 10 ∷ left
  pub one : All (λ byte. (byte == 10) ≡ false) line
  pub short : length line ≤ 120

-- the line is one of the kind that says x, and not the last one
pub record BeginsLine {X : Type 0} (k : Kind X) (v : ℕ) (bytes : List ℕ) (x : X) (left : List ℕ) : Type 0 where
  pub line : List ℕ
  pub whole : BeginsWhole bytes line left
  pub read : k.item_of v line ≡ Some x
  pub no_end : end_of_format k v line ≡ None

-- the stage has gone on by the line that bytes begin with, which has so many of them with its line feed
pub record GoesOn {X : Type 0} (k : Kind X) (old new : Stage X) (bytes : List ℕ) (count : ℕ) : Type 0 where
  pub line : List ℕ
  pub whole : BeginsWhole bytes line (drop count bytes)
  pub within : count ≤ length bytes
  pub goes : (n : ℕ) → after_whole_line k n old line ≡ Ok new

-- or it hasn't
abbrev pub MayGoOn : {X : Type 0} → Kind X → Stage X → Stage X → List ℕ → Option ℕ → Type 0
MayGoOn k old new bytes (Some count) = GoesOn k old new bytes count
MayGoOn k old new bytes None = new ≡ old
