-- What the calls that resume a history are, as numbers, and what of it they are for.
use Rattle.cmwq_c.specs.Common.{Caller, Call, Entry, Layout, Err, not}
use Rattle.cmwq_base.specs.Kinds.{front_file_of}
use Rattle.std.specs.Prelude.{◌≡◌, ◌+◌, ℕ, Bool, true, ◌==◌, if◌then◌else◌, List, drop, length, map, nat_le, take, Ok}
use Rattle.cmwq_base.specs.Files.{File}
use Rattle.cmwq_base.specs.declared.refusal.Refusal.{Refusal}
use Rattle.cmwq_base.specs.declared.refusal.Refusal.TheVariants as refusal
use Rattle.cmwq_cmd_resume.specs.Resumed.{first_caller}
use Rattle.cmwq_model.specs.declared.verdict.Illegal.{Illegal}
use Rattle.cmwq_model.specs.Prelude.{IsFirstWrong, IsLegal, past_of}
use Rattle.cmwq_resume.specs.Leavings.{is_again}
use Rattle.cmwq_resume.specs.Plays.{IsTakenOver}
use Rattle.cmwq_resume.specs.Resume.{resume_calls}
use Rattle.cmwq_c.specs.Numbers.{call_numbers, counts_of_numbers, who_numbers}
use Rattle.cmwq_c.specs.declared.numbers.CallNumbers.{CallNumbers}
use Rattle.cmwq_c.specs.declared.numbers.ShapeNumbers.{ShapeNumbers}
use Rattle.cmwq_c.specs.declared.resume.Why.{Why}
use Rattle.cmwq_c.specs.declared.resume.Why.TheVariants as why
use Rattle.cmwq_text.specs.HistoryText.{counts_in}

-- the runs of an item are had again, unless its flag is set, which one that isn't 0 is
abbrev pub is_set : ℕ → Bool
is_set flag = not (flag == 0)

abbrev pub again_of : List ℕ → ℕ → Bool
again_of flags = is_again (map is_set flags)

-- all calls are those of the first caller
abbrev pub first_calls_numbers : Call → CallNumbers
first_calls_numbers c = call_numbers (who_numbers (Caller first_caller)) c

abbrev pub calls_left : List ℕ → File Entry → List Call
calls_left flags f = resume_calls f.layout (again_of flags) (past_of f.items)

abbrev pub numbers_left : List ℕ → File Entry → List CallNumbers
numbers_left flags f = map first_calls_numbers (calls_left flags f)

-- The calls stand at the front of the buffer, and the rest is as it was.
pub record AreCallsWritten (calls : List CallNumbers) (written : ℕ) (old new : List CallNumbers) : Type 0 where
  pub count : written ≡ length calls
  pub front : take written new ≡ calls
  pub rest : drop written new ≡ drop written old

-- the numbers of a shape, without what a board keeps, and how many queues it has
pub record IsShapeTold (s : Layout) (shape : ShapeNumbers) (queues : ℕ) : Type 0 where
  pub counts : counts_of_numbers shape ≡ counts_in s
  pub keeps : shape.keep ≡ 0
  pub many : queues ≡ length s.queues

-- The text is a legal history, or the front of one; this is its shape, and these are the calls that resume it. They
-- succeed, and lose nothing.
pub record IsResumed (text flags : List ℕ) (shape : ShapeNumbers) (queues : ℕ) (calls : List CallNumbers) : Type 0 where
  pub file : File Entry
  pub read : front_file_of true text ≡ Ok file
  pub legal : IsLegal file.layout (past_of file.items)
  pub told : IsShapeTold file.layout shape queues
  pub made : calls ≡ numbers_left flags file
  pub taken_over : IsTakenOver file.layout first_caller (again_of flags) (past_of file.items) (calls_left flags file)

-- the line of an entry: before the entries are the line that says the format, if there is one, that of the shape, and
-- those of the queues
abbrev pub entry_line_number : File Entry → ℕ → ℕ
entry_line_number f at = (if nat_le 2 f.version then 3 else 2) + length f.layout.queues + at

-- The text is a history, or the front of one, and its first wrong entry stands in this line.
pub record IsWrongAt (text : List ℕ) (line : ℕ) : Type 0 where
  pub file : File Entry
  pub read : front_file_of true text ≡ Ok file
  pub illegal : Illegal
  pub first : IsFirstWrong file.layout file.items illegal
  pub line_is : line ≡ entry_line_number file illegal.at

-- the line of a refusal; 0 where a line is too long
abbrev pub refused_line : Refusal → ℕ
refused_line (refusal.BadLine n) = n
refused_line (refusal.BadShape n) = n
refused_line (refusal.NoSuchId n) = n
refused_line e = 0

abbrev pub why_of : Refusal → Why
why_of (refusal.BadLine n) = why.Refused n
why_of (refusal.BadShape n) = why.Refused n
why_of (refusal.NoSuchId n) = why.Refused n
why_of refusal.TooLong = why.Refused 0
why_of e = why.NoMemory

-- The text is no history, nor the front of one, because of this line.
pub record IsRefusedAt (text : List ℕ) (line : ℕ) : Type 0 where
  pub refusal_is : Refusal
  pub read : front_file_of true text ≡ Err refusal_is
  pub line_is : line ≡ refused_line refusal_is

-- why there are no calls
abbrev pub IsWhy : List ℕ → Why → Type 0
IsWhy text why.NoMemory = Unit {0}
IsWhy text (why.Refused n) = IsRefusedAt text n
IsWhy text (why.Illegal n) = IsWrongAt text n
