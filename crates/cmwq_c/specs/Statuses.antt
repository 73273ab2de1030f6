-- What each call of C answers.
use Rattle.cmwq_c.specs.Common.{nat_lt, Who, Call, Entry, Layout, Lasting}
use Rattle.std.specs.Prelude.{drop, ◌≡◌, ℕ, ◌==◌, Bool, if◌then◌else◌, List, length, take, Option, None, Some}
use Rattle.cmwq_core.specs.History.{next_entry}
use Rattle.cmwq_text.specs.EntryText.{entry_text}
use Rattle.cmwq_c.specs.declared.session.Refusal.{Refusal}
use Rattle.cmwq_c.specs.declared.session.Refusal.TheVariants.{Unfit, Crowded, Full}
use Rattle.cmwq_c.specs.Books.{is_inside, refusal_of}

-- 0 done, 1 refused, 3 full, 6 crowded
abbrev pub status_of : Option Refusal → ℕ
status_of None = 0
status_of (Some Unfit) = 1
status_of (Some Full) = 3
status_of (Some Crowded) = 6

-- of a call by its numbers or by its line: 1 where these mean none
abbrev pub call_status : Lasting → Option (Who × Call) → ℕ
call_status l None = 1
call_status l (Some asked) = status_of (refusal_of l asked.0 asked.1)

-- 5 where so many bytes don't hold a text
abbrev pub space_status : ℕ → List ℕ → ℕ
space_status room text = if nat_lt room (length text) then 5 else 0

-- of a call whose entry is written as a line: as before, and else 5 where it is longer than the buffer
abbrev pub unless : ℕ → ℕ → ℕ
unless status next = if status == 0 then next else status

abbrev pub line_status : Lasting → Option (Who × Call) → ℕ → ℕ
line_status l None room = 1
line_status l (Some asked) room =
    unless (status_of (refusal_of l asked.0 asked.1))
    (space_status room (entry_text (next_entry l.history asked.0 asked.1)))

-- of an entry by its number: 1 where it isn't kept
abbrev pub entry_status : Option Entry → ℕ
entry_status None = 1
entry_status (Some e) = 0

abbrev pub entry_line_status : Option Entry → ℕ → ℕ
entry_line_status None room = 1
entry_line_status (Some e) room = space_status room (entry_text e)

-- 1 where there is no such thing
abbrev pub found_status : Bool → ℕ
found_status found = if found then 0 else 1

-- of a caller or worker: 1 where the numbers mean none, or the shape has it not
abbrev pub serial_status : Layout → Option Who → ℕ
serial_status s None = 1
serial_status s (Some who) = found_status (is_inside s who)

-- 2 where the handle is closed, and else that
abbrev pub if_live : Bool → ℕ → ℕ
if_live live status = if live then status else 2

-- The text stands at the front of the buffer, whole, and the rest is as it was.
pub record IsTextWritten (text : List ℕ) (written : ℕ) (old new : List ℕ) : Type 0 where
  pub count : written ≡ length text
  pub front : take written new ≡ text
  pub rest : drop written new ≡ drop written old
