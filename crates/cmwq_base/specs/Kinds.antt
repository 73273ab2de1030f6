-- The two kinds of files: calls and histories.
use Rattle.cmwq_base.specs.Common.{ℕ, Bool, false, List, Result, Who, Call, Entry, fits, entry_fits, queue_of_calls}
use Rattle.cmwq_base.specs.Common.{is_version_line, needs_end, queue_of_format, entry_of_format, is_calls_line}
use Rattle.cmwq_base.specs.Common.{call_of_format}
use Rattle.cmwq_base.specs.declared.refusal.Refusal.{Refusal}
use Rattle.cmwq_base.specs.Files.{File, Kind, as_front, file_of}

-- a first line may say that a file of calls is of format 3, and it has no last line
abbrev pub calls_kind : Kind (Who × Call)
calls_kind =
    record {
      says_format = is_calls_line;
      queue_of = λ v. queue_of_calls;
      item_of = call_of_format;
      fits_in =
          λ s x. fits s x.0 x.1;
      needs_end = λ v. false;
      is_front = false;
    }

abbrev pub history_kind : Kind Entry
history_kind =
    record {
      says_format = is_version_line;
      queue_of = queue_of_format;
      item_of = entry_of_format;
      fits_in = entry_fits;
      needs_end = needs_end;
      is_front = false;
    }

-- what a text says as a file of calls, and as a history, or the first refusal
abbrev pub call_file_of : List ℕ → Result (File (Who × Call)) Refusal
call_file_of text = file_of calls_kind text

abbrev pub history_file_of : List ℕ → Result (File Entry) Refusal
history_file_of text = file_of history_kind text

-- the same, where the text may be the front of a history's
abbrev pub front_file_of : Bool → List ℕ → Result (File Entry) Refusal
front_file_of front text = file_of (as_front front history_kind) text
