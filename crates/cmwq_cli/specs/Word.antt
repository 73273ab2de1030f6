-- The command line: which words there are, and which one clap's matches hold.
use Rattle.std.specs.Prelude.{ℕ, ◌-◌, ◌^◌, Bool, true, List, [], map, nat_le, Option, Some, None}
use Rattle.std.specs.Prelude.{option_map, option_and_then, codes, if◌then◌else◌}
use Rattle.std.specs.Option.{option_map_or}
use Rattle.std.specs.Str.{bytes_eq}
use Rattle.std.specs.Borrow.{Bor}
use Rattle.clap.specs.Words.{App, Text, Row, Rule, new_app, new_rule, with_rule, with_subcommand, Shape, subcommand_of}
use Rattle.clap.specs.Words.{first_of, takes}
use Rattle.clap.specs.declared.builder.action.ArgAction.TheVariants.{Set, SetTrue}
use Rattle.clap.specs.declared.builder.value_parser.ValueParser.TheVariants.{Unsigned}
use Rattle.cmwq_cli.specs.declared.word.Asked.{Asked}
use Rattle.cmwq_cli.specs.declared.word.Word.{Word}
use Rattle.cmwq_cli.specs.declared.word.Word.TheVariants as word
use Rattle.cmwq_cli.specs.Explore.{has_flag, number_found, options_found, schedules_of, other_found}

-- from where a window goes, and up to where
abbrev pub window_found : List Row → Option ℕ × Option ℕ
window_found rows = (number_found (codes "from") rows, number_found (codes "to") rows)

-- a window does not end before it begins
abbrev pub is_window : Option ℕ → Option ℕ → Bool
is_window from to = option_map_or (λ first. option_map_or (λ end. nat_le first end) to true) from true

abbrev pub chart_found : List Row → Option Word
chart_found rows =
    let window = window_found rows in
    if is_window window.0 window.1 then Some (word.Chart window.0 window.1 (has_flag (codes "all") rows)) else None

abbrev pub page_found : List Row → Option Word
page_found rows =
    let window = window_found rows in
    if is_window window.0 window.1 then Some (word.Page window.0 window.1) else None

-- the word with this name and these matches
abbrev pub word_found : Text × List Row → Option Word
word_found found =
    if bytes_eq found.0 (codes "step") then Some (word.Step (has_flag (codes "live") found.1))
    else if bytes_eq found.0 (codes "check") then Some (word.Check (has_flag (codes "front") found.1))
    else if bytes_eq found.0 (codes "upgrade") then Some word.Upgrade
    else if bytes_eq found.0 (codes "summary") then Some word.Summary
    else if bytes_eq found.0 (codes "open") then Some (word.Open (has_flag (codes "front") found.1))
    else if bytes_eq found.0 (codes "resume") then Some (word.Resume (has_flag (codes "front") found.1))
    else if bytes_eq found.0 (codes "chart")
    then chart_found found.1
    else if bytes_eq found.0 (codes "trace") then Some word.Trace
    else if bytes_eq found.0 (codes "page")
    then page_found found.1
    else if bytes_eq found.0 (codes "replay") then Some word.Replay
    else if bytes_eq found.0 (codes "run") then Some word.Run
    else if bytes_eq found.0 (codes "explore") then option_map word.Explore (schedules_of (options_found found.1))
    else None

-- what is asked: the word, whether it explains, the name of the file that it reads, if one is given, that of the file
-- with names, with moves or with a history, and the items whose runs are left out
pub record Request : Type 0 where
  pub word : Word
  pub explain : Bool
  pub file : Option Text
  pub other : Option Text
  pub leave_out : Option Text

abbrev pub request : Asked → Request
request a =
    record {
      word = a.word;
      explain = a.explain;
      file = option_map (λ s. s.now) a.file;
      other = option_map (λ s. s.now) a.other;
      leave_out = option_map (λ s. s.now) a.leave_out;
    }

abbrev pub asked_found : Text × List Row → Option Request
asked_found found =
    option_map
    (λ w. record {
      word = w;
      explain = has_flag (codes "explain") found.1;
      file = first_of (codes "FILE") found.1;
      other = other_found found.1;
      leave_out = first_of (codes "leave-out") found.1;
    }) (word_found found)

-- what clap reads of the program's command line: a word is a subcommand, and there is one
abbrev pub program : Shape
program = record (new_app (codes "cmwq")).top { has_version = true; subcommand_required = true }

abbrev pub without_words : App
without_words = record { top = program; subs = [] }

-- a flag: two dashes and its name
abbrev pub flag_rule : List ℕ → Rule
flag_rule name = record (new_rule name) { long = Some name; action = Some SetTrue }

-- every word may have a file, and has the flag that explains
abbrev pub file_rule : Rule
file_rule = record (new_rule (codes "FILE")) { action = Some Set }

abbrev pub with_command : App → App → App
with_command a command = with_subcommand a (with_rule (with_rule command file_rule) (flag_rule (codes "explain"))).top

abbrev pub with_word : App → List ℕ → App
with_word a name = with_command a (new_app name)

-- a word with another flag too
abbrev pub with_flagged : App → List ℕ → List ℕ → App
with_flagged a name flag_name = with_command a (with_rule (new_app name) (flag_rule flag_name))

-- an option with a number: two dashes, its name and the number
abbrev pub number_rule : List ℕ → Rule
number_rule name =
    record (new_rule name) {
      long = Some name;
      action = Some Set;
      parser = Some (Unsigned 0 (2 ^ 64 - 1));
      value_names =
          1;
    }

-- an option with the name of a file: two dashes, its name and that
abbrev pub file_option : List ℕ → Rule
file_option name = record (new_rule name) { long = Some name; action = Some Set; value_names = 1 }

-- an option with the numbers of items: two dashes, its name and these
abbrev pub items_option : List ℕ → Rule
items_option name = record (new_rule name) { long = Some name; action = Some Set; value_names = 1 }

-- a word that shows a history may have names
abbrev pub with_named : App → App → App
with_named a command = with_command a (with_rule command (file_option (codes "names")))

-- the words whose inputs are lines and whose outputs are too, of which `step` also has `--live`, `check`, `open` and
-- `resume` have `--front`, and `resume` has `--leave-out`; then those that draw a history, of which `chart` and `page`
-- have `--from` and `--to`, and `chart` has `--all`
abbrev pub with_open : App
with_open =
    with_named
    (with_named
    (with_word
    (with_flagged (with_flagged without_words (codes "step") (codes "live")) (codes "check") (codes "front"))
    (codes "upgrade")) (new_app (codes "summary")))
    (with_rule (new_app (codes "open")) (flag_rule (codes "front")))

abbrev pub with_texts : App
with_texts =
    with_command with_open
    (with_rule (with_rule (new_app (codes "resume")) (flag_rule (codes "front"))) (items_option (codes "leave-out")))

abbrev pub chart_word : App
chart_word =
    with_rule
    (with_rule (with_rule (new_app (codes "chart")) (number_rule (codes "from"))) (number_rule (codes "to")))
    (flag_rule (codes "all"))

abbrev pub page_word : App
page_word =
    with_rule (with_rule (new_app (codes "page")) (number_rule (codes "from"))) (number_rule (codes "to"))

abbrev pub with_chart : App
with_chart = with_named with_texts chart_word

abbrev pub with_trace : App
with_trace = with_named with_chart (new_app (codes "trace"))

abbrev pub with_lines : App
with_lines = with_named with_trace page_word

-- the word `explore`, with its options of seeds, with those of all schedules too, and with all its options
abbrev pub seeded_word : App
seeded_word =
    with_rule
    (with_rule
    (with_rule (with_rule (new_app (codes "explore")) (number_rule (codes "seed"))) (number_rule (codes "times")))
    (number_rule (codes "from"))) (number_rule (codes "pct"))

abbrev pub searching_word : App
searching_word =
    with_rule
    (with_rule (with_rule (with_rule seeded_word (flag_rule (codes "all"))) (flag_rule (codes "plain")))
    (flag_rule (codes "first"))) (flag_rule (codes "histories"))

abbrev pub explore_word : App
explore_word =
    with_rule (with_rule (with_rule searching_word (number_rule (codes "moves"))) (file_option (codes "path")))
    (file_option (codes "follow"))

abbrev pub app : App
app = with_command (with_word (with_word with_lines (codes "replay")) (codes "run")) explore_word

-- the words as texts
abbrev pub texts : List (Bor Text) → List Text
texts words = map (λ s. s.now) words

-- clap takes the command line: its parse fails only for want of memory
unfoldable pub is_word_taken : List Text → Bool
is_word_taken words = takes app words

-- what is asked by the word that clap's matches of a command line hold
unfoldable pub word_matched : List Text → Option Request
word_matched words = option_and_then asked_found (subcommand_of app words)
