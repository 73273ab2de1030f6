-- The options of `explore`: which schedules they ask for.
use Rattle.std.specs.Prelude.{ℕ, ◌+◌, ◌-◌, ◌^◌, ◌==◌, ◌||◌, Bool, false, List, Option, Some, None, is_some, not}
use Rattle.std.specs.Prelude.{nat_lt, option_and_then, codes, if◌then◌else◌}
use Rattle.std.specs.Option.{option_map_or, unwrap_or}
use Rattle.std.specs.Str.{bytes_eq}
use Rattle.std.specs.Str.Parse.{digits_value, without_leading_plus}
use Rattle.clap.specs.Words.{Row, first_of, one_of}
use Rattle.clap.specs.ValueTests.{is_unsigned_in}
use Rattle.cmwq_cli.specs.declared.options.Options.{Options}
use Rattle.cmwq_cli.specs.declared.word.Schedules.{Schedules}
use Rattle.cmwq_cli.specs.declared.word.Schedules.TheVariants as schedules

-- the matches of a word have the flag of this name
abbrev pub has_flag : List ℕ → List Row → Bool
has_flag name rows = option_map_or (λ value. bytes_eq value (codes "true")) (one_of name rows) false

-- the number that the matches of a word have under this name
abbrev pub number_of_text : List ℕ → Option ℕ
number_of_text text = if is_unsigned_in 0 (2 ^ 64 - 1) text then Some (digits_value 10 (without_leading_plus text))
    else None

abbrev pub number_found : List ℕ → List Row → Option ℕ
number_found name rows = option_and_then number_of_text (one_of name rows)

abbrev pub options_found : List Row → Options
options_found rows = record {
  seed = number_found (codes "seed") rows;
  times = number_found (codes "times") rows;
  pct = number_found (codes "pct") rows;
  moves = number_found (codes "moves") rows;
  from = number_found (codes "from") rows;
  all = has_flag (codes "all") rows;
  histories = has_flag (codes "histories") rows;
  plain = has_flag (codes "plain") rows;
  first = has_flag (codes "first") rows;
  path = is_some (first_of (codes "path") rows);
  follow = is_some (first_of (codes "follow") rows);
}

-- the name of the other file: that of the names, or else that of the moves, or else that of the history
abbrev pub followed_found : List Row → Option (List ℕ)
followed_found rows =
    if is_some (first_of (codes "path") rows) then first_of (codes "path") rows else first_of (codes "follow") rows

abbrev pub other_found : List Row → Option (List ℕ)
other_found rows =
    if is_some (first_of (codes "names") rows) then first_of (codes "names") rows else followed_found rows

abbrev pub ones : Bool → ℕ
ones is = if is then 1 else 0

abbrev pub count : Bool → Bool → Bool → ℕ
count a b c = ones a + ones b + ones c

-- one of five says which schedules are meant
abbrev pub is_of_one_kind : Options → Bool
is_of_one_kind o = count (is_some o.seed) (is_some o.times) o.all + count o.path o.follow false == 1

-- an option of seeds alone is given, or one of all schedules alone
abbrev pub has_seeding : Options → Bool
has_seeding o = is_some o.pct || is_some o.from

abbrev pub has_searching : Options → Bool
has_searching o = o.histories || (o.plain || o.first)

-- there are no priorities by which the next to move is chosen
abbrev pub has_no_priority : Options → Bool
has_no_priority o = option_map_or (λ pct. pct == 0) o.pct false

-- there are so many seeds from one on: the one behind them has a number too
abbrev pub has_seeds : ℕ → ℕ → Bool
has_seeds from times = nat_lt (from + times) (2 ^ 64)

abbrev pub of_times : Options → ℕ → Option Schedules
of_times o times =
    let from = unwrap_or o.from 0 in
    if has_seeds from times then Some (schedules.OfSeeds from times o.pct o.moves) else None

-- a first seed is for many seeds alone
abbrev pub of_seeds : Options → Option Schedules
of_seeds o =
    option_map_or (λ seed. if is_some o.from then None else Some (schedules.OfSeed seed o.pct o.moves)) o.seed
    (option_map_or (of_times o) o.times None)

-- histories are those of all schedules, each by itself
abbrev pub of_all : Options → Option Schedules
of_all o =
    if o.histories then (if o.plain || o.first then None else Some (schedules.Histories o.moves))
    else Some (schedules.All o.moves o.plain o.first)

-- a schedule that a file says takes no other option
abbrev pub of_path : Options → Option Schedules
of_path o = if has_seeding o || (has_searching o || is_some o.moves) then None else Some schedules.Path

-- one that is looked for takes no other but how many tries there are
abbrev pub of_history : Options → Option Schedules
of_history o = if has_seeding o || has_searching o then None else Some (schedules.Follow o.moves)

abbrev pub schedules_of : Options → Option Schedules
schedules_of o =
    if not (is_of_one_kind o) then None
    else if o.path then of_path o
    else if o.follow then of_history o
    else if o.all then (if has_seeding o then None else of_all o)
    else if has_searching o || has_no_priority o then None
    else of_seeds o
