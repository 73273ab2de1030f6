-- What `explore` says of a script.
use Rattle.std.specs.Prelude.{◌≡◌, ◌+◌, ◌-◌, ◌<◌, ◌≤◌, ◌^◌, ◌||◌, ◌==◌, ℕ, Bool, true, false, if◌then◌else◌, List}
use Rattle.std.specs.Prelude.{length, Option, None, Ok, min, max, nat_lt}
use Rattle.std.specs.Io.KnownBytes.{Appends}
use Rattle.std.specs.Option.{unwrap_or}
use Rattle.cmwq_model.specs.Prelude.{IsLegal}
use Rattle.cmwq_model.specs.declared.entry.Entry.{Entry}
use Rattle.cmwq_base.specs.Files.{File}
use Rattle.cmwq_base.specs.Kinds.{history_file_of}
use Rattle.cmwq_follow.specs.Followed.{LeaveAtMost, Leaves}
use Rattle.cmwq_core.specs.History.{History, past_in}
use Rattle.cmwq_text.specs.HistoryText.{text_of_format}
use Rattle.cmwq_json.specs.Inputs.{Says}
use Rattle.cmwq_json_script.specs.Runs.{Run, run_said}
use Rattle.cmwq_play.specs.declared.play.Standing.{Standing}
use Rattle.cmwq_play.specs.declared.play.Standing.TheVariants as standings
use Rattle.cmwq_explore.specs.declared.finding.Finding.{Finding}
use Rattle.cmwq_explore.specs.declared.seeds.Tally.{Tally}
use Rattle.cmwq_play.specs.Stands.{Stand}
use Rattle.cmwq_play.specs.Searches.{AllEnd, GetsStuck, IsPathTo}
use Rattle.cmwq_explore.specs.Chances.{chosen_by}
use Rattle.cmwq_explore.specs.Seeds.{StandsAs, TellsSeeds}
use Rattle.cmwq_play.specs.Starts.{first_stand, most_moves}
use Rattle.cmwq_cmd_explore.specs.declared.explore.Seeding.{Seeding}
use Rattle.cmwq_cmd_explore.specs.declared.explore.Task.{Task}
use Rattle.cmwq_cmd_explore.specs.declared.explore.Task.TheVariants as tasks
use Rattle.cmwq_cmd_explore.specs.declared.verdict.Ends.{Ends}
use Rattle.cmwq_cmd_explore.specs.declared.verdict.Verdict.{Verdict}
use Rattle.cmwq_cmd_explore.specs.declared.verdict.Verdict.TheVariants as verdicts

-- ---- verdicts

-- on all that were to be played
abbrev pub verdict_of : Ends → Verdict
verdict_of e =
    if nat_lt 0 e.stuck then verdicts.Stuck
    else if nat_lt 0 e.cut then verdicts.Bounded
    else if nat_lt 0 e.with_misuse then verdicts.Misused
    else if nat_lt 0 e.with_refusals then verdicts.RefusedIn e.with_refusals
    else verdicts.AllEnd

-- how many of the schedules that a search found, or of the seeds that were played, came to each end
abbrev pub ends_found : Finding → Ends
ends_found f = record {
  ended = f.ended;
  stuck = f.stuck;
  cut = f.cut;
  short_of_room = f.short_of_room;
  with_refusals = f.with_refusals;
  with_misuse = f.with_misuse;
}

abbrev pub ends_counted : Tally → Ends
ends_counted t = record {
  ended = t.ended;
  stuck = t.stuck;
  cut = t.cut;
  short_of_room = t.short_of_room;
  with_refusals = t.with_refusals;
  with_misuse = t.with_misuse;
}

-- the exit status
abbrev pub status_of : Verdict → ℕ
status_of verdicts.AllEnd = 0
status_of verdicts.Unplayable = 1
status_of verdicts.OtherShape = 1
status_of (verdicts.TooDeep n) = 2
status_of (verdicts.Strays n) = 3
status_of verdicts.GoesOn = 3
status_of (verdicts.LeftOut n) = 4
status_of (verdicts.Refused n) = 6
status_of (verdicts.RefusedIn n) = 6
status_of verdicts.Stuck = 7
status_of verdicts.Bounded = 8
status_of verdicts.Misused = 9

-- a status that says how schedules ended, and nothing else
abbrev pub is_told : ℕ → Bool
is_told n = n == 0 || (n == 6 || (n == 7 || (n == 8 || n == 9)))

-- how a schedule stands at its end
abbrev pub standing_of : Verdict → Standing
standing_of verdicts.Stuck = standings.Stuck
standing_of verdicts.Bounded = standings.Goes
standing_of verdict = standings.Ended

-- no schedule was played
abbrev pub is_refused : Verdict → Bool
is_refused verdicts.Unplayable = true
is_refused verdicts.OtherShape = true
is_refused (verdicts.TooDeep n) = true
is_refused verdict = false

-- ---- all schedules

-- every schedule of a run ends, within 2,000 moves
abbrev pub EverySchedule : Run → Type 0
EverySchedule r = AllEnd 2000 (first_stand r)

-- a schedule of a run gets stuck
abbrev pub SomeStuck : Run → Type 0
SomeStuck r = (schedule : List ℕ) × GetsStuck (first_stand r) schedule

-- never both
abbrev pub NeverBoth : Type 0
NeverBoth = (r : Run) → EverySchedule r → SomeStuck r → ⊥

-- what a verdict on all schedules says
abbrev pub SaysAll : Run → Verdict → Type 0
SaysAll r verdicts.Stuck = SomeStuck r
SaysAll r verdicts.Bounded = Unit {0}
SaysAll r verdict = EverySchedule r

-- ---- one schedule

-- a history was written, in this format
abbrev pub Writes : ℕ → History → Option (List ℕ) → Option (List ℕ) → Type 0
Writes version h old new = Appends old new (text_of_format version h.layout h.entries)

-- The history of a stand was written, in the format of the run, of which scripts know the second and the third. It is
-- legal, and stands as the verdict says.
pub record HasWritten (version : ℕ) (stand : Stand) (old new : Option (List ℕ)) (verdict : Verdict) : Type 0 where
  pub legal : IsLegal stand.history.layout (past_in stand.history)
  pub writes : Writes (max version 2) stand.history old new
  pub ends : StandsAs (standing_of verdict) stand

-- and so that of the stand to which a path leads
pub record SaysOne (start : Stand) (version : ℕ) (old new : Option (List ℕ)) (verdict : Verdict) (path : List ℕ) :
    Type 0 where
  pub stand : Stand
  pub goes : IsPathTo start path stand
  pub written : HasWritten version stand old new verdict

-- the path is of so many moves at most, and without priorities the one that the seed chooses
pub record IsPathOf (start : Stand) (moves seed : ℕ) (pct : Option ℕ) (path : List ℕ) : Type 0 where
  pub within : length path ≤ moves
  pub chosen : pct ≡ None → path ≡ chosen_by moves seed start

-- what a verdict on the schedule of a seed says, of so many moves at most
abbrev pub SaysSeed : Stand → ℕ → ℕ → ℕ → Option ℕ → Option (List ℕ) → Option (List ℕ) → Verdict → Type 0
SaysSeed start version moves seed pct old new verdict =
    is_refused verdict ≡ false → (path : List ℕ) × SaysOne start version old new verdict path
    × IsPathOf start moves seed pct path

-- what a verdict on a path that a file says is
abbrev pub SaysPath : Stand → ℕ → Option (List ℕ) → Option (List ℕ) → Verdict → Type 0
SaysPath start version old new verdict =
    is_refused verdict ≡ false → (path : List ℕ) × SaysOne start version old new verdict path

-- ---- many seeds

-- a verdict on so many seeds, of which so much is told
abbrev pub IsVerdictOn : Tally → Verdict → Type 0
IsVerdictOn t verdicts.Stuck = 0 < t.stuck
IsVerdictOn t verdicts.Bounded = (t.stuck ≡ 0) × (0 < t.cut)
IsVerdictOn t verdict = (t.stuck ≡ 0) × (t.cut ≡ 0)

-- how many seeds there are from the first on, of so many that are asked for
abbrev pub seeds_in : ℕ → ℕ → ℕ
seeds_in first times = min (first + times) (2 ^ 64 - 1) - first

-- what a verdict on the schedules of so many seeds from the first on says, without priorities
abbrev pub SaysSeeds : Stand → ℕ → ℕ → ℕ → Option ℕ → Verdict → Type 0
SaysSeeds start moves first times pct verdict =
    is_refused verdict ≡ false → pct ≡ None → (t : Tally) × TellsSeeds start moves first (seeds_in first times) t
    × IsVerdictOn t verdict

-- ---- histories

-- What a verdict on a history says: a schedule leaves it, or none leaves it, and none leaves more than so many of its
-- first entries.
abbrev pub SaysHistory : Stand → List Entry → Verdict → Type 0
SaysHistory start history verdicts.AllEnd = (path : List ℕ) × Leaves start history path
SaysHistory start history (verdicts.Strays n) = LeaveAtMost start history n
SaysHistory start history verdicts.GoesOn = LeaveAtMost start history (length history)
SaysHistory start history verdict = Unit {0}

-- ---- tasks

-- how many moves a schedule has at most
abbrev pub moves_in : Run → Seeding → ℕ
moves_in r seeding = unwrap_or seeding.moves (most_moves r)

-- what a verdict on a task says
abbrev pub Tells : Task → Run → Option (List ℕ) → Option (List ℕ) → Verdict → Type 0
Tells (tasks.OfSeed seed seeding) r old new verdict =
    SaysSeed (first_stand r) r.version (moves_in r seeding) seed seeding.pct old new verdict
Tells (tasks.OfSeeds first times seeding) r old new verdict =
    SaysSeeds (first_stand r) (moves_in r seeding) first times seeding.pct verdict
Tells (tasks.All moves is_plain is_first) r old new verdict = SaysAll r verdict
Tells (tasks.Histories moves) r old new verdict = SaysAll r verdict

-- what an exit status says of a task
abbrev pub SaysOf : ℕ → Task → Option (List ℕ) → Option (List ℕ) → Run → Type 0
SaysOf status task old new r = (verdict : Verdict) × (status_of verdict ≡ status) × Tells task r old new verdict

-- and of a path
abbrev pub SaysOfPath : ℕ → Option (List ℕ) → Option (List ℕ) → Run → Type 0
SaysOfPath status old new r =
    (verdict : Verdict) × (status_of verdict ≡ status) × SaysPath (first_stand r) r.version old new verdict

-- what an exit status says of the history of a text
abbrev pub SaysOfHistory : ℕ → List ℕ → Run → Type 0
SaysOfHistory status text r = (verdict : Verdict) × (status_of verdict ≡ status)
    × (file : File Entry) × (history_file_of text ≡ Ok file) × SaysHistory (first_stand r) file.items verdict

-- a text says a run of which this holds
abbrev pub OfRun : (Run → Type 0) → List ℕ → Type 0
OfRun P text = (r : Run) × Says run_said text (Ok r) × P r
