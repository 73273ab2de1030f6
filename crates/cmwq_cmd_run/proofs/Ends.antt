-- How a run ends, from what its parts promise.
use Rattle.cmwq_cmd_run.specs.Common.{◌≡◌, refl, sym, subst, Appends, Keeps, MatchOption, IsLegal, past_of, RunFault, List, ℕ}
use Rattle.cmwq_cmd_run.specs.Common.{Option, None, Some, Ok, Err, inr, IfSome, IsJson, Run, run_said}
use Rattle.serde_json.specs.Data.{Data}
use Rattle.cmwq_json.specs.declared.fault.Fault.TheVariants as fault
use Rattle.cmwq_json.specs.declared.refused.Refused.{Refused}
use Rattle.cmwq_cmd_run.specs.declared.failure.Failure.{Failure}
use Rattle.cmwq_cmd_run.specs.declared.failure.Failure.TheVariants as failure
use Rattle.cmwq_cmd_run.specs.Run.{HasLeft, InputEnds, IsBetween, RunBreaksOff, Runs, ScriptEnds}
use Rattle.cmwq_cmd_run.specs.Run.{Writes, WritesIfJournaled, calls_of, failed_run}
use Rattle.cmwq_monitor.specs.declared.fault.RunFault.TheVariants as run_fault
use Rattle.cmwq_rt.specs.declared.left_out.LeftOut.{LeftOut}
use Rattle.cmwq_rt_scripts.specs.Ended.{FailsAs}
use Rattle.cmwq_rt_scripts.specs.Journaled.{WritesAll}
use Rattle.cmwq_cmd_run.specs.Interpreted.{plays}
use Rattle.std.proofs.Common.{arith}
use Rattle.std.proofs.KnownBytes.{Keeps-refl}
use Rattle.cmwq_io.specs.Moves.{AppendsFront}
use Rattle.cmwq_model.specs.declared.entry.Entry.{Entry}
use Rattle.cmwq_text.specs.HistoryText.{text_of_format}
use Rattle.cmwq_json_script.specs.Tops.{AreJournalSettings}

-- the run of the script that was read
pub run_ends : (d : Data) (r : Run) → run_said d ≡ Ok r → (left old new : Option (List ℕ)) (ended : _)
    → IfSome left (λ text. IsJson text d) → ScriptEnds r old new ended
    → IfSome left (λ text. InputEnds text old new ended)
run_ends d r said None old new ended read ends = tt
run_ends d r said (Some text) old new ended read ends = of ended (r, (d, read, said), ends)
  where
    of : (e : _) → Runs text old new e → InputEnds text old new e
    of (Ok full) x = x
    of (Err (failure.Input fault.NoMemory)) x = inr x
    of (Err (failure.Input fault.WriteFault)) x = x
    of (Err (failure.Input (fault.Member m))) x = absurd (x.2.0)
    of (Err (failure.Input fault.NotJson)) x = absurd (x.2.0)
    of (Err (failure.Input fault.TooLong)) x = absurd (x.2.0)
    of (Err (failure.Input fault.ReadFault)) x = absurd (x.2.0)
    of (Err (failure.Run n)) x = x
    of (Err (failure.Gate name full)) x = x
    of (Err (failure.Lock f)) x = x

-- a member that is refused
pub refused_ends : (d : Data) (m : Refused) → run_said d ≡ Err m → (left a : Option (List ℕ))
    → IfSome left (λ text. IsJson text d)
    → IfSome left (λ text. InputEnds text a a (Err (failure.Input (fault.Member m))))
refused_ends d m said None a read = tt
refused_ends d m said (Some text) a read = ((d, read, said), Keeps-refl a)

-- a fault of the hub stopped the run
pub fault_ends : (r : Run) (old new : Option (List ℕ)) (f : RunFault) → FailsAs r.layout (calls_of r) r.waits f
    → RunBreaksOff r old new → ScriptEnds r old new (Err (failed_run f))
fault_ends r old new (run_fault.NoMemory t) fails breaks = (record {}, breaks)
fault_ends r old new run_fault.Full fails breaks = ((run_fault.Full, refl, fails), breaks)
fault_ends r old new run_fault.Unfinished fails breaks = ((run_fault.Unfinished, refl, fails), breaks)
fault_ends r old new run_fault.NoPlace fails breaks = ((run_fault.NoPlace, refl, fails), breaks)
fault_ends r old new run_fault.Closed fails breaks = ((run_fault.Closed, refl, fails), breaks)
fault_ends r old new (run_fault.Stranger own book) fails breaks = ((run_fault.Stranger own book, refl, fails), breaks)
fault_ends r old new run_fault.NoThread fails breaks = ((run_fault.NoThread, refl, fails), breaks)

-- a failure between callers and items of a run that came to its end
pub between_ends : (r : Run) (full : ℕ) (told : Failure) (old new : Option (List ℕ)) → IsBetween r full told
    → HasLeft r full → WritesIfJournaled r full old new → ScriptEnds r old new (Err told)
between_ends r full (failure.Gate name n) old new (named, same) left writes =
    ((named, subst (HasLeft r) (sym same) left), subst (λ k. WritesIfJournaled r k old new) (sym same) writes)
between_ends r full (failure.Lock f) old new is left writes = ((is, (full, left)), (full, writes))
between_ends r full (failure.Input f) old new is left writes = absurd is
between_ends r full (failure.Run n) old new is left writes = absurd is

-- a journal writes in format 3
third : (r : Run) (kept : ℕ) → r.journal ≡ Some kept → AreJournalSettings r.version r.journal → 3 ≡ r.version
third r kept is settings =
    let journaled = subst (λ j. AreJournalSettings r.version j) is settings in
    let least = journaled.least in
    let most = journaled.most in
    omega (arith, least, most)

-- the same of a run whose journal has written it all
pub journaled_ends : (r : Run) (kept entries full : ℕ) (l : LeftOut) (told : Failure) (old new : Option (List ℕ))
    → r.journal ≡ Some kept → AreJournalSettings r.version r.journal → IsBetween r full told
    → WritesAll r.layout (plays r.does r.layout) (calls_of r) r.waits entries full l old new
    → ScriptEnds r old new (Err told)
journaled_ends r kept entries full l told old new is settings between (history, left, many, text) =
    let version = third r kept is settings in
    between_ends r full told old new between (l, history, left)
    (subst (λ j. MatchOption j (Keeps old new) (λ kept. (l : LeftOut) × Writes r full l old new)) (sym is)
    (l, (history, left, subst (λ (v : ℕ). Appends old new (text_of_format v r.layout history)) version text)))

-- a front of a legal history
pub breaks_off : (r : Run) (kept : ℕ) (old new : Option (List ℕ)) → r.journal ≡ Some kept
    → AreJournalSettings r.version r.journal
    → (history : List Entry) × IsLegal r.layout (past_of history)
    × AppendsFront old new (text_of_format 3 r.layout history) → RunBreaksOff r old new
breaks_off r kept old new is settings (history, legal, front) =
    let version = third r kept is settings in
    subst (λ j. MatchOption j (Keeps old new) (λ kept. (history : List Entry) × IsLegal r.layout (past_of history)
    × AppendsFront old new (text_of_format r.version r.layout history))) (sym is)
    (history, legal, subst (λ (v : ℕ). AppendsFront old new (text_of_format v r.layout history)) version front)
