-- Examples. The premises of MovingOnEnds may hold together, and each is needed.
use Rattle.std.specs.Prelude.{◌∷◌, false, List, [], Some, None}
use Rattle.cmwq_model_examples.specs.Words.{system, wq}
use Rattle.cmwq_json_script.specs.Runs.{Run}
use Rattle.cmwq_json_script.specs.declared.action.Action.{Action}
use Rattle.cmwq_json_script.specs.declared.action.Action.TheVariants as action
use Rattle.cmwq_play.specs.Searches.{AllEnd}
use Rattle.cmwq_play.specs.Stands.{Stand}
use Rattle.cmwq_play.specs.Starts.{first_stand}
use Rattle.cmwq_progress_laws.specs.Progress.{SomebodyMovesOn}
use Rattle.cmwq_progress_laws.specs.Turns.{HasItsEnd, Turns}

-- A script with one caller, which does this. It has one CPU with a worker in each pool, and an item that does nothing.
abbrev pub script_of : List Action → Run
script_of actions = record {
  layout = system 1 1 1 1 100 (wq 1 false false ∷ []);
  names = [] ∷ [];
  does = [] ∷ [];
  gates = [] ∷ [];
  locks = [];
  callers = actions ∷ [];
  waits = 0;
  version = 2;
  journal = None;
}

-- The caller opens a gate.
abbrev pub opens_gate : Stand
opens_gate = first_stand (script_of (action.Open 0 ∷ []))

-- It waits at a gate that nobody opens.
abbrev pub waits_at_gate : Stand
waits_at_gate = first_stand (script_of (action.SleepAt 0 ∷ []))

-- each time is the turn of the caller, or each of nobody
abbrev pub callers_turns : Turns
callers_turns time = Some 0

abbrev pub nobodys_turns : Turns
nobodys_turns time = None

-- Every schedule ends, and the caller moves when it may. So it ends.
pub record PremisesMayHold : Type 0 where
  pub all_end : AllEnd 1 opens_gate
  pub moves_on : SomebodyMovesOn opens_gate callers_turns
  pub ends : HasItsEnd opens_gate callers_turns

-- Every schedule ends. But where the turns are of nobody, it never comes to its end.
pub record SomebodyMustMove : Type 0 where
  pub all_end : AllEnd 1 opens_gate
  pub never_ends : HasItsEnd opens_gate nobodys_turns → ⊥

-- The only schedule gets stuck before its first move. So somebody moves on, whatever the turns are, as nobody ever may.
-- But it never comes to its end.
pub record AllMustEnd : Type 0 where
  pub moves_on : (turns : Turns) → SomebodyMovesOn waits_at_gate turns
  pub never_ends : (turns : Turns) → HasItsEnd waits_at_gate turns → ⊥
