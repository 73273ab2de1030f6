-- Callers: each with a list of its actions.
use Rattle.cmwq_text.specs.Words.{◌>>=◌}
use Rattle.std.specs.Prelude.{if◌then◌else◌, ◌∷◌, ◌++◌}
use Rattle.cmwq_json_script.specs.Common.{ℕ, List, [], length, Option, Some, None, nat_lt, Data}
use Rattle.cmwq_json_script.specs.declared.used.Used.{Used}
use Rattle.cmwq_json_script.specs.declared.action.Action.{Action}
use Rattle.cmwq_json_script.specs.declared.action.Actor.TheVariants.{Caller}
use Rattle.cmwq_json_script.specs.Known.{Known}
use Rattle.cmwq_json_script.specs.Actions.{Does, does_said}

-- what the callers so far do, and what they and the items use
pub record Crew : Type 0 where
  pub scripts : List (List Action)
  pub used : Used

-- callers that name gates and locks after these
abbrev pub no_crew : Used → Crew
no_crew used = record { scripts = []; used = used }

-- one more, where there are fewer than so many
abbrev pub with_script : ℕ → Crew → Does → Option Crew
with_script most before does = if nat_lt (length before.scripts) most
    then Some (record { scripts = before.scripts ++ does.actions ∷ []; used = does.used }) else None

abbrev pub add_caller : ℕ → Known → Crew → Data → Option Crew
add_caller most known before d = do
  does ← does_said Caller known before.used d
  with_script most before does
