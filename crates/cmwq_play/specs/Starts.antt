-- Where a script stands before its first move.
use Rattle.std.specs.Prelude.{◌+◌, ◌-◌, ◌*◌, ◌^◌, ℕ, false, None, [], length, min, map, replicate}
use Rattle.cmwq_json_script.specs.Runs.{Run}
use Rattle.cmwq_json_script.specs.Views.{actions_of}
use Rattle.cmwq_play.specs.declared.setup.Setup.{Setup}
use Rattle.cmwq_play.specs.Firsts.{callers_from, lent_from, workers_from}
use Rattle.cmwq_play.specs.Stands.{Stand}

unfoldable pub start_of : Setup → Stand
start_of s = record {
  scripts = actions_of s.script.now.callers;
  does = actions_of s.script.now.does;
  history = record { layout = s.script.now.shape; room = s.script.now.shape.room; entries = [] };
  callers = s.callers.items;
  workers = s.workers.items;
  gates = replicate 16 false;
  locks = replicate 16 None;
  free = s.lent.items;
}

-- No call is made yet: no caller waits, each worker is idle, each gate is shut, nobody holds a lock, and each caller
-- that is lent is free.
unfoldable pub first_stand : Run → Stand
first_stand r = record {
  scripts = r.callers;
  does = r.does;
  history = record { layout = r.layout; room = r.layout.room; entries = [] };
  callers = callers_from (length r.callers);
  workers = workers_from r.layout.cpus r.layout.workers;
  gates = replicate 16 false;
  locks = replicate 16 None;
  free = lent_from (length r.callers) r.waits;
}

abbrev pub up_to_most : ℕ → ℕ
up_to_most n = min n (2 ^ 64 - 1)

-- more moves than a schedule of a run has, if the number is not too large
abbrev pub most_moves : Run → ℕ
most_moves r = up_to_most (up_to_most (r.layout.room * 129) + up_to_most (length r.callers * 1001))
