-- One who plays the schedules of seeds.
use Rattle.std.specs.Prelude.{◌≡◌, ℕ, length}
use Rattle.std.specs.Option.{unwrap_or}
use Rattle.cmwq_json_script.specs.Scripts.{run_of}
use Rattle.cmwq_explore.specs.declared.chance.Chooser.{Chooser}
use Rattle.cmwq_explore.specs.declared.chance.Chooser.TheVariants as choosers
use Rattle.cmwq_play.specs.declared.setup.Setup.{Setup}
use Rattle.cmwq_explore.specs.Chances.{IsPlay, chosen_by}
use Rattle.cmwq_play.specs.Stands.{Stand}
use Rattle.cmwq_play.specs.Starts.{most_moves, start_of}
use Rattle.cmwq_cmd_explore.specs.declared.explore.Seeding.{Seeding}
use Rattle.cmwq_cmd_explore.specs.declared.seeds.Player.{Player}

-- where its schedules begin
abbrev pub start_in : Player → Stand
start_in p = start_of p.setup.now

-- the format of its script
abbrev pub version_in : Player → ℕ
version_in p = p.setup.now.script.now.version

-- it plays from this setup, and as many moves as the seeding allows
pub record IsPlayer (from : Setup) (seeding : Seeding) (p : Player) : Type 0 where
  pub setup : p.setup.now ≡ from
  pub moves : p.moves ≡ unwrap_or seeding.moves (most_moves (run_of from.script.now))

-- from the same setup, and as many moves
pub record IsSamePlayer (old new : Player) : Type 0 where
  pub setup : new.setup.now ≡ old.setup.now
  pub moves : new.moves ≡ old.moves

-- it has played the schedule of this seed
pub record HasPlayed (p : Player) (seed : ℕ) (chooser : Chooser) : Type 0 where
  pub plays : IsPlay (start_in p) p.moves (length p.path.items) p.path.items p.play
  pub chosen : chooser ≡ choosers.Uniform → p.path.items ≡ chosen_by p.moves seed (start_in p)
