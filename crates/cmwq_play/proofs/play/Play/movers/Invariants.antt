use Rattle.std.proofs.Common.{ℕ, ◌≡◌, ◌<◌, true}
use Rattle.std.specs.Prelude.{All, Contains}
use Rattle.std.specs.List.{filter, range_with_len}
use Rattle.cmwq_play.specs.Stands.{may}
use Rattle.cmwq_play.proofs.play.Play.movers.Given as goal

abbrev pub invariant-loop-party : goal.invariant-loop-party
invariant-loop-party l = record {
  all : (j : ℕ) → j < l.party → may l.self j ≡ true → Contains l.movers.items j;
  list : l.movers.items ≡ filter (may l.self) (range_with_len 0 l.party);
  sound : All (λ j. may l.self j ≡ true) l.movers.items;
}
