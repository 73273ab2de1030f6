use Rattle.std.specs.Prelude.{◌≡◌, ◌≤◌, ◌-◌, find, length}
use Rattle.std.specs.List.{range_with_len}
use Rattle.cmwq_board.specs.Waits.{may_be_lent, places}
use Rattle.cmwq_board.proofs.board.Board.lent_place.Given as goal

abbrev pub invariant-loop-place : goal.invariant-loop-place
invariant-loop-place l =
    (l.places ≡ length l.self.lent) × (l.place ≤ l.places)
    × (find (may_be_lent l.self) (places l.self)
    ≡ find (may_be_lent l.self) (range_with_len l.place (l.places - l.place)))
