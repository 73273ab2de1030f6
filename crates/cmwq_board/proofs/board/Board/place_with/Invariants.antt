use Rattle.std.specs.Prelude.{◌≡◌, ◌≤◌, ◌-◌, find, length}
use Rattle.std.specs.List.{range_with_len}
use Rattle.cmwq_board.specs.Waits.{has_sought, place_with}
use Rattle.cmwq_board.proofs.board.Board.place_with.Given as goal

abbrev pub invariant-loop-place : goal.invariant-loop-place
invariant-loop-place l =
    (l.places ≡ length l.self.lent) × (l.place ≤ l.places)
    × (place_with l.self l.sought ≡ find (has_sought l.self l.sought) (range_with_len l.place (l.places - l.place)))
