-- What a handle owns.
use Rattle.cmwq_c.specs.Common.{Fml, ftrue, Ptr, Ty, box_owns}
use Rattle.std.specs.Prelude.{Bool, true, false}
use Rattle.std_heap.specs.contracts.GlobalAllocator.TheImpl.{ghosts}
use Rattle.cmwq_c.specs.contracts.session.Session.{the_row}
use Rattle.cmwq_c.specs.contracts.board_session.BoardSession.{the_row as board_row}
use Rattle.cmwq_c.specs.contracts.lines.Lines.{the_row as lines_row}

-- what the heap wants to free a block, by whichever handle to it
abbrev pub chunk : Ty → Ptr → Fml
chunk = ghosts.dealloc_token (record { memory = record { seal = tt } })

-- a book of the heap at p where it is full, and nothing else
abbrev pub owns_book : Bool → Ptr → the_row.Denot → Fml
owns_book true p book = box_owns chunk the_row p book
owns_book false p book = ftrue

-- so of a board
abbrev pub owns_board : Bool → Ptr → board_row.Denot → Fml
owns_board true p board = box_owns chunk board_row p board
owns_board false p board = ftrue

-- and of lines
abbrev pub owns_lines : Bool → Ptr → lines_row.Denot → Fml
owns_lines true p lines = box_owns chunk lines_row p lines
owns_lines false p lines = ftrue
