-- The board as a caller lends it.
use Rattle.std.specs.Prelude.{ℕ, List}
use Rattle.std.specs.Borrow.{Bor}
use denote.Triple.Both.{Both}
use Rattle.buffer.specs.Lent.{LentBytes, before, after, given}
use Rattle.space_table.specs.Table.{spaces_in}
use Rattle.exec_registers.specs.Registers.{registers_in}
use Rattle.exec_spec.specs.declared.Board.{Board}
use Rattle.exec_spec.specs.Performing.{Fixed, Contents, fixed, contents}

-- The alias, the Write Lengths byte, the table of spaces, and flash.
abbrev pub fixed_in : Board → Fixed
fixed_in board = fixed board.alias board.write_lengths (spaces_in board.spaces.now) board.flash.now

-- A board that the function only reads.
abbrev pub GivenBoard : Type 0
GivenBoard = Both (Bor Board) (Bor Board)

abbrev pub board_of : GivenBoard → Fixed
board_of board = fixed_in (given board)

-- Memory, and the registers in their block.
abbrev pub contents_in : List ℕ → List ℕ → Contents
contents_in memory registers = contents memory (registers_in registers)

abbrev pub contents_before : LentBytes → LentBytes → Contents
contents_before memory registers = contents_in (before memory) (before registers)

abbrev pub contents_after : LentBytes → LentBytes → Contents
contents_after memory registers = contents_in (after memory) (after registers)
