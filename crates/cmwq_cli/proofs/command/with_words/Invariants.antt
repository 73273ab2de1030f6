use Rattle.std.proofs.Common.{◌≡◌, fold, take}
use Rattle.clap.specs.Words.{app_of}
use Rattle.cmwq_cli.specs.Table.{with_row}
use Rattle.cmwq_cli.specs.Word.{without_words}
use Rattle.cmwq_cli.proofs.command.with_words.Given as goal

abbrev pub invariant-loop-row : goal.invariant-loop-row
invariant-loop-row l = app_of l.program ≡ fold with_row without_words (take l.row-index l.rows)
