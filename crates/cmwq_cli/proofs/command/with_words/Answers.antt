use Rattle.std.proofs.Common.{◌∙◌, ap₂, sym}
use Rattle.std.proofs.lemmas.List.Sums.{fold_more}
use Rattle.clap.specs.Words.{App, with_subcommand}
use Rattle.cmwq_cli.specs.Table.{with_row}
use Rattle.cmwq_cli.specs.Word.{without_words}
use Rattle.cmwq_cli.proofs.command.with_words.Goals as goal

pub loop-row-preserved : goal.loop-row-preserved
loop-row-preserved c =
    c.in_ok-program.ensures.shape c.in_ok-word.ensures.local
    ∙ ap₂ (λ (a : App) (w : App). with_subcommand a w.top) c.loop-row.invariant c.in_ok-word.ensures.shape
    ∙ sym (fold_more with_row without_words c.args.rows.now c.loop-row.row-index _ c.loop-row-test.true)
