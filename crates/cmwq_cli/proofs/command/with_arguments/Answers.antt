use Rattle.std.proofs.Common.{◌∙◌, ◌||◌, ap₂, sym}
use Rattle.std.proofs.lemmas.List.Sums.{fold_more}
use Rattle.clap.specs.Words.{app_of, with_rule}
use Rattle.cmwq_cli.specs.Table.{with_told}
use Rattle.cmwq_cli.proofs.command.with_arguments.Goals as goal

pub loop-argument-preserved : goal.loop-argument-preserved
loop-argument-preserved c = record {
  shape = c.in_ok-word.ensures.shape c.arg.ensures.local
      ∙ ap₂ with_rule c.loop-argument.invariant.shape c.arg.ensures.rule
      ∙ sym (fold_more with_told (app_of c.args.word) c.args.arguments.now c.loop-argument.argument-index _
      c.loop-argument-test.true);
  local = c.in_ok-word.ensures.globals
      ∙ ap₂ (λ x y. x || y) c.loop-argument.invariant.local c.arg.ensures.local;
}
