use Rattle.std.proofs.Common.{◌≡◌, false, fold, take}
use Rattle.clap.specs.Words.{app_of}
use Rattle.clap.specs.declared.builder.command.Command.TheViews.{out-Command as fields_of}
use Rattle.cmwq_cli.specs.Table.{with_told}
use Rattle.cmwq_cli.proofs.command.with_arguments.Given as goal

abbrev pub invariant-loop-argument : goal.invariant-loop-argument
invariant-loop-argument l = record {
  shape : app_of l.word ≡ fold with_told (app_of l.fn.word) (take l.argument-index l.arguments);
  local : (fields_of l.word).has_globals ≡ false;
}
