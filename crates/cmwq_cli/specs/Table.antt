-- What clap reads of the rows of the table of subcommands.
use Rattle.std.specs.Prelude.{ℕ, List, fold, Some}
use Rattle.clap.specs.Words.{App, Rule, new_app, new_rule, with_rule, with_subcommand}
use Rattle.clap.specs.declared.builder.action.ArgAction.TheVariants.{Set}
use Rattle.cmwq_cli.specs.declared.table.Argument.{Argument}
use Rattle.cmwq_cli.specs.declared.table.Kind.{Kind}
use Rattle.cmwq_cli.specs.declared.table.Kind.TheVariants as kind
use Rattle.cmwq_cli.specs.declared.table.Subcommand.{Subcommand}
use Rattle.cmwq_cli.specs.Word.{file_option, flag_rule, items_option, number_rule}

-- an argument, by its kind and its name
abbrev pub rule_by : Kind → List ℕ → Rule
rule_by kind.Flag name = flag_rule name
rule_by kind.Number name = number_rule name
rule_by kind.File name = file_option name
rule_by kind.Items name = items_option name
rule_by kind.Input name = record (new_rule name) { action = Some Set }

abbrev pub rule_told : Argument → Rule
rule_told argument = rule_by argument.kind argument.name.now

-- a subcommand with one argument more
abbrev pub with_told : App → Argument → App
with_told word argument = with_rule word (rule_told argument)

-- the subcommand of a row
abbrev pub row_app : Subcommand → App
row_app row = fold with_told (new_app row.name.now) row.arguments.now

-- the program with the subcommand of a row more
abbrev pub with_row : App → Subcommand → App
with_row program row = with_subcommand program (row_app row).top
