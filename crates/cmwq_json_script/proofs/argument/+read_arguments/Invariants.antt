use Rattle.std.proofs.Common.{length}
use Rattle.cmwq_json_script.proofs.argument.+read_arguments.Given as goal

abbrev pub decreases-read_arguments : goal.decreases-read_arguments
decreases-read_arguments l = length l.arguments.now
