use Rattle.std.proofs.Common.{rules}
use Rattle.cmwq_engine.proofs.beside.end_with.Goals as goal

pub returns-in-Ok-journaled-clause-left : goal.returns-in-Ok-journaled-clause-left
returns-in-Ok-journaled-clause-left g c = record {
  legal = search rules;
  called = search rules;
  waited = search rules;
  worked = search rules;
  silent = search rules;
  finished = search rules;
}
