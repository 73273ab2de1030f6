use Rattle.cmwq_engine.proofs.running.run.Given as goal

-- the ledger and the hub that were just made
abbrev pub ghosts-run_parts-N-Ledger : goal.ghosts-run_parts-N-Ledger
ghosts-run_parts-N-Ledger g a = record { name = a.parts.blank.name; parts = a.parts.blank.parts }

abbrev pub ghosts-run_parts-N-HubName : goal.ghosts-run_parts-N-HubName
ghosts-run_parts-N-HubName g a = record {
  book = a.parts.opening.book;
  layout = a.parts.shape;
  first_lent = (g.C.Crew.roles a.crew.now a.parts.shape).threads;
}
