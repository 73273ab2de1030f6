use Rattle.cmwq_bench.proofs.main.Given as goal

-- the hub whose parts were just made
abbrev pub ghosts-measure-N-Ledger : goal.ghosts-measure-N-Ledger
ghosts-measure-N-Ledger g a = record { name = a.parts.blank.name; parts = a.parts.blank.parts }

abbrev pub ghosts-measure-N-HubName : goal.ghosts-measure-N-HubName
ghosts-measure-N-HubName g a = record {
  book = a.parts.opening.book;
  layout = a.parts.shape;
  first_lent = a.parts.dispatch.first_lent;
}
