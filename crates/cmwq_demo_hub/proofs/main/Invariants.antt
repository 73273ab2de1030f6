use Rattle.cmwq_demo_hub.proofs.main.Given as goal

-- the hub whose parts were just made
abbrev pub ghosts-serve-N-Ledger : goal.ghosts-serve-N-Ledger
ghosts-serve-N-Ledger g a = record { name = a.parts.blank.name; parts = a.parts.blank.parts }

abbrev pub ghosts-serve-N-HubName : goal.ghosts-serve-N-HubName
ghosts-serve-N-HubName g a = record {
  book = a.parts.opening.book;
  layout = a.parts.shape;
  first_lent = a.parts.dispatch.first_lent;
}
