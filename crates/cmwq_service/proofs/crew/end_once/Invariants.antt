use Rattle.cmwq_service.proofs.crew.end_once.Given as goal

-- it begins where the caller stands
abbrev pub ghosts-end_from : goal.ghosts-end_from
ghosts-end_from g a = record { start = a.caller }
