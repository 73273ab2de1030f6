use Rattle.cmwq_service.proofs.crew.tick_once.Given as goal

-- it begins where the caller stands
abbrev pub ghosts-tick_from : goal.ghosts-tick_from
ghosts-tick_from g a = record { start = a.caller }
