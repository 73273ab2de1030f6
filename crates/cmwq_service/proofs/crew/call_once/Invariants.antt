use Rattle.cmwq_service.proofs.crew.call_once.Given as goal

-- it begins where the caller stands
abbrev pub ghosts-call_from : goal.ghosts-call_from
ghosts-call_from g a = record { start = a.caller }
