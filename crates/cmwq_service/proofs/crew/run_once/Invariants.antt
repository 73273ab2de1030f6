use Rattle.cmwq_service.proofs.crew.run_once.Given as goal

-- it begins where the worker stands
abbrev pub ghosts-run_from : goal.ghosts-run_from
ghosts-run_from g a = record { start = a.run.participant }
