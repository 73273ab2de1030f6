-- Queueings that stand by their numbers.
use Rattle.std.specs.Prelude.{◌<◌, ◌∷◌}
use Rattle.cmwq_theory_steps.specs.Common.{List, [], AllByRecursion, Queueing}

-- each queueing has a lesser number than all after it
abbrev pub IsRising : List Queueing → Type 0
IsRising [] = Unit {0}
IsRising (x ∷ xs) = AllByRecursion (λ y. x.number < y.number) xs × IsRising xs
