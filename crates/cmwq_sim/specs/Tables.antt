-- Worked tables: three items, the first of which burns 5, sleeps 10 and burns 5, and the others burn 5 and sleep 10.
use Rattle.std.specs.Prelude.{◌≡◌, ℕ, true, false, List, [], ◌∷◌}
use Rattle.cmwq_sim.specs.declared.scenario.LineKind.{LineKind}
use Rattle.cmwq_sim.specs.declared.scenario.LineKind.TheVariants as kind
use Rattle.cmwq_sim.specs.Plan.{Plan, Item, Event}
use Rattle.cmwq_sim.specs.Lines.{scenario_lines}

abbrev pub items_on : ℕ → List Item
items_on q = record { queue = 0; ms = 5 ∷ 10 ∷ 5 ∷ [] } ∷ record { queue = q; ms = 5 ∷ 10 ∷ [] }
    ∷ record { queue = q; ms = 5 ∷ 10 ∷ [] } ∷ []

abbrev pub narrow_plan : ℕ → Plan
narrow_plan n = record { queues = record { max_active = n; intensive = false } ∷ []; items = items_on 0 }

abbrev pub mixed_plan : Plan
mixed_plan =
    record {
      queues = record { max_active = 3; intensive = false } ∷ record { max_active = 3; intensive = true } ∷ [];
      items = items_on 1;
    }

-- time, items and what befell them
abbrev pub at : ℕ → List ℕ → LineKind → Event
at t is k = record { at = t; kind = k; items = is }

abbrev pub w0 : List ℕ
w0 = 0 ∷ []

abbrev pub w1 : List ℕ
w1 = 1 ∷ []

abbrev pub w2 : List ℕ
w2 = 2 ∷ []

abbrev pub WithOneActive : Type 0
WithOneActive = scenario_lines (narrow_plan 1) ≡
    at 0 w0 kind.Starts ∷ at 5 w0 kind.Sleeps ∷ at 15 w0 kind.WakesBurns ∷ at 20 w0 kind.Ends ∷ at 20 w1 kind.Starts
    ∷ at 25 w1 kind.Sleeps
    ∷ at 35 w1 kind.WakesEnds ∷ at 35 w2 kind.Starts ∷ at 40 w2 kind.Sleeps ∷ at 50 w2 kind.WakesEnds ∷ []

abbrev pub WithThreeActive : Type 0
WithThreeActive = scenario_lines (narrow_plan 3) ≡
    at 0 w0 kind.Starts ∷ at 5 w0 kind.Sleeps ∷ at 5 w1 kind.Starts ∷ at 10 w1 kind.Sleeps ∷ at 10 w2 kind.Starts
    ∷ at 15 w2 kind.Sleeps
    ∷ at 15 w0 kind.WakesBurns ∷ at 20 w0 kind.Ends ∷ at 20 w1 kind.WakesEnds ∷ at 25 w2 kind.WakesEnds ∷ []

abbrev pub WithTwoActive : Type 0
WithTwoActive = scenario_lines (narrow_plan 2) ≡
    at 0 w0 kind.Starts ∷ at 5 w0 kind.Sleeps ∷ at 5 w1 kind.Starts ∷ at 10 w1 kind.Sleeps ∷ at 15 w0 kind.WakesBurns
    ∷ at 20 w0 kind.Ends
    ∷ at 20 w1 kind.WakesEnds ∷ at 20 w2 kind.Starts ∷ at 25 w2 kind.Sleeps ∷ at 35 w2 kind.WakesEnds ∷ []

abbrev pub WithIntensive : Type 0
WithIntensive = scenario_lines mixed_plan ≡
    at 0 w0 kind.Starts ∷ at 5 w0 kind.Sleeps ∷ at 5 (1 ∷ 2 ∷ []) kind.Starts ∷ at 10 w1 kind.Sleeps
    ∷ at 15 w2 kind.Sleeps
    ∷ at 15 w0 kind.WakesBurns ∷ at 20 w0 kind.Ends ∷ at 20 w1 kind.WakesEnds ∷ at 25 w2 kind.WakesEnds ∷ []
