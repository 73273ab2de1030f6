use Rattle.std.proofs.Common.{◌≡◌, ◌++◌, ◌∙◌, Bool, [], ap, append_assoc, sym, true}
use Rattle.std.specs.Prelude.{codes, if◌then◌else◌}
use Rattle.cmwq_model.specs.Prelude.{past_of}
use Rattle.cmwq_model.specs.Runs.{runs_asleep}
use Rattle.cmwq_views.specs.Lent.{is_in_circle}
use Rattle.cmwq_views.specs.Open.{asleep_text, said_if, waiting_text}
use Rattle.cmwq_views.specs.Page.{worker_of_row}
use Rattle.cmwq_views.proofs.standing.push_sleep.Goals as goal

pub returns-then-runs_asleep-clause-exact : goal.returns-then-runs_asleep-clause-exact
returns-then-runs_asleep-clause-exact c =
    let past = past_of c.args.standing.now.entries in
    let k = c.args.number in let row = c.args.row.now in
    let a = asleep_text past k in let w = waiting_text past c.args.run k in
    let b = said_if (is_in_circle c.args.standing.now.layout past k) (codes ", in a circle") in
    let is : runs_asleep past (worker_of_row k) ≡ true =
    rw (c.worker_at-worker.ensures.is, c.state.ensures.entries)
    at (sym c.runs_asleep.ensures ∙ c.if-runs_asleep.true) in
    let first : c.push_asleep.new.row ≡ row ++ a = c.push_asleep.ensures.exact in
    let second : c.push_waiting.new.row ≡ (row ++ a) ++ w =
    c.push_waiting.ensures.exact ∙ ap (λ l. l ++ w) first in
    let third : c.push_if.new.row ≡ c.push_waiting.new.row ++ b =
    rw c.is_in_circle.ensures at c.push_if.ensures.exact in
    let whole : ((row ++ a) ++ w) ++ b ≡ row ++ ((a ++ w) ++ b) =
    ap (λ l. l ++ b) (append_assoc row a w) ∙ append_assoc row (a ++ w) b in
    third ∙ ap (λ l. l ++ b) second ∙ whole
    ∙ ap (λ (test : Bool). row ++ (if test then (a ++ w) ++ b else [])) (sym is)
