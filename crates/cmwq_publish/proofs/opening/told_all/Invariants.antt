use Rattle.cmwq_publish.specs.Common.{◌≡◌, length, All}
use Rattle.left_right.specs.Sides.{view}
use Rattle.cmwq_publish.proofs.opening.told_all.Given as goal

abbrev pub invariant-loop : goal.invariant-loop
invariant-loop l =
    (l.writer.desk.shown ≡ l.fn.writer.desk.shown) × (l.writer.behind ≡ l.fn.writer.behind)
    × (l.writer.log ≡ l.fn.writer.log) × (view l.writer.desk.place ≡ view l.fn.writer.desk.place)
    × (length l.all.items ≡ l.counter) × All (λ r. view r.place ≡ view l.fn.writer.desk.place) l.all.items
