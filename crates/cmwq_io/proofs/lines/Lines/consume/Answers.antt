use Rattle.cmwq_io.specs.Common.{ℕ, ap, ◌∙◌, drop, arith, length-take, length-drop}
use Rattle.cmwq_io.proofs.ReadAheadLemmas.{consumed}
use Rattle.cmwq_io.proofs.lines.Lines.consume.Goals as goal

pub returns : goal.returns
returns c =
    let a = c.self.inside in
    let fits = rw (← c.self.view_is) at c.requires in
    consumed a.bytes.items a.start a.end c.args.count
    (omega (arith, c.self.invariant.ordered, length-take {A = ℕ}, length-drop {A = ℕ}))
    ∙ ap (drop c.args.count) c.self.view_is
