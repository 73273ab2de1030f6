use Rattle.std.proofs.Common.{◌≤◌, ℕ, arith, ap, sym, subst, take, length}
use mathlib.Core.List.{IsPrefix}
use Rattle.cmwq_follow.proofs.Prefixes.{differ_at, front_longer, front_of}
use Rattle.cmwq_follow.proofs.search.agreeing.Goals as goal

pub loop-k-init : goal.loop-k-init
loop-k-init c =
    λ left more. subst (λ n. IsPrefix (take n c.history-made.result.now) c.args.history.now)
    (ap length (sym c.history-k.ensures.entries))
    (front_of c.args.play.now.history.entries c.args.history.now c.history-made.result.now left more)

pub loop-k-preserved : goal.loop-k-preserved
loop-k-preserved c =
    λ left more. front_longer c.history-made.result.now c.args.history.now c.loop-k.k _ c.loop-k-test.true
    (let within = c.if-k-history.false in omega arith) (c.loop-k.invariant left more)
    (c.is_same_entry.ensures.same c.if-not-is_same_entry.false)

pub returns-then-not-is_same_entry-clause-most : goal.returns-then-not-is_same_entry-clause-most
returns-then-not-is_same_entry-clause-most c =
    λ n within same. differ_at c.history-made.result.now c.args.history.now n c.loop-k.k _
    (c.is_same_entry.ensures.differs c.if-not-is_same_entry.true)
    (subst (λ (l : ℕ). n ≤ l) (ap length (sym c.history-made.ensures.entries)) within)
    (subst (λ es. IsPrefix (take n es) c.args.history.now) (sym c.history-made.ensures.entries) same)
