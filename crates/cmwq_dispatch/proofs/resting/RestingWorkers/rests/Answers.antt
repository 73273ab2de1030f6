use Rattle.std.proofs.Common.{refl, sym, true, false}
use Rattle.cmwq_lemmas.proofs.Truth.{or_false}
use Rattle.cmwq_dispatch.proofs.OnePool.{begun_to_rest, one_rests}
use Rattle.cmwq_dispatch.proofs.resting.RestingWorkers.rests.Goals as goal

pub returns-then-is_enlisted-clause-rests : goal.returns-then-is_enlisted-clause-rests
returns-then-is_enlisted-clause-rests c =
    one_rests c.args.self.now _ c.args.index true
    (record { enlisted_more = c.insert.ensures; reserve_more = λ y. sym (or_false _); named = refl })

pub returns-then-is_enlisted-clause-kept : goal.returns-then-is_enlisted-clause-kept
returns-then-is_enlisted-clause-kept c s past p right =
    begun_to_rest s past p c.args.self.now _ c.args.index true
    (record { enlisted_more = c.insert.ensures; reserve_more = λ y. sym (or_false _); named = refl }) c.requires.up
    (rw c.if-is_enlisted.true at right)

pub returns-else-is_enlisted-clause-rests : goal.returns-else-is_enlisted-clause-rests
returns-else-is_enlisted-clause-rests c =
    one_rests c.args.self.now _ c.args.index false
    (record { enlisted_more = λ y. sym (or_false _); reserve_more = c.insert-else-is_enlisted.ensures; named = refl })

pub returns-else-is_enlisted-clause-kept : goal.returns-else-is_enlisted-clause-kept
returns-else-is_enlisted-clause-kept c s past p right =
    begun_to_rest s past p c.args.self.now _ c.args.index false
    (record { enlisted_more = λ y. sym (or_false _); reserve_more = c.insert-else-is_enlisted.ensures; named = refl })
    c.requires.up (rw c.if-is_enlisted.false at right)
