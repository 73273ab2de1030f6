use Rattle.std.proofs.Common.{List, ◌+◌, take, sym, subst, ◌∙◌, ap}
use Rattle.std.proofs.lemmas.List.{take_all}
use Rattle.cmwq_model.specs.declared.id.CallerId.{CallerId}
use Rattle.cmwq_chart.specs.declared.callers.CallerIntervals.{CallerIntervals}
use Rattle.cmwq_chart.specs.Intervals.{caller_in, callers_in, AreCallerShapes, IsCallerKept}
use Rattle.cmwq_chart.proofs.Kept.{callers_are}
use Rattle.cmwq_chart.proofs.Rows.{none_shown, one_shown}
use Rattle.cmwq_chart.proofs.intervals.Intervals.callers.Goals as goal
use Rattle.cmwq_chart.proofs.intervals.Intervals.callers.Goals.{then-own+in_ok-push, else-own}

pub loop-own-preserved : goal.loop-own-preserved
loop-own-preserved c = λ past all.
    let rows = c.args.self.now.callers.items in
    let k = c.loop-own.own-index in
    let own = c.own-item.result in
    let items = c.deref-own-items.ensures.value in
    let less = rw items at c.loop-own-test.true in
    let read = rw items at c.own-item.is in
    let has : CallerIntervals → _ = λ y. y.has_entries in
    let before = c.loop-own.invariant past all in
    elim c.if-own.branch [
      | then-own+in_ok-push w ↦
          let is = subst (IsCallerKept past) (sym read) (all k own less) in
          subst (AreCallerShapes past (callers_in (take (k + 1) rows))) (sym w.shapes-is)
          (subst (λ (cs : List CallerId). AreCallerShapes past cs w.push.new.self)
          (sym (one_shown has caller_in rows k own less read w.if-own.true))
          (w.in_ok-push.ensures past (callers_in (take k rows)) is before))
      | else-own w ↦
          subst (AreCallerShapes past (callers_in (take (k + 1) rows))) (sym w.shapes-is)
          (subst (λ (cs : List CallerId). AreCallerShapes past cs c.loop-own.shapes)
          (sym (none_shown has caller_in rows k own less read w.if-own.false)) before)
    ]

pub returns : goal.returns
returns c = λ s past kept.
    let rows = c.args.self.now.callers.items in
    subst (λ (cs : List CallerId). AreCallerShapes past cs c.loop-own.shapes)
    (ap callers_in (take_all c.loop-own.own-index rows (rw c.deref-own-items.ensures.value at c.loop-own-test.false))
    ∙ callers_are s past rows kept.callers) (c.loop-own.invariant past kept.callers.kept)
