use Rattle.std.proofs.Common.{◌++◌, [], ◌∷◌, take, sym, subst, ap, ◌∙◌, append-nil}
use Rattle.std.proofs.lemmas.Grind.{flat_map-append}
use Rattle.std.proofs.lemmas.List.{take_all}
use Rattle.cmwq_chart.specs.declared.workers.WorkerIntervals.{WorkerIntervals}
use Rattle.cmwq_chart.specs.Intervals.{lanes_in, worker_in, IsWorkerKept}
use Rattle.cmwq_chart.specs.Sleeps.{sleeps_by, sleeps_of}
use Rattle.cmwq_chart.proofs.Kept.{lanes_are}
use Rattle.cmwq_chart.proofs.Rows.{none_shown, one_shown}
use Rattle.cmwq_chart.proofs.intervals.Intervals.sleeps.Goals as goal
use Rattle.cmwq_chart.proofs.intervals.Intervals.sleeps.Goals.{then-own+in_ok-push_sleeps, else-own}

pub loop-own-preserved : goal.loop-own-preserved
loop-own-preserved c = λ past all.
    let rows = c.args.self.now.workers.items in
    let k = c.loop-own.own-index in
    let own = c.own-item.result in
    let items = c.deref-own-items.ensures.value in
    let less = rw items at c.loop-own-test.true in
    let read = rw items at c.own-item.is in
    let has : WorkerIntervals → _ = λ y. y.has_entries in
    let lanes = lanes_in (take k rows) in
    elim c.if-own.branch [
      | then-own+in_ok-push_sleeps w ↦
          let is = subst (IsWorkerKept past) (sym read) (all k own less) in
          ap (λ v. v.items) w.sleeps-is ∙ w.in_ok-push_sleeps.ensures past is
          ∙ ap (λ l. l ++ sleeps_by past own.worker) (c.loop-own.invariant past all)
          ∙ ap (λ l. sleeps_of past lanes ++ l) (sym (append-nil (sleeps_by past own.worker)))
          ∙ sym (ap (sleeps_of past) (one_shown has worker_in rows k own less read w.if-own.true)
          ∙ flat_map-append (sleeps_by past) lanes (own.worker ∷ []))
      | else-own w ↦
          ap (λ v. v.items) w.sleeps-is ∙ c.loop-own.invariant past all
          ∙ sym (ap (sleeps_of past) (none_shown has worker_in rows k own less read w.if-own.false))
    ]

pub returns : goal.returns
returns c = λ s past kept.
    let rows = c.args.self.now.workers.items in
    c.loop-own.invariant past kept.workers_are.kept
    ∙ ap (λ l. sleeps_of past (lanes_in l))
    (take_all c.loop-own.own-index rows (rw c.deref-own-items.ensures.value at c.loop-own-test.false))
    ∙ ap (sleeps_of past) (lanes_are s past rows kept.workers_are)
