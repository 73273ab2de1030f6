use Rattle.cmwq_pwq.specs.Common.{◌≡◌, ◌∙◌, true, false, [], sym, list_any, has_number}
use Rattle.cmwq_pwq.specs.Pwqs.{PwqState, is_waiting}
use Rattle.cmwq_pwq.proofs.Behind.{active_same, active_waiting, rest_waiting, waiting_ended}
use Rattle.cmwq_pwq.proofs.pwqs.Pwqs.end_one.Goals.{then-has_run-via-then-has_run}
use Rattle.cmwq_pwq.proofs.pwqs.Pwqs.end_one.Goals.{then-has_run-via-else-has_run+then-not-take}
use Rattle.cmwq_pwq.proofs.pwqs.Pwqs.end_one.Goals as goal

pub end_active-requires-clause-active : goal.end_active-requires-clause-active
end_active-requires-clause-active c =
    let b = c.self.inside in let x = c.args.queueing in
    elim c.then-has_run.branch [
      | then-has_run-via-then-has_run w ↦ rw w.self-is (c.requires.ran w.if-has_run.true)
      | then-has_run-via-else-has_run+then-not-take w ↦
          let fails : list_any (has_number x.number) b.waiting.queueings ≡ false =
          sym w.take.ensures.waited ∙ w.if-not-take.true in
          rw (
            w.self-is,
            active_same b.waiting.items b.waiting.places b.waiting.queueings x.number w.take.new.self fails
                w.take.ensures.rest,
          ) fails
    ]

pub returns-then-has_run-clause-passed : goal.returns-then-has_run-clause-passed
returns-then-has_run-clause-passed c =
    let b = c.self.inside in let x = c.args.queueing in
    let same : c.then-has_run.self ≡ c.args.self.now = elim c.then-has_run.branch [
      | then-has_run-via-then-has_run w ↦ w.self-is
      | then-has_run-via-else-has_run+then-not-take w ↦
          let fails : list_any (has_number x.number) b.waiting.queueings ≡ false =
          sym w.take.ensures.waited ∙ w.if-not-take.true in
          rw (
            w.self-is,
            active_same b.waiting.items b.waiting.places b.waiting.queueings x.number w.take.new.self fails
                w.take.ensures.rest,
          ) c.self.view_is
    ] in
    rw same at c.end_active.ensures.passed

pub returns-else-not-take-clause-passed : goal.returns-else-not-take-clause-passed
returns-else-not-take-clause-passed c =
    let b = c.self.inside in let x = c.args.queueing in
    let l : PwqState =
    record { items = b.waiting.items; counts = b.counts.items; waiting = b.waiting.queueings; activated = [] } in
    let r = rw (← c.self.view_is) at c.requires in
    let waits : is_waiting l x ≡ true = sym c.take.ensures.waited ∙ c.if-not-take.false in
    rw (← c.self.view_is) (λ wide is behind. rw (c.take.ensures.rest, r.none) (waiting_ended wide l x waits behind))

pub returns-then-has_run-clause-none_anew : goal.returns-then-has_run-clause-none_anew
returns-then-has_run-clause-none_anew c =
    let b = c.self.inside in let x = c.args.queueing in
    elim c.then-has_run.branch [
      | then-has_run-via-then-has_run w ↦
          rw (active_waiting c.args.self.now x (c.requires.ran w.if-has_run.true))
          (rw w.self-is at c.end_active.ensures.none_anew)
      | then-has_run-via-else-has_run+then-not-take w ↦
          let fails : list_any (has_number x.number) b.waiting.queueings ≡ false =
          sym w.take.ensures.waited ∙ w.if-not-take.true in
          let l : PwqState =
          record {
            items = b.waiting.items;
            counts = b.counts.items;
            waiting = b.waiting.queueings;
            activated =
                b.activated.items;
          } in
          rw (← c.self.view_is, active_waiting l x fails)
          (rw (
            w.self-is,
            active_same b.waiting.items b.waiting.places b.waiting.queueings x.number w.take.new.self
                fails w.take.ensures.rest,
          ) at c.end_active.ensures.none_anew)
    ]

pub returns-else-not-take-clause-none_anew : goal.returns-else-not-take-clause-none_anew
returns-else-not-take-clause-none_anew c =
    let b = c.self.inside in let x = c.args.queueing in
    let l : PwqState =
    record {
      items = b.waiting.items;
      counts = b.counts.items;
      waiting = b.waiting.queueings;
      activated =
          b.activated.items;
    } in
    let waits : is_waiting l x ≡ true = sym c.take.ensures.waited ∙ c.if-not-take.false in
    rw (c.take.ensures.rest, ← c.self.view_is, rest_waiting l x waits) (λ i none. none)
