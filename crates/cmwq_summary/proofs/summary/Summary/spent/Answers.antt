use Rattle.std.proofs.Common.{◌≡◌, ap, ap₂, ◌∙◌, arith}
use Rattle.cmwq_model.specs.Prelude.{past_of}
use Rattle.cmwq_summary.specs.declared.span.Span.{Span}
use Rattle.cmwq_summary.specs.Activities.{IsActivity, activity_in, spent_until}
use Rattle.cmwq_summary.specs.Spans.{behind, IsSmall}
use Rattle.cmwq_summary.proofs.Activities.{number_inside, up_to}
use Rattle.cmwq_summary.proofs.summary.Summary.spent.Goals as goal

pub activity_in-requires : goal.activity_in-requires
activity_in-requires c =
    let r = rw (← c.self.view_is) at c.requires in let b = c.self.inside in
    let inside = number_inside c.args.worker b.shape.cpus r.here r.index in let many =
    c.self.invariant.activities_are.many_are in
    omega arith

pub until-requires : goal.until-requires
until-requires c =
    let r = rw (← c.self.view_is) at c.requires in let b = c.self.inside in let i = c.self.invariant in let past =
    past_of b.entries in
    let is : IsActivity past c.args.worker (activity_in b.activities.items c.args.worker) =
    i.activities_are.each c.args.worker r.here r.index in
    let span : c.span.result ≡ behind past = rw (← c.self.view_is) at c.span.ensures.is in
    let entries = ap (λ (x : Span). x.entries) span in let most = c.span.ensures.few in
    let time = i.time_is in let soon = i.soon in
    let small : IsSmall (behind past) = record { entries = omega arith; ticks = omega arith } in
    rw (c.activity_in.ensures, span) (up_to past c.args.worker _ is (behind past) small small)

pub returns : goal.returns
returns c =
    let r = rw (← c.self.view_is) at c.requires in let b = c.self.inside in let past = past_of b.entries in
    let is : IsActivity past c.args.worker (activity_in b.activities.items c.args.worker) =
    c.self.invariant.activities_are.each c.args.worker r.here r.index in
    let span : c.span.result ≡ behind past = rw (← c.self.view_is) at c.span.ensures.is in
    rw (← c.self.view_is) (c.until.ensures ∙ ap₂ spent_until c.activity_in.ensures span ∙ is.spent)
