use Rattle.std.proofs.Common.{◌≡◌, ◌∙◌, sym, ap, arith}
use Rattle.cmwq_model.specs.Prelude.{Layout}
use Rattle.cmwq_core.specs.History.{History}
use Rattle.cmwq_play.specs.Machines.{fired}
use Rattle.cmwq_play.proofs.Firing.{last_none, last_nothing, one_more, all_made}
use Rattle.cmwq_play.proofs.machine.Machine.fire_all.Goals as goal

pub returns-in_default : goal.returns-in_default
returns-in_default c =
    let items = c.args.self.now.layout.items in
    let goes = fired items c.args.self.now c.args.who in
    let turns = c.loop-test.true in
    let counted = ap (λ (l : Layout). l.items) (c.counts-items.ensures.counts ∙ sym c.self.invariant.0) in
    let same : c.counts-items.result.items ≡ items = counted ∙ ap (λ (h : History). h.layout.items) c.self.view_is in
    c.in_ok-reply.ensures.history
    ∙ last_none items c.loop.counter c.loop.self goes c.args.who (omega arith) c.loop.invariant
    (sym c.in_ok-reply.ensures.reply ∙ c.in_default.is)

pub returns-then-is_nothing : goal.returns-then-is_nothing
returns-then-is_nothing c =
    let items = c.args.self.now.layout.items in
    let goes = fired items c.args.self.now c.args.who in
    let turns = c.loop-test.true in
    let counted = ap (λ (l : Layout). l.items) (c.counts-items.ensures.counts ∙ sym c.self.invariant.0) in
    let same : c.counts-items.result.items ≡ items = counted ∙ ap (λ (h : History). h.layout.items) c.self.view_is in
    let some = sym c.in_ok-reply.ensures.reply ∙ c.in-Some.is in
    let nothing = sym c.is_nothing.ensures ∙ c.if-is_nothing.true in
    c.in_ok-reply.ensures.history
    ∙ last_nothing items c.loop.counter c.loop.self goes c.args.who c.in-Some.reply (omega arith) c.loop.invariant
    some nothing

pub loop-preserved : goal.loop-preserved
loop-preserved c = λ n e.
    let items = c.args.self.now.layout.items in
    let goes = fired items c.args.self.now c.args.who in
    let some = sym c.in_ok-reply.ensures.reply ∙ c.in-Some.is in
    let other = sym c.is_nothing.ensures ∙ c.if-is_nothing.false in
    rw c.in_ok-reply.ensures.history
    (one_more items c.loop.counter c.loop.self goes c.args.who c.in-Some.reply c.loop.invariant some other n
    (omega arith))

pub returns : goal.returns
returns c =
    let items = c.args.self.now.layout.items in
    let goes = fired items c.args.self.now c.args.who in
    let end = c.loop-test.false in
    let most = c.loop.auto.counter-end in
    let counted = ap (λ (l : Layout). l.items) (c.counts-items.ensures.counts ∙ sym c.self.invariant.0) in
    let same : c.counts-items.result.items ≡ items = counted ∙ ap (λ (h : History). h.layout.items) c.self.view_is in
    all_made items c.loop.counter c.loop.self goes c.args.who (omega arith) c.loop.invariant
