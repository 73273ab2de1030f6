use Rattle.std.proofs.Common.{◌+◌, ◌∙◌, ap, arith, refl, sym}
use Rattle.std.specs.Prelude.{is_ok}
use Rattle.cmwq_dispatch.specs.Dispatched.{Dispatched}
use Rattle.cmwq_model.specs.Prelude.{is_nothing}
use Rattle.cmwq_board.specs.Fires.{fired}
use Rattle.cmwq_board.proofs.Fires.{all_fired, fired_more, fires_all, no_room, nothing_fired, something_fired}
use Rattle.cmwq_board.proofs.entering.fire_due.Goals as goal

pub returns-then-is_nothing : goal.returns-then-is_nothing
returns-then-is_nothing c =
    let old = c.args.dispatch.now in
    let now = c.loop.dispatch in
    let next = c.enter-fired.new.dispatch in
    let items = old.history.layout.items in
    let by = c.args.caller in
    let less = c.loop-test.true in
    let most = c.loop.invariant.1 in
    let made = c.in-Ok.ensures.made in
    let so = fired_more c.loop.counter by old now next c.args.tail.now c.loop.tail c.enter-fired.new.tail
    c.args.wakes.now c.loop.wakes c.enter-fired.new.wakes c.loop.invariant.0 made c.in-Ok.ensures.kept
    c.in-Ok.ensures.named c.in-Ok.ensures.legal in
    let takes = sym c.enter-fired.ensures.room ∙ ap is_ok c.in-Ok.is in
    let nothing = ap is_nothing (sym c.in-Ok.ensures.reply) ∙ sym c.is_nothing.ensures ∙ c.if-is_nothing.true in
    let left = nothing_fired c.loop.counter items by (fired items old.history by) now.history next.history
    (omega (arith, less, most)) c.loop.invariant.3 takes nothing (ap (λ (d : Dispatched). d.history) made) in
    let many = so.many in
    record {
      fires = fires_all (c.loop.counter + 1) by old next next c.args.tail.now c.enter-fired.new.tail
          c.args.wakes.now c.enter-fired.new.wakes c.enter-fired.new.wakes so refl refl left;
      kept = so.tail;
      tickets = so.tickets;
      stays = so.stays;
      many = omega (arith, many, less, most);
      more = omega (arith, many);
    }

pub returns-in-Err-clause-fires : goal.returns-in-Err-clause-fires
returns-in-Err-clause-fires c =
    let old = c.args.dispatch.now in
    let items = old.history.layout.items in
    let by = c.args.caller in
    let less = c.loop-test.true in
    let most = c.loop.invariant.1 in
    let full = sym c.enter-fired.ensures.room ∙ ap is_ok c.in-Err.is in
    fires_all c.loop.counter by old c.loop.dispatch c.enter-fired.new.dispatch c.args.tail.now c.loop.tail
    c.args.wakes.now c.loop.wakes c.enter-fired.new.wakes c.loop.invariant.0 c.in-Err.ensures.same.0
    c.in-Err.ensures.same.2
    (no_room c.loop.counter items by (fired items old.history by) c.loop.dispatch.history (omega (arith, less, most))
    c.loop.invariant.3 full)

pub loop-preserved : goal.loop-preserved
loop-preserved c =
    let items = c.args.dispatch.now.history.layout.items in
    let by = c.args.caller in
    let now = c.loop.dispatch in
    let next = c.enter-fired.new.dispatch in
    let takes = sym c.enter-fired.ensures.room ∙ ap is_ok c.in-Ok.is in
    let other = ap is_nothing (sym c.in-Ok.ensures.reply) ∙ sym c.is_nothing.ensures ∙ c.if-is_nothing.false in (
      fired_more c.loop.counter by c.args.dispatch.now now next c.args.tail.now c.loop.tail c.enter-fired.new.tail
          c.args.wakes.now c.loop.wakes c.enter-fired.new.wakes c.loop.invariant.0 c.in-Ok.ensures.made
          c.in-Ok.ensures.kept c.in-Ok.ensures.named c.in-Ok.ensures.legal,
      c.loop.invariant.1,
      (let less = c.loop-test.true in omega (arith, less)),
      something_fired c.loop.counter items by (fired items c.args.dispatch.now.history by) now.history next.history
          c.loop.invariant.3 takes other (ap (λ (d : Dispatched). d.history) c.in-Ok.ensures.made),
    )

pub returns-clause-fires : goal.returns-clause-fires
returns-clause-fires c =
    let old = c.args.dispatch.now in
    let items = old.history.layout.items in
    let by = c.args.caller in
    let end = c.loop-test.false in
    let most = c.loop.invariant.1 in
    let few = c.loop.invariant.2 in
    fires_all c.loop.counter by old c.loop.dispatch c.loop.dispatch c.args.tail.now c.loop.tail c.args.wakes.now
    c.loop.wakes c.loop.wakes c.loop.invariant.0 refl refl
    (all_fired c.loop.counter items by (fired items old.history by) c.loop.dispatch.history
    (omega (arith, end, most, few)) c.loop.invariant.3)
