use Rattle.cmwq_monitor.specs.Common.{◌≡◌, ap, sym, ◌∙◌, refl, arith, subst, inl}
use Rattle.cmwq_model.specs.declared.call.Call.TheVariants as calls
use Rattle.cmwq_monitor.specs.Participants.{is_caller}
use Rattle.cmwq_monitor.specs.Steps.{Lacks}
use Rattle.cmwq_monitor.specs.declared.fault.Shortage.TheVariants.{Room}
use Rattle.cmwq_monitor.proofs.Fired.{up_to_none, up_to_more, up_to_last, up_to_full, up_to_all, up_to_some}
use Rattle.cmwq_monitor.proofs.Fired.{up_to_rest}
use Rattle.cmwq_monitor.proofs.Fitting.{caller_fits}
use Rattle.cmwq_monitor.specs.Held.{Held, SleepersGoOn}
use Rattle.cmwq_monitor.specs.Participants.{View}
use Rattle.cmwq_dispatch.specs.declared.wakes.Wakes.{Wakes}
use Rattle.cmwq_monitor.proofs.Entries.{gains_none}
use Rattle.cmwq_monitor.proofs.Sleepers.{everybody_named, go_on_more, go_on_same, goes_on_more, goes_on_same}
use Rattle.cmwq_monitor.proofs.Allowed.{fire_may_begin}
use Rattle.cmwq_monitor.proofs.monitor.Monitor.fire_some.Goals as goal

-- another fire, by the same caller
more : (v w : View) (a b c : Held) (t u x : Wakes) → w.who ≡ v.who → SleepersGoOn v.who a b t u
    → SleepersGoOn w.who b c u x → SleepersGoOn v.who a c t x
more v w a b c t u x same h k = go_on_more v.who a b c t u x h (subst (λ who. SleepersGoOn who b c u x) same k)

pub loop-init : goal.loop-init
loop-init g c = (
  (λ v so. up_to_none g.N.HubName.layout c.args.left v c.args.participant.now so),
  c.in_ok-compare.ensures.step,
  c.requires,
  (let least = c.min-most.ensures in omega (arith, least)),
  omega arith,
  goes_on_same c.args.self.now,
  refl,
  go_on_same c.args.participant.now.who c.args.self.now c.args.wakes.now,
)

pub enter-requires-clause-fits : goal.enter-requires-clause-fits
enter-requires-clause-fits g c =
    caller_fits g.N.HubName.layout c.loop.participant.who calls.Fire c.loop.invariant.2 c.who-who.ensures.there refl
    refl

pub enter-requires-clause-step : goal.enter-requires-clause-step
enter-requires-clause-step g c = c.loop.invariant.1

pub returns-then-is_nothing-clause-fired : goal.returns-then-is_nothing-clause-fired
returns-then-is_nothing-clause-fired g c = λ v so.
    up_to_last g.N.HubName.layout c.args.left c.loop.counter v c.loop.participant c.enter.new.participant c.in-Ok.reply
    (let less = c.loop-test.true in let most = c.loop.invariant.3 in omega (arith, less, most))
    (sym c.is_nothing.ensures ∙ c.if-is_nothing.true) (c.loop.invariant.0 v so) c.in-Ok.ensures.made

pub returns-in-Err-Room-clause-fired : goal.returns-in-Err-Room-clause-fired
returns-in-Err-Room-clause-fired g c = λ v so.
    let s = g.N.HubName.layout in
    let short : Lacks s c.loop.self c.enter.new.participant calls.Fire Room c.enter.new.self =
    subst (λ what. Lacks s c.loop.self c.enter.new.participant calls.Fire what c.enter.new.self)
    c.in-Err-Room.field-0-is c.in-Err-Room.ensures.short.1 in
    up_to_full s c.args.left c.loop.counter v c.loop.participant c.enter.new.participant (let less = c.loop-test.true in
    let most = c.loop.invariant.3 in omega (arith, less, most)) (c.loop.invariant.0 v so)
    c.in-Err-Room.ensures.short.0 short.0 c.seen-legal.ensures.legal

pub returns-in-Err-Memory-clause-stopped : goal.returns-in-Err-Memory-clause-stopped
returns-in-Err-Memory-clause-stopped g c = (
  inl refl,
  (λ v so. up_to_some g.N.HubName.layout c.args.left c.loop.counter v c.loop.participant c.enter.new.participant
      (c.loop.invariant.0 v so) c.in-Err-Memory.ensures.short.0),
)

pub loop-preserved : goal.loop-preserved
loop-preserved g c = (
  (λ v so.
      up_to_more g.N.HubName.layout c.args.left c.loop.counter v c.loop.participant c.enter.new.participant
      c.in-Ok.reply (let less = c.loop-test.true in let most = c.loop.invariant.3 in omega (arith, less, most))
      (sym c.is_nothing.ensures ∙ c.if-is_nothing.false) (c.loop.invariant.0 v so) c.in-Ok.ensures.made),
  c.enter.ensures.step,
  ap is_caller c.in-Ok.ensures.made.gains.same ∙ c.loop.invariant.2,
  c.loop.invariant.3,
  (let less = c.loop-test.true in omega (arith, less)),
  goes_on_more c.args.self.now c.loop.self c.enter.new.self c.loop.invariant.5 c.in-Ok.ensures.goes_on,
  c.in-Ok.ensures.made.gains.same ∙ c.loop.invariant.6,
  more c.args.participant.now c.loop.participant c.args.self.now c.loop.self c.enter.new.self c.args.wakes.now
      c.loop.wakes c.enter.new.wakes c.loop.invariant.6 c.loop.invariant.7 c.enter.ensures.named,
)

pub returns-then-left-most-clause-fired : goal.returns-then-left-most-clause-fired
returns-then-left-most-clause-fired g c = λ v so.
    up_to_rest g.N.HubName.layout c.args.left c.loop.counter _ v c.loop.participant (let done = c.loop-test.false in
    let most = c.loop.invariant.3 in let at = c.loop.invariant.4 in omega (arith, done, most, at))
    (c.loop.invariant.0 v so)

pub returns-else-left-most-clause-fired : goal.returns-else-left-most-clause-fired
returns-else-left-most-clause-fired g c = λ v so.
    up_to_all g.N.HubName.layout c.args.left c.loop.counter v c.loop.participant (let done = c.loop-test.false in
    let none = c.if-left-most.false in omega (arith, done, none)) (c.loop.invariant.0 v so)

pub returns-then-is_nothing-clause-named : goal.returns-then-is_nothing-clause-named
returns-then-is_nothing-clause-named g c =
    more c.args.participant.now c.loop.participant c.args.self.now c.loop.self c.enter.new.self c.args.wakes.now
    c.loop.wakes c.enter.new.wakes c.loop.invariant.6 c.loop.invariant.7 c.enter.ensures.named

pub returns-in-Err-Room-clause-named : goal.returns-in-Err-Room-clause-named
returns-in-Err-Room-clause-named g c =
    more c.args.participant.now c.loop.participant c.args.self.now c.loop.self c.enter.new.self c.args.wakes.now
    c.loop.wakes c.enter.new.wakes c.loop.invariant.6 c.loop.invariant.7 c.enter.ensures.named

pub returns-in-Err-Memory-clause-named : goal.returns-in-Err-Memory-clause-named
returns-in-Err-Memory-clause-named g c =
    more c.args.participant.now c.loop.participant c.args.self.now c.loop.self c.enter.new.self c.args.wakes.now
    c.loop.wakes c.enter.new.wakes c.loop.invariant.6 c.loop.invariant.7 c.enter.ensures.named

pub returns-then-left-most-clause-named : goal.returns-then-left-most-clause-named
returns-then-left-most-clause-named g c = c.loop.invariant.7

pub returns-else-left-most-clause-named : goal.returns-else-left-most-clause-named
returns-else-left-most-clause-named g c = c.loop.invariant.7

pub returns-then-is_over-clause-named : goal.returns-then-is_over-clause-named
returns-then-is_over-clause-named g c =
    go_on_more c.args.participant.now.who c.args.self.now c.loop.self c.fail.new.self c.args.wakes.now c.loop.wakes
    c.fail.new.wakes c.loop.invariant.7
    (everybody_named _ _ _ _ _ c.fail.ensures.nobody c.fail.ensures.all c.fail.ensures.more)

pub returns-then-is_over-clause-stopped : goal.returns-then-is_over-clause-stopped
returns-then-is_over-clause-stopped g c = (
  inl refl,
  (λ v so. up_to_some g.N.HubName.layout c.args.left c.loop.counter v c.loop.participant c.loop.participant
      (c.loop.invariant.0 v so) (gains_none c.loop.participant)),
)

pub enter-requires-clause-begins : goal.enter-requires-clause-begins
enter-requires-clause-begins g c = fire_may_begin g.N.HubName.layout c.loop.self c.loop.participant
