use Rattle.std.specs.Prelude.{IsTrue}
use Rattle.std.proofs.Common.{sym, subst}
use Rattle.std.proofs.lemmas.Bool.{and_parts}
use Rattle.cmwq_core.specs.History.{takes_with}
use Rattle.cmwq_model.specs.Prelude.{Layout, fits}
use Rattle.cmwq_model.specs.declared.call.Call.TheVariants as call
use Rattle.cmwq_model.specs.declared.id.Who.TheVariants.{Caller}
use Rattle.cmwq_board.specs.Waits.{MayEnterOf, may_sleep, more_made}
use Rattle.cmwq_board.proofs.Begins.{fires_stay}
use Rattle.cmwq_board.proofs.Fires.{firing_lives}
use Rattle.cmwq_board.proofs.Slept.{takes_after}
use Rattle.cmwq_board.proofs.beginning.begins_wait.Goals as goal

pub sleeps-slept-requires-clause-lives : goal.sleeps-slept-requires-clause-lives
sleeps-slept-requires-clause-lives c = firing_lives c.args.dispatch.now c.requires.may

pub sleeps-slept-requires-clause-room : goal.sleeps-slept-requires-clause-room
sleeps-slept-requires-clause-room c =
    (and_parts (takes_with c.args.dispatch.now.history (Caller c.args.caller) c.args.call (more_made c.args.run))
    (may_sleep c.args.dispatch.now c.args.run) c.requires.room).1

pub makes_call-reply-requires-clause-fits : goal.makes_call-reply-requires-clause-fits
makes_call-reply-requires-clause-fits c =
    subst (λ (s : Layout). IsTrue (fits s (Caller c.args.caller) c.args.call))
    (sym c.sleeps-slept.ensures.stays.layout) c.requires.fits

pub makes_call-reply-requires-clause-may : goal.makes_call-reply-requires-clause-may
makes_call-reply-requires-clause-may c =
    fires_stay c.args.dispatch.now c.sleeps-slept.new.dispatch c.sleeps-slept.ensures.stays c.requires.may

pub makes_call-reply-requires-clause-room : goal.makes_call-reply-requires-clause-room
makes_call-reply-requires-clause-room c =
    let d = c.args.dispatch.now in
    let n = c.sleeps-slept.new.dispatch in
    takes_after d n c.args.run c.args.caller c.args.call c.args.wakes.now c.sleeps-slept.new.wakes
    (subst (λ b. MayEnterOf c.args.run call.Sleep b d n c.args.wakes.now c.sleeps-slept.new.wakes)
    c.sleeps-slept.ensures.slept c.sleeps-slept.ensures.sleeps) c.sleeps-slept.ensures.legal c.requires.fits
    c.requires.call
    (and_parts (takes_with d.history (Caller c.args.caller) c.args.call (more_made c.args.run))
    (may_sleep d c.args.run) c.requires.room).0
