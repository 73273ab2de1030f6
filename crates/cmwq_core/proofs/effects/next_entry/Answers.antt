use Rattle.cmwq_core.specs.Common.{◌≡◌, ◌∷◌, ap₂, sym, subst, Entry, Reply, past_of, entry_for, IsLegal, ℕ, next_legal}
use Rattle.cmwq_core.specs.Common.{fits_there}
use Rattle.cmwq_core.proofs.Effecting.{call_inside}
use Rattle.cmwq_core.proofs.effects.next_entry.Goals as goal

pub serial-serial-requires : goal.serial-serial-requires
serial-serial-requires c = fits_there c.args.state.now.layout c.args.who c.args.call c.requires.fit

pub answer-reply-requires-clause-there : goal.answer-reply-requires-clause-there
answer-reply-requires-clause-there c = fits_there c.args.state.now.layout c.args.who c.args.call c.requires.fit

pub answer-reply-requires-clause-inside : goal.answer-reply-requires-clause-inside
answer-reply-requires-clause-inside c = call_inside c.args.state.now.layout c.args.who c.args.call c.requires.fit

pub returns-clause-legal : goal.returns-clause-legal
returns-clause-legal c =
    let s = c.args.state.now.layout in let past = past_of c.args.state.now.entries in
    let e : Entry =
    record {
      who = c.args.who;
      serial = c.serial-serial.result;
      call = c.args.call;
      reply =
          c.answer-reply.result;
    } in
    let next : e ≡ entry_for s past c.args.who c.args.call =
    ap₂ (λ (n : ℕ) (r : Reply). let x : Entry =
    record { who = c.args.who; serial = n; call = c.args.call; reply = r } in x) c.serial-serial.ensures.is
    c.answer-reply.ensures in
    subst (λ (x : Entry). IsLegal s (x ∷ past)) (sym next)
    (next_legal s past c.args.who c.args.call c.serial-serial.ensures.legal c.requires.fit)
