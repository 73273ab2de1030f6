use Rattle.cmwq_rt.specs.Common.{◌≡◌, ◌≤◌, ◌∙◌, [], length, ap, sym, subst, arith, serial_of, past_of, View, Gains}
use Rattle.cmwq_model.specs.declared.id.Who.TheVariants as whos
use Rattle.cmwq_core.specs.History.{IsThere}
use Rattle.cmwq_monitor.proofs.Entering.{gains_seen}
use Rattle.cmwq_rt.proofs.caller.Caller.busy.Goals as goal

pub returns-clause-own : goal.returns-clause-own
returns-clause-own g c =
    let s = g.N.HubName.layout in
    let v : View = c.self.inside.participant in
    let found = c.in_ok-found.found in
    let who_is : whos.Caller c.in-Caller.caller ≡ v.who = c.in-Caller.ensures.who in
    let there : IsThere s (whos.Caller c.in-Caller.caller) = subst (IsThere s) (sym who_is) c.in-Caller.ensures.there in
    let count : found.serial ≡ serial_of (past_of found.prefix) (whos.Caller c.in-Caller.caller) =
    c.in_ok-found.ensures.1 there in
    let own : serial_of (past_of found.prefix) v.who ≡ v.serial =
    ap (serial_of (past_of found.prefix)) (sym who_is) ∙ sym count ∙ c.if-found-own.false
    ∙ c.serial-own.ensures.serial in
    let longer : length v.seen ≤ length found.prefix =
    (let len = c.len.ensures.len in let seen = c.seen-seen.ensures.seen in let le = c.if-len-seen.false in
    omega (arith, len, seen, le)) in
    subst (λ (u : View). Gains u [] c.see.new.self) c.self.view_is
    (rw c.see.ensures.seen (gains_seen v found.prefix c.serial-own.ensures.own (own, longer) c.see.ensures.older))
