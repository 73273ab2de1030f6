use Rattle.cmwq_core.specs.Common.{◌≡◌, true, sym, subst, ◌∙◌, and_parts, leb-true, Entry, past_of, has_time}
use Rattle.cmwq_core.proofs.entering.make.Goals as goal

pub append-requires-clause-room : goal.append-requires-clause-room
append-requires-clause-room g c = leb-true _ _ (and_parts _ _ (sym c.has_room.ensures ∙ c.if-has_room.true)).1

pub append-requires-clause-time : goal.append-requires-clause-time
append-requires-clause-time g c =
    subst (λ (e : Entry). has_time (past_of c.args.state.now.entries) e.call ≡ true)
    (sym c.effect_of-effect.ensures.entry)
    (and_parts _ _ (sym c.has_room.ensures ∙ c.if-has_room.true)).0
