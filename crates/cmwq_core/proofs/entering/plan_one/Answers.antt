use Rattle.cmwq_core.specs.Common.{◌≡◌, ℕ, ◌∷◌, ◌+◌, ◌&&◌, true, nat_le, length, arith, sym, ap, subst, ◌∙◌, Entry}
use Rattle.cmwq_core.specs.Common.{IsLegal, owed, past_of, has_time}
use Rattle.std.proofs.lemmas.List.{length-reverse}
use Rattle.cmwq_model.specs.Prelude.{room_needed}
use Rattle.cmwq_core.specs.History.{IsMark, next_entry, takes}
use Rattle.cmwq_core.proofs.entering.plan_one.Goals as goal

pub returns-then-has_room-clause-plan : goal.returns-then-has_room-clause-plan
returns-then-has_room-clause-plan c =
    let h = c.args.state.now in let past = past_of h.entries in
    let e = c.args.entry.now in let m = c.mark-mark.result in
    let is = c.effect_of-effect.ensures.entry in
    let mark : IsMark h e.who e.call m = subst (λ (x : Entry). IsMark h x.who x.call m) is c.mark-mark.ensures in
    let owing : c.effect_of-effect.result.owing ≡ owed h.layout (next_entry h e.who e.call ∷ past) =
    c.effect_of-effect.ensures.is.owing ∙ ap (λ (x : Entry). owed h.layout (x ∷ past)) (is ∙ c.requires.next) in
    let needed : length h.entries + 1 + c.effect_of-effect.result.owing
    ≡ room_needed h.layout (next_entry h e.who e.call ∷ past) = omega (arith, length-reverse h.entries, owing) in
    let taken : takes h e.who e.call ≡ true =
    subst (λ (n : ℕ). (has_time past e.call && nat_le n h.room) ≡ true) needed
    (sym c.has_room.ensures ∙ c.if-has_room.true) in
    let legal : IsLegal h.layout (m.entry ∷ past) =
    subst (λ (x : Entry). IsLegal h.layout (x ∷ past)) (c.requires.next ∙ sym mark.is_next) c.requires.legal in
    record { mark = mark; taken = taken; legal = legal }
