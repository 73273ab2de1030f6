use Rattle.cmwq_core.specs.Common.{◌∙◌, ◌∷◌, ◌||◌, ap, ap₂, if◌then◌else◌, ◌+◌, past_of}
use Rattle.cmwq_core.specs.declared.marks.Standing.{Standing}
use Rattle.cmwq_core.proofs.Marked.{bits_read}
use Rattle.cmwq_core.proofs.marks.bits_after.Goals as goal

pub returns : goal.returns
returns c = let b = c.args.state.now in
    let pending =
    ap₂ (λ a o. a || o) c.is_booked_after.ensures
    (ap (λ (a : Standing). a.waits) c.standing_after-standing.ensures) in
    let runs = ap (λ (a : Standing). a.runs) c.standing_after-standing.ensures in
    c.bits_of.ensures
    ∙ (ap₂ (λ p r. (if p then 1 else 0) + (if r then 2 else 0)) pending runs
    ∙ bits_read b.layout (c.args.effect.entry ∷ past_of b.entries) c.args.item.0 c.requires.is.legal)
