use Rattle.std.proofs.Common.{◌+◌, ◌∷◌, ap₂, arith, subst, sym}
use Rattle.std.proofs.Math.ListN.{set}
use Rattle.cmwq_state.specs.Tables.{AreSerials}
use Rattle.cmwq_state.proofs.Appended.{effect_there, effect_serial}
use Rattle.cmwq_state.proofs.Refine.{who_below, serials_applied}
use Rattle.cmwq_model.proofs.Limits.{limits_of}
use Rattle.cmwq_state.proofs.apply.apply_serials.Goals as goal
use Rattle.cmwq_theory_laws.proofs.InRange.{serial_most}

pub overflow_add-entry : goal.overflow_add-entry
overflow_add-entry c =
    let past = c.requires.1 in
    let f = c.args.effect.now in
    let serial = effect_serial c.requires.0 past f c.requires.2.effect in
    let most = serial_most past f.entry.who in
    let few = c.requires.2.few in
    omega arith

pub index_mut-requires : goal.index_mut-requires
index_mut-requires c =
    grind (
      arith,
      who_below,
      effect_there,
      c.requires.0,
      c.requires.2.inside,
      c.requires.1,
      c.requires.2.effect,
      c.requires.3.many,
      c.args.serials.now.ok.0,
    )

pub returns : goal.returns
returns c s past next are =
    let f = c.args.effect.now in
    subst (AreSerials s (f.entry ∷ past))
    (sym (ap₂ (λ p n. set c.args.serials.now.items p (n + 1)) c.who_place.ensures
    (effect_serial s past f next.effect)))
    (serials_applied s f.entry past c.args.serials.now.items (limits_of s next.inside)
    (effect_there s past f next.effect) are)
