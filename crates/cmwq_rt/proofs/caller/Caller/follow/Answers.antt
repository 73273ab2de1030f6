use Rattle.cmwq_rt.specs.Common.{◌∙◌, sym, refl, arith, subst, List, Call, take_all}
use Rattle.std.proofs.lemmas.Result.{IfOk-at_ok, IfErr-at_err}
use Rattle.cmwq_rt.specs.Scripts.{HasFollowed}
use Rattle.cmwq_rt.proofs.Following.{followed_none, followed_call, followed_skip, broke_same, stopped_at, told_full}
use Rattle.cmwq_rt.proofs.caller.Caller.follow.Goals as goal
use Rattle.cmwq_rt.proofs.caller.Caller.follow.Goals.{in-Ok, in-Err+else-not-is_full}

pub loop-k-init : goal.loop-k-init
loop-k-init g c = (followed_none g.N.HubName.layout c.args.self.now, omega arith, refl)

pub returns-clause-followed : goal.returns-clause-followed
returns-clause-followed g c =
    subst (λ (xs : List Call). HasFollowed g.N.HubName.layout xs c.loop-k.full c.args.self.now c.loop-k.self)
    (take_all c.loop-k.k c.args.script.now c.loop-k-test.false) c.loop-k.invariant.0

pub returns-then-not-is_full-clause-stopped : goal.returns-then-not-is_full-clause-stopped
returns-then-not-is_full-clause-stopped g c =
    let s = g.N.HubName.layout in
    let m = c.loop-k.self in
    let w = c.make_locked-held.new.self in
    let broke = IfErr-at_err _ c.in-Err.is c.make_locked-held.ensures.broke in
    stopped_at s c.args.script.now c.loop-k.k _ c.loop-k.full c.args.self.now m w c.in-Err.fault c.loop-k-test.true
    (sym c.is_full.ensures ∙ c.if-not-is_full.true) c.loop-k.invariant.0 broke

pub returns-then-not-is_full-clause-same : goal.returns-then-not-is_full-clause-same
returns-then-not-is_full-clause-same g c =
    let s = g.N.HubName.layout in
    let m = c.loop-k.self in
    let w = c.make_locked-held.new.self in
    let broke = IfErr-at_err _ c.in-Err.is c.make_locked-held.ensures.broke in
    broke_same s m w _ _ broke ∙ c.loop-k.invariant.2

pub loop-k-preserved : goal.loop-k-preserved
loop-k-preserved g c =
    let s = g.N.HubName.layout in
    let script = c.args.script.now in
    let m = c.loop-k.self in
    let w = c.make_locked-held.new.self in
    let i = c.loop-k.invariant in
    elim c.match-answer.branch [
      | in-Ok b ↦ (
          let done = IfOk-at_ok _ b.in-Ok.is c.make_locked-held.ensures.done in (
            rw b.full-is
                (followed_call s script c.loop-k.k _ c.loop-k.full c.args.self.now m w _ c.loop-k-test.true i.0 done),
            (let n = b.full-is in let k = i.1 in omega (arith, n, k)),
            done.gains.same ∙ i.2,
          ))
      | in-Err+else-not-is_full b ↦ (
          let full = told_full b.in-Err.fault (sym b.is_full.ensures ∙ b.if-not-is_full.false) in
          let broke = IfErr-at_err _ b.in-Err.is c.make_locked-held.ensures.broke in (
            rw b.full-is
                (followed_skip s script c.loop-k.k _ c.loop-k.full c.args.self.now m w _ c.loop-k-test.true full i.0
                broke),
            (let n = b.full-is in let k = i.1 in omega (arith, n, k)),
            broke_same s m w _ _ broke ∙ i.2,
          ))
    ]
