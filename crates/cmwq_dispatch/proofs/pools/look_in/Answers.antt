use Rattle.std.proofs.Common.{◌≡◌, arith, sym, subst, true, ⊎_elim, inl, inr}
use Rattle.std.proofs.lemmas.Option.{slice_get-get_or}
use Rattle.cmwq_theory_steps.specs.Common.{worker_at}
use Rattle.cmwq_dispatch.specs.Naming.{names_worker}
use Rattle.cmwq_dispatch.proofs.EachPool.{attended_at, beyond, leaves_one, others_same, recorded_all}
use Rattle.cmwq_dispatch.proofs.pools.look_in.Goals as goal

pub returns-in-Some-clause-recorded : goal.returns-in-Some-clause-recorded
returns-in-Some-clause-recorded c =
    recorded_all _ c.args.pools.now c.args.pool _ _ c.place_of-place.ensures c.requires.recorded
    c.name_one-named.ensures.recorded

pub returns-in-Some-clause-attended : goal.returns-in-Some-clause-attended
returns-in-Some-clause-attended c =
    attended_at _ _ c.args.pools.now c.args.pool _ _ _ c.place_of-place.ensures
    (slice_get-get_or c.args.pools.now c.place_of-place.result c.name_one-named.new.self c.if-place-pools.false)
    c.name_one-named.ensures.attended

pub returns-in-Some-clause-others : goal.returns-in-Some-clause-others
returns-in-Some-clause-others c = others_same c.args.pools.now c.args.pool _ _ c.place_of-place.ensures

pub returns-in-Some-clause-named : goal.returns-in-Some-clause-named
returns-in-Some-clause-named c =
    leaves_one c.args.pools.now c.args.pool _ _ _ _ _ c.place_of-place.ensures
    (slice_get-get_or c.args.pools.now c.place_of-place.result _ c.if-place-pools.false) c.add_worker.ensures.more
    (λ x resting. ⊎_elim (λ on. inl on)
    (λ same. inr (subst (λ n. names_worker c.add_worker.new.self (worker_at c.args.pool n) ≡ true) (sym same)
    c.add_worker.ensures.named)) (c.in-Some.ensures.named x resting)) c.name_one-named.ensures.fewer

pub returns-in_default-clause-recorded : goal.returns-in_default-clause-recorded
returns-in_default-clause-recorded c =
    recorded_all _ c.args.pools.now c.args.pool _ _ c.place_of-place.ensures c.requires.recorded
    c.name_one-named.ensures.recorded

pub returns-in_default-clause-attended : goal.returns-in_default-clause-attended
returns-in_default-clause-attended c =
    attended_at _ _ c.args.pools.now c.args.pool _ _ _ c.place_of-place.ensures
    (slice_get-get_or c.args.pools.now c.place_of-place.result c.name_one-named.new.self c.if-place-pools.false)
    c.name_one-named.ensures.attended

pub returns-then-place-pools-clause-attended : goal.returns-then-place-pools-clause-attended
returns-then-place-pools-clause-attended c =
    beyond _ _ c.args.pools.now c.args.pool (omega (arith, c.place_of-place.ensures, c.if-place-pools.true))
