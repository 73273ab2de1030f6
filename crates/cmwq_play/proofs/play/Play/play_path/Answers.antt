use Rattle.std.proofs.Common.{◌+◌, ◌∙◌, get_or, sym, take, add-one, ap}
use Rattle.std.proofs.Math.Seq.{take-suc}
use Rattle.cmwq_play.specs.Starts.{start_of}
use Rattle.cmwq_play.proofs.Paths.{path_push}
use Rattle.cmwq_play.proofs.play.Play.play_path.Goals as goal

pub returns-then-not-may_move-clause-broken : goal.returns-then-not-may_move-clause-broken
returns-then-not-may_move-clause-broken c = record {
  within = c.loop-place-test.true;
  goes = c.loop-place.invariant;
  stays = sym c.may_move.ensures ∙ c.if-not-may_move.true;
}

pub loop-place-preserved : goal.loop-place-preserved
loop-place-preserved c =
    let path = c.args.path.now in
    let place = c.loop-place.place in
    let party = get_or path place 0 in
    let longer = ap (λ n. take n path) (add-one place) ∙ take-suc path place 0 c.loop-place-test.true in
    path_push (start_of c.args.setup.now) c.loop-place.self c.make_move.new.self (take place path)
    (take (place + 1) path) party c.loop-place.invariant (sym c.may_move.ensures ∙ c.if-not-may_move.false)
    c.in_ok-make_move.ensures longer
