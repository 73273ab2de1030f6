use Rattle.std.proofs.Common.{◌≡◌, ◌<◌, ◌+◌, ◌∙◌, ◌∷◌, [], length, true, ap, sym, subst, arith}
use Rattle.std.proofs.lemmas.List.{get_or_read, length-append}
use Rattle.std.proofs.lemmas.List.Elements.{All-get_or}
use Rattle.cmwq_play.specs.Stands.{may}
use Rattle.cmwq_explore.proofs.Searching.{is_none, none_of_none}
use Rattle.cmwq_play.proofs.Paths.{path_push}
use Rattle.cmwq_explore.proofs.chance.play_in_order.Goals as goal

pub returns-then-is_empty : goal.returns-then-is_empty
returns-then-is_empty c =
    let movers = c.in_ok-movers.movers in
    let none =
    is_none movers.len (length movers.items) c.is_empty.result (omega (arith, movers.ok.0)) c.is_empty.ensures
    c.if-is_empty.true in
    let turn = c.loop-number-test.true in
    record {
      plays = record {
        goes = c.loop-number.invariant.goes;
        long = sym c.loop-number.invariant.long;
        within = omega arith;
        rests = λ few. none_of_none c.loop-number.play movers.items c.in_ok-movers.ensures.all none;
      };
    }

pub loop-number-preserved : goal.loop-number-preserved
loop-number-preserved c =
    let movers = c.in_ok-movers.movers in
    let p = c.loop-number.play in
    let there : c.first_of.result < length movers.items = rw c.deref.ensures.value at c.first_of.ensures in
    let party = c.index-party.result.now in
    let is = get_or_read movers.items c.first_of.result party there c.index-party.ensures 0 in
    let is_mover : may p party ≡ true =
    subst (λ k. may p k ≡ true) (sym is)
    (All-get_or (λ k. may p k ≡ true) movers.items c.first_of.result 0 there c.in_ok-movers.ensures.sound) in
    let was = c.loop-number.invariant.long in
    record {
      goes =
          path_push c.args.play.now p c.make_move.new.self c.loop-number.path.items c.push.new.self.items party
          c.loop-number.invariant.goes is_mover c.in_ok-make_move.ensures c.in_ok-push.ensures.items;
      long =
          ap length c.in_ok-push.ensures.items ∙ length-append c.loop-number.path.items (party ∷ [])
          ∙ ap (λ n. n + 1) was;
    }
