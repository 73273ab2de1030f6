use Rattle.std.proofs.Common.{suc, ◌≡◌, ◌<◌, ◌+◌, ◌-◌, ◌∙◌, ◌++◌, ◌∷◌, [], length, slice_index, true, ap, sym, subst}
use Rattle.std.proofs.Common.{arith}
use Rattle.std.proofs.lemmas.List.{append_assoc, append-nil, get_or_read, length-append}
use Rattle.std.proofs.lemmas.List.Elements.{All-get_or}
use Rattle.cmwq_explore.specs.Chances.{chosen, chosen_by, drawn_below}
use Rattle.cmwq_play.specs.Stands.{may}
use Rattle.cmwq_explore.proofs.Chosen.{chosen_end, chosen_more, chosen_none}
use Rattle.cmwq_explore.proofs.Searching.{is_none, is_some, none_of_none}
use Rattle.cmwq_play.proofs.Paths.{path_push}
use Rattle.cmwq_explore.proofs.chance.play_uniform.Goals as goal

pub returns-then-is_empty-clause-plays : goal.returns-then-is_empty-clause-plays
returns-then-is_empty-clause-plays c =
    let movers = c.in_ok-movers.movers in
    let none =
    is_none movers.len (length movers.items) c.is_empty.result (omega (arith, movers.ok.0)) c.is_empty.ensures
    c.if-is_empty.true in
    let turn = c.loop-number-test.true in
    record {
      goes = c.loop-number.invariant.goes;
      long = sym c.loop-number.invariant.long;
      within = omega arith;
      rests = λ few. none_of_none c.loop-number.play movers.items c.in_ok-movers.ensures.all none;
    }

pub returns-then-is_empty-clause-chosen : goal.returns-then-is_empty-clause-chosen
returns-then-is_empty-clause-chosen c =
    let movers = c.in_ok-movers.movers in
    let none =
    is_none movers.len (length movers.items) c.is_empty.result (omega (arith, movers.ok.0)) c.is_empty.ensures
    c.if-is_empty.true in
    let turn = c.loop-number-test.true in
    let left = c.args.moves - c.loop-number.number in
    let xs = c.loop-number.path.items in
    sym (append-nil xs)
    ∙ ap (λ ys. xs ++ ys)
    (sym (chosen_end left c.loop-number.generator c.loop-number.play movers.items c.in_ok-movers.ensures.list none))
    ∙ c.loop-number.invariant.chosen left (omega arith)

pub returns-clause-chosen : goal.returns-clause-chosen
returns-clause-chosen c =
    let end = c.loop-number-test.false in
    let most = c.loop-number.auto.number-end in
    let xs = c.loop-number.path.items in
    sym (append-nil xs)
    ∙ ap (λ ys. xs ++ ys) (sym (chosen_none c.loop-number.generator c.loop-number.play))
    ∙ c.loop-number.invariant.chosen 0 (omega arith)

pub loop-number-preserved : goal.loop-number-preserved
loop-number-preserved c =
    let movers = c.in_ok-movers.movers in
    let p = c.loop-number.play in
    let len : movers.len ≡ length movers.items = omega (arith, movers.ok.0) in
    let some = is_some movers.len (length movers.items) c.is_empty.result len c.is_empty.ensures c.if-is_empty.false in
    let counted : c.len.result ≡ length movers.items = omega (arith, movers.ok.0) in
    let small = c.below.ensures.small in
    let there : c.below.result < length movers.items = omega arith in
    let party = c.index-party.result.now in
    let is = get_or_read movers.items c.below.result party there c.index-party.ensures 0 in
    let chose : party ≡ chosen c.loop-number.generator movers.items =
    is
    ∙ ap (slice_index movers.items)
    (c.below.ensures.drawn ∙ ap (λ m. drawn_below m c.loop-number.generator) counted) in
    let is_mover : may p party ≡ true =
    subst (λ k. may p k ≡ true) (sym is)
    (All-get_or (λ k. may p k ≡ true) movers.items c.below.result 0 there c.in_ok-movers.ensures.sound) in
    let xs = c.loop-number.path.items in
    record {
      goes =
          path_push c.args.play.now p c.make_move.new.self xs c.push.new.self.items party
          c.loop-number.invariant.goes is_mover c.in_ok-make_move.ensures c.in_ok-push.ensures.items;
      long = ap length c.in_ok-push.ensures.items ∙ length-append xs (party ∷ [])
          ∙ ap (λ n. n + 1) c.loop-number.invariant.long;
      chosen = λ n e.
          let rest = chosen_by n c.below.new.generator c.make_move.new.self in
          let more =
          chosen_more n c.loop-number.generator p movers.items party c.in_ok-movers.ensures.list some chose in
          ap (λ ys. ys ++ rest) c.in_ok-push.ensures.items ∙ append_assoc xs (party ∷ []) rest
          ∙ ap (λ ys. xs ++ ys)
          (rw (c.below.ensures.after, c.in_ok-make_move.ensures) (sym more))
          ∙ c.loop-number.invariant.chosen (suc n) (omega arith);
    }
