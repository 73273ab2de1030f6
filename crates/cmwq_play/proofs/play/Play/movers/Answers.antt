use Rattle.std.proofs.Common.{◌≡◌, ◌+◌, ◌∙◌, ℕ, ap, length, sym, true, arith}
use Rattle.std.specs.List.{filter, range_with_len}
use Rattle.std.proofs.lemmas.List.Elements.{All-push}
use Rattle.cmwq_play.specs.Stands.{may}
use Rattle.cmwq_play.proofs.Moving.{filter_with, filter_without}
use Rattle.cmwq_play.proofs.Moving.{all_before, all_with}
use Rattle.cmwq_play.proofs.play.Play.movers.Goals as goal
use Rattle.cmwq_play.proofs.play.Play.movers.Goals.{then-may_move+in_ok-push, else-may_move}

pub loop-party-preserved : goal.loop-party-preserved
loop-party-preserved c =
    let p = c.args.self.now in
    let k = c.loop-party.party in
    let xs = c.loop-party.movers.items in
    let before = c.loop-party.invariant in
    elim c.if-may_move.branch [
      | then-may_move+in_ok-push w ↦
          let it = sym c.may_move.ensures ∙ w.if-may_move.true in
          rw (w.movers-is, w.in_ok-push.ensures.items) (record {
            list = filter_with p k xs before.list it;
            all = λ j less is. all_with p k xs before.all j (omega arith) is;
            sound = All-push (λ (j : ℕ). may p j ≡ true) xs k before.sound it;
          })
      | else-may_move w ↦
          let not_it = sym c.may_move.ensures ∙ w.if-may_move.false in
          rw (w.movers-is) (record {
            list = filter_without p k xs before.list not_it;
            all = λ j less is. all_before p k xs before.all not_it j (omega arith) is;
            sound = before.sound;
          })
    ]

pub returns-clause-list : goal.returns-clause-list
returns-clause-list c =
    let p = c.args.self.now in
    let end = c.parties-party-end.ensures in
    let past = c.loop-party-test.false in
    let most = c.loop-party.auto.party-end in
    let same : c.loop-party.party ≡ length p.callers + length p.workers = omega arith in
    c.loop-party.invariant.list ∙ ap (λ n. filter (may p) (range_with_len 0 n)) same
