use Rattle.std.proofs.Common.{◌∙◌, ap, sym, false}
use Rattle.std.specs.Option.{option_map_or}
use Rattle.cmwq_model.specs.Prelude.{is_ahead}
use Rattle.cmwq_waits.proofs.Places.{ahead_of_item, run_stays, two_ahead}
use Rattle.cmwq_waits.proofs.Held.{opened_item}
use Rattle.cmwq_waits.proofs.look.Look.places_ahead.Goals as goal
use Rattle.cmwq_waits.proofs.look.Look.places_ahead.Goals.{in-Some, in-None}

pub unstarted-requires : goal.unstarted-requires
unstarted-requires c =
    let run = c.args.wait.now.run in
    opened_item c.args.self.now c.scene.ensures run
    (run_stays c.args.self.now c.scene.ensures run c.requires.is_open c.requires.has_started)

pub returns-clause-is : goal.returns-clause-is
returns-clause-is c =
    let scene = c.args.self.now in let is = c.scene.ensures in
    let run = c.args.wait.now.run in let x = c.args.of.now in let u = c.unstarted.result in
    let there = run_stays scene is run c.requires.is_open c.requires.has_started in
    two_ahead x run u c.one_if.result c.one_if-2.result c.is_ahead.result c.match-unstarted.behind c.is_ahead.ensures
    (elim c.match-unstarted.branch [
      | in-Some w ↦ w.behind-is
          ∙ (w.is_ahead-behind.ensures ∙ sym (ap (λ o. option_map_or (is_ahead x) o false) w.in-Some.is))
      | in-None w ↦ w.behind-is ∙ sym (ap (λ o. option_map_or (is_ahead x) o false) w.in-None.is)
    ]) c.one_if.ensures c.one_if-2.ensures
    ∙ sym (ahead_of_item scene is x run u there c.requires.has_started c.unstarted.ensures)
