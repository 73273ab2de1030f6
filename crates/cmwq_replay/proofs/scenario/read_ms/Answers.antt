use Rattle.cmwq_replay.specs.Common.{◌∙◌, ◌++◌, [], ◌∷◌, ℕ, Some, sym, ap, arith, option_map, view, items_view, in_turn}
use Rattle.cmwq_replay.specs.Common.{went_on, stopped, done, array_said}
use Rattle.cmwq_replay.specs.Scenarios.{add_part, if_few}
use Rattle.cmwq_replay.proofs.scenario.read_ms.Goals as goal

pub returns-in_default-read_number : goal.returns-in_default-read_number
returns-in_default-read_number c =
    sym (ap if_few
    (stopped add_part (in_turn add_part 0 [] (items_view c.deref-part-items.result.now))
    c.deref-part-items.result.now c.loop-part.part-index c.loop-part.ms.items c.loop-part.invariant
    c.part-item.result c.part-item.result (omega arith) (sym c.part-item.is)
    (ap (option_map (λ (n : ℕ). c.loop-part.ms.items ++ n ∷ [])) (sym c.in_default-read_number.ensures.number))))
    ∙ array_said c.deref-part-items.result.now c.in-Some.parts.now.items (view c.args.value.now)
    (λ ds. if_few (in_turn add_part 0 [] ds)) c.deref-part-items.ensures.value c.in-Some.ensures

pub loop-part-preserved : goal.loop-part-preserved
loop-part-preserved c =
    went_on add_part (in_turn add_part 0 [] (items_view c.deref-part-items.result.now)) c.deref-part-items.result.now
    c.loop-part.part-index c.loop-part.ms.items c.loop-part.invariant
    c.part-item.result c.part-item.result c.push.new.self.items (omega arith) (sym c.part-item.is)
    (ap (option_map (λ (n : ℕ). c.loop-part.ms.items ++ n ∷ [])) (sym c.in-Some-read_number.ensures.number)
    ∙ ap Some (sym c.in_ok-push.ensures.items))

pub returns : goal.returns
returns c =
    c.if_few.ensures
    ∙ sym (ap if_few
    (done add_part (in_turn add_part 0 [] (items_view c.deref-part-items.result.now)) c.deref-part-items.result.now
    c.loop-part.part-index c.loop-part.ms.items c.loop-part.invariant (omega arith)))
    ∙ array_said c.deref-part-items.result.now c.in-Some.parts.now.items (view c.args.value.now)
    (λ ds. if_few (in_turn add_part 0 [] ds)) c.deref-part-items.ensures.value c.in-Some.ensures
