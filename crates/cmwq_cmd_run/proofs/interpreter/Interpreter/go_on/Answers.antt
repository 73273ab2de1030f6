use Rattle.std.proofs.Common.{refl, subst, sym, ◌∷◌, ◌++◌, []}
use Rattle.cmwq_json_script.specs.Views.{calls_in}
use Rattle.cmwq_cmd_run.specs.Followed.{IsOnWay}
use Rattle.cmwq_cmd_run.proofs.Following.{on_way_call}
use Rattle.cmwq_cmd_run.proofs.interpreter.Interpreter.go_on.Goals as goal
use Rattle.cmwq_cmd_run.proofs.interpreter.Interpreter.go_on.Goals.{then-len-ge-MOST_CALLS+in_ok-make-in-Call}
use Rattle.cmwq_cmd_run.proofs.interpreter.Interpreter.go_on.Goals.{else-len-ge-MOST_CALLS}

pub returns-after-len-ge-MOST_CALLS-clause-way : goal.returns-after-len-ge-MOST_CALLS-clause-way
returns-after-len-ge-MOST_CALLS-clause-way g c v calls is =
    let s = g.N.HubName.layout in
    let way = c.if-len-ge-MOST_CALLS.way' in
    let caller = c.if-len-ge-MOST_CALLS.caller in
    let before : IsOnWay s v calls way caller =
    elim c.if-len-ge-MOST_CALLS.branch [
      | then-len-ge-MOST_CALLS+in_ok-make-in-Call w ↦
          subst (λ u. IsOnWay s v calls u caller) (sym w.way'-is)
          (subst (λ m. IsOnWay s v calls w.make.new.self m) (sym w.caller-is)
          (w.in_ok-make-in-Call.ensures.way v calls is))
      | else-len-ge-MOST_CALLS w ↦
          subst (λ u. IsOnWay s v calls u caller) (sym w.way'-is)
          (subst (λ m. IsOnWay s v calls c.args.way.now m) (sym w.caller-is) is)
    ] in
    subst (λ a. IsOnWay s v (calls ++ calls_in (a ∷ [])) (record { next = c.push.new.self; full = way.full }) caller)
    (sym c.in-Call.is)
    (on_way_call s v calls c.in-Call.call way (record { next = c.push.new.self; full = way.full }) caller before
    c.push.ensures refl)
