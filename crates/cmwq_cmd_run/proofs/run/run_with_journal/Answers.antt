use Rattle.std.proofs.Common.{map}
use Rattle.cmwq_cmd_run.specs.Common.{◌∙◌, sym, subst, Err, run_of, calls_in}
use Rattle.cmwq_rt_scripts.specs.Ended.{FailsAs}
use Rattle.cmwq_rt_scripts.specs.Followed.{AreFit}
use Rattle.cmwq_rt_scripts.specs.Journaled.{TellsOf, WritesAll}
use Rattle.cmwq_cmd_run.specs.Interpreted.{plays}
use Rattle.cmwq_cmd_run.specs.Run.{ScriptEnds, calls_of}
use Rattle.cmwq_cmd_run.proofs.Ends.{breaks_off, fault_ends, journaled_ends}
use Rattle.cmwq_cmd_run.proofs.Following.{scripts_fit, scripts_of}
use Rattle.cmwq_cmd_run.proofs.run.run_with_journal.Goals as goal

pub returns-in-Err-Run-clause-ends : goal.returns-in-Err-Run-clause-ends
returns-in-Err-Run-clause-ends g c =
    let script = c.args.script.now in
    let r = run_of script in
    let fault = c.in-Err-Run.fault in
    let old = g.O.Sink.written c.args.output.now in
    let new = g.O.Sink.written c.run_scripts_with_journal.new.output in
    let tells =
    subst (λ told. TellsOf script.shape
    (map calls_in (map (λ actions. actions.items) c.new-interpreter.result.callers.now)) script.waits told)
    c.in-Err-Run.field-0-is c.in-Err-Run.ensures.tells in
    let fails =
    subst (λ callers. FailsAs script.shape (map calls_in (map (λ actions. actions.items) callers)) script.waits fault)
    (c.new-interpreter.ensures.callers ∙ c.deref-2.ensures.value) tells in
    subst (λ told. ScriptEnds r old new (Err told)) (sym c.from.ensures)
    (fault_ends r old new fault fails
    (breaks_off r c.args.kept old new c.requires.journaled c.requires.may.recorded c.in-Err-Run.ensures.front))

pub run_scripts_with_journal-requires-clause-fit : goal.run_scripts_with_journal-requires-clause-fit
run_scripts_with_journal-requires-clause-fit g c κs within =
    subst (λ callers. AreFit c.args.script.now.shape (scripts_of callers))
    (sym (c.new-interpreter.ensures.callers ∙ c.deref-2.ensures.value)) (scripts_fit c.args.script.now c.requires.may)

pub returns-in-Some-clause-ends : goal.returns-in-Some-clause-ends
returns-in-Some-clause-ends g c =
    let script = c.args.script.now in
    let r = run_of script in
    let written = c.in-Ok.written in
    let old = g.O.Sink.written c.args.output.now in
    let new = g.O.Sink.written c.run_scripts_with_journal.new.output in
    let by_callers =
    subst (λ callers. WritesAll r.layout
    (plays (map (λ actions. actions.items) c.new-interpreter.result.does.now) r.layout) (scripts_of callers) r.waits
    written.answered written.full written.left_out old new)
    (c.new-interpreter.ensures.callers ∙ c.deref-2.ensures.value) c.in-Ok.ensures.whole in
    let by_items =
    subst (λ does. WritesAll r.layout (plays (map (λ actions. actions.items) does) r.layout) (calls_of r) r.waits
    written.answered written.full written.left_out old new)
    (c.new-interpreter.ensures.does ∙ c.deref.ensures.value) by_callers in
    journaled_ends r c.args.kept written.answered written.full written.left_out c.in-Some.failure old new
    c.requires.journaled c.requires.may.recorded c.in-Some.ensures by_items
