use Rattle.std.proofs.Common.{◌≡◌, ◌++◌, take}
use Rattle.std.specs.Prelude.{flat_map}
use Rattle.cmwq_model.specs.declared.id.Who.TheVariants.{Caller}
use Rattle.cmwq_text.specs.CallText.{call_text}
use Rattle.cmwq_cmd_resume.specs.Resumed.{first_caller}
use Rattle.cmwq_cmd_resume.proofs.spelling.push_calls.Given as goal

abbrev pub invariant-loop-call : goal.invariant-loop-call
invariant-loop-call l = (l.text).items
    ≡ (l.initial.text).items ++ flat_map (call_text (Caller first_caller)) (take l.call-index l.calls)
