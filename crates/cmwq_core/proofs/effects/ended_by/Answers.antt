use Rattle.cmwq_core.specs.Common.{◌∙◌, past_of}
use Rattle.cmwq_core.proofs.Effecting.{ends_from}
use Rattle.cmwq_core.proofs.effects.ended_by.Goals as goal

pub returns : goal.returns
returns c = let b = c.args.state.now in
    c.ended_from.ensures ∙ ends_from b.layout (past_of b.entries) c.args.entry c.requires.legal
