use Rattle.cmwq_core.specs.Common.{◌∙◌, past_of, legal_before}
use Rattle.cmwq_core.proofs.Effecting.{starts_from}
use Rattle.cmwq_core.proofs.effects.started_by.Goals as goal

pub returns : goal.returns
returns c = let b = c.args.state.now in
    c.started_from.ensures ∙ starts_from b.layout (past_of b.entries) c.args.entry c.requires.legal
    (legal_before b.layout (past_of b.entries) c.args.entry c.requires.legal)
