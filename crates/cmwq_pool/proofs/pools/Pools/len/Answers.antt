use Rattle.std.proofs.Common.{◌∙◌, ap, sym, length}
use Rattle.cmwq_pool.proofs.Seeing.{seen_many}
use Rattle.cmwq_pool.proofs.pools.Pools.len.Goals as goal

pub returns : goal.returns
returns c =
    let s = c.self.inside in
    c.len.ensures ∙ (s.workers.ok.0 ∙ (sym (seen_many s.lists s.notes s.workers.items) ∙ ap length c.self.view_is))
