use Rattle.std.proofs.Common.{sym, subst}
use Rattle.cmwq_key.specs.Alike.{IsStand}
use Rattle.cmwq_explore.proofs.search.search_all.Goals as goal

pub search_from-found-requires : goal.search_from-found-requires
search_from-found-requires g c = λ merges. subst IsStand (sym c.in_ok-setup.ensures.start) (c.may_merge.ensures merges)
