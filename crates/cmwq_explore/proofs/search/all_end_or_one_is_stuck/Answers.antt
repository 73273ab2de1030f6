use Rattle.cmwq_explore.proofs.Searching.{ends_or_stuck}
use Rattle.cmwq_explore.proofs.search.all_end_or_one_is_stuck.Goals as goal

pub returns : goal.returns
returns c = ends_or_stuck
