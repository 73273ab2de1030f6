use Rattle.std.proofs.Common.{◌≡◌, rules, arith}
use Rattle.cmwq_explore.proofs.Keeping.{put_known}
use Rattle.cmwq_explore.proofs.Searching.{then_so}
use Rattle.cmwq_explore.proofs.search.Search.keep.Goals as goal

pub returns-in-Some-clause-search : goal.returns-in-Some-clause-search
returns-in-Some-clause-search c = λ start was told.
    let whole : c.args.finding.cut ≡ 0 = search (rules, arith) in
    then_so c.put.result
    (λ puts. record {
      begins = was.begins;
      knows =
          put_known start c.args.self.now.seen c.put.new.self c.in-Some.key c.args.finding puts was.knows whole
          (rw c.in-Some.is at told);
    }) c.put.ensures
