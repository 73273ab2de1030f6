use Rattle.std.proofs.Common.{◌∙◌, ap, sym}
use Rattle.std.specs.Prelude.{option_copied}
use Rattle.cmwq_explore.proofs.search.Search.joins_seen.Goals as goal

pub returns-in_ok-join-in-Some-clause-joins : goal.returns-in_ok-join-in-Some-clause-joins
returns-in_ok-join-in-Some-clause-joins c = λ _. (
  c.write.new.key,
  c.in-Some.known.now,
  c.in_ok-write.ensures,
  sym c.get.ensures ∙ ap option_copied c.in-Some.is,
  c.if-known-depth.true,
  c.in_ok-join-in-Some.ensures,
)
