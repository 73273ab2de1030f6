use Rattle.std.proofs.Common.{inr, rules, ◌≡◌, ◌<◌, ◌∙◌, ◌+◌, ◌-◌, ◌^◌, ℕ, List, length, get_or, true, ap, sym, subst, arith}
use Rattle.std.specs.Prelude.{◌⊎◌, All, IfOk}
use Rattle.std.proofs.lemmas.Bool.{ne_eqb}
use Rattle.std.proofs.lemmas.List.Elements.{All-get_or}
use Rattle.cmwq_explore.specs.Cuts.{HasLonger, MayCut}
use Rattle.cmwq_explore.specs.Findings.{JoinsMove, Tells, TellsAll, sum}
use Rattle.cmwq_explore.specs.declared.finding.Finding.{Finding}
use Rattle.cmwq_explore.specs.Seens.{Key, KnowsOf}
use Rattle.cmwq_play.specs.Searches.{IsReached}
use Rattle.cmwq_play.specs.Stands.{may}
use Rattle.cmwq_play.specs.Starts.{start_of}
use Rattle.cmwq_explore.proofs.Cutting.{cut_before, cut_later, cut_of_next, cut_of_sum, later_more, longer_than_none}
use Rattle.cmwq_explore.proofs.Joining.{joined, tells_all}
use Rattle.cmwq_explore.proofs.Keeping.{each_kept, joined_seen, known_of, reached_move, same_search}
use Rattle.cmwq_explore.proofs.Searching.{always, is_none, is_some, none_of_none, nonzero, ok_so}
use Rattle.cmwq_explore.proofs.search.Search.+searching.Goals as goal

pub go_on-returns-then-branch-clause-search : goal.go_on-returns-then-branch-clause-search
go_on-returns-then-branch-clause-search g t c =
    let same = c.joins_seen.ensures.same in
    same_search (start_of c.args.setup.now) c.args.self.now c.joins_seen.new.self same.seen same.merges
    c.requires.search

pub go_on-returns-then-branch-clause-joins : goal.go_on-returns-then-branch-clause-joins
go_on-returns-then-branch-clause-joins g t c =
    let start = start_of c.args.setup.now in
    let moves = c.in_ok-make_move.ensures in
    let there =
    reached_move start c.args.play.now c.make_move.new.self c.args.party c.requires.reached c.requires.may moves in
    joined_seen start c.args.play.now c.make_move.new.self c.args.self.now.seen c.args.depth c.args.party
    c.between-marks.result c.args.finding.now c.joins_seen.new.finding c.requires.search.knows there moves
    (c.in_ok-joins_seen.ensures.joins c.if-branch.true)

pub go_on-visit-requires : goal.go_on-visit-requires
go_on-visit-requires g t c κs within =
    let start = start_of c.args.setup.now in
    let same = c.joins_seen.ensures.same in
    let kept = same_search start c.args.self.now c.joins_seen.new.self same.seen same.merges c.requires.search in
    let there =
    reached_move start c.args.play.now c.make_move.new.self c.args.party c.requires.reached c.requires.may
    c.in_ok-make_move.ensures in
    search (rules, arith)

pub go_on-returns-clause-search : goal.go_on-returns-clause-search
go_on-returns-clause-search g t c =
    let start = start_of c.args.setup.now in
    let p = c.make_move.new.self in
    let there =
    reached_move start c.args.play.now p c.args.party c.requires.reached c.requires.may c.in_ok-make_move.ensures in
    let same = c.joins_seen.ensures.same in
    let child = c.in_ok-child.child in
    c.keep.ensures.search start c.in_ok-child.ensures.search
    (each_kept (λ (k : Key). KnowsOf start k.items child) c.in_ok-key.key c.in_ok-key.ensures
    (λ k told.
    let keyed = sym (told.1 ∙ c.in_ok-joins_seen.ensures.key c.if-branch.false told.0) in
    known_of start p k.items c.args.depth child (c.requires.search.begins (sym same.merges ∙ told.0)) there keyed
    c.in_ok-child.ensures.tells))

pub go_on-returns-clause-cut : goal.go_on-returns-clause-cut
go_on-returns-clause-cut g t c =
    let moves = c.in_ok-make_move.ensures in
    let child = c.in_ok-child.child in
    let kept = c.in_ok-joins_seen.ensures.kept c.if-branch.false in
    let adds = c.in_ok-join.ensures.cut ∙ ap (λ (f : Finding). sum f.cut child.cut) kept in
    always c.keep.result
    (cut_of_sum c.args.finding.now.cut child.cut c.join.new.self.cut adds
    (λ cut. cut_later (c.args.depth + 1) c.args.play.now c.visit.new.self c.keep.new.self c.keep.ensures.later
    (cut_before c.args.depth c.args.play.now c.make_move.new.self c.args.party c.visit.new.self c.requires.may
    moves (c.in_ok-child.ensures.cut cut))))

pub visit-returns-then-is_empty-clause-search : goal.visit-returns-then-is_empty-clause-search
visit-returns-then-is_empty-clause-search g t c =
    let counted = c.count_state.ensures in
    let same = c.end.ensures.same in
    same_search (start_of c.args.setup.now) c.args.self.now c.end.new.self (same.seen ∙ counted.seen)
    (same.merges ∙ counted.merges) c.requires.search

pub visit-returns-then-is_empty-clause-tells : goal.visit-returns-then-is_empty-clause-tells
visit-returns-then-is_empty-clause-tells g t c =
    let movers = c.in_ok-movers.movers in
    let none =
    is_none movers.len (length movers.items) c.is_empty.result (omega (arith, movers.ok.0)) c.is_empty.ensures
    c.if-is_empty.true in
    c.end.ensures.tells (none_of_none c.args.play.now movers.items c.in_ok-movers.ensures.all none) c.args.depth

pub visit-returns-then-depth-eq0-clause-search : goal.visit-returns-then-depth-eq0-clause-search
visit-returns-then-depth-eq0-clause-search g t c =
    let counted = c.count_state.ensures in
    same_search (start_of c.args.setup.now) c.args.self.now c.count_state.new.self counted.seen counted.merges
    c.requires.search

pub visit-returns-then-depth-eq0-clause-cut : goal.visit-returns-then-depth-eq0-clause-cut
visit-returns-then-depth-eq0-clause-cut g t c = λ cut.
    let movers = c.in_ok-movers.movers in
    let some =
    is_some movers.len (length movers.items) c.is_empty.result (omega (arith, movers.ok.0)) c.is_empty.ensures
    c.if-is_empty.false in
    inr (subst (λ (d : ℕ). HasLonger d c.args.play.now) (sym c.if-depth-eq0.true)
    (longer_than_none c.args.play.now movers.items c.in_ok-movers.ensures.sound some))

pub visit-visit_after-requires : goal.visit-visit_after-requires
visit-visit_after-requires g t c κs within =
    let counted = c.count_state.ensures in
    let kept =
    same_search (start_of c.args.setup.now) c.args.self.now c.count_state.new.self counted.seen counted.merges
    c.requires.search in
    let movers = c.in_ok-movers.movers in
    let some =
    is_some movers.len (length movers.items) c.is_empty.result (omega (arith, movers.ok.0)) c.is_empty.ensures
    c.if-is_empty.false in
    let same = sym c.deref.ensures.value in
    let p = c.args.play.now in
    let may_each = subst (λ (xs : List ℕ). All (λ k. may p k ≡ true) xs) same c.in_ok-movers.ensures.sound in
    let some_there = subst (λ (xs : List ℕ). 0 < length xs) same some in
    let fits = c.ranges.depth.fits in
    let deep : 0 < c.args.depth = nonzero c.args.depth c.if-depth-eq0.false in
    let less : c.args.depth - 1 < 2 ^ 64 - 1 = omega arith in
    search (rules, arith)

pub visit-returns-clause-tells : goal.visit-returns-clause-tells
visit-returns-clause-tells g t c =
    let movers = c.in_ok-movers.movers in
    let some =
    is_some movers.len (length movers.items) c.is_empty.result (omega (arith, movers.ok.0)) c.is_empty.ensures
    c.if-is_empty.false in
    let p = c.args.play.now in
    let depth = c.args.depth in
    let deep : 0 < depth = nonzero depth c.if-depth-eq0.false in
    let same : depth - 1 + 1 ≡ depth = omega arith in
    let value = c.deref.ensures.value in
    ok_so (λ f. TellsAll (depth - 1 + 1) f p c.deref.result.now) (λ f. Tells depth f p) c.visit_after.result
    (λ f tells. subst (λ d. Tells d f p) same
    (tells_all (depth - 1 + 1) f p movers.items c.in_ok-movers.ensures.all c.in_ok-movers.ensures.sound some
    (subst (λ (xs : List ℕ). TellsAll (depth - 1 + 1) f p xs) value tells))) c.visit_after.ensures.tells

pub visit_after-loop-k-preserved : goal.visit_after-loop-k-preserved
visit_after-loop-k-preserved g t c =
    let was = c.loop-k.invariant in
    let p = c.args.play.now in
    let movers = c.args.movers.now in
    let k = c.loop-k.k in
    let less = c.loop-k-test.true in
    let is = All-get_or (λ j. may p j ≡ true) movers k 0 less c.requires.movers in
    let joins =
    subst (λ q. JoinsMove c.args.depth q (get_or movers k 0) c.loop-k.finding c.visit_move.new.finding) (was.play less)
    c.in_ok-visit_move.ensures.joins in
    let later = c.in_ok-visit_move.ensures.later in
    record {
      search = c.in_ok-visit_move.ensures.search;
      later = later_more c.args.self.now c.loop-k.self c.visit_move.new.self was.later later;
      cut =
          cut_of_next (c.args.depth + 1) p c.loop-k.play c.loop-k.self c.visit_move.new.self c.loop-k.finding.cut
          c.visit_move.new.finding.cut (was.play less) later was.cut c.in_ok-visit_move.ensures.cut;
      play = λ more.
          let not_last = ne_eqb k (length movers - 1) (λ e. omega (arith, e, more)) in
          c.in_ok-visit_move.ensures.play not_last ∙ was.play less;
      tells = joined c.args.depth c.loop-k.finding c.visit_move.new.finding p movers k is was.tells joins;
    }

pub visit_move-go_on-went-requires : goal.visit_move-go_on-went-requires
visit_move-go_on-went-requires g t c κs within =
    let start = start_of c.args.setup.now in
    let same = c.copy_of.ensures.same in
    let kept = same_search start c.args.self.now c.copy_of.new.self same.seen same.merges c.requires.search in
    let copy = sym c.in_ok-next.ensures.copy in
    let there = subst (IsReached start) copy c.requires.reached in
    let is = subst (λ p. may p c.args.party ≡ true) copy c.requires.may in
    let deep = c.requires.deep in
    search (rules, arith)

pub visit_move-returns-clause-joins : goal.visit_move-returns-clause-joins
visit_move-returns-clause-joins g t c =
    subst (λ p. IfOk c.go_on-went.result
    (λ _. JoinsMove c.args.depth p c.args.party c.args.finding.now c.go_on-went.new.finding)) c.in_ok-next.ensures.copy
    c.go_on-went.ensures.joins

pub visit_move-returns-clause-cut : goal.visit_move-returns-clause-cut
visit_move-returns-clause-cut g t c =
    subst (λ p. IfOk c.go_on-went.result (λ _. 0 < c.go_on-went.new.finding.cut
    → (0 < c.args.finding.now.cut) ⊎ MayCut (c.args.depth + 1) p c.go_on-went.new.self)) c.in_ok-next.ensures.copy
    c.go_on-went.ensures.cut
