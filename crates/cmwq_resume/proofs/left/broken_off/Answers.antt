use Rattle.std.proofs.Common.{◌≡◌, ◌∙◌, ap, arith, sym, subst}
use Rattle.std.specs.List.{range_with_len}
use Rattle.std.specs.List.Sorted.{IsPermutation}
use Rattle.cmwq_model.specs.Prelude.{past_of}
use Rattle.cmwq_resume.specs.Leavings.{broken_off_of, is_again}
use Rattle.cmwq_resume.proofs.Gathered.{broken_off_is}
use Rattle.cmwq_resume.proofs.Sorted.{found_in, more_none, more_some, not_some}
use Rattle.cmwq_resume.proofs.left.broken_off.Goals as goal
use Rattle.cmwq_resume.proofs.left.broken_off.Goals.{in-Some+in_ok-push, in_default}

pub loop-item-preserved : goal.loop-item-preserved
loop-item-preserved c =
    let past = past_of c.args.state.now.entries in
    let n = c.loop-item.item in
    let found = broken_off_of (is_again c.args.left_out.now) past in
    elim c.match-broken_off_of.branch [
      | in-Some+in_ok-push w ↦
          rw (w.found-is)
          (more_some found n _ _ _ c.loop-item.invariant (sym c.broken_off_of.ensures ∙ w.in-Some.is)
          w.in_ok-push.ensures.items)
      | in_default w ↦
          rw (w.found-is)
          (more_none found n _ c.loop-item.invariant
          (sym c.broken_off_of.ensures ∙ not_some c.broken_off_of.result w.in_default.not-Some))
    ]

pub returns : goal.returns
returns c =
    let s = c.args.state.now.layout in
    let past = past_of c.args.state.now.entries in
    let again = is_again c.args.left_out.now in
    let whole : c.loop-item.item ≡ s.items =
    omega (arith, c.loop-item-test.false, c.loop-item.auto.item-end, c.requires) in
    let moved =
    subst (λ found. IsPermutation found c.sort_by_number.new.found.items)
    (c.loop-item.invariant ∙ ap (λ k. found_in (broken_off_of again past) (range_with_len 0 k)) whole)
    c.in_ok-sort_by_number.ensures.same in
    broken_off_is s past c.len-len.ensures.legal again _ moved c.in_ok-sort_by_number.ensures.sorted
