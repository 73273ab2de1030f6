use Rattle.std.specs.Prelude.{◌≡◌, None, is_some}
use Rattle.std.proofs.Common.{ap, arith, ◌∙◌, inl, subst, subst₂, sym, refl}
use Rattle.std.proofs.lemmas.Bool.{both_ways, leb-true}
use Rattle.cmwq_model.specs.Prelude.{IsLegal}
use Rattle.cmwq_board.specs.Boarded.{Boarded, layout_of, past_of_board}
use Rattle.cmwq_board.specs.Lent.{HasLeft}
use Rattle.cmwq_board.specs.Machine.{GoesOn, bare}
use Rattle.cmwq_board.specs.Waits.{Clears, place_with}
use Rattle.cmwq_board.specs.Waits.EndsLeft.{more, nothing}
use Rattle.cmwq_board.specs.declared.left.Sought.TheVariants.{Ready}
use Rattle.cmwq_board.proofs.Cleared.{none_cleared}
use Rattle.cmwq_board.proofs.Moves.{clear_core, clear_quiet, goes_clear, goes_same}
use Rattle.cmwq_board.proofs.Sought.{left_is_found, none_sought}
use Rattle.cmwq_board.proofs.board.Board.clears.Goals as goal

pub returns-then-not-self : goal.returns-then-not-self
returns-then-not-self c =
    let b = c.args.self.now in
    let none : place_with b Ready ≡ None =
    none_sought b Ready
    (λ h. both_ways _ c.if-not-self.true
    (c.self.invariant.4
    (subst (λ (x : Boarded). HasLeft (layout_of x) (past_of_board x) x.lent) (sym c.self.view_is) h))) in
    record {
      clears = record { ends = nothing b c.args.wakes.now; clear = inl none };
      core = sym (none_cleared (bare b) none);
      goes = λ who. goes_same who b c.args.wakes.now;
      quiet = λ same. refl;
    }

pub returns-clause-core : goal.returns-clause-core
returns-clause-core c =
    let same = c.ends_first.ensures.same c.loop-test.false in
    let clears : Clears c.args.self.now c.loop.self c.args.wakes.now c.loop.wakes =
    record { ends = c.loop.invariant.0; clear = c.ends_first.ensures.clear c.loop-test.false } in
    ap bare c.self-2.view_is ∙ ap bare same.0
    ∙ clear_core c.args.self.now c.loop.self c.args.wakes.now c.loop.wakes clears
    (subst (λ (x : Boarded). IsLegal (layout_of x) (past_of_board x)) same.0 c.stands.ensures.legal)

pub returns-clause-goes : goal.returns-clause-goes
returns-clause-goes c who =
    let same = c.ends_first.ensures.same c.loop-test.false in
    let clears : Clears c.args.self.now c.loop.self c.args.wakes.now c.loop.wakes =
    record { ends = c.loop.invariant.0; clear = c.ends_first.ensures.clear c.loop-test.false } in
    subst₂ (λ (x : Boarded) w. GoesOn who c.args.self.now x c.args.wakes.now w) (sym (c.self-2.view_is ∙ same.0))
    (sym same.1)
    (goes_clear who c.args.self.now c.loop.self c.args.wakes.now c.loop.wakes clears)

pub returns-clause-quiet : goal.returns-clause-quiet
returns-clause-quiet c is =
    let same = c.ends_first.ensures.same c.loop-test.false in
    let clears : Clears c.args.self.now c.loop.self c.args.wakes.now c.loop.wakes =
    record { ends = c.loop.invariant.0; clear = c.ends_first.ensures.clear c.loop-test.false } in
    same.1
    ∙ clear_quiet c.args.self.now c.loop.self c.args.wakes.now c.loop.wakes clears
    (ap (λ (x : Boarded). x.dispatch.history) (sym (c.self-2.view_is ∙ same.0)) ∙ is)

pub loop-init : goal.loop-init
loop-init c = (nothing c.args.self.now c.args.wakes.now, c.requires)

pub loop-smaller : goal.loop-smaller
loop-smaller c =
    let ends = c.ends_first.ensures.ends c.loop-test.true in
    let grows = c.ends_first.ensures.grows c.loop-test.true in
    let space = leb-true _ _ ends.space in
    let given = ends.ends.kept.0 in
    let keeps = ends.ends.kept.1 in
    omega (arith, grows, space, given, keeps)

pub loop-preserved : goal.loop-preserved
loop-preserved c = (
  more c.args.self.now c.loop.self c.ends_first.new.self c.args.wakes.now c.loop.wakes c.ends_first.new.wakes
      c.loop.invariant.0 (c.ends_first.ensures.ends c.loop-test.true),
  c.ends_first.ensures.lives,
)

pub invariant_of-self : goal.invariant_of-self
invariant_of-self c = (
  c.self-2.invariant.0,
  c.self-2.invariant.1,
  c.self-2.invariant.2,
  c.self-2.invariant.3,
  λ h. c.is_some-self-inside.ensures ∙ ap (λ o. is_some o) c.place_with.ensures.is
      ∙ left_is_found c.ends_first.new.self
      (subst (λ (x : Boarded). HasLeft (layout_of x) (past_of_board x) x.lent) c.self-2.view_is h),
  c.self-2.invariant.5,
)
