use Rattle.cmwq_base.specs.Common.{◌∙◌, refl, sym, ap, arith, subst, length, inl, inr, Whole, Cut, Long}
use Rattle.cmwq_base.specs.Common.{err_from_is_err_and, End}
use Rattle.cmwq_base.specs.declared.refusal.Refusal.TheVariants.{ReadFault, WriteFault}
use Rattle.cmwq_base.specs.Files.{as_front}
use Rattle.cmwq_base.specs.Gives.{Refuses}
use Rattle.cmwq_base.specs.Stages.{stage_of, contents_of}
use Rattle.cmwq_base.proofs.Progress.{found_so, starts, line_grows, whole_goes, whole_fails, long_fails, cut_fails}
use Rattle.cmwq_base.proofs.Progress.{cut_no_fault, cut_gives, line_alike, too_many, end_gives, makes_sound}
use Rattle.cmwq_base.proofs.Progress.{makes_version, makes_no_fault, cut_starts, cut_goes, cut_len, if_left_out}
use Rattle.cmwq_base.proofs.UsualSteps.{unchanged, usual_goes_on, went_on}
use Rattle.cmwq_base.proofs.reading.read_file.Goals as goal

pub loop-number-init : goal.loop-number-init
loop-number-init g c = record {
  progress =
      record {
        same =
            starts (as_front c.args.is_front g.G.Item.FileLine.kind) (g.S.Source.left c.args.source.now) _
            c.in_ok-lines.ensures;
        cut = cut_starts (g.S.Source.left c.args.source.now) _ c.in_ok-lines.ensures;
        count = omega arith;
        within = tt;
      };
  troubles = omega arith;
}

pub returns-in_err-advance-in-Whole-clause-exact : goal.returns-in_err-advance-in-Whole-clause-exact
returns-in_err-advance-in-Whole-clause-exact g c =
    let before =
    unchanged g.G.Item.FileLine.kind (as_front c.args.is_front g.G.Item.FileLine.kind) _ _ _ _ _ _ _
    c.in_default.not-Some c.in_ok-count.ensures c.loop-number.invariant.progress in
    let p = err_from_is_err_and c.from_residual-in_err-advance-in-Whole.result
    c.from_residual-in_err-advance-in-Whole.ensures.1 in
    let line = found_so _ _ _ _ Whole c.in-Whole.is c.in_ok-next_line.ensures.ok in
    let alike =
    line_alike c.args.is_front g.G.Item.FileLine.kind c.loop-number.number
    (stage_of g.G.Gather.layout g.G.Gather.items c.advance_usual.new.self) _ in
    rw (p.1, p.2)
    (whole_fails (as_front c.args.is_front g.G.Item.FileLine.kind) c.loop-number.number
    (stage_of g.G.Gather.layout g.G.Gather.items c.advance_usual.new.self) _ _ _ _ c.in_err-advance-in-Whole.field-0.0
    before.same
    line (subst (Refuses c.in_err-advance-in-Whole.field-0.0) (sym alike)
    (rw (← c.as_slice.ensures.value) c.in_err-advance-in-Whole.ensures)))

pub returns-in-Long-clause-exact : goal.returns-in-Long-clause-exact
returns-in-Long-clause-exact g c =
    let before =
    unchanged g.G.Item.FileLine.kind (as_front c.args.is_front g.G.Item.FileLine.kind) _ _ _ _ _ _ _
    c.in_default.not-Some c.in_ok-count.ensures c.loop-number.invariant.progress in
    long_fails (as_front c.args.is_front g.G.Item.FileLine.kind) _
    (stage_of g.G.Gather.layout g.G.Gather.items c.advance_usual.new.self) _ _ _ _ before.same
    (found_so _ _ _ _ Long c.in-Long.is c.in_ok-next_line.ensures.ok)

pub returns-in-Cut-clause-exact : goal.returns-in-Cut-clause-exact
returns-in-Cut-clause-exact g c =
    let before =
    unchanged g.G.Item.FileLine.kind (as_front c.args.is_front g.G.Item.FileLine.kind) _ _ _ _ _ _ _
    c.in_default.not-Some c.in_ok-count.ensures c.loop-number.invariant.progress in
    cut_gives (as_front c.args.is_front g.G.Item.FileLine.kind) c.loop-number.number
    (stage_of g.G.Gather.layout g.G.Gather.items c.advance_usual.new.self)
    (contents_of g.G.Gather.layout g.G.Gather.items) c.finish.result _ _ _ _
    (sym c.leaves_cut.ensures ∙ c.if-leaves_cut.true) before.same
    (found_so _ _ _ _ Cut c.in-Cut.is c.in_ok-next_line.ensures.ok) c.finish.ensures.gives

pub returns-in-Cut-clause-left_out : goal.returns-in-Cut-clause-left_out
returns-in-Cut-clause-left_out g c =
    let before =
    unchanged g.G.Item.FileLine.kind (as_front c.args.is_front g.G.Item.FileLine.kind) _ _ _ _ _ _ _
    c.in_default.not-Some c.in_ok-count.ensures c.loop-number.invariant.progress in
    if_left_out c.finish.result (λ file. file.left_out) (length c.as_slice-in-Cut.result.now)
    (g.S.Source.left c.args.source.now) c.finish.ensures.left_out
    (cut_len (g.S.Source.left c.args.source.now) _ _ _ Cut (length c.as_slice-in-Cut.result.now)
    before.cut (found_so _ _ _ _ Cut c.in-Cut.is c.in_ok-next_line.ensures.ok)
    (inl (refl, ap length c.as_slice-in-Cut.ensures.value)))

pub returns-in-End-clause-left_out : goal.returns-in-End-clause-left_out
returns-in-End-clause-left_out g c =
    let before =
    unchanged g.G.Item.FileLine.kind (as_front c.args.is_front g.G.Item.FileLine.kind) _ _ _ _ _ _ _
    c.in_default.not-Some c.in_ok-count.ensures c.loop-number.invariant.progress in
    if_left_out c.finish-in-End.result (λ file. file.left_out) 0 (g.S.Source.left c.args.source.now)
    c.finish-in-End.ensures.left_out
    (cut_len (g.S.Source.left c.args.source.now) _ _ _ End 0 before.cut
    (found_so _ _ _ _ End c.in-End.is c.in_ok-next_line.ensures.ok) (inr (refl, refl)))

pub returns-in-Cut-clause-fault : goal.returns-in-Cut-clause-fault
returns-in-Cut-clause-fault g c =
    λ is. absurd
    (makes_no_fault (contents_of g.G.Gather.layout g.G.Gather.items) c.finish.result _ ReadFault c.finish.ensures.gives
    refl
    is)

pub returns-in-Cut-clause-nothing_written : goal.returns-in-Cut-clause-nothing_written
returns-in-Cut-clause-nothing_written g c =
    makes_no_fault (contents_of g.G.Gather.layout g.G.Gather.items) c.finish.result _ WriteFault c.finish.ensures.gives
    refl

pub returns-in-Cut-clause-sound : goal.returns-in-Cut-clause-sound
returns-in-Cut-clause-sound g c =
    let before =
    unchanged g.G.Item.FileLine.kind (as_front c.args.is_front g.G.Item.FileLine.kind) _ _ _ _ _ _ _
    c.in_default.not-Some c.in_ok-count.ensures c.loop-number.invariant.progress in
    makes_sound c.args.is_front g.G.Item.FileLine.kind (contents_of g.G.Gather.layout g.G.Gather.items) c.finish.result
    c.loop-number.number (stage_of g.G.Gather.layout g.G.Gather.items c.advance_usual.new.self)
    before.within c.finish.ensures.gives

pub returns-in-Cut-clause-version : goal.returns-in-Cut-clause-version
returns-in-Cut-clause-version g c =
    let before =
    unchanged g.G.Item.FileLine.kind (as_front c.args.is_front g.G.Item.FileLine.kind) _ _ _ _ _ _ _
    c.in_default.not-Some c.in_ok-count.ensures c.loop-number.invariant.progress in
    makes_version (as_front c.args.is_front g.G.Item.FileLine.kind) (contents_of g.G.Gather.layout g.G.Gather.items)
    c.finish.result c.loop-number.number (stage_of g.G.Gather.layout g.G.Gather.items c.advance_usual.new.self)
    before.within c.finish.ensures.gives

pub returns-in-Cut-2-clause-exact : goal.returns-in-Cut-2-clause-exact
returns-in-Cut-2-clause-exact g c =
    let before =
    unchanged g.G.Item.FileLine.kind (as_front c.args.is_front g.G.Item.FileLine.kind) _ _ _ _ _ _ _
    c.in_default.not-Some c.in_ok-count.ensures c.loop-number.invariant.progress in
    cut_fails (as_front c.args.is_front g.G.Item.FileLine.kind) c.loop-number.number
    (stage_of g.G.Gather.layout g.G.Gather.items c.advance_usual.new.self) _ _ _ _ c.cut.result
    (sym c.leaves_cut.ensures ∙ c.if-leaves_cut.false) before.same
    (found_so _ _ _ _ Cut c.in-Cut-2.is c.in_ok-next_line.ensures.ok) c.cut.ensures

pub returns-in-Cut-2-clause-fault : goal.returns-in-Cut-2-clause-fault
returns-in-Cut-2-clause-fault g c =
    λ is. absurd
    (cut_no_fault c.loop-number.number (stage_of g.G.Gather.layout g.G.Gather.items c.advance_usual.new.self) c.cut.result
    ReadFault _ c.cut.ensures refl refl is)

pub returns-in-Cut-2-clause-nothing_written : goal.returns-in-Cut-2-clause-nothing_written
returns-in-Cut-2-clause-nothing_written g c =
    cut_no_fault c.loop-number.number (stage_of g.G.Gather.layout g.G.Gather.items c.advance_usual.new.self) c.cut.result
    WriteFault _ c.cut.ensures refl refl

pub returns-in-End-clause-nothing_written : goal.returns-in-End-clause-nothing_written
returns-in-End-clause-nothing_written g c =
    makes_no_fault (contents_of g.G.Gather.layout g.G.Gather.items) c.finish-in-End.result _ WriteFault
    c.finish-in-End.ensures.gives refl

pub returns-in-End-clause-exact : goal.returns-in-End-clause-exact
returns-in-End-clause-exact g c =
    let before =
    unchanged g.G.Item.FileLine.kind (as_front c.args.is_front g.G.Item.FileLine.kind) _ _ _ _ _ _ _
    c.in_default.not-Some c.in_ok-count.ensures c.loop-number.invariant.progress in
    end_gives (as_front c.args.is_front g.G.Item.FileLine.kind) c.loop-number.number
    (stage_of g.G.Gather.layout g.G.Gather.items c.advance_usual.new.self)
    (contents_of g.G.Gather.layout g.G.Gather.items) c.finish-in-End.result _ _ _ _
    before.same
    (found_so _ _ _ _ End c.in-End.is c.in_ok-next_line.ensures.ok) c.finish-in-End.ensures.gives

pub returns-in-End-clause-sound : goal.returns-in-End-clause-sound
returns-in-End-clause-sound g c =
    let before =
    unchanged g.G.Item.FileLine.kind (as_front c.args.is_front g.G.Item.FileLine.kind) _ _ _ _ _ _ _
    c.in_default.not-Some c.in_ok-count.ensures c.loop-number.invariant.progress in
    makes_sound c.args.is_front g.G.Item.FileLine.kind (contents_of g.G.Gather.layout g.G.Gather.items)
    c.finish-in-End.result c.loop-number.number (stage_of g.G.Gather.layout g.G.Gather.items c.advance_usual.new.self)
    before.within c.finish-in-End.ensures.gives

pub returns-in-End-clause-version : goal.returns-in-End-clause-version
returns-in-End-clause-version g c =
    let before =
    unchanged g.G.Item.FileLine.kind (as_front c.args.is_front g.G.Item.FileLine.kind) _ _ _ _ _ _ _
    c.in_default.not-Some c.in_ok-count.ensures c.loop-number.invariant.progress in
    makes_version (as_front c.args.is_front g.G.Item.FileLine.kind) (contents_of g.G.Gather.layout g.G.Gather.items)
    c.finish-in-End.result c.loop-number.number (stage_of g.G.Gather.layout g.G.Gather.items c.advance_usual.new.self)
    before.within c.finish-in-End.ensures.gives

pub loop-number-preserved : goal.loop-number-preserved
loop-number-preserved g c =
    let before =
    unchanged g.G.Item.FileLine.kind (as_front c.args.is_front g.G.Item.FileLine.kind) _ _ _ _ _ _ _
    c.in_default.not-Some c.in_ok-count.ensures c.loop-number.invariant.progress in
    let stage = stage_of g.G.Gather.layout g.G.Gather.items c.advance_usual.new.self in
    let next = stage_of g.G.Gather.layout g.G.Gather.items c.advance.new.self in
    let taken = line_alike c.args.is_front g.G.Item.FileLine.kind c.loop-number.number stage _
    ∙ rw c.as_slice.ensures.value at c.in_ok-advance-in-Whole.ensures in
    let grows = line_grows (as_front c.args.is_front g.G.Item.FileLine.kind) c.loop-number.number stage next _ taken in
    let line = found_so _ _ _ _ Whole c.in-Whole.is c.in_ok-next_line.ensures.ok in
    record {
      progress = record {
        same = whole_goes (as_front c.args.is_front g.G.Item.FileLine.kind) c.loop-number.number stage _ _ _ _ next
            before.same line taken;
        cut = cut_goes _ _ _ _ before.cut line;
        count = omega (arith, grows.count, before.count);
        within = grows.within before.within;
      };
      troubles = omega (arith, c.loop-number.invariant.troubles, c.in_ok-next_line.ensures.grown);
    }

pub returns-clause-exact : goal.returns-clause-exact
returns-clause-exact g c = grind (arith, too_many)

pub loop-number-preserved-in-Some : goal.loop-number-preserved-in-Some
loop-number-preserved-in-Some g c =
    let kind = g.G.Item.FileLine.kind in
    let goes = went_on kind _ _ _ _ c.in-Some.count c.in-Some.is c.in_ok-count.ensures in
    record {
      progress = rw c.consume.ensures (usual_goes_on c.args.is_front kind _ _ _ c.loop-number.number c.in-Some.count _ _
          (rw c.ahead.ensures.value at goes) c.loop-number.invariant.progress);
      troubles = c.loop-number.invariant.troubles;
    }
