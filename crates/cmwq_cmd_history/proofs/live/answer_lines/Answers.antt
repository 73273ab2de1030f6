use Rattle.cmwq_cmd_history.specs.Common.{◌≡◌, ◌⊎◌, inl, inr, ap, ◌≤◌, ◌<◌, ◌∙◌, ◌^◌, ◌-◌, Bool, true, false, Ok, Err}
use Rattle.cmwq_cmd_history.specs.Common.{nat_lt, refl, arith, ℕ, MatchBool, ltb-true, nat_tests, err_from_is_err_and}
use Rattle.cmwq_cmd_history.specs.Common.{Whole, Cut, Long, End, calls_kind, stage_of, contents_of, found_so}
use Rattle.cmwq_cmd_history.specs.Common.{whole_fails, long_fails, cut_fails, cut_no_fault, end_gives, too_many}
use Rattle.cmwq_io.specs.Counts.{Rises}
use Rattle.cmwq_base.specs.declared.refusal.Refusal.TheVariants.{ReadFault, WriteFault}
use Rattle.cmwq_cmd_history.specs.Live.{Stepped}
use Rattle.cmwq_cmd_history.proofs.Living.{lives, lives_on, ends_for_memory, ends_at_read_fault, ends_refused}
use Rattle.cmwq_cmd_history.proofs.Living.{ends_too_long, ends_without_shape, ends_cut_short, ends_full}
use Rattle.cmwq_cmd_history.proofs.Living.{ends_written_in_part, ends_whole, ends_whole_in_part}
use Rattle.cmwq_cmd_history.proofs.live.answer_lines.Goals as goal

-- a count that hasn't fallen, and then rises
rises_then : (a b c : ℕ) → a ≤ b → Rises b c → Rises a c
rises_then a b c le r =
    record { grown = omega (arith, le, r.grown); more = λ lt. by_end (nat_lt b (2 ^ 64 - 1)) refl lt }
  where
    by_end : (below : Bool) → nat_lt b (2 ^ 64 - 1) ≡ below → a < 2 ^ 64 - 1 → a < c
    by_end true is lt = let more = r.more (ltb-true b (2 ^ 64 - 1) is) in omega (arith, le, more)
    by_end false is lt = let grown = r.grown in grind (arith, nat_tests)

-- after a step that flushed, or left the output as it was, the output is flushed or as it was at first
still_flushed : {O : Type 0} (held : O → ℕ) (first before after : O) → (held after ≡ 0) ⊎ (after ≡ before)
    → (held before ≡ 0) ⊎ (before ≡ first) → (held after ≡ 0) ⊎ (after ≡ first)
still_flushed held first before after (inl now) was = inl now
still_flushed held first before after (inr same) (inl flushed) = inl (ap held same ∙ flushed)
still_flushed held first before after (inr same) (inr was) = inr (same ∙ was)

chosen_so : (A B : Type 0) (b : Bool) → b ≡ true → MatchBool b A B → A
chosen_so A B true is h = h
chosen_so A B false is h = cc

refused_so : (A B : Type 0) (b : Bool) → b ≡ false → MatchBool b A B → B
refused_so A B true is h = cc
refused_so A B false is h = h

pub returns-in_err-lines-clause-ends : goal.returns-in_err-lines-clause-ends
returns-in_err-lines-clause-ends g c =
    let p = err_from_is_err_and c.from_residual.result c.from_residual.ensures.1 in
    rw (p.1, p.2)
    (ends_for_memory _ _ 1 _ _ _
    (lives (g.S.Source.left c.args.input.now) _ (g.O.Sink.written c.args.output.now) refl))

pub loop-number-init : goal.loop-number-init
loop-number-init g c =
    record {
      living =
          rw c.requires
          (lives (g.S.Source.left c.args.input.now) _ (g.O.Sink.written c.args.output.now) c.in_ok-lines.ensures);
      flushed =
          inr refl;
      reads = omega arith;
      writes = omega arith;
    }

pub returns-in_err-next_line-clause-ends : goal.returns-in_err-next_line-clause-ends
returns-in_err-next_line-clause-ends g c =
    let p = err_from_is_err_and c.from_residual-in_err-next_line.result c.from_residual-in_err-next_line.ensures.1 in
    rw (p.1, p.2) (ends_at_read_fault _ _ c.loop-number.number _ _ _ c.loop-number.invariant.living)

pub returns-in_err-next_line-clause-read_fault : goal.returns-in_err-next_line-clause-read_fault
returns-in_err-next_line-clause-read_fault g c =
    λ is. rises_then _ _ _ c.loop-number.invariant.reads c.in_err-next_line.ensures.fault

pub returns-in_err-now-in-Whole-clause-ends : goal.returns-in_err-now-in-Whole-clause-ends
returns-in_err-now-in-Whole-clause-ends g c =
    let p = err_from_is_err_and c.from_residual-in_err-now-in-Whole.result
    c.from_residual-in_err-now-in-Whole.ensures.1 in
    let stage = stage_of (λ s. s.layout) (λ s. s.calls) c.loop-number.stage in
    let e = c.in_err-now-in-Whole.field-0.0 in
    let living = c.loop-number.invariant.living in
    let line = found_so _ _ _ _ Whole c.in-Whole.is c.in_ok-next_line.ensures.ok in
    rw (p.1, p.2)
    (ends_refused _ _ c.loop-number.number stage _ _ living _ _ e line
    (rw (← c.as_slice.ensures.value, ← c.replace.ensures.value) c.in_err-now-in-Whole.ensures)
    (whole_fails calls_kind c.loop-number.number stage _ _ _ _ e living.progress.same line
    (rw (← c.as_slice.ensures.value, ← c.replace.ensures.value) c.in_err-now-in-Whole.ensures)))

pub returns-in_err-answer-in-Whole-clause-ends : goal.returns-in_err-answer-in-Whole-clause-ends
returns-in_err-answer-in-Whole-clause-ends g c =
    let p = err_from_is_err_and c.from_residual-in_err-answer-in-Whole.result
    c.from_residual-in_err-answer-in-Whole.ensures.1 in
    let stage = stage_of (λ s. s.layout) (λ s. s.calls) c.loop-number.stage in
    let next = stage_of (λ s. s.layout) (λ s. s.calls) c.replace-in-Whole.new.dest in
    let line = found_so _ _ _ _ Whole c.in-Whole.is c.in_ok-next_line.ensures.ok in
    let taken =
    rw (c.as_slice.ensures.value, c.replace.ensures.value, ← c.replace-in-Whole.ensures.after) at
    c.in_ok-now-in-Whole.ensures in
    rw (p.1, p.2 ∙ c.in_err-answer-in-Whole.ensures.only)
    (ends_written_in_part _ _ c.loop-number.number stage _ _ c.loop-number.invariant.living _ _ next _ line taken
    c.in_err-answer-in-Whole.ensures.err)

pub returns-in_err-answer-in-Whole-clause-write_fault : goal.returns-in_err-answer-in-Whole-clause-write_fault
returns-in_err-answer-in-Whole-clause-write_fault g c =
    λ is. rises_then _ _ _ c.loop-number.invariant.writes c.in_err-answer-in-Whole.ensures.fault

pub returns-then-not-branch-clause-ends : goal.returns-then-not-branch-clause-ends
returns-then-not-branch-clause-ends g c =
    let stage = stage_of (λ s. s.layout) (λ s. s.calls) c.loop-number.stage in
    let next = stage_of (λ s. s.layout) (λ s. s.calls) c.replace-in-Whole.new.dest in
    let line = found_so _ _ _ _ Whole c.in-Whole.is c.in_ok-next_line.ensures.ok in
    let taken =
    rw (c.as_slice.ensures.value, c.replace.ensures.value, ← c.replace-in-Whole.ensures.after) at
    c.in_ok-now-in-Whole.ensures in
    let full =
    refused_so _ _ c.in_ok-answer-in-Whole.field-0 c.if-not-branch.true c.in_ok-answer-in-Whole.ensures.answered in
    let same =
    refused_so _ _ c.in_ok-answer-in-Whole.field-0 c.if-not-branch.true c.in_ok-answer-in-Whole.ensures.written in
    rw same (ends_full _ _ c.loop-number.number stage _ _ c.loop-number.invariant.living _ _ next line taken full)

pub returns-in-Long-clause-ends : goal.returns-in-Long-clause-ends
returns-in-Long-clause-ends g c =
    let stage = stage_of (λ s. s.layout) (λ s. s.calls) c.loop-number.stage in
    let living = c.loop-number.invariant.living in
    let line = found_so _ _ _ _ Long c.in-Long.is c.in_ok-next_line.ensures.ok in
    ends_too_long _ _ c.loop-number.number stage _ _ living _ _ line
    (long_fails calls_kind c.loop-number.number stage _ _ _ _ living.progress.same line)

pub returns-in-Cut-clause-ends : goal.returns-in-Cut-clause-ends
returns-in-Cut-clause-ends g c =
    let stage = stage_of (λ s. s.layout) (λ s. s.calls) c.loop-number.stage in
    let living = c.loop-number.invariant.living in
    let line = found_so _ _ _ _ Cut c.in-Cut.is c.in_ok-next_line.ensures.ok in
    ends_cut_short _ _ c.loop-number.number stage _ _ living _ _ c.cut.result c.cut.ensures line
    (cut_fails calls_kind c.loop-number.number stage _ _ _ _ c.cut.result refl living.progress.same line
    c.cut.ensures)

pub returns-in-Cut-clause-read_fault : goal.returns-in-Cut-clause-read_fault
returns-in-Cut-clause-read_fault g c =
    λ is. absurd
    (cut_no_fault c.loop-number.number (stage_of (λ s. s.layout) (λ s. s.calls) c.loop-number.stage) c.cut.result
    ReadFault _ c.cut.ensures refl refl is)

pub returns-in-Cut-clause-write_fault : goal.returns-in-Cut-clause-write_fault
returns-in-Cut-clause-write_fault g c =
    λ is. absurd
    (cut_no_fault c.loop-number.number (stage_of (λ s. s.layout) (λ s. s.calls) c.loop-number.stage) c.cut.result
    WriteFault _ c.cut.ensures refl refl is)

pub returns-in_err-file-in-End-clause-ends : goal.returns-in_err-file-in-End-clause-ends
returns-in_err-file-in-End-clause-ends g c =
    let p = err_from_is_err_and c.from_residual-in_err-file-in-End.result
    c.from_residual-in_err-file-in-End.ensures.1 in
    let stage = stage_of (λ s. s.layout) (λ s. s.calls) c.loop-number.stage in
    let e = c.in_err-file-in-End.field-0.0 in
    let living = c.loop-number.invariant.living in
    let line = found_so _ _ _ _ End c.in-End.is c.in_ok-next_line.ensures.ok in
    let gives =
    end_gives calls_kind c.loop-number.number stage
    (contents_of (λ (s : Stepped). s.layout) (λ (s : Stepped). s.calls)) (Err e) _ _ _ _ living.progress.same line
    (rw c.replace-in-End.ensures.value at c.in_err-file-in-End.ensures.gives) in
    rw (p.1, p.2)
    (ends_without_shape _ _ c.loop-number.number stage _ _ living _ _ e line
    (rw c.replace-in-End.ensures.value at c.in_err-file-in-End.ensures.gives) gives)

pub returns-in_err-written-in-End-clause-ends : goal.returns-in_err-written-in-End-clause-ends
returns-in_err-written-in-End-clause-ends g c =
    let p = err_from_is_err_and c.from_residual-in_err-written-in-End.result
    c.from_residual-in_err-written-in-End.ensures.1 in
    let stage = stage_of (λ s. s.layout) (λ s. s.calls) c.loop-number.stage in
    let living = c.loop-number.invariant.living in
    let view = contents_of (λ s. s.layout) (λ s. s.calls) in
    let line = found_so _ _ _ _ End c.in-End.is c.in_ok-next_line.ensures.ok in
    let read =
    end_gives calls_kind c.loop-number.number stage view (Ok c.in_ok-file-in-End.file) _ _ _ _ living.progress.same
    line (rw c.replace-in-End.ensures.value at c.in_ok-file-in-End.ensures.gives) in
    rw (p.1, p.2 ∙ c.in_err-written-in-End.ensures.only)
    (ends_whole_in_part _ _ c.loop-number.number stage _ _ living (view c.in_ok-file-in-End.file) _
    (rw c.replace-in-End.ensures.value at c.in_ok-file-in-End.ensures.gives) read
    (rw c.max.ensures at c.in_err-written-in-End.ensures.err))

pub returns-in_err-written-in-End-clause-write_fault : goal.returns-in_err-written-in-End-clause-write_fault
returns-in_err-written-in-End-clause-write_fault g c =
    λ is. rises_then _ _ _ c.loop-number.invariant.writes c.in_err-written-in-End.ensures.fault

pub returns-in-End-clause-ends : goal.returns-in-End-clause-ends
returns-in-End-clause-ends g c =
    let stage = stage_of (λ s. s.layout) (λ s. s.calls) c.loop-number.stage in
    let living = c.loop-number.invariant.living in
    let view = contents_of (λ s. s.layout) (λ s. s.calls) in
    let line = found_so _ _ _ _ End c.in-End.is c.in_ok-next_line.ensures.ok in
    let read =
    end_gives calls_kind c.loop-number.number stage view (Ok c.in_ok-file-in-End.file) _ _ _ _ living.progress.same
    line (rw c.replace-in-End.ensures.value at c.in_ok-file-in-End.ensures.gives) in
    ends_whole _ _ c.loop-number.number stage _ _ living (view c.in_ok-file-in-End.file) _
    (rw c.replace-in-End.ensures.value at c.in_ok-file-in-End.ensures.gives) read
    (rw c.max.ensures at c.in_ok-written-in-End.ensures.ok)

pub loop-number-preserved : goal.loop-number-preserved
loop-number-preserved g c =
    let stage = stage_of (λ s. s.layout) (λ s. s.calls) c.loop-number.stage in
    let next = stage_of (λ s. s.layout) (λ s. s.calls) c.replace-in-Whole.new.dest in
    let line = found_so _ _ _ _ Whole c.in-Whole.is c.in_ok-next_line.ensures.ok in
    let taken =
    rw (c.as_slice.ensures.value, c.replace.ensures.value, ← c.replace-in-Whole.ensures.after) at
    c.in_ok-now-in-Whole.ensures in
    let room =
    chosen_so _ _ c.in_ok-answer-in-Whole.field-0 c.if-not-branch.false c.in_ok-answer-in-Whole.ensures.answered in
    let new =
    chosen_so _ _ c.in_ok-answer-in-Whole.field-0 c.if-not-branch.false c.in_ok-answer-in-Whole.ensures.written in
    record {
      flushed =
          still_flushed g.O.Sink.held _ _ _ c.in_ok-answer-in-Whole.ensures.flushed c.loop-number.invariant.flushed;
      living = lives_on _ _ c.loop-number.number stage _ _ c.loop-number.invariant.living _ _ next _ line taken room
          new;
      reads = omega (arith, c.loop-number.invariant.reads, c.in_ok-next_line.ensures.grown);
      writes = omega (arith, c.loop-number.invariant.writes, c.in_ok-answer-in-Whole.ensures.grown);
    }

pub returns-clause-ends : goal.returns-clause-ends
returns-clause-ends g c =
    let progress = c.loop-number.invariant.living.progress in
    absurd (too_many calls_kind c.loop-number.number (stage_of (λ s. s.layout) (λ s. s.calls) c.loop-number.stage)
    (omega arith) progress.count progress.within)
