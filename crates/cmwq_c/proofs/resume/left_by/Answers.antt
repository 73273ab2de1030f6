-- What was read is a legal history, whose calls the state at its end says; or its first wrong entry stands in a line.
use Rattle.std.proofs.Common.{rules, ◌≡◌, ◌∙◌, ◌+◌, ◌<◌, List, Ok, true, ap, ap₂, length, map, subst, nat_le, if◌then◌else◌}
use Rattle.std.specs.Prelude.{IfErr, OnOk}
use Rattle.cmwq_base.specs.Files.{File}
use Rattle.cmwq_base.specs.Kinds.{front_file_of}
use Rattle.cmwq_model.specs.Prelude.{IsFirstWrong, IsLegal, Layout, is_layout, layout_of, past_of}
use Rattle.cmwq_model.specs.declared.entry.Entry.{Entry}
use Rattle.cmwq_model.specs.declared.id.CallerId.{CallerId}
use Rattle.cmwq_resume.specs.Leavings.{is_again}
use Rattle.cmwq_resume.specs.Plays.{IsTakenOver}
use Rattle.cmwq_resume.specs.Resume.{resume_calls}
use Rattle.cmwq_c.specs.Resumed.{calls_left, first_calls_numbers, is_set}
use Rattle.cmwq_c.proofs.Resumed.{is_resumed}
use Rattle.cmwq_c.proofs.resume.left_by.Goals as goal

pub returns-in-Ok-2-clause-left : goal.returns-in-Ok-2-clause-left
returns-in-Ok-2-clause-left c =
    let all = c.in-Ok.file.all in
    let f : File Entry = record { version = c.in-Ok.file.version; layout = all.layout; items = all.entries } in
    let set = map is_set c.args.left_out.now in
    let state = c.state.result.now in
    let made = c.in_ok-calls-in-Ok-2.calls.items in
    let read : front_file_of true c.args.text.now ≡ Ok f =
    subst (λ t. front_file_of true t ≡ Ok f) c.reader-input.ensures.bytes c.in-Ok.ensures.exact in
    let legal : IsLegal f.layout (past_of f.items) =
    subst (λ v. OnOk v (IsLegal f.layout (past_of f.items))) c.in-Ok-2.is c.in_ok-legal.ensures.legal in
    let inside : is_layout f.layout ≡ true =
    subst (λ (s : Layout). is_layout s ≡ true) c.shape.ensures c.counts-counts.ensures.limits in
    let is_shape : layout_of c.counts-counts.result f.layout.queues ≡ f.layout =
    subst (λ (s : Layout). layout_of c.counts-counts.result s.queues ≡ s) c.shape.ensures
    c.counts-counts.ensures.counts in
    let many : length c.queues-queues.result.now ≡ length f.layout.queues =
    ap length c.queues-queues.ensures ∙ ap (λ (s : Layout). length s.queues) c.shape-2.ensures in
    let layout : state.layout ≡ f.layout = search rules in
    let entries : state.entries ≡ f.items = search rules in
    let flags : c.deref.result.now ≡ set = c.deref.ensures.value ∙ c.in_ok-flags.ensures in
    let calls : made ≡ calls_left c.args.left_out.now f =
    c.in_ok-calls-in-Ok-2.ensures.calls
    ∙ ap (λ d. resume_calls state.layout (is_again d) (past_of state.entries)) flags
    ∙ ap₂ (λ s es. resume_calls s (is_again set) (past_of es)) layout entries in
    let over : (k : CallerId) → k.0 < f.layout.callers
    → IsTakenOver f.layout k (is_again set) (past_of f.items) made =
    subst (λ (s : Layout). (k : CallerId) → k.0 < s.callers → IsTakenOver s k (is_again set) (past_of f.items) made)
    layout
    (subst (λ (es : List Entry). (k : CallerId) → k.0 < state.layout.callers
    → IsTakenOver state.layout k (is_again set) (past_of es) made) entries
    (subst (λ d. (k : CallerId) → k.0 < state.layout.callers
    → IsTakenOver state.layout k (is_again d) (past_of state.entries) made) flags
    c.in_ok-calls-in-Ok-2.ensures.taken_over)) in
    let numbers = c.in_ok-numbers_of-in-Ok-2.ensures ∙ ap (map first_calls_numbers) c.deref-in-Ok-2.ensures.value in
    is_resumed c.args.text.now c.args.left_out.now f c.counts-counts.result c.shape_numbers.result
    (length c.queues-queues.result.now) made c.in_ok-numbers_of-in-Ok-2.field-0.items read inside legal is_shape
    c.shape_numbers.ensures.counts c.shape_numbers.ensures.keep many calls over numbers

pub returns-clause-why : goal.returns-clause-why
returns-clause-why c =
    let all = c.in-Ok.file.all in
    let f : File Entry = record { version = c.in-Ok.file.version; layout = all.layout; items = all.entries } in
    let i = c.in-Err-2.illegal in
    let read : front_file_of true c.args.text.now ≡ Ok f =
    subst (λ t. front_file_of true t ≡ Ok f) c.reader-input.ensures.bytes c.in-Ok.ensures.exact in
    let first : IsFirstWrong f.layout f.items i =
    subst (λ v. IfErr v (IsFirstWrong f.layout f.items)) c.in-Err-2.is c.in_ok-legal.ensures.wrong in
    let many : length c.queues-queues.result.now ≡ length f.layout.queues =
    ap length c.queues-queues.ensures ∙ ap (λ (s : Layout). length s.queues) c.shape-2.ensures in
    let line = c.line_of_entry.ensures ∙ ap (λ n. (if nat_le 2 f.version then 3 else 2) + n + i.at) many in
    record { file = f; read = read; illegal = i; first = first; line_is = line }
