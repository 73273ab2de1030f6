use Rattle.cmwq_resume.specs.Common.{◌≡◌, ◌∙◌, ◌++◌, ap, filter, is_frozen, map, max_active, now, standing_bookings}
use Rattle.cmwq_resume.specs.Common.{has_not_started, still_open, subst, sym, true}
use Rattle.std.proofs.lemmas.List.Elements.{All-from_recursion}
use Rattle.cmwq_model.specs.Prelude.{Layout, is_layout, past_of}
use Rattle.cmwq_resume.specs.Leavings.{IsWithin, is_again}
use Rattle.cmwq_resume.specs.Plays.{IsTakenOver}
use Rattle.cmwq_resume.specs.Resume.{by_due, first_calls, freeze_calls, gone_queues, is_broken_off, is_due, is_later}
use Rattle.cmwq_resume.specs.Resume.{queue_call}
use Rattle.cmwq_resume.proofs.Pushed.{assembled}
use Rattle.cmwq_resume.proofs.Soon.{later_within}
use Rattle.cmwq_resume.proofs.Taken.{taken_over}
use Rattle.cmwq_resume.proofs.calls.resume_calls.Goals as goal

pub push_bookings-requires : goal.push_bookings-requires
push_bookings-requires c =
    let past = past_of c.args.state.now.entries in
    let all =
    All-from_recursion (IsWithin (now past)) (filter (is_later past) (standing_bookings past))
    (later_within c.args.state.now.layout past c.len-len.ensures.legal c.requires.ticks) in
    rw (c.deref-4.ensures.value, c.in_ok-rest.ensures, c.time.ensures.time) all

pub returns-clause-calls : goal.returns-clause-calls
returns-clause-calls c =
    let s = c.args.state.now.layout in
    let past = past_of c.args.state.now.entries in
    let again = is_again c.args.left_out.now in
    let ws = first_calls s (max_active s past) in
    assembled (now past) ws (freeze_calls (is_frozen past)) (gone_queues s past)
    (filter (is_broken_off again past) (still_open past)) (filter (has_not_started past) (still_open past))
    (by_due (filter (is_due past) (standing_bookings past))) (filter (is_later past) (standing_bookings past)) _ _ _ _ _
    _
    (c.in_ok-push_widths.ensures ∙ ap (λ l. l ++ ws) c.new-calls.ensures.items) c.in_ok-push_all_gone.ensures
    c.in_ok-push_freeze.ensures
    (c.in_ok-push_queues.ensures
    ∙ ap (λ l. c.push_freeze.new.calls.items ++ map queue_call l) (c.deref.ensures.value ∙ c.in_ok-broken_off.ensures))
    (c.in_ok-push_queues-2.ensures
    ∙ ap (λ l. c.push_queues.new.calls.items ++ map queue_call l) (c.deref-2.ensures.value ∙ c.in_ok-waiting.ensures))
    (rw (
      c.deref-3.ensures.value ∙ c.in_ok-due.ensures,
      c.deref-4.ensures.value ∙ c.in_ok-rest.ensures,
      c.time.ensures.time,
    ) at c.in_ok-push_bookings.ensures)

pub returns-clause-taken_over : goal.returns-clause-taken_over
returns-clause-taken_over c =
    let s = c.args.state.now.layout in
    let past = past_of c.args.state.now.entries in
    let again = is_again c.args.left_out.now in
    let ok = subst (λ (x : Layout). is_layout x ≡ true) c.requires.shape c.counts-items.ensures.limits in
    λ caller less. subst (IsTakenOver s caller again past) (sym (returns-clause-calls c))
    (taken_over s caller again past ok less c.len-len.ensures.legal)
