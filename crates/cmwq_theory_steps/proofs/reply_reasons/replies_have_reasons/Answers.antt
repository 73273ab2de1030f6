use Rattle.cmwq_theory_steps.proofs.Causes.{cause_of}
use Rattle.cmwq_theory_steps.proofs.Reasons.{start_reason, finish_reason, sleep_reason, wake_reason, retire_reason}
use Rattle.cmwq_theory_steps.proofs.Reasons.{queue_reason, again_reason, book_reason, rebook_reason}
use Rattle.cmwq_theory_steps.proofs.Reasons.{flush_delayed_reason, cancel_reason, unbook_reason, done_reason}
use Rattle.cmwq_theory_steps.proofs.Reasons.{tick_reason, legal_fits, ticket_reason}
use Rattle.cmwq_theory_steps.proofs.Standing.{fire_reason}
use Rattle.cmwq_theory_steps.proofs.reply_reasons.replies_have_reasons.Goals as goal

pub returns : goal.returns
returns c = record {
  starts_are_next = λ s past e legal n h. start_reason s past e.who e.call e.reply n (cause_of s past e legal) h;
  finishes_are_runs = λ s past e legal n h. finish_reason s past e.who e.call e.reply n (cause_of s past e legal) h;
  sleepers_are_awake = λ s past e legal h. sleep_reason s past e.who e.call e.reply (cause_of s past e legal) h;
  wakers_are_asleep = λ s past e legal h. wake_reason s past e.who e.call e.reply (cause_of s past e legal) h;
  retirers_may_retire = λ s past e legal h. retire_reason s past e.who e.call e.reply (cause_of s past e legal) h;
  queued_were_idle = λ s past e legal k h. queue_reason s past e.who e.call e.reply k (cause_of s past e legal) h;
  queued_again_were_pending =
      λ s past e legal k h. again_reason s past e.who e.call e.reply k (cause_of s past e legal) h;
  booked_were_idle = λ s past e legal d h. book_reason s past e.who e.call e.reply d (cause_of s past e legal) h;
  rebooked_were_pending = λ s past e legal d h. rebook_reason s past e.who e.call e.reply d (cause_of s past e legal) h;
  flushed_delayed_were_booked =
      λ s past e legal k h. flush_delayed_reason s past e.who e.call e.reply k (cause_of s past e legal) h;
  cancelled_were_unstarted =
      λ s past e legal n h. cancel_reason s past e.who e.call e.reply n (cause_of s past e legal) h;
  unbooked_were_booked = λ s past e legal h. unbook_reason s past e.who e.call e.reply (cause_of s past e legal) h;
  done_are_ready = λ s past e legal h. done_reason s past e.who e.call e.reply (cause_of s past e legal) h;
  ticks_tell_now = λ s past e legal d h. tick_reason s past e.who e.call e.reply d (cause_of s past e legal) h;
  fired_are_due = λ s past e legal i k h. fire_reason s past e.who e.call e.reply i k (cause_of s past e legal) h;
  tickets_are_for_callers =
      λ s past e legal h. ticket_reason s past e.who e.call e.reply (legal_fits s past e legal)
      (cause_of s past e legal) h;
}
