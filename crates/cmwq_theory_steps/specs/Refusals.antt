-- Entries that change nothing: what a call is refused with, and misuse among it.
use Rattle.std.specs.Prelude.{◌≡◌, ◌<◌, ◌∷◌}
use Rattle.cmwq_theory_steps.specs.Common.{ℕ, Bool, true, false, List, [], length, None, PoolId, WorkerId, Reply, Entry}
use Rattle.cmwq_theory_steps.specs.Common.{Queueing, Layout, now, booking, booking_of, run, item_run, is_asleep}
use Rattle.cmwq_theory_steps.specs.Common.{queueings, opening, still_open, unstarted_queueing, run_queue, is_frozen}
use Rattle.cmwq_theory_steps.specs.Common.{max_active, width, is_active, newly_active, worklist, next, is_enlisted}
use Rattle.cmwq_theory_steps.specs.Common.{unended_tickets, ticket_in, is_gone, bits, owed}
use Rattle.cmwq_model.specs.declared.reply.Reply.TheVariants as reply
use Rattle.cmwq_theory_steps.specs.Histories.{OfEntries}
use Rattle.cmwq_theory_steps.specs.Places.{active_count}
use Rattle.cmwq_theory_steps.specs.Endings.{ending}
use Rattle.cmwq_theory_steps.specs.TicketSteps.{ticket_ended}
use Rattle.cmwq_theory_steps.specs.Waiting.{waiting_queueings}

abbrev pub is_refusal : Reply → Bool
is_refusal reply.Misuse = true
is_refusal reply.No = true
is_refusal reply.Foreign = true
is_refusal reply.Draining = true
is_refusal reply.Nothing = true
is_refusal reply.Idle = true
is_refusal reply.Crowded = true
is_refusal (reply.Waiting n) = true
is_refusal reply.Held = true
is_refusal reply.Kept = true
is_refusal reply.Gone = true
is_refusal reply.Timers = true
is_refusal r = false

-- the entry ends, opens, books, gives and activates nothing
pub record DoesNothing (s : Layout) (past : List Entry) (e : Entry) : Type 0 where
  pub ended : ending past e ≡ None
  pub opened : opening past e ≡ None
  pub booked : booking_of e (length past) ≡ None
  pub done : ticket_ended past e ≡ None
  pub given : ticket_in e (length past) ≡ None
  pub newly : newly_active s past e ≡ []

-- and each word after it is the word before it
pub record ChangesNothing (s : Layout) (past : List Entry) (e : Entry) : Type 0 where
  pub queueings : queueings (e ∷ past) ≡ queueings past
  pub open_ones : still_open (e ∷ past) ≡ still_open past
  pub active : (x : Queueing) → x.number < length past → is_active s (e ∷ past) x ≡ is_active s past x
  pub active_count : (q c : ℕ) → active_count s (e ∷ past) q c ≡ active_count s past q c
  pub waiting : waiting_queueings s (e ∷ past) ≡ waiting_queueings s past
  pub worklists : (p : PoolId) → worklist s (e ∷ past) p ≡ worklist s past p
  pub next : (p : PoolId) → next s (e ∷ past) p ≡ next s past p
  pub unstarted : (i : ℕ) → unstarted_queueing (e ∷ past) i ≡ unstarted_queueing past i
  pub booking : (i : ℕ) → booking (e ∷ past) i ≡ booking past i
  pub bits : (i : ℕ) → bits (e ∷ past) i ≡ bits past i
  pub item_run : (i : ℕ) → item_run (e ∷ past) i ≡ item_run past i
  pub run : (w : WorkerId) → run (e ∷ past) w ≡ run past w
  pub run_queue : (w : WorkerId) → run_queue (e ∷ past) w ≡ run_queue past w
  pub asleep : (w : WorkerId) → is_asleep (e ∷ past) w ≡ is_asleep past w
  pub enlisted : (w : WorkerId) → is_enlisted (e ∷ past) w ≡ is_enlisted past w
  pub unended : unended_tickets (e ∷ past) ≡ unended_tickets past
  pub gone : (q : ℕ) → is_gone (e ∷ past) q ≡ is_gone past q
  pub frozen : is_frozen (e ∷ past) ≡ is_frozen past
  pub max_active : (q : ℕ) → max_active s (e ∷ past) q ≡ max_active s past q
  pub width : (q : ℕ) → width s (e ∷ past) q ≡ width s past q
  pub time : now (e ∷ past) ≡ now past
  pub owed : owed s (e ∷ past) ≡ owed s past

abbrev pub RefusalsDoNothing : Type 0
RefusalsDoNothing = OfEntries (λ s past e. is_refusal e.reply ≡ true → DoesNothing s past e)

abbrev pub RefusalsChangeNothing : Type 0
RefusalsChangeNothing = OfEntries (λ s past e. is_refusal e.reply ≡ true → ChangesNothing s past e)
