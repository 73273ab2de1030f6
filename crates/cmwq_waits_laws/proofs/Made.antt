-- The scene that is looked at before a call that begins to wait is the scene after its entry.
use Rattle.std.proofs.Common.{◌≡◌, ◌∙◌, ◌∷◌, ◌++◌, ℕ, Bool, true, false, List, Option, Some, None, not, ap, ap₂, arith}
use Rattle.std.proofs.Common.{option_to_list, refl, sym, eq-eqb}
use Rattle.std.specs.Prelude.{if◌then◌else◌, is_some, option_and_then, option_map}
use Rattle.std.specs.Option.{option_or}
use Rattle.std.proofs.lemmas.Bool.{and_from, both_ways, true_from_ne_false}
use Rattle.cmwq_lemmas.proofs.Filters.{filter_same}
use Rattle.cmwq_lemmas.proofs.Members.{In, all_in, found, of_in}
use Rattle.cmwq_model.specs.Prelude.{IsLegal, Layout, booking, gives_ticket, is_done, is_unstarted}
use Rattle.cmwq_model.specs.Prelude.{item_called, item_fired, number_finished, number_started, opens}
use Rattle.cmwq_model.specs.Prelude.{place_wanted, queued_at, still_open, unstarted_queueing}
use Rattle.cmwq_model.specs.declared.call.Call.{Call}
use Rattle.cmwq_model.specs.declared.entry.Entry.{Entry}
use Rattle.cmwq_model.specs.declared.id.ItemId.{ItemId}
use Rattle.cmwq_model.specs.declared.id.Who.{Who}
use Rattle.cmwq_model.specs.declared.record.Booking.{Booking}
use Rattle.cmwq_model.specs.declared.record.Queueing.{Queueing}
use Rattle.cmwq_model.specs.declared.reply.Reply.{Reply}
use Rattle.cmwq_model.specs.declared.reply.Reply.TheVariants as reply
use Rattle.cmwq_theory_steps.specs.Endings.{ending, is_ended, survives}
use Rattle.cmwq_theory_steps.specs.ItemQueueings.{ended_by}
use Rattle.cmwq_model.specs.Widths.{keeps_widths}
use Rattle.cmwq_theory_steps.proofs.Causes.{Cause, cause_of}
use Rattle.cmwq_theory_steps.proofs.Causes as cause
use Rattle.cmwq_theory_steps.proofs.Endings.{open_go_on}
use Rattle.cmwq_theory_steps.proofs.EndsAsTold.{ends_as_told}
use Rattle.cmwq_theory_steps.proofs.Fresh.{unstarted_is}
use Rattle.cmwq_theory_steps.proofs.Pools.{unstarted_alone}
use Rattle.cmwq_waits.specs.Refused.{item_taken_back, queued, scene_after, stays_open as is_left}
use Rattle.cmwq_waits_laws.proofs.Staying.{is_ending}

-- ---- a reply that gives a ticket ends no run and no wait, starts nothing and sets no width

pub record IsQuiet (r : Reply) : Type 0 where
  pub finishes_none : number_finished r ≡ None
  pub starts_none : number_started r ≡ None
  pub not_done : is_done r ≡ false
  pub keeps : keeps_widths r ≡ true

pub quiet : (r : Reply) → gives_ticket r ≡ true → IsQuiet r
quiet (reply.Ticket k) h =
    record { finishes_none = refl; starts_none = refl; not_done = refl; keeps = refl }
quiet (reply.TicketQueued k) h =
    record { finishes_none = refl; starts_none = refl; not_done = refl; keeps = refl }
quiet (reply.TicketCancelled k n) h =
    record { finishes_none = refl; starts_none = refl; not_done = refl; keeps = refl }
quiet (reply.TicketUnbooked k) h =
    record { finishes_none = refl; starts_none = refl; not_done = refl; keeps = refl }
quiet (reply.TicketNo k) h =
    record { finishes_none = refl; starts_none = refl; not_done = refl; keeps = refl }
quiet r h = absurd (cc h)

-- ---- what the call takes back, and what it queues

abbrev taken : List Entry → Call → Option Queueing
taken past c = option_and_then (λ (i : ItemId). unstarted_queueing past i.0) (item_taken_back c)

ended_is : (s : Layout) (past : List Entry) (who : Who) (c : Call) (r : Reply) → Cause s past who c r
    → gives_ticket r ≡ true → ended_by past who (option_or (item_called c) (item_fired r)) r ≡ taken past c
ended_is s past who c r (cause.flushed w q free there) gives = refl
ended_is s past who c r (cause.drained w q free there) gives = refl
ended_is s past who c r (cause.destroyed w q free there alone none) gives = refl
ended_is s past who c r (cause.item_flushed w i free is) gives = refl
ended_is s past who c r (cause.delayed_queued w i free clear was) gives = refl
ended_is s past who c r (cause.delayed_flushed w i free was is) gives = refl
ended_is s past who c r (cause.sync_cancelled w i x free is) gives = refl
ended_is s past who c r (cause.sync_unbooked w i free none was) gives = sym none
ended_is s past who c r (cause.sync_waits w i free none was) gives = sym none
ended_is s past who c r other gives = absurd (cc gives)

abbrev opened_by : List Entry → Call → Reply → Option Queueing
opened_by past c r =
    if opens r then option_and_then (λ i. option_map (queued_at past i) (place_wanted past c i))
    (option_or (item_called c) (item_fired r)) else None

placed : (past : List Entry) (i : ℕ) (o : Option Booking)
    → option_map (λ (b : Booking). queued_at past i b.place) o
    ≡ option_map (queued_at past i) (option_map (λ (b : Booking). b.place) o)
placed past i None = refl
placed past i (Some b) = refl

none_booked : (past : List Entry) (i : ℕ) (o : Option Booking) → is_some o ≡ false
    → option_map (λ (b : Booking). queued_at past i b.place) o ≡ None
none_booked past i None is = refl
none_booked past i (Some b) is = absurd (cc is)

queued_is : (s : Layout) (past : List Entry) (who : Who) (c : Call) (r : Reply) → Cause s past who c r
    → gives_ticket r ≡ true → queued past c ≡ opened_by past c r
queued_is s past who c r (cause.flushed w q free there) gives = refl
queued_is s past who c r (cause.drained w q free there) gives = refl
queued_is s past who c r (cause.destroyed w q free there alone none) gives = refl
queued_is s past who c r (cause.item_flushed w i free is) gives = refl
queued_is s past who c r (cause.delayed_queued w i free clear was) gives = placed past i.0 (booking past i.0)
queued_is s past who c r (cause.delayed_flushed w i free was is) gives = none_booked past i.0 (booking past i.0) was
queued_is s past who c r (cause.sync_cancelled w i x free is) gives = refl
queued_is s past who c r (cause.sync_unbooked w i free none was) gives = refl
queued_is s past who c r (cause.sync_waits w i free none was) gives = refl
queued_is s past who c r other gives = absurd (cc gives)

-- ---- the scene

module _ (s : Layout) (past : List Entry) (e : Entry) (legal : IsLegal s (e ∷ past)) (before : IsLegal s past)
    (gives : gives_ticket e.reply ≡ true) where
  ends_taken : ending past e ≡ taken past e.call
  ends_taken =
      ends_as_told s past e legal ∙ ended_is s past e.who e.call e.reply (cause_of s past e legal) gives

  is_ended_one : (x : Queueing) → In x (still_open past) → ending past e ≡ Some x → survives past e x ≡ false
  is_ended_one x here ends = let k = found (is_ended past e) (still_open past) x ends in let is = k.1 in
      grind (arith, is)

  left_is : (x : Queueing) → In x (still_open past) → is_left past (item_taken_back e.call) x ≡ survives past e x
  left_is x here = by (item_taken_back e.call) ends_taken
    where
      of_item : (i : ItemId) (b : Bool) → is_unstarted past i.0 x ≡ b
          → ending past e ≡ unstarted_queueing past i.0 → not b ≡ survives past e x
      of_item i true is ends =
          sym (is_ended_one x here
          (ends
          ∙ of_in (λ y. is_unstarted past i.0 y ≡ true → unstarted_queueing past i.0 ≡ Some y) (still_open past) x
          (unstarted_alone s past i.0 before) here is))
      of_item i false is ends =
          sym (true_from_ne_false _ (λ gone.
          let u = unstarted_is past i.0 x (sym ends ∙ is_ending s past e legal x here gone) in
          both_ways _ is (and_from _ _ (eq-eqb x.item.0 i.0 u.item) (ap not u.not_started))))

      by : (o : Option ItemId) → ending past e ≡ option_and_then (λ (i : ItemId). unstarted_queueing past i.0) o
          → is_left past o x ≡ survives past e x
      by None ends = sym (true_from_ne_false _ (λ gone. cc (sym ends ∙ is_ending s past e legal x here gone)))
      by (Some i) ends = of_item i (is_unstarted past i.0 x) refl ends

  pub same_opened : (scene_after s past e.call).opened ≡ still_open (e ∷ past)
  same_opened =
      ap₂ (λ xs ys. xs ++ ys)
      (filter_same (is_left past (item_taken_back e.call)) (survives past e) (still_open past)
      (all_in _ (still_open past) left_is))
      (ap option_to_list (queued_is s past e.who e.call e.reply (cause_of s past e legal) gives))
      ∙ sym (open_go_on s past e legal)
