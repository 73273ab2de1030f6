-- Once no active queueing is open and callers only end tickets, what is open stays as it is.
use Rattle.std.proofs.Common.{◌≡◌, ◌∙◌, ◌∷◌, ◌++◌, Bool, List, None, Option, Some, ℕ, ap, append-nil, ap₂, arith}
use Rattle.std.proofs.Common.{count_by, false, not, option_to_list, refl, subst, sym, true, []}
use Rattle.std.specs.Prelude.{◌&&◌, ◌||◌, if◌then◌else◌, IsTrue, is_some, nat_lt, option_and_then, option_map}
use Rattle.std.proofs.lemmas.Bool.{both_ways}
use Rattle.cmwq_lemmas.proofs.Lists.{filter_all, find_none}
use Rattle.cmwq_lemmas.proofs.Members.{In, all_in, contained_in, in_contained, of_in}
unfoldable use Rattle.cmwq_model.specs.Prelude.{IsLegal, answer, cancel_answer}
use Rattle.cmwq_model.specs.Prelude.{Layout, fits, has_run, is_ahead, is_below_max_active, is_booked, is_live}
use Rattle.cmwq_model.specs.Prelude.{is_workers, item_of, may_call, opening, opens, place_wanted, queued_at}
use Rattle.cmwq_model.specs.Prelude.{queueing_at, run, runs_awake, still_open, taken_back_answer, unstarted_queueing}
use Rattle.cmwq_model.specs.Widths.{keeps_widths}
use Rattle.cmwq_model.specs.declared.call.Call.{Call}
use Rattle.cmwq_model.specs.declared.call.Call.TheVariants as call
use Rattle.cmwq_model.specs.declared.entry.Entry.{Entry}
use Rattle.cmwq_model.specs.declared.id.CallerId.{CallerId}
use Rattle.cmwq_model.specs.declared.id.ItemId.{ItemId}
use Rattle.cmwq_model.specs.declared.id.Who.{Who}
use Rattle.cmwq_model.specs.declared.id.Who.TheVariants.{Caller, Worker}
use Rattle.cmwq_model.specs.declared.id.WorkerId.{WorkerId}
use Rattle.cmwq_model.specs.declared.record.Queueing.{Queueing}
use Rattle.cmwq_model.specs.declared.reply.Reply.{Reply}
use Rattle.cmwq_model.specs.declared.reply.Reply.TheVariants as reply
use Rattle.cmwq_theory_steps.specs.Endings.{ending, is_ended, survives}
use Rattle.cmwq_theory_steps.specs.ItemQueueings.{ended_by, queueing_run}
use Rattle.cmwq_theory_steps.proofs.Causes as cause
use Rattle.cmwq_theory_steps.proofs.Causes.{Cause, cause_of}
use Rattle.cmwq_theory_steps.proofs.Endings.{open_go_on}
use Rattle.cmwq_theory_steps.proofs.EndsAsTold.{ends_as_told}
use Rattle.cmwq_theory_steps.proofs.Joined.{active_go_on}
use Rattle.cmwq_theory_steps.proofs.Reasons.{legal_fits}
use Rattle.cmwq_theory_steps.proofs.RunsActive.{run_is_active}
use Rattle.cmwq_theory_steps.proofs.Widths.{width_same}
use Rattle.cmwq_theory_wakes.specs.Readiness.{is_unready}
use Rattle.cmwq_theory_wakes.proofs.Readiness.{released_by}
use Rattle.cmwq_waits.proofs.Running.{is_running}
use Rattle.cmwq_waiting.specs.Rest.{NoneActive, OverStaysOver, UnreadyStayUnready, ends_ticket}
use Rattle.cmwq_waiting.proofs.Rest.{not_below}

-- ---- replies that leave alone what is open

abbrev may_end : Reply → Bool
may_end (reply.Finished n) = true
may_end (reply.Cancelled n) = true
may_end (reply.TicketCancelled k n) = true
may_end (reply.Again k) = true
may_end (reply.Rebooked d) = true
may_end r = false

none_ends : (past : List Entry) (who : Who) (o : Option ℕ) (r : Reply) → may_end r ≡ false
    → ended_by past who o r ≡ None
none_ends past who o (reply.Finished n) h = absurd (cc h)
none_ends past who o (reply.Cancelled n) h = absurd (cc h)
none_ends past who o (reply.TicketCancelled k n) h = absurd (cc h)
none_ends past who o (reply.Again k) h = absurd (cc h)
none_ends past who o (reply.Rebooked d) h = absurd (cc h)
none_ends past who o r h = refl

record IsQuiet (r : Reply) : Type 0 where
  opens_none : opens r ≡ false
  keeps : keeps_widths r ≡ true
  ends_none : may_end r ≡ false

-- ---- where no active queueing is open

abbrev CallerEnds : Who → Call → Type 0
CallerEnds who c = (d : CallerId) → who ≡ Caller d → ends_ticket c ≡ true

abbrev AreMisuse : Who → Call → Reply → Type 0
AreMisuse who c r = (w : WorkerId) → who ≡ Worker w → (i : ItemId) → c ≡ call.Cancel i → r ≡ reply.Misuse

module _ (s : Layout) (past : List Entry) (legal : IsLegal s past) (none : NoneActive s past) where
  no_run : (w : WorkerId) → has_run past w ≡ false
  no_run w = by (run past w) refl
    where
      by : (o : Option ℕ) → run past w ≡ o → is_some o ≡ false
      by None is = refl
      by (Some n) is =
          let r = run_is_active s past w n legal is in
          let its : queueing_run past (Worker w) ≡ Some r.queueing =
          ap (option_and_then (queueing_at past)) is ∙ r.found in
          absurd (both_ways _ (none r.queueing (is_running s past w r.queueing legal its).is_open) r.active)

  not_awake : (w : WorkerId) → runs_awake past w ≡ false
  not_awake w = let idle = no_run w in grind (arith, idle)

  -- a caller's other calls are not made, and a worker without a run makes no call of a run
  asleep_calls : (who : Who) (c : Call) → CallerEnds who c → ends_ticket c ≡ false → may_call past who ≡ true → ⊥
  asleep_calls (Caller d) c callers other awake = both_ways _ other (callers d refl)
  asleep_calls (Worker w) c callers other awake = both_ways _ (not_awake w) awake

  no_worker_calls : (who : Who) (c : Call) → CallerEnds who c → ends_ticket c ≡ false → is_workers c ≡ false
      → IsTrue (fits s who c) → ⊥
  no_worker_calls (Caller d) c callers other not_its fit = both_ways _ other (callers d refl)
  no_worker_calls (Worker w) c callers other not_its fit = absurd (grind (arith, fit, not_its))

  quiet : (who : Who) (c : Call) (r : Reply) → Cause s past who c r → IsTrue (fits s who c) → CallerEnds who c
      → AreMisuse who c r → IsQuiet r
  quiet who c r (cause.queued w i q p free fresh) fit callers misuse =
      absurd (asleep_calls who c callers refl free.awake)
  quiet who c r (cause.delayed_by_none w i q p t now free fresh) fit callers misuse =
      absurd (asleep_calls who c callers refl free.awake)
  quiet who c r (cause.modified_idle w i q p t now free fresh) fit callers misuse =
      absurd (asleep_calls who c callers refl free.awake)
  quiet who c r (cause.modified_again w i q p t now free pending) fit callers misuse =
      absurd (asleep_calls who c callers refl free.awake)
  quiet who c r (cause.modified_rebooked w i q p t later free pending) fit callers misuse =
      absurd (asleep_calls who c callers refl free.awake)
  quiet (Caller d) c r (cause.cancelled w i x found) fit callers misuse =
      absurd (cc (callers d refl))
  quiet (Worker v) c r (cause.cancelled w i x found) fit callers misuse =
      absurd (cc (misuse v refl i refl))
  quiet who c r (cause.fires w b due) fit callers misuse = absurd (no_worker_calls who c callers refl refl fit)
  quiet who c r (cause.widened w q n there) fit callers misuse =
      absurd (no_worker_calls who c callers refl refl fit)
  quiet who c r (cause.freezes w was) fit callers misuse = absurd (no_worker_calls who c callers refl refl fit)
  quiet who c r (cause.thaws w was) fit callers misuse = absurd (no_worker_calls who c callers refl refl fit)
  quiet who c r (cause.delayed_queued w i room clear was) fit callers misuse =
      absurd (no_worker_calls who c callers refl refl fit)
  quiet who c r (cause.sync_cancelled w i x room found) fit callers misuse =
      absurd (no_worker_calls who c callers refl refl fit)
  quiet who c r (cause.finishes w n awake runs) fit callers misuse = absurd (both_ways _ (not_awake w) awake)
  quiet who c r other fit callers misuse = record { opens_none = refl; keeps = refl; ends_none = refl }

-- ---- one more entry

module _ (s : Layout) (past : List Entry) (e : Entry) (legal : IsLegal s (e ∷ past)) (before : IsLegal s past)
    (none : NoneActive s past) (callers : CallerEnds e.who e.call) where
  cancels : AreMisuse e.who e.call e.reply
  unfolding IsLegal answer cancel_answer
  cancels w is i cancel =
      ap (λ (d : Entry). d.reply) legal.1 ∙ ap₂ (λ who c. answer s past who c) is cancel
      ∙ ap (λ b. if not b then reply.Misuse
      else taken_back_answer (unstarted_queueing past i.0) (is_booked past i.0)) (not_awake s past before none w)

  is_quiet : IsQuiet e.reply
  is_quiet = quiet s past before none e.who e.call e.reply (cause_of s past e legal) (legal_fits s past e legal) callers
      cancels

  none_ended : ending past e ≡ None
  none_ended = ends_as_told s past e legal ∙ none_ends past e.who (item_of e) e.reply is_quiet.ends_none

  none_opened : opening past e ≡ None
  none_opened =
      ap (λ b. if b then option_and_then (λ i. option_map (queued_at past i) (place_wanted past e.call i)) (item_of e)
      else None) is_quiet.opens_none

  same_open : still_open (e ∷ past) ≡ still_open past
  same_open =
      open_go_on s past e legal
      ∙ ap₂ (λ (xs : List Queueing) (o : Option Queueing). xs ++ option_to_list o)
      (filter_all (survives past e) (still_open past) (all_in _ (still_open past) (λ x here.
      let ended = of_in (λ y. is_ended past e y ≡ false) (still_open past) x
      (find_none (is_ended past e) (still_open past) none_ended) here in grind (arith, ended)))) none_opened
      ∙ append-nil (still_open past)

  same_below : (x : Queueing) → is_below_max_active s (e ∷ past) x ≡ is_below_max_active s past x
  same_below x =
      ap₂ (λ (xs : List Queueing) n. nat_lt (count_by (is_ahead x) xs) n) same_open
      (width_same s past e x.place.queue.0 is_quiet.keeps)

  still_none : NoneActive s (e ∷ past)
  still_none x there =
      let here = subst (In x) same_open (contained_in (still_open (e ∷ past)) x there) in
      let was = none x (in_contained (still_open past) x here) in
      active_go_on s past e x
      ∙ ap₂ (λ a b. is_live (e ∷ past) x && (a || b)) was (same_below x ∙ not_below s past x here was)
      ∙ nothing (is_live (e ∷ past) x)
    where
      nothing : (b : Bool) → (b && (false || false)) ≡ false
      nothing true = refl
      nothing false = refl

  still_unready : (n : ℕ) (c : Call) → is_unready past n c ≡ true → is_unready (e ∷ past) n c ≡ true
  still_unready n c was = by (is_unready (e ∷ past) n c) refl
    where
      by : (b : Bool) → is_unready (e ∷ past) n c ≡ b → is_unready (e ∷ past) n c ≡ true
      by true is = is
      by false is = absurd (cc (sym none_ended ∙ (released_by s past e legal n c was is).ends))

-- ---- the laws

pub over_stays_over : OverStaysOver
unfolding IsLegal
over_stays_over s past [] legal none callers = (refl, none)
over_stays_over s past (e ∷ later) legal none callers =
    let k = over_stays_over s past later legal.2 none callers.1 in (
      same_open s (later ++ past) e legal legal.2 k.1 callers.0 ∙ k.0,
      still_none s (later ++ past) e legal legal.2 k.1 callers.0,
    )

pub unready_stay_unready : UnreadyStayUnready
unfolding IsLegal
unready_stay_unready s past [] legal none callers n c unready = unready
unready_stay_unready s past (e ∷ later) legal none callers n c unready =
    still_unready s (later ++ past) e legal legal.2 (over_stays_over s past later legal.2 none callers.1).1
    callers.0 n c
    (unready_stay_unready s past later legal.2 none callers.1 n c unready)
