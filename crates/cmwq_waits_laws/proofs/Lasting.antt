-- Runs that wait and hold one another up go on so, from entry to entry.
use Rattle.std.proofs.Common.{Some, ◌≡◌, ◌∷◌, ◌++◌, true, false, List, [], length, ap, arith, filter, not}
use Rattle.std.proofs.Common.{option_to_list, subst, sym}
use Rattle.std.proofs.lemmas.Bool.{and_from, and_parts, both_ways, false_from_ne_true, or_right}
use Rattle.std.proofs.lemmas.List.Folds.{list_any-append}
use Rattle.std.proofs.lemmas.List.Kept.{AllPairs-filter}
use Rattle.cmwq_lemmas.proofs.Members.{In, any_in, contained_in, filter_in, in_any, in_contained, in_filter, in_left}
use Rattle.cmwq_lemmas.proofs.Members.{in_right, option_in}
unfoldable use Rattle.cmwq_model.specs.Prelude.{IsLegal}
use Rattle.cmwq_model.specs.Prelude.{Layout, ends, finishes, is_started, is_unended, starts, still_open, ticket_in}
use Rattle.cmwq_model.specs.Prelude.{tickets, unended_tickets}
use Rattle.cmwq_model.specs.declared.entry.Entry.{Entry}
use Rattle.cmwq_model.specs.declared.record.Ticket.{Ticket}
use Rattle.cmwq_theory_steps.specs.TicketSteps.{is_kept as stays_unended}
use Rattle.cmwq_theory_steps.proofs.TicketSteps.{unended_go_on}
use Rattle.cmwq_waits.specs.HeldUp.{IsWaiting, awaits, is_held_up, is_held_up_by, is_in, is_kept, members}
use Rattle.cmwq_waits.specs.Looks.{IsSeen}
use Rattle.cmwq_waits.specs.Refused.{AreApart}
use Rattle.cmwq_waits.specs.declared.run_wait.RunWait.{RunWait}
use Rattle.cmwq_waits_laws.specs.Lasting.{DeadlocksLast, FinishAfterWaits, NoneLetsGo, is_awaited, scene_of}
use Rattle.cmwq_waits_laws.proofs.Awaited.{awaits_on, not_ended}
use Rattle.cmwq_waits_laws.proofs.Kept.{GoOn, kept_on}
use Rattle.cmwq_waits_laws.proofs.Staying.{open_known, run_survives, stays_open}

-- ---- a run goes on to wait if the entry ends neither it nor its ticket

pub seen : (past : List Entry) (w : RunWait) → IsWaiting past w → IsSeen past w
seen past w is = record { is_open = is.is_open; has_started = is.has_started }

module _ (s : Layout) (past : List Entry) (e : Entry) (w : RunWait) (legal : IsLegal s (e ∷ past)) where
  pub waits_with_ticket : IsSeen past w → finishes w.run.number e ≡ false → In w.ticket (unended_tickets (e ∷ past))
      → IsWaiting (e ∷ past) w
  waits_with_ticket is run_on unended = record {
    is_open = in_contained (still_open (e ∷ past)) w.run
        (stays_open s past e legal w.run (contained_in (still_open past) w.run is.is_open)
        (run_survives s past e legal w.run is.has_started run_on));
    has_started = or_right (starts w.run.number e) (is_started past w.run.number) is.has_started;
    is_unended = in_contained (unended_tickets (e ∷ past)) w.ticket unended;
  }

  abbrev old_tickets : List Ticket
  old_tickets = filter (stays_unended e) (unended_tickets past)

  pub waits_on : IsWaiting past w → finishes w.run.number e ≡ false → ends w.ticket e ≡ false → IsWaiting (e ∷ past) w
  waits_on is run_on unended =
      waits_with_ticket (seen past w is) run_on
      (subst (In w.ticket) (sym (unended_go_on s past e legal))
      (in_left old_tickets (option_to_list (ticket_in e (length past))) w.ticket
      (filter_in (stays_unended e) (unended_tickets past) w.ticket
      (contained_in (unended_tickets past) w.ticket is.is_unended) (ap not unended))))

  -- or if the entry gives the ticket
  pub begins_to_wait : IsSeen past w → finishes w.run.number e ≡ false → ticket_in e (length past) ≡ Some w.ticket
      → IsWaiting (e ∷ past) w
  begins_to_wait is run_on given =
      waits_with_ticket is run_on
      (subst (In w.ticket) (sym (unended_go_on s past e legal))
      (in_right old_tickets (option_to_list (ticket_in e (length past))) w.ticket
      (option_in (ticket_in e (length past)) w.ticket given)))

-- ---- held up by one another

pub record IsHeld (s : Layout) (past : List Entry) (ws : List RunWait) (w : RunWait) : Type 0 where
  pub waits : IsWaiting past w
  pub held : is_held_up (scene_of s past) ws w.ticket ≡ true

abbrev pub AreHeld : Layout → List Entry → List RunWait → Type 0
AreHeld s past ws = (w : RunWait) → In w ws → IsHeld s past ws w

held_on : (s : Layout) (past : List Entry) (e : Entry) (ws : List RunWait) → GoOn s past e ws → AreHeld s past ws
    → AreHeld s (e ∷ past) ws
held_on s past e ws on held w here =
    let was = held w here in
    let x = in_any (is_held_up_by (scene_of s past) ws w.ticket) (still_open past) was.held in
    let by = and_parts (awaits past w.ticket x.0) (is_kept (scene_of s past) ws x.0) x.2 in
    let is = was.waits in
    let unended =
    not_ended s past e w.ticket x.0 on.legal on.before (contained_in (unended_tickets past) w.ticket is.is_unended) x.1
    by.0 in
    let up : is_awaited past ws x.0 ≡ true = any_in (λ (v : RunWait). awaits past v.ticket x.0) ws w here by.0 in
    let after = kept_on s past e ws on x.0 x.1 up by.1 in
    let known = open_known past x.0 x.1 in
    let still_up = awaits_on past e w.ticket x.0 (omega (arith, known)) by.0 in
    record {
      waits = waits_on s past e w on.legal is (on.run_on w here) unended;
      held = any_in (is_held_up_by (scene_of s (e ∷ past)) ws w.ticket) (still_open (e ∷ past)) x.0 after.0
          (and_from _ _ still_up after.1);
    }

-- ---- so each run goes on

unended_in : (past later : List Entry) (t : Ticket) → In t (unended_tickets (later ++ past)) → is_unended later t ≡ true
unended_in past later t here =
    let unended = (in_filter (is_unended (later ++ past)) (tickets (later ++ past)) t here).1 in
    grind (arith, unended, list_any-append (ends t) later past)

lasts : (s : Layout) (past later : List Entry) (ws : List RunWait) → IsLegal s (later ++ past) → AreApart ws
    → AreHeld s past ws → FinishAfterWaits ws later → NoneLetsGo s past ws later → AreHeld s (later ++ past) ws
unfolding IsLegal
lasts s past [] ws legal apart held finish none = held
lasts s past (e ∷ later) ws legal apart held finish none =
    let before = lasts s past later ws legal.2 apart held finish.1 none.1 in
    held_on s (later ++ past) e ws
    (record {
      legal = legal;
      before = legal.2;
      apart = apart;
      seen = λ w here. seen (later ++ past) w (before w here).waits;
      run_on = λ w here. false_from_ne_true _ (λ finishes_it.
          let ended = finish.0 w (in_contained ws w here) finishes_it in
          let is = (before w here).waits in
          both_ways _ ended
          (unended_in past later w.ticket (contained_in (unended_tickets (later ++ past)) w.ticket is.is_unended)));
      holds = none.0;
    }) before

pub deadlocks_last : DeadlocksLast
deadlocks_last s past later waits p legal waiting apart dead finish none w here =
    (lasts s past later (members p waits) legal
    (AllPairs-filter (λ (v u : RunWait). v.run.number ≡ u.run.number → ⊥) (is_in p) waits apart)
    (λ v there. let k = in_filter (is_in p) waits v there in
    let was = in_contained waits v k.0 in record { waits = waiting v was; held = dead v was k.1 })
    finish none w (contained_in (members p waits) w here)).waits
