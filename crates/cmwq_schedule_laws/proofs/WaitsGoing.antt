-- What entries do to the runs that wait: a wait goes on while only others make entries, and begins only after a sleep.
use Rattle.std.specs.Cmp.Derive.{both_true}
use Rattle.std.specs.Prelude.{if◌then◌else◌, option_and_then}
use Rattle.std.proofs.Common.{◌≡◌, ◌∙◌, ◌⊎◌, ◌∷◌, ℕ, Bool, true, false, List, [], Option, None, Some, ap, arith, eq-eqb}
use Rattle.std.proofs.Common.{eqb-true, filter, inl, inr, length, not, option_to_list, refl, subst, sym, ⊎_elim}
use Rattle.std.proofs.lemmas.Bool.{and_parts, false_from_ne_true}
use Rattle.std.proofs.lemmas.Option.{same_Some}
use Rattle.cmwq_lemmas.proofs.Members.{In, contained_in, filter_in, in_append, in_filter, in_left, in_option, of_in}
use Rattle.cmwq_lemmas.proofs.Members.{option_in}
unfoldable use Rattle.cmwq_model.specs.Prelude.{IsLegal, tickets}
use Rattle.cmwq_model.specs.Prelude.{Layout, item_at, queueing_at, run, same_who, same_worker, ticket_in}
use Rattle.cmwq_model.specs.Prelude.{unended_tickets, worker_of}
use Rattle.cmwq_model.specs.declared.entry.Entry.{Entry}
use Rattle.cmwq_model.specs.declared.id.Who.{Who}
use Rattle.cmwq_model.specs.declared.id.Who.TheVariants.{Caller, Worker}
use Rattle.cmwq_model.specs.declared.id.WorkerId.{WorkerId}
use Rattle.cmwq_model.specs.declared.record.Queueing.{Queueing}
use Rattle.cmwq_model.specs.declared.record.Ticket.{Ticket}
use Rattle.cmwq_theory_steps.specs.ItemQueueings.{queueing_run}
use Rattle.cmwq_theory_steps.specs.RunSteps.{run_after}
use Rattle.cmwq_theory_steps.specs.TicketSteps.{is_ended_by, is_kept, ticket_ended}
use Rattle.cmwq_theory_steps.proofs.Given.{IsGiven, unended_given}
use Rattle.cmwq_theory_steps.proofs.ItemRuns.{one_worker, same_worker_itself}
use Rattle.cmwq_theory_steps.proofs.RunSteps.{workers_run_on}
use Rattle.cmwq_theory_steps.proofs.StartsListed.{queueing_at-older}
use Rattle.cmwq_theory_steps.proofs.TicketSteps.{one_ticket_ends, ticket_number, unended_go_on}
unfoldable use Rattle.cmwq_waits.specs.Begun.{waits_of}
use Rattle.cmwq_waits.specs.Begun.{is_lent, is_sleep, laid, wait_begun, waits_on}
use Rattle.cmwq_waits.specs.Registered.{is_for, is_run_of}
use Rattle.cmwq_waits.specs.declared.run_wait.RunWait.{RunWait}
use Rattle.cmwq_waits.proofs.Begun.{IsBegun, begun_is, in_waits, lent_is, runs_by, workers_begin_none}

-- ---- numbers name one ticket and one run

pub numbered_once : (s : Layout) (past : List Entry) → IsLegal s past → (t u : Ticket) → In t (unended_tickets past)
    → In u (unended_tickets past) → t.number ≡ u.number → t ≡ u
unfolding IsLegal tickets
numbered_once s [] legal t u here there same = absurd here
numbered_once s (e ∷ past) legal t u here there same =
    ⊎_elim
    (λ (old : In t (filter (is_kept e) (unended_tickets past))).
    let k = in_filter (is_kept e) (unended_tickets past) t old in
    ⊎_elim
    (λ (also : In u (filter (is_kept e) (unended_tickets past))).
    numbered_once s past legal.2 t u k.0 (in_filter (is_kept e) (unended_tickets past) u also).0 same)
    (λ (new : In u (option_to_list (ticket_in e (length past)))). absurd (young t u k.0 new same)) (split u there))
    (λ (new : In t (option_to_list (ticket_in e (length past)))).
    ⊎_elim
    (λ (old : In u (filter (is_kept e) (unended_tickets past))).
    absurd (young u t (in_filter (is_kept e) (unended_tickets past) u old).0 new (sym same)))
    (λ (also : In u (option_to_list (ticket_in e (length past)))).
    same_Some t u (sym (in_option (ticket_in e (length past)) t new) ∙ in_option (ticket_in e (length past)) u also))
    (split u there)) (split t here)
  where
    split : (x : Ticket) → In x (unended_tickets (e ∷ past))
        → In x (filter (is_kept e) (unended_tickets past)) ⊎ In x (option_to_list (ticket_in e (length past)))
    split x there =
        in_append (filter (is_kept e) (unended_tickets past)) (option_to_list (ticket_in e (length past))) x
        (subst (In x) (unended_go_on s past e legal) there)

    young : (x y : Ticket) → In x (unended_tickets past) → In y (option_to_list (ticket_in e (length past)))
        → x.number ≡ y.number → ⊥
    young x y old new same =
        let older = (of_in (IsGiven past) (unended_tickets past) x (unended_given past) old).older in
        let number = ticket_number e (length past) y (in_option (ticket_in e (length past)) y new) in
        absurd (omega (arith, older, number, same))

pub one_runner : (s : Layout) (past : List Entry) (v w : WorkerId) (x y : Queueing) → IsLegal s past
    → queueing_run past (Worker v) ≡ Some x → queueing_run past (Worker w) ≡ Some y → x.number ≡ y.number → v ≡ w
one_runner s past v w x y legal hv hw same =
    let a = runs_by past v x hv in
    let b = runs_by past w y hw in
    (one_worker s past v w x.number y.number x.item.0 legal a.runs b.runs a.known
    (ap (item_at past) (sym same) ∙ a.known)).0

-- ---- one entry

module _ (first : ℕ) (s : Layout) (past : List Entry) (e : Entry) (legal : IsLegal s (e ∷ past)) where
  legal_before : IsLegal s past
  unfolding IsLegal
  legal_before = legal.2

  run_stays : (w : WorkerId) (x : Queueing) → same_who e.who (Worker w) ≡ false
      → queueing_run past (Worker w) ≡ Some x → queueing_run (e ∷ past) (Worker w) ≡ Some x
  run_stays w x other runs = by (run past w) refl runs
    where
      same : run (e ∷ past) w ≡ run past w
      same = workers_run_on s past e w legal ∙ ap (λ b. if b then run_after e.reply (run past w) else run past w) other

      by : (o : Option ℕ) → run past w ≡ o → option_and_then (queueing_at past) o ≡ Some x
          → queueing_run (e ∷ past) (Worker w) ≡ Some x
      by None none h = absurd (cc h)
      by (Some n) is h = ap (option_and_then (queueing_at (e ∷ past))) (same ∙ is) ∙ queueing_at-older e past n x h

  not_its_run : (v : RunWait) (w : WorkerId) → queueing_run past (Worker w) ≡ Some v.run
      → same_who e.who (Worker w) ≡ false → is_run_of (queueing_run past e.who) v ≡ false
  not_its_run v w runs = by e.who
    where
      of : (u : WorkerId) → same_worker u w ≡ false → (o : Option Queueing) → queueing_run past (Worker u) ≡ o
          → is_run_of o v ≡ false
      of u other None none = refl
      of u other (Some x) its =
          false_from_ne_true _
          (λ same. let one = one_runner s past u w x v.run legal_before its runs
          (sym (eqb-true v.run.number x.number same)) in
          absurd (cc (sym other ∙ (ap (λ z. same_worker z w) one ∙ same_worker_itself w))))

      by : (who : Who) → same_who who (Worker w) ≡ false → is_run_of (queueing_run past who) v ≡ false
      by (Caller c) other = refl
      by (Worker u) other = of u other (queueing_run past (Worker u)) refl

  not_its_ticket : (v : RunWait) → In v.ticket (unended_tickets past) → same_who e.who (Caller v.ticket.caller) ≡ false
      → is_for (ticket_ended past e) v ≡ false
  not_its_ticket v there other = of (ticket_ended past e) refl
    where
      of : (o : Option Ticket) → ticket_ended past e ≡ o → is_for o v ≡ false
      of None none = refl
      of (Some t) ends_it =
          false_from_ne_true _
          (λ same. let k = in_filter (is_ended_by e) (unended_tickets past) t
          (subst (In t) (sym (one_ticket_ends past e)) (option_in (ticket_ended past e) t ends_it)) in
          let one = numbered_once s past legal_before v.ticket t there k.0 (eqb-true v.ticket.number t.number same) in
          let ended = k.1 in
          let holder : same_who e.who (Caller t.caller) ≡ true = grind (arith, ended) in
          absurd (cc (sym other ∙ (ap (λ (x : Ticket). same_who e.who (Caller x.caller)) one ∙ holder))))

  -- a wait of somebody else goes on
  stays_on : (v : RunWait) (w : WorkerId) → In v (waits_of first past) → queueing_run past (Worker w) ≡ Some v.run
      → same_who e.who (Worker w) ≡ false → same_who e.who (Caller v.ticket.caller) ≡ false
      → In v (waits_of first (e ∷ past))
  unfolding waits_of
  stays_on v w here runs other unheld =
      let unended = (in_waits first s past legal_before v here).unended in
      in_left (filter (waits_on past e) (waits_of first past)) (option_to_list (wait_begun first past e)) v
      (filter_in (waits_on past e) (waits_of first past) v here
      (both_true (ap not (not_its_run v w runs other))
      (ap not (not_its_ticket v (contained_in (unended_tickets past) v.ticket unended) unheld))))

  -- whoever waits waited before, or begins to
  pub begins_or_not : (v : RunWait) → In v (waits_of first (e ∷ past))
      → In v (waits_of first past) ⊎ IsBegun first past e v
  unfolding waits_of
  begins_or_not v here =
      ⊎_elim
      (λ (old : In v (filter (waits_on past e) (waits_of first past))).
      inl (in_filter (waits_on past e) (waits_of first past) v old).0)
      (λ (new : In v (option_to_list (wait_begun first past e))).
      inr (begun_is first past e v (in_option (wait_begun first past e) v new)))
      (in_append (filter (waits_on past e) (waits_of first past)) (option_to_list (wait_begun first past e)) v here)

  -- no run waits whose worker made the entry
  pub own_gone : (v : RunWait) (w : WorkerId) → e.who ≡ Worker w → queueing_run past (Worker w) ≡ Some v.run
      → In v (waits_of first (e ∷ past)) → ⊥
  unfolding waits_of
  own_gone v w is runs here =
      ⊎_elim
      (λ (old : In v (filter (waits_on past e) (waits_of first past))).
      let on = (in_filter (waits_on past e) (waits_of first past) v old).1 in
      let parts = and_parts (not (is_run_of (queueing_run past e.who) v)) (not (is_for (ticket_ended past e) v)) on in
      let own : is_run_of (queueing_run past e.who) v ≡ true =
      ap (λ (who : Who). is_run_of (queueing_run past who) v) is ∙ ap (λ o. is_run_of o v) runs
      ∙ eq-eqb v.run.number v.run.number refl in
      absurd (cc (sym (ap not own) ∙ parts.0)))
      (λ (new : In v (option_to_list (wait_begun first past e))).
      absurd (cc (sym (workers_begin_none first past e w is) ∙ in_option (wait_begun first past e) v new)))
      (in_append (filter (waits_on past e) (waits_of first past)) (option_to_list (wait_begun first past e)) v here)

-- ---- entries of one maker

-- Waits of other runs by other callers go on, and other workers run on. A wait begins only where the maker is lent, and
-- a run had fallen asleep just before.
pub record WaitsGo (first : ℕ) (maker : Who) (old new : List Entry) : Type 0 where
  pub stay : (v : RunWait) (w : WorkerId) → In v (waits_of first old) → queueing_run old (Worker w) ≡ Some v.run
      → same_who maker (Worker w) ≡ false → same_who maker (Caller v.ticket.caller) ≡ false
      → In v (waits_of first new)
  pub runs : (w : WorkerId) (x : Queueing) → same_who maker (Worker w) ≡ false → queueing_run old (Worker w) ≡ Some x
      → queueing_run new (Worker w) ≡ Some x
  pub whence : (v : RunWait) → In v (waits_of first new)
      → In v (waits_of first old) ⊎ ((is_lent first maker ≡ true) × (laid old ≡ Some v.run))
  pub lies : is_lent first maker ≡ true → (x : Queueing) → laid new ≡ Some x → laid old ≡ Some x

pub waits_stay : (first : ℕ) (maker : Who) (past : List Entry) → WaitsGo first maker past past
waits_stay first maker past = record {
  stay = λ v w here runs other unheld. here;
  runs = λ w x other runs. runs;
  whence = λ v here. inl here;
  lies = λ lent x lies. lies;
}

pub waits_further : (first : ℕ) (maker : Who) (old mid new : List Entry) → WaitsGo first maker old mid
    → WaitsGo first maker mid new → WaitsGo first maker old new
waits_further first maker old mid new a b = record {
  stay = λ v w here runs other unheld.
      b.stay v w (a.stay v w here runs other unheld) (a.runs w v.run other runs) other unheld;
  runs = λ w x other runs. b.runs w x other (a.runs w x other runs);
  whence = λ v here.
      ⊎_elim (λ (before : In v (waits_of first mid)). a.whence v before)
      (λ (begun : (is_lent first maker ≡ true) × (laid mid ≡ Some v.run)).
      inr (begun.0, a.lies begun.0 v.run begun.1)) (b.whence v here);
  lies = λ lent x lies. a.lies lent x (b.lies lent x lies);
}

same_if : {A : Type 0} (b : Bool) (x : A) → (if b then x else x) ≡ x
same_if true x = refl
same_if false x = refl

-- a caller's entry lays nothing to sleep
pub callers_lay_none : (first : ℕ) (past : List Entry) (e : Entry) → is_lent first e.who ≡ true
    → laid (e ∷ past) ≡ None
callers_lay_none first past e lent =
    let c = lent_is first e.who lent in
    ap (option_and_then (λ (w : WorkerId). queueing_run (e ∷ past) (Worker w)))
    (ap (λ (who : Who). if is_sleep e.reply then worker_of who else None) c.1 ∙ same_if (is_sleep e.reply) None)

pub waits_entry : (first : ℕ) (s : Layout) (past : List Entry) (e : Entry) → IsLegal s (e ∷ past)
    → WaitsGo first e.who past (e ∷ past)
waits_entry first s past e legal = record {
  stay = stays_on first s past e legal;
  runs = run_stays first s past e legal;
  whence = λ v here.
      ⊎_elim (λ (old : In v (waits_of first past)). inl old)
      (λ (begun : IsBegun first past e v). inr (begun.lent, begun.lies)) (begins_or_not first s past e legal v here);
  lies = λ lent x lies. absurd (cc (sym (callers_lay_none first past e lent) ∙ lies));
}
