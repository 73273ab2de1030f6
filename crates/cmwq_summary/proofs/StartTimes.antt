-- How long the queueings waited that are started, and when those were opened that have not started.
use Rattle.std.proofs.Common.{◌≡◌, ℕ, ◌<◌, Bool, true, false, List, [], ◌∷◌, length, get_or, set, eqb, Option}
use Rattle.std.proofs.Common.{Some, None, refl, sym, ap, ◌∙◌, subst, arith, replicate, length-set, get_or-set_other}
use Rattle.std.proofs.Common.{get_or-set_same, filter, option_to_list}
use Rattle.std.proofs.lemmas.List.{length-replicate}
use Rattle.std.proofs.lemmas.Bool.{eqb-true, eqb-false, eq-eqb}
use Rattle.std.specs.Prelude.{if◌then◌else◌, ◌&&◌, not}
use Rattle.std.specs.Option.{option_or, option_map_or}
use Rattle.cmwq_model.specs.declared.entry.Entry.{Entry}
use Rattle.cmwq_model.specs.declared.record.Queueing.{Queueing}
use Rattle.cmwq_model.specs.Prelude.{Layout, opening, queueings, still_open, is_started, is_unstarted}
use Rattle.cmwq_model.specs.Prelude.{unstarted_queueing, IsLegal}
use Rattle.cmwq_lemmas.proofs.Members.{In, of_in, in_right, option_in}
use Rattle.cmwq_theory_steps.proofs.Rising.{opening_number}
use Rattle.cmwq_theory_steps.specs.Activations.{is_left}
use Rattle.cmwq_theory_steps.specs.Endings.{survives}
use Rattle.cmwq_theory_steps.specs.ItemQueueings.{of_item, still_unstarted}
use Rattle.cmwq_theory_steps.proofs.Endings.{open_go_on}
use Rattle.cmwq_theory_steps.proofs.Pools.{unstarted_alone}
use Rattle.cmwq_theory_steps.proofs.Unstarted.{unstarted_goes_on}
use Rattle.cmwq_theory_steps.proofs.WorklistSteps.{opening_inert}
use Rattle.cmwq_inflight.specs.Flights.{Flight}
use Rattle.cmwq_refinement.specs.Flights.{starting}
use Rattle.cmwq_refinement.proofs.FlightRefine.{row_of}
use Rattle.cmwq_refinement.proofs.FlightReads.{starts_are_unstarted}
use Rattle.cmwq_summary.specs.declared.span.Span.{Span}
use Rattle.cmwq_summary.specs.declared.span.TheConstants.{NO_TIME}
use Rattle.cmwq_summary.specs.Spans.{behind, since, stretch}
use Rattle.cmwq_summary.specs.Openings.{start_wait, AreOpeningMoments, IsMoment, span_at, wait_at_start, with_opening}
use Rattle.cmwq_summary.proofs.Moments.{moment_now, moment_stays}

-- ---- when they were opened

pub none_opened : (items : ℕ) → AreOpeningMoments items [] (replicate items NO_TIME)
unfolding queueings
none_opened items =
    record {
      many_are = length-replicate items NO_TIME;
      each =
          λ i x h is. absurd (let never : None ≡ Some x = is in cc);
    }

module _ (s : Layout) (past : List Entry) (e : Entry) (legal : IsLegal s (e ∷ past)) where
  still_moment : {n : ℕ} {m : Span} → IsMoment past n m → IsMoment (e ∷ past) n m
  still_moment {n} {m} moment = let known = moment.known in
      record { known = omega arith; is = moment.is ∙ sym (moment_stays past e n known) }

  -- what is opened is its item's queueing that hasn't started
  opened_waits : (y : Queueing) → opening past e ≡ Some y → unstarted_queueing (e ∷ past) y.item.0 ≡ Some y
  opened_waits y is =
      let here : In y (still_open (e ∷ past)) =
      subst (In y) (sym (open_go_on s past e legal))
      (in_right (filter (survives past e) (still_open past)) (option_to_list (opening past e)) y
      (option_in (opening past e) y is)) in
      let new : is_started (e ∷ past) y.number ≡ false =
      of_in (λ x. is_started (e ∷ past) x.number ≡ false) (option_to_list (opening past e)) y
      (opening_inert s past e (opening past e) legal refl) (option_in (opening past e) y is) in
      of_in (λ x. is_unstarted (e ∷ past) y.item.0 x ≡ true → unstarted_queueing (e ∷ past) y.item.0 ≡ Some x)
      (still_open (e ∷ past)) y (unstarted_alone s (e ∷ past) y.item.0 legal) here
      (waits (eq-eqb y.item.0 y.item.0 refl) new)
    where
      waits : {a b : Bool} → a ≡ true → b ≡ false → (a && not b) ≡ true
      waits p q = rw (p, q) refl

  -- one of another item was there before
  earlier : (i : ℕ) (x : Queueing) (a b : Option Queueing) → of_item i b ≡ None
      → option_or (still_unstarted past e a) (of_item i b) ≡ Some x → a ≡ Some x
  earlier i x None b none is = absurd (let never : None ≡ Some x = sym none ∙ is in cc)
  earlier i x (Some z) b none is = by (is_left past e z) is
    where
      by : (left : Bool) → option_or (if left then Some z else None) (of_item i b) ≡ Some x → Some z ≡ Some x
      by true h = h
      by false h = absurd (let never : None ≡ Some x = sym none ∙ h in cc)

  was_there : (i : ℕ) (x : Queueing) → of_item i (opening past e) ≡ None → unstarted_queueing (e ∷ past) i ≡ Some x
      → unstarted_queueing past i ≡ Some x
  was_there i x none is =
      earlier i x (unstarted_queueing past i) (opening past e) none (sym (unstarted_goes_on s past e i legal) ∙ is)

  pub openings_go_on : (moments : List Span) → AreOpeningMoments s.items past moments
      → AreOpeningMoments s.items (e ∷ past) (with_opening moments (opening past e) (behind (e ∷ past)))
  openings_go_on moments are = by (opening past e) refl
    where
      to : Span
      to = behind (e ∷ past)

      by : (o : Option Queueing) → opening past e ≡ o → AreOpeningMoments s.items (e ∷ past) (with_opening moments o to)
      by None none = record {
        many_are = are.many_are;
        each = λ i x h is. still_moment (are.each i x h (was_there i x (ap (of_item i) none) is));
      }
      by (Some y) opened = record {
        many_are = length-set moments y.item.0 to ∙ are.many_are;
        each = λ i x h is. one i x h is (eqb y.item.0 i) refl;
      }
        where
          one : (i : ℕ) (x : Queueing) → i < s.items → unstarted_queueing (e ∷ past) i ≡ Some x → (b : Bool)
              → eqb y.item.0 i ≡ b → IsMoment (e ∷ past) x.number (get_or (set moments y.item.0 to) i NO_TIME)
          one i x h is true same =
              let here : y.item.0 ≡ i = eqb-true y.item.0 i same in
              let inside : y.item.0 < length moments = let many = are.many_are in omega arith in
              let found : Some x ≡ Some y =
              sym is ∙ subst (λ n. unstarted_queueing (e ∷ past) n ≡ Some y) here (opened_waits y opened) in
              let number : length past ≡ x.number = sym (opening_number past e y opened) ∙ let it : y ≡ x = cc in
              ap (λ (q : Queueing). q.number) it in
              let at : get_or (set moments y.item.0 to) i NO_TIME ≡ to =
              subst (λ n. get_or (set moments y.item.0 to) n NO_TIME ≡ to) here
              (get_or-set_same moments y.item.0 to NO_TIME inside) in
              subst (IsMoment (e ∷ past) x.number) (sym at)
              (subst (λ n. IsMoment (e ∷ past) n to) number
              (record { known = omega arith; is = sym (moment_now past e) }))
          one i x h is false differs =
              let other : of_item i (opening past e) ≡ None =
              ap (of_item i) opened ∙ ap (λ (b : Bool). if b then Some y else None) differs in
              let at : get_or (set moments y.item.0 to) i NO_TIME ≡ span_at moments i =
              get_or-set_other moments y.item.0 i to NO_TIME (λ same. eqb-false y.item.0 i differs (sym same)) in
              subst (IsMoment (e ∷ past) x.number) (sym at)
              (still_moment (are.each i x h (was_there i x other is)))

  -- ---- how long what is started waited

  pub waits_are : (moments : List Span) → AreOpeningMoments s.items past moments
      → wait_at_start moments (starting past e) (behind (e ∷ past)) ≡ start_wait past e
  waits_are moments are = by (starting past e) refl
    where
      by : (o : Option Queueing) → starting past e ≡ o → wait_at_start moments o (behind (e ∷ past))
          ≡ option_map_or (λ (x : Queueing). since (e ∷ past) x.number) o NO_TIME
      by None none = refl
      by (Some x) started =
          let start = starts_are_unstarted s past e x legal started in
          let waits : unstarted_queueing past x.item.0 ≡ Some x =
          sym (ap (λ (f : Flight). f.unstarted) (row_of s past x.item.0 start.0)) ∙ start.1 in
          ap (λ m. stretch m (behind (e ∷ past))) (still_moment (are.each x.item.0 x start.0 waits)).is
