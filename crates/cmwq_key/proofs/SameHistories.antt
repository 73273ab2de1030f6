-- Histories of which the same is told are alike.
use Rattle.std.proofs.Common.{ℕ, suc, ◌≡◌, ◌==◌, ◌<◌, Bool, true, false, if◌then◌else◌, List, [], ◌∷◌, ◌++◌, length}
use Rattle.std.proofs.Common.{map, find, Option, Some, None, ap, sym, ◌∙◌, refl, arith, subst, ⊎_elim, ◌⊎◌, inl, inr}
use Rattle.std.specs.Prelude.{is_some}
use Rattle.std.proofs.lemmas.Bool.{eq-eqb, eqb-true}
use Rattle.cmwq_lemmas.proofs.Members.{In, all_in, found, in_append, in_map, in_mapped, of_in}
use Rattle.cmwq_model.specs.Prelude.{IsLegal, Layout, is_active, is_flush_of, is_started, still_open, unended_tickets}
use Rattle.cmwq_model.specs.declared.entry.Entry.{Entry}
use Rattle.cmwq_model.specs.declared.record.Queueing.{Queueing}
use Rattle.cmwq_model.specs.declared.record.Ticket.{Ticket}
use Rattle.cmwq_alike.specs.Alike.{IsAlike, IsServedAlike, IsTicketNumber, IsWaitAlike, Matters, queueing_by}
use Rattle.cmwq_alike.specs.Alike as alike
use Rattle.cmwq_theory_steps.proofs.Given.{IsGiven, unended_given}
use Rattle.cmwq_theory_steps.proofs.Rising.{open_below}
use Rattle.cmwq_state.specs.History.{ticket_has_number}
use Rattle.cmwq_key.specs.Keys.{still_unended}
use Rattle.cmwq_key.specs.Numbered.{gathered, mark, number_of, numbers_of, rank, running_in, ticket_number}
use Rattle.cmwq_key.specs.Numbered.{tickets_in, unstarted_in}
use Rattle.cmwq_key.proofs.Listed.{numbers_are, open_numbered, runs_open, tickets_unended, unended_numbered}
use Rattle.cmwq_key.proofs.Listed.{waits_open}
use Rattle.cmwq_key.proofs.Rebooking.{bookings_are, standing}
use Rattle.cmwq_key.proofs.Renumbering.{active, enlisted, gone, item_runs, opened, order_stays, renumbered}
use Rattle.cmwq_key.proofs.Renumbering.{renumbered_is, renumbered_there, runs_are, served, sleepers, started}
use Rattle.cmwq_key.proofs.Renumbering.{tickets_are, widths, worklists}
use Rattle.cmwq_key.proofs.Telling.{IsSameHistory}

-- ---- the numbers that matter

module _ (s : Layout) (past : List Entry) (legal : IsLegal s past) where
  matters_numbered : (n : ℕ) → Matters past n → In n (gathered s past).numbers
  matters_numbered n m =
      ⊎_elim
      (λ i. let x = in_map alike.number_of (still_open past) n i in
      subst (λ k. In k (gathered s past).numbers) x.2 (open_numbered s past legal x.0 x.1))
      (λ i. let t = in_map alike.ticket_number (unended_tickets past) n i in
      subst (λ k. In k (gathered s past).numbers) t.2 (unended_numbered s past legal t.0 t.1)) m

  open_older : (x : Queueing) → In x (still_open past) → x.number < length past
  open_older x i = of_in (λ y. y.number < length past) (still_open past) x (open_below past) i

  numbered_older : (n : ℕ) → In n (gathered s past).numbers → n < length past
  numbered_older n i = of_lists (subst (λ ns. In n ns) (numbers_are s past legal) i)
    where
      of_lists : In n (numbers_of (unstarted_in s past) (running_in s past) (tickets_in s past)) → n < length past
      of_lists j =
          ⊎_elim
          (λ k. ⊎_elim
          (λ w. let x = in_map number_of (unstarted_in s past) n w in
          subst (λ m. m < length past) x.2 (open_older x.0 (waits_open s past legal x.0 x.1).0))
          (λ r. let x = in_map number_of (running_in s past) n r in
          subst (λ m. m < length past) x.2 (open_older x.0 (runs_open s past legal x.0 x.1).0))
          (in_append (map number_of (unstarted_in s past)) (map number_of (running_in s past)) n k))
          (λ k. let t = in_map ticket_number (tickets_in s past) n k in
          let i = tickets_unended s past legal t.0 t.1 in
          subst (λ m. m < length past) t.2
          (of_in (IsGiven past) (unended_tickets past) t.0 (unended_given past) i).older)
          (in_append (map number_of (unstarted_in s past) ++ map number_of (running_in s past))
          (map ticket_number (tickets_in s past)) n j)

  -- a ticket that is found is unended, and one that isn't found is not
  pub data IsTold (n : ℕ) : Type 0 where
    told_unended : still_unended past n ≡ Some n → IsTicketNumber past n → IsTold n
    told_ended : still_unended past n ≡ None → (IsTicketNumber past n → ⊥) → IsTold n

  unfound : (ts : List Ticket) (n : ℕ) → find (ticket_has_number n) ts ≡ None
      → In n (map alike.ticket_number ts) → ⊥
  unfound [] n none i = i
  unfound (t ∷ ts) n none i =
      ⊎_elim (λ e. let has = eq-eqb t.number n e in grind arith) (λ j. unfound ts n (grind arith) j) i

  is_told : (n : ℕ) → IsTold n
  is_told n = by (find (ticket_has_number n) (unended_tickets past)) refl
    where
      by : (o : Option Ticket) → find (ticket_has_number n) (unended_tickets past) ≡ o → IsTold n
      by (Some t) is =
          let f = found (ticket_has_number n) (unended_tickets past) t is in
          told_unended (ap (λ o. if is_some o then Some n else None) is)
          (subst (λ k. IsTicketNumber past k) (eqb-true t.number n f.1)
          (in_mapped alike.ticket_number (unended_tickets past) t f.0))
      by None is =
          told_ended (ap (λ o. if is_some o then Some n else None) is) (λ i. unfound (unended_tickets past) n is i)

module _ (s : Layout) (past other : List Entry) (legal : IsLegal s past) (other_legal : IsLegal s other)
    (same : IsSameHistory s past other (gathered s past) (gathered s other)) where
  abbrev pub by_rank : ℕ → ℕ
  by_rank = renumbered s past other legal other_legal same

  pub histories_alike : IsAlike s by_rank past other
  histories_alike =
      record {
        order = λ a b ma mb.
            order_stays s past other legal other_legal same a b (matters_numbered s past legal a ma)
            (matters_numbered s past legal b mb);
        below = λ n m.
            numbered_older s other other_legal (by_rank n)
            (renumbered_there s past other legal other_legal same n (matters_numbered s past legal n m)).0;
        opened = opened s past other legal other_legal same;
        started = all_in (λ x. is_started other (by_rank x.number) ≡ is_started past x.number) (still_open past)
            (started s past other legal other_legal same);
        active = all_in (λ x. is_active s other (queueing_by by_rank x) ≡ is_active s past x) (still_open past)
            (active s past other legal other_legal same);
        worklists = worklists s past other legal other_legal same;
        runs = runs_are s past other legal other_legal same;
        sleepers = sleepers s past other legal other_legal same;
        enlisted = enlisted s past other legal other_legal same;
        item_runs = item_runs s past other legal other_legal same;
        tickets = tickets_are s past other legal other_legal same;
        served = λ q.
            all_in (λ t. is_flush_of q t ≡ true → IsServedAlike by_rank past other q t.number) (unended_tickets past)
            (λ t i flush. let k = served s past other legal other_legal same q t i flush in
            record { both = k.both; within = all_in _ (still_open past) k.within });
        gone = gone s past other legal other_legal same;
        bookings = bookings_are s past other legal other_legal same;
        standing = standing s past other legal other_legal same;
        time = same.time;
        frozen = same.frozen;
        widths = widths s past other legal other_legal same;
      }

  -- ---- tickets by which parties wait

  abbrev AreMarked : ℕ → ℕ → Type 0
  AreMarked n m =
      mark (gathered s past).numbers (still_unended past n) ≡ mark (gathered s other).numbers (still_unended other m)

  pub marks_alike : (n m : ℕ) → n < length past → m < length other → AreMarked n m → IsWaitAlike by_rank past other n m
  marks_alike n m older other_older marks =
      record {
        below = older;
        other_below = other_older;
        ticket = by (is_told s past legal n)
            (is_told s other other_legal m);
      }
    where
      by : IsTold s past legal n → IsTold s other other_legal m
          → (IsTicketNumber past n × (m ≡ by_rank n)) ⊎ ((IsTicketNumber past n → ⊥) × (IsTicketNumber other m → ⊥))
      by (told_unended is here) (told_unended it there) =
          let told =
          ap (mark (gathered s past).numbers) (sym is) ∙ marks ∙ ap (mark (gathered s other).numbers) it in
          let ranks : rank (gathered s past).numbers n ≡ rank (gathered s other).numbers m = omega arith in
          inl (
            here,
            sym (renumbered_is s past other legal other_legal same n m
                (matters_numbered s other other_legal m (inr there)) ranks),
          )
      by (told_ended is none) (told_ended it never) = inr (none, never)
      by (told_unended is here) (told_ended it never) =
          let told =
          ap (mark (gathered s past).numbers) (sym is) ∙ marks ∙ ap (mark (gathered s other).numbers) it in
          absurd (omega arith)
      by (told_ended is none) (told_unended it there) =
          let told =
          ap (mark (gathered s past).numbers) (sym is) ∙ marks ∙ ap (mark (gathered s other).numbers) it in
          absurd (omega arith)
