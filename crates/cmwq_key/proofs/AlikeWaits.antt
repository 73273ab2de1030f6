-- Which runs wait, and which waits are refused, in stands that are alike.
use Rattle.std.specs.Prelude.{◌&&◌, ◌++◌, ◌∷◌, [], if◌then◌else◌, not}
use Rattle.std.specs.List.{AllByRecursion, fold}
use Rattle.std.specs.Option.{option_map_or}
use Rattle.std.proofs.Common.{◌≡◌, ◌∙◌, ℕ, Bool, true, false, List, map, filter, Option, Some, None, option_map}
use Rattle.std.proofs.Common.{option_and_then, is_some, ap, ap₂, refl, sym, subst, ⊎_elim}
use Rattle.std.proofs.lemmas.Option.{same_Some}
use Rattle.cmwq_lemmas.proofs.Lists.{All_append}
use Rattle.cmwq_lemmas.proofs.Members.{In, all_in, filter_in, found, in_filter, of_in}
use Rattle.cmwq_model.specs.Prelude.{IsLegal, Layout, fits, has_number, has_numbers, is_live, is_ticket, queueing_at}
use Rattle.cmwq_model.specs.Prelude.{queueings, run, still_open, ticket_of, unended_tickets}
use Rattle.cmwq_model.specs.declared.call.Call.{Call}
use Rattle.cmwq_model.specs.declared.call.Call.TheVariants as call
use Rattle.cmwq_model.specs.declared.entry.Entry.{Entry}
use Rattle.cmwq_model.specs.declared.id.CallerId.{CallerId}
use Rattle.cmwq_model.specs.declared.id.Who.TheVariants.{Caller, Worker}
use Rattle.cmwq_model.specs.declared.id.WorkerId.{WorkerId}
use Rattle.cmwq_model.specs.declared.record.Queueing.{Queueing}
use Rattle.cmwq_model.specs.declared.record.Ticket.{Ticket}
use Rattle.cmwq_theory_steps.specs.ItemQueueings.{queueing_run}
use Rattle.cmwq_theory_steps.proofs.Joined.{active_live}
use Rattle.cmwq_theory_steps.proofs.RunsActive.{run_is_active}
use Rattle.cmwq_alike.specs.Alike.{IsTicketNumber, queueing_by, ticket_by}
use Rattle.std.proofs.lemmas.List.{map-append}
use Rattle.cmwq_alike.proofs.Lemmas.{filter_mapped, map_alike}
use Rattle.cmwq_alike.proofs.Numbers.{open_matters, same_tests}
use Rattle.cmwq_alike.proofs.Rest.{ticket_found}
use Rattle.cmwq_alike.proofs.Tickets.{found_matters}
use Rattle.cmwq_key.specs.Alike.{AreDoingsAlike, AreHistoriesAlike, AreRunsAlike, AreWorkersAlike, ListsMatch}
use Rattle.cmwq_key.specs.Alike.{OptionsMatch, AreTicketsAlike}
use Rattle.cmwq_play.specs.declared.place.Doing.{Doing}
use Rattle.cmwq_play.specs.declared.place.Doing.TheVariants.{Acts, AtGate, AtLock, Waits}
use Rattle.cmwq_play.specs.declared.place.RunAt.{RunAt}
use Rattle.cmwq_play.specs.declared.place.WorkerAt.{WorkerAt}
use Rattle.cmwq_core.specs.History.{History, past_in}
use Rattle.cmwq_waits.specs.Refused.{is_other, refusal}
use Rattle.cmwq_waits.specs.Registered.{refusal_of, registered, wait_of}
use Rattle.cmwq_play.specs.Waiting.{are_there, may_wait, noted_doing}
unfoldable use Rattle.cmwq_play.specs.Waiting.{is_refused, noted, noted_at, waits_in}
use Rattle.cmwq_waits.specs.declared.run_wait.RunWait.{RunWait}
use Rattle.cmwq_key.proofs.AlikeQueueings.{run_alike}
use Rattle.cmwq_key.proofs.AlikeRefusals.{IsKnownWait, by, by_old, known_by, refusal_alike}
use Rattle.cmwq_key.proofs.AlikeScenes.{wait_by}

-- ---- what a worker runs is open

run_is_open : (s : Layout) (past : List Entry) (w : WorkerId) (x : Queueing) → IsLegal s past
    → queueing_run past (Worker w) ≡ Some x → In x (still_open past)
run_is_open s past w x legal is = at (run past w) refl is
  where
    at : (o : Option ℕ) → run past w ≡ o → option_and_then (queueing_at past) o ≡ Some x → In x (still_open past)
    at None none h = absurd (cc h)
    at (Some n) some h =
        let r = run_is_active s past w n legal some in
        let same : r.queueing ≡ x = same_Some _ _ (sym r.found ∙ h) in
        filter_in (is_live past) (queueings past) x (found (has_number n) (queueings past) x h).0
        (subst (λ y. is_live past y ≡ true) same (active_live s past r.queueing r.active))

module _ {f : ℕ → ℕ} {h g : History} (a : AreHistoriesAlike f h g) where
  -- the same waits, renumbered, and all are known
  record AreRegisteredAlike (waits others : List RunWait) : Type 0 where
    same : others ≡ map (wait_by f) waits
    known : AllByRecursion (IsKnownWait a.alike) waits

  -- one wait
  found_alike : (c : CallerId) (n m : ℕ) → AreTicketsAlike f h g n m
      → ticket_of (past_in g) (Caller c) m ≡ option_map (ticket_by f) (ticket_of (past_in h) (Caller c) n)
  found_alike c n m w =
      ⊎_elim
      (λ is. ap (ticket_of (past_in g) (Caller c)) is.1
      ∙ ticket_found h.layout f (past_in h) (past_in g) (Caller c) n a.alike is.0)
      (λ not_so. none (past_in g) m not_so.1 (ticket_of (past_in g) (Caller c) m) refl
      ∙ sym (ap (option_map (ticket_by f)) (none (past_in h) n not_so.0 (ticket_of (past_in h) (Caller c) n) refl)))
      w.ticket
    where
      none : (past : List Entry) (k : ℕ) → (IsTicketNumber past k → ⊥) → (o : Option Ticket)
          → ticket_of past (Caller c) k ≡ o → ticket_of past (Caller c) k ≡ None
      none past k not_so None is = is
      none past k not_so (Some t) is = absurd (not_so (found_matters past (Caller c) k t is))

  wait_alike : (w : WorkerId) (c : CallerId) (n m : ℕ) → AreTicketsAlike f h g n m
      → wait_of (past_in g) w c m ≡ option_map (wait_by f) (wait_of (past_in h) w c n)
  wait_alike w c n m wait =
      ap₂ (λ o p. option_and_then (λ (x : Queueing). option_map (λ (t : Ticket). record { run = x; ticket = t }) p) o)
      (run_alike a.alike w a.legal) (found_alike c n m wait)
      ∙ at (queueing_run (past_in h) (Worker w)) (ticket_of (past_in h) (Caller c) n)
    where
      at : (o : Option Queueing) (p : Option Ticket)
          → option_and_then (λ (x : Queueing). option_map (λ (t : Ticket). record { run = x; ticket = t })
          (option_map (ticket_by f) p)) (option_map (queueing_by f) o)
          ≡ option_map (wait_by f)
          (option_and_then (λ (x : Queueing). option_map (λ (t : Ticket). record { run = x; ticket = t }) p) o)
      at None p = refl
      at (Some x) None = refl
      at (Some x) (Some t) = refl

  wait_known : (w : WorkerId) (c : CallerId) (n : ℕ) (v : RunWait) → wait_of (past_in h) w c n ≡ Some v
      → IsKnownWait a.alike v
  wait_known w c n v is = at (queueing_run (past_in h) (Worker w)) (ticket_of (past_in h) (Caller c) n) refl refl is
    where
      at : (o : Option Queueing) (p : Option Ticket) → queueing_run (past_in h) (Worker w) ≡ o
          → ticket_of (past_in h) (Caller c) n ≡ p
          → option_and_then (λ (x : Queueing). option_map (λ (t : Ticket). record { run = x; ticket = t }) p) o ≡ Some v
          → IsKnownWait a.alike v
      at None p run_is ticket_is made = absurd (cc made)
      at (Some x) None run_is ticket_is made = absurd (cc made)
      at (Some x) (Some t) run_is ticket_is made =
          subst (IsKnownWait a.alike) (same_Some (record { run = x; ticket = t }) v made) (
            run_is_open h.layout (past_in h) w x a.legal run_is,
            (found (is_ticket (Caller c) n) (unended_tickets (past_in h)) t ticket_is).0,
          )

  registered_alike : (waits others : List RunWait) → AreRegisteredAlike waits others → (o : Option RunWait)
      → ((v : RunWait) → o ≡ Some v → IsKnownWait a.alike v)
      → AreRegisteredAlike (registered waits o) (registered others (option_map (wait_by f) o))
  registered_alike waits others k None known = k
  registered_alike waits others k (Some v) known =
      let here = known v refl in
      record {
        same =
            ap (λ ws. filter (is_other (f v.run.number)) ws ++ wait_by f v ∷ []) k.same
            ∙ (ap (λ ws. ws ++ wait_by f v ∷ [])
            (filter_mapped (wait_by f) (is_other (f v.run.number)) (is_other v.run.number) waits
            (all_in _ waits (λ w there. ap not
            (same_tests f (past_in h) w.run.number v.run.number a.alike.order
            (open_matters (past_in h) w.run (of_in _ waits w k.known there).0)
            (open_matters (past_in h) v.run here.0)))))
            ∙ sym (map-append (wait_by f) (filter (is_other v.run.number) waits) (v ∷ [])));
        known =
            All_append (IsKnownWait a.alike) (filter (is_other v.run.number) waits) (v ∷ [])
            (all_in _ (filter (is_other v.run.number) waits)
            (λ w there. of_in _ waits w k.known (in_filter (is_other v.run.number) waits w there).0)) (here, tt);
      }

  noted_alike : (waits others : List RunWait) → AreRegisteredAlike waits others
      → (w : WorkerId) (c : CallerId) (n m : ℕ)
      → AreTicketsAlike f h g n m → AreRegisteredAlike (noted h waits w c n) (noted g others w c m)
  unfolding noted
  noted_alike waits others k w c n m wait =
      at (are_there h.layout w c n) (are_there g.layout w c m) (ap (λ s. are_there s w c m) a.layout)
    where
      at : (b d : Bool) → d ≡ b
          → AreRegisteredAlike (if b then registered waits (wait_of (past_in h) w c n) else waits)
          (if d then registered others (wait_of (past_in g) w c m) else others)
      at true true same =
          subst (λ o. AreRegisteredAlike (registered waits (wait_of (past_in h) w c n)) (registered others o))
          (sym (wait_alike w c n m wait))
          (registered_alike waits others k (wait_of (past_in h) w c n) (wait_known w c n))
      at false false same = k
      at true false same = absurd (cc same)
      at false true same = absurd (cc same)

  doing_alike : (waits others : List RunWait) → AreRegisteredAlike waits others → (w : WorkerId) (d e : Doing)
      → AreDoingsAlike (AreTicketsAlike f h g) d e
      → AreRegisteredAlike (noted_doing h waits w d) (noted_doing g others w e)
  doing_alike waits others k w Acts Acts same = k
  doing_alike waits others k w (AtGate gate slept) (AtGate gate₁ slept₁) same = k
  doing_alike waits others k w (AtLock lock slept) (AtLock lock₁ slept₁) same = k
  doing_alike waits others k w (Waits c t) (Waits d u) same =
      subst (λ d. AreRegisteredAlike (noted h waits w (record { 0 = c }) t.ticket)
      (noted g others w (record { 0 = d }) u.ticket))
      (sym same.0) (noted_alike waits others k w (record { 0 = c }) t.ticket u.ticket same.1.ticket)
  doing_alike waits others k w d e same = absurd same

  at_alike : (waits others : List RunWait) → AreRegisteredAlike waits others → (at other : WorkerAt)
      → AreWorkersAlike (AreTicketsAlike f h g) at other
      → AreRegisteredAlike (noted_at h waits at) (noted_at g others other)
  unfolding noted_at
  at_alike waits others k at other same =
      subst (λ w. AreRegisteredAlike (noted_at h waits at)
      (option_map_or (λ (run : RunAt). noted_doing g others w run.doing) other.run others))
      (sym same.id) (by_run at.run other.run same.run)
    where
      by_run : (o p : Option RunAt) → OptionsMatch (AreRunsAlike (AreTicketsAlike f h g)) o p
          → AreRegisteredAlike (option_map_or (λ (run : RunAt). noted_doing h waits at.id run.doing) o waits)
          (option_map_or (λ (run : RunAt). noted_doing g others at.id run.doing) p others)
      by_run None None match = k
      by_run None (Some q) match = absurd match
      by_run (Some r) None match = absurd match
      by_run (Some r) (Some q) match = doing_alike waits others k at.id r.doing q.doing match.doing

  all_noted : (at other : List WorkerAt) (waits others : List RunWait) → AreRegisteredAlike waits others
      → ListsMatch (AreWorkersAlike (AreTicketsAlike f h g)) at other
      → AreRegisteredAlike (fold (noted_at h) waits at) (fold (noted_at g) others other)
  all_noted [] [] waits others k match = k
  all_noted [] (v ∷ vs) waits others k match = absurd match
  all_noted (w ∷ ws) [] waits others k match = absurd match
  all_noted (w ∷ ws) (v ∷ vs) waits others k match =
      all_noted ws vs (noted_at h waits w) (noted_at g others v) (at_alike waits others k w v match.0) match.1

  waits_alike : (workers others : List WorkerAt) → ListsMatch (AreWorkersAlike (AreTicketsAlike f h g)) workers others
      → AreRegisteredAlike (waits_in h workers) (waits_in g others)
  unfolding waits_in
  waits_alike workers others match = all_noted workers others [] [] (record { same = refl; known = tt }) match

  -- ---- refusals

  refusal_of_alike : (waits others : List RunWait) → AreRegisteredAlike waits others → (w : WorkerId) (c : Call)
      → refusal_of h.layout (past_in g) others w c ≡ refusal_of h.layout (past_in h) waits w c
  refusal_of_alike waits others k w c =
      ap₂ (λ ws o. option_and_then (λ (x : Queueing). refusal h.layout (past_in g) ws x c) o)
      (k.same ∙ map_alike (wait_by f) (wait_by (by a.alike)) waits
      (all_in _ waits (λ v here. known_by a.alike v (of_in _ waits v k.known here))))
      (run_alike a.alike w a.legal)
      ∙ at (queueing_run (past_in h) (Worker w)) refl
    where
      at : (o : Option Queueing) → queueing_run (past_in h) (Worker w) ≡ o
          → option_and_then (λ (x : Queueing). refusal h.layout (past_in g) (map (wait_by (by a.alike)) waits) x c)
          (option_map (queueing_by f) o)
          ≡ option_and_then (λ (x : Queueing). refusal h.layout (past_in h) waits x c) o
      at None is = refl
      at (Some x) is =
          let here = run_is_open h.layout (past_in h) w x a.legal is in
          ap (λ y. refusal h.layout (past_in g) (map (wait_by (by a.alike)) waits) y c)
          (ap (λ n. record x { number = n }) (sym (by_old a.alike x here)))
          ∙ refusal_alike a.alike a.legal a.other_legal waits k.known x here c

  pub refused_alike : (workers others : List WorkerAt)
      → ListsMatch (AreWorkersAlike (AreTicketsAlike f h g)) workers others
      → (w : WorkerId) (c : Call) → is_refused g others w c ≡ is_refused h workers w c
  unfolding is_refused
  refused_alike workers others match w c =
      ap (λ s. fits s (Worker w) call.Sleep && is_some (refusal_of s (past_in g) (waits_in g others) w c)) a.layout
      ∙ ap (λ o. fits h.layout (Worker w) call.Sleep && is_some o)
      (refusal_of_alike (waits_in h workers) (waits_in g others) (waits_alike workers others match) w c)

  pub may_wait_alike : (workers others : List WorkerAt)
      → ListsMatch (AreWorkersAlike (AreTicketsAlike f h g)) workers others
      → (w : WorkerId) (c : Call) → may_wait g others w c ≡ may_wait h workers w c
  may_wait_alike workers others match w c =
      ap₂ (λ b e. b && not e) (ap (λ s. has_numbers s c) a.layout) (refused_alike workers others match w c)
