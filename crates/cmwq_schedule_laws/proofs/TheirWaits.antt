-- Where the runs that wait by a history are those of the workers of a play, both have the same waits.
use Rattle.std.specs.List.{fold}
use Rattle.std.specs.Option.{option_map_or}
use Rattle.std.specs.Prelude.{if◌then◌else◌, option_and_then, option_map}
use Rattle.std.proofs.Common.{◌≡◌, ◌<◌, ◌≤◌, ◌∙◌, ◌⊎◌, ◌==◌, ◌∷◌, ℕ, zero, suc, Bool, true, false, List, []}
use Rattle.std.proofs.Common.{Option, None, Some, ap, arith, eq-eqb, eqb-true, filter, inl, inr, not, refl}
use Rattle.std.proofs.Common.{slice_get, subst, sym, ⊎_elim}
use Rattle.std.specs.Cmp.Derive.{both_true}
use Rattle.std.proofs.lemmas.Bool.{and_parts, false_from_ne_true, leb-true}
use Rattle.std.proofs.lemmas.Option.{same_Some}
use Rattle.cmwq_lemmas.proofs.Lists.{find_none}
use Rattle.cmwq_lemmas.proofs.Members.{In, contained_in, filter_in, found, in_append, in_filter, in_left, in_right}
use Rattle.cmwq_lemmas.proofs.Members.{of_in}
use Rattle.cmwq_model.specs.Prelude.{IsLegal, Layout, is_held_by, is_ticket, ticket_of, unended_tickets}
use Rattle.cmwq_model.specs.declared.entry.Entry.{Entry}
use Rattle.cmwq_model.specs.declared.id.CallerId.{CallerId}
use Rattle.cmwq_model.specs.declared.id.Who.TheVariants.{Caller, Worker}
use Rattle.cmwq_model.specs.declared.id.WorkerId.{WorkerId}
use Rattle.cmwq_model.specs.declared.record.Queueing.{Queueing}
use Rattle.cmwq_model.specs.declared.record.Ticket.{Ticket}
use Rattle.cmwq_theory_steps.specs.ItemQueueings.{queueing_run}
use Rattle.cmwq_core.specs.History.{History, past_in}
use Rattle.cmwq_waits.specs.Begun.{is_lent, laid, waits_of}
use Rattle.cmwq_waits.specs.Refused.{is_other}
use Rattle.cmwq_waits.specs.Registered.{registered, wait_of}
use Rattle.cmwq_waits.specs.declared.run_wait.RunWait.{RunWait}
use Rattle.cmwq_waits.proofs.Begun.{in_waits, waits_are_apart}
use Rattle.cmwq_waits.proofs.Greatest.{same_run}
use Rattle.cmwq_play.specs.Waiting.{are_there, noted_doing}
unfoldable use Rattle.cmwq_play.specs.Waiting.{noted, noted_at, waits_in}
use Rattle.cmwq_play.specs.declared.place.Doing.{Doing}
use Rattle.cmwq_play.specs.declared.place.Doing.TheVariants.{Acts, AtGate, AtLock, Waits}
use Rattle.cmwq_play.specs.declared.place.RunAt.{RunAt}
use Rattle.cmwq_play.specs.declared.place.Ticketed.{Ticketed}
use Rattle.cmwq_play.specs.declared.place.WorkerAt.{WorkerAt}
use Rattle.cmwq_schedule_laws.proofs.SameWaits.{AreSame}
use Rattle.cmwq_schedule_laws.proofs.WaitsGoing.{WaitsGo, numbered_once}

-- ---- waits of workers

-- a wait of what this worker runs, for this ticket of a caller
pub record IsWaitAt (past : List Entry) (w : WorkerId) (c : ℕ) (t : Ticketed) (v : RunWait) : Type 0 where
  pub caller : v.ticket.caller.0 ≡ c
  pub number : v.ticket.number ≡ t.ticket
  pub runs : queueing_run past (Worker w) ≡ Some v.run

-- its run waits by this caller
pub record WaitsBy (at : WorkerAt) (c : ℕ) (t : Ticketed) : Type 0 where
  pub run : RunAt
  pub runs : at.run ≡ Some run
  pub doing : run.doing ≡ Waits c t

pub record IsOfWorker (past : List Entry) (workers : List WorkerAt) (v : RunWait) : Type 0 where
  pub place : ℕ
  pub at : WorkerAt
  pub there : slice_get workers place ≡ Some at
  pub caller : ℕ
  pub wait : Ticketed
  pub waits : WaitsBy at caller wait
  pub is : IsWaitAt past at.id caller wait v

-- The waits of a history are those of the workers.
pub record AreTheirs (first : ℕ) (past : List Entry) (workers : List WorkerAt) : Type 0 where
  pub each : (v : RunWait) → In v (waits_of first past) → IsOfWorker past workers v
  pub all : (k : ℕ) (at : WorkerAt) (c : ℕ) (t : Ticketed) → slice_get workers k ≡ Some at → WaitsBy at c t
      → (v : RunWait) × In v (waits_of first past) × IsWaitAt past at.id c t v

-- they stay theirs while a caller makes entries that is not lent
pub theirs_then : (first : ℕ) (old new : List Entry) (workers : List WorkerAt) (maker : ℕ) → maker < first
    → WaitsGo first (Caller (record { 0 = maker })) old new → AreTheirs first old workers
    → ((k : ℕ) (at : WorkerAt) (c : ℕ) (t : Ticketed) → slice_get workers k ≡ Some at → WaitsBy at c t → first ≤ c)
    → AreTheirs first new workers
theirs_then first old new workers maker less go theirs lent = record {
  each = λ v here.
      ⊎_elim (λ (before : In v (waits_of first old)). still v (theirs.each v before))
      (λ (begun : (is_lent first (Caller (record { 0 = maker })) ≡ true) × (laid old ≡ Some v.run)).
      absurd (let from = leb-true first maker begun.0 in omega (arith, less, from))) (go.whence v here);
  all = λ k at c t there waits.
      (let w = theirs.all k at c t there waits in (
        w.0,
        go.stay w.0 at.id w.1 w.2.runs refl (unheld w.0 c w.2.caller (lent k at c t there waits)),
        record {
          caller = w.2.caller;
          number = w.2.number;
          runs = go.runs at.id w.0.run refl w.2.runs;
        },
      ));
}
  where
    still : (v : RunWait) → IsOfWorker old workers v → IsOfWorker new workers v
    still v o = record {
      place = o.place;
      at = o.at;
      there = o.there;
      caller = o.caller;
      wait = o.wait;
      waits = o.waits;
      is = record {
        caller = o.is.caller;
        number = o.is.number;
        runs = go.runs o.at.id v.run refl o.is.runs;
      };
    }

    unheld : (v : RunWait) (c : ℕ) → v.ticket.caller.0 ≡ c → first ≤ c → (maker == v.ticket.caller.0) ≡ false
    unheld v c is from =
        false_from_ne_true _
        (λ same. let one = eqb-true maker v.ticket.caller.0 same in absurd (omega (arith, less, is, from, one)))

-- ---- the wait of a worker, as a play finds it

-- the caller has this ticket by its number
known_by : (s : Layout) (past : List Entry) (t : Ticket) (c : CallerId) (n : ℕ) → IsLegal s past
    → In t (unended_tickets past) → t.caller.0 ≡ c.0 → t.number ≡ n → ticket_of past (Caller c) n ≡ Some t
known_by s past t c n legal here caller number = by (ticket_of past (Caller c) n) refl
  where
    is : is_ticket (Caller c) n t ≡ true
    is = both_true (eq-eqb t.number n number) (eq-eqb t.caller.0 c.0 caller)

    by : (o : Option Ticket) → ticket_of past (Caller c) n ≡ o → o ≡ Some t
    by None none =
        let other = of_in (λ u. is_ticket (Caller c) n u ≡ false) (unended_tickets past) t
        (find_none (is_ticket (Caller c) n) (unended_tickets past) none) here in
        absurd (cc (sym other ∙ is))
    by (Some u) some =
        let k = found (is_ticket (Caller c) n) (unended_tickets past) u some in
        let parts = and_parts (u.number == n) (is_held_by (Caller c) u) k.1 in
        ap Some (numbered_once s past legal u t k.0 here (eqb-true u.number n parts.0 ∙ sym number))

known_wait : (first : ℕ) (s : Layout) (past : List Entry) (w : WorkerId) (c : ℕ) (t : Ticketed) (v : RunWait)
    → IsLegal s past → In v (waits_of first past) → IsWaitAt past w c t v
    → wait_of past w (record { 0 = c }) t.ticket ≡ Some v
known_wait first s past w c t v legal here is =
    let unended = contained_in (unended_tickets past) v.ticket (in_waits first s past legal v here).unended in
    ap (option_and_then {U = RunWait} (λ (x : Queueing). option_map (λ (u : Ticket). record { run = x; ticket = u })
    (ticket_of past (Caller (record { 0 = c })) t.ticket))) is.runs
    ∙ ap (option_map {U = RunWait} (λ (u : Ticket). record { run = v.run; ticket = u }))
    (known_by s past v.ticket (record { 0 = c }) t.ticket legal unended is.caller is.number)

-- ---- what a play adds for a worker

module _ (h : History) where
  added_doing : WorkerId → Doing → Option RunWait
  added_doing w (Waits c t) =
      if are_there h.layout w (record { 0 = c }) t.ticket
      then wait_of (past_in h) w (record { 0 = c }) t.ticket else None
  added_doing w Acts = None
  added_doing w (AtGate gate slept) = None
  added_doing w (AtLock lock slept) = None

  added : WorkerAt → Option RunWait
  added at = option_and_then (λ (run : RunAt). added_doing at.id run.doing) at.run

  noted_adds : (ws : List RunWait) (w : WorkerId) (d : Doing) → noted_doing h ws w d ≡ registered ws (added_doing w d)
  unfolding added_doing noted
  noted_adds ws w (Waits c t) = at (are_there h.layout w (record { 0 = c }) t.ticket)
    where
      at : (b : Bool)
          → (if b then registered ws (wait_of (past_in h) w (record { 0 = c }) t.ticket) else ws)
          ≡ registered ws (if b then wait_of (past_in h) w (record { 0 = c }) t.ticket else None)
      at true = refl
      at false = refl
  noted_adds ws w Acts = refl
  noted_adds ws w (AtGate gate slept) = refl
  noted_adds ws w (AtLock lock slept) = refl

  noted_is : (ws : List RunWait) (at : WorkerAt) → noted_at h ws at ≡ registered ws (added at)
  unfolding noted_at added
  noted_is ws at = of at.run
    where
      of : (o : Option RunAt)
          → option_map_or (λ (run : RunAt). noted_doing h ws at.id run.doing) o ws
          ≡ registered ws (option_and_then (λ (run : RunAt). added_doing at.id run.doing) o)
      of None = refl
      of (Some run) = noted_adds ws at.id run.doing

  -- one more is added, in place of another of its run
  in_registered : (ws : List RunWait) (o : Option RunWait) (v : RunWait) → In v (registered ws o)
      → In v ws ⊎ (o ≡ Some v)
  in_registered ws None v here = inl here
  in_registered ws (Some u) v here =
      ⊎_elim (λ (old : In v (filter (is_other u.run.number) ws)). inl (in_filter (is_other u.run.number) ws v old).0)
      (λ (new : In v (u ∷ [])). inr (⊎_elim (λ (same : u ≡ v). ap Some same) (λ none. absurd none) new))
      (in_append (filter (is_other u.run.number) ws) (u ∷ []) v here)

  registered_in : (ws : List RunWait) (o : Option RunWait) (v : RunWait)
      → ((u : RunWait) → o ≡ Some u → u.run.number ≡ v.run.number → u ≡ v) → In v ws ⊎ (o ≡ Some v)
      → In v (registered ws o)
  registered_in ws None v one (inl here) = here
  registered_in ws None v one (inr is) = absurd (cc is)
  registered_in ws (Some u) v one (inl here) = at (v.run.number == u.run.number) refl
    where
      at : (b : Bool) → (v.run.number == u.run.number) ≡ b → In v (registered ws (Some u))
      at true same =
          in_right (filter (is_other u.run.number) ws) (u ∷ []) v
          (inl (one u refl (sym (eqb-true v.run.number u.run.number same))))
      at false other =
          in_left (filter (is_other u.run.number) ws) (u ∷ []) v
          (filter_in (is_other u.run.number) ws v here (ap not other))
  registered_in ws (Some u) v one (inr is) =
      in_right (filter (is_other u.run.number) ws) (u ∷ []) v (inl (same_Some u v is))

  -- those of all
  abbrev IsAdded : RunWait → List WorkerAt → Type 0
  IsAdded v workers = (at : WorkerAt) × In at workers × (added at ≡ Some v)

  from_fold : (ws : List RunWait) (workers : List WorkerAt) (v : RunWait) → In v (fold (noted_at h) ws workers)
      → In v ws ⊎ IsAdded v workers
  from_fold ws [] v here = inl here
  from_fold ws (at ∷ rest) v here =
      ⊎_elim
      (λ (before : In v (noted_at h ws at)).
      ⊎_elim (λ (old : In v ws). inl old) (λ (new : added at ≡ Some v). inr (at, inl refl, new))
      (in_registered ws (added at) v (subst (In v) (noted_is ws at) before)))
      (λ (later : IsAdded v rest). inr (later.0, inr later.1, later.2)) (from_fold (noted_at h ws at) rest v here)

  to_fold : (ws : List RunWait) (workers : List WorkerAt) (v : RunWait)
      → ((at : WorkerAt) (u : RunWait) → In at workers → added at ≡ Some u → u.run.number ≡ v.run.number → u ≡ v)
      → In v ws ⊎ IsAdded v workers → In v (fold (noted_at h) ws workers)
  to_fold ws [] v one (inl here) = here
  to_fold ws [] v one (inr is) = absurd is.1
  to_fold ws (at ∷ rest) v one is =
      ⊎_elim (λ (there : In v ws ⊎ (added at ≡ Some v)). to_fold (noted_at h ws at) rest v later (inl (now there)))
      (λ (more : IsAdded v rest). to_fold (noted_at h ws at) rest v later (inr more)) (split is)
    where
      later : (z : WorkerAt) (u : RunWait) → In z rest → added z ≡ Some u → u.run.number ≡ v.run.number → u ≡ v
      later z u there is same = one z u (inr there) is same

      now : In v ws ⊎ (added at ≡ Some v) → In v (noted_at h ws at)
      now there =
          subst (In v) (sym (noted_is ws at))
          (registered_in ws (added at) v (λ u is same. one at u (inl refl) is same) there)

      split : In v ws ⊎ IsAdded v (at ∷ rest) → (In v ws ⊎ (added at ≡ Some v)) ⊎ IsAdded v rest
      split (inl here) = inl (inl here)
      split (inr (z, inl first, is)) = inl (inr (ap added first ∙ is))
      split (inr (z, inr there, is)) = inr (z, there, is)

  -- ---- a worker that waits adds its wait, and no other does

  adds_wait : (at : WorkerAt) (c : ℕ) (t : Ticketed) (v : RunWait) → WaitsBy at c t
      → are_there h.layout at.id (record { 0 = c }) t.ticket ≡ true
      → wait_of (past_in h) at.id (record { 0 = c }) t.ticket ≡ Some v → added at ≡ Some v
  unfolding added added_doing
  adds_wait at c t v waits there is =
      ap (option_and_then (λ (run : RunAt). added_doing at.id run.doing)) waits.runs
      ∙ ap (added_doing at.id) waits.doing
      ∙ ap (λ b. if b then wait_of (past_in h) at.id (record { 0 = c }) t.ticket else None) there ∙ is

  record IsAddedBy (at : WorkerAt) (v : RunWait) : Type 0 where
    caller : ℕ
    wait : Ticketed
    waits : WaitsBy at caller wait
    is : wait_of (past_in h) at.id (record { 0 = caller }) wait.ticket ≡ Some v

  added_by : (at : WorkerAt) (v : RunWait) → added at ≡ Some v → IsAddedBy at v
  unfolding added added_doing
  added_by at v = of at.run refl
    where
      told : (c : ℕ) (t : Ticketed) (b : Bool)
          → (if b then wait_of (past_in h) at.id (record { 0 = c }) t.ticket else None) ≡ Some v
          → wait_of (past_in h) at.id (record { 0 = c }) t.ticket ≡ Some v
      told c t true is = is
      told c t false is = absurd (cc is)

      does : (run : RunAt) → at.run ≡ Some run → (d : Doing) → run.doing ≡ d → added_doing at.id d ≡ Some v
          → IsAddedBy at v
      does run runs (Waits c t) doing is = record {
        caller = c;
        wait = t;
        waits = record { run = run; runs = runs; doing = doing };
        is = told c t (are_there h.layout at.id (record { 0 = c }) t.ticket) is;
      }
      does run runs Acts doing is = absurd (cc is)
      does run runs (AtGate gate slept) doing is = absurd (cc is)
      does run runs (AtLock lock slept) doing is = absurd (cc is)

      of : (o : Option RunAt) → at.run ≡ o
          → option_and_then (λ (run : RunAt). added_doing at.id run.doing) o ≡ Some v → IsAddedBy at v
      of None none is = absurd (cc is)
      of (Some run) runs is = does run runs run.doing refl is

-- ---- both have the same waits

at_a_place : (workers : List WorkerAt) (at : WorkerAt) → In at workers
    → (k : ℕ) × (slice_get workers k ≡ Some at)
at_a_place [] at here = absurd here
at_a_place (z ∷ zs) at here =
    ⊎_elim (λ (same : z ≡ at). (zero, ap Some same))
    (λ (later : In at zs). let k = at_a_place zs at later in (suc k.0, k.1)) here

at_its_place : (workers : List WorkerAt) (k : ℕ) (at : WorkerAt) → slice_get workers k ≡ Some at → In at workers
at_its_place [] k at is = absurd (cc is)
at_its_place (z ∷ zs) zero at is = inl (same_Some z at is)
at_its_place (z ∷ zs) (suc k) at is = inr (at_its_place zs k at is)

module _ (first : ℕ) (h : History) (workers : List WorkerAt) (legal : IsLegal h.layout (past_in h))
    (theirs : AreTheirs first (past_in h) workers)
    (there : (k : ℕ) (at : WorkerAt) (c : ℕ) (t : Ticketed) → slice_get workers k ≡ Some at → WaitsBy at c t
    → are_there h.layout at.id (record { 0 = c }) t.ticket ≡ true) where
  added_waits : (at : WorkerAt) (u : RunWait) → In at workers → added h at ≡ Some u
      → In u (waits_of first (past_in h))
  added_waits at u here is =
      let k = at_a_place workers at here in
      let by = added_by h at u is in
      let v = theirs.all k.0 at by.caller by.wait k.1 by.waits in
      let same : v.0 ≡ u = same_Some v.0 u
      (sym (known_wait first h.layout (past_in h) at.id by.caller by.wait v.0 legal v.1 v.2) ∙ by.is) in
      subst (λ x. In x (waits_of first (past_in h))) same v.1

  pub same_waits : AreSame (waits_of first (past_in h)) (waits_in h workers)
  unfolding waits_in
  same_waits = record { on = on; back = back }
    where
      on : (v : RunWait) → In v (waits_of first (past_in h)) → In v (fold (noted_at h) [] workers)
      on v here =
          let o = theirs.each v here in
          to_fold h [] workers v
          (λ at u among is same. same_run (waits_of first (past_in h)) u v
          (waits_are_apart first h.layout (past_in h) legal) (added_waits at u among is) here same)
          (inr (
            o.at,
            at_its_place workers o.place o.at o.there,
            adds_wait h o.at o.caller o.wait v o.waits (there o.place o.at o.caller o.wait o.there o.waits)
                (known_wait first h.layout (past_in h) o.at.id o.caller o.wait v legal here o.is),
          ))

      back : (v : RunWait) → In v (fold (noted_at h) [] workers) → In v (waits_of first (past_in h))
      back v here =
          ⊎_elim (λ (none : In v []). absurd none)
          (λ (by : IsAdded h v workers). added_waits by.0 v by.1 by.2) (from_fold h [] workers v here)
