-- What whole calls make of histories that are alike.
use Rattle.std.specs.Prelude.{◌&&◌, ◌∷◌, if◌then◌else◌, nat_le, ◌+◌}
use Rattle.std.specs.Option.{option_map_or}
use Rattle.std.proofs.Common.{◌≡◌, ◌∙◌, ℕ, zero, suc, Bool, true, false, List, length, filter, Option, Some, None}
use Rattle.std.proofs.Common.{option_map, option_and_then, option_to_list, ap, ap₂, refl, sym, subst, arith, ⊎_elim}
use Rattle.std.proofs.Common.{inl}
use Rattle.std.proofs.lemmas.Option.{same_Some}
use Rattle.cmwq_lemmas.proofs.Members.{In, in_mapped, in_right, option_in}
use Rattle.cmwq_model.specs.Prelude.{IsLegal, Layout, answer, entry_for, fits, gives_ticket, has_time, is_done}
use Rattle.cmwq_model.specs.Prelude.{number_started, queueing_at, room_needed, ticket_for, ticket_in, unended_tickets}
use Rattle.cmwq_model.specs.Prelude.{is_drain, is_nothing, is_retired, is_tick, ticket_told}
use Rattle.cmwq_model.specs.declared.call.Call.{Call}
use Rattle.cmwq_model.specs.declared.call.Call.TheVariants as call
use Rattle.cmwq_model.specs.declared.entry.Entry.{Entry}
use Rattle.cmwq_model.specs.declared.id.CallerId.{CallerId}
use Rattle.cmwq_model.specs.declared.id.Who.{Who}
use Rattle.cmwq_model.specs.declared.id.Who.TheVariants.{Caller, Worker}
use Rattle.cmwq_model.specs.declared.id.WorkerId.{WorkerId}
use Rattle.cmwq_model.specs.declared.record.Queueing.{Queueing}
use Rattle.cmwq_model.specs.declared.reply.Reply.{Reply}
use Rattle.cmwq_model.proofs.Growing.{one_more_is_newest}
use Rattle.cmwq_theory_steps.specs.Reasons.{number_given}
use Rattle.cmwq_theory_steps.specs.TicketSteps.{is_kept}
use Rattle.cmwq_theory_steps.proofs.Causes.{cause_of}
use Rattle.cmwq_theory_steps.proofs.Reasons.{legal_fits, ticket_reason}
use Rattle.cmwq_theory_steps.proofs.TicketSteps.{unended_go_on}
use Rattle.cmwq_alike.specs.Alike.{Asks, IsOpenNumber, IsStep, IsTicketNumber, IsWaitAlike, call_by, next_by}
use Rattle.cmwq_alike.specs.Alike.{queueing_by, reply_by, ticket_number}
use Rattle.cmwq_alike.proofs.Actives.{started_matters}
use Rattle.cmwq_alike.proofs.Made.{fits_alike, needed_alike, step_of, time_alike}
use Rattle.cmwq_alike.proofs.Numbers.{matters_below, new_is, old_stays, started_by}
use Rattle.cmwq_alike.proofs.Tickets.{done_by}
use Rattle.cmwq_alike.proofs.Waits.{end_not_done}
use Rattle.cmwq_key.specs.Alike.{AreHistoriesAlike, AreWaitsAlike, AreTicketsAlike, names_ticket}
use Rattle.cmwq_json_script.specs.declared.action.Action.TheVariants as action
use Rattle.cmwq_play.specs.declared.machine.Called.{Called}
use Rattle.cmwq_play.specs.declared.machine.Called.TheVariants.{NoRoom, Whole, Waits}
use Rattle.cmwq_play.specs.declared.place.Ticketed.{Ticketed}
use Rattle.cmwq_core.specs.History.{History, next_entry, past_in, takes_with, with_entry}
use Rattle.cmwq_play.specs.Machines.{AfterCall, after_reply, begun, is_made}
use Rattle.cmwq_play.specs.Machines.{item_started}
unfoldable use Rattle.cmwq_play.specs.Machines.{called, ended, ends, fired, has_wait_room, replied, retires}
unfoldable use Rattle.cmwq_play.specs.Machines.{starts, stepped}
unfoldable use Rattle.cmwq_key.proofs.AlikeHistories.{appended}
use Rattle.cmwq_key.proofs.AlikeHistories.{GoOnAlike, fits_made, go_further, made_alike, next_step, replied_alike}
use Rattle.cmwq_key.proofs.AlikeHistories.{same_length, stand_still, stepped_alike}
use Rattle.cmwq_key.proofs.AlikeQueueings.{queueing_alike}

-- ---- calls that name no ticket

abbrev pub IsPlain : Call → Type 0
IsPlain c = names_ticket (action.Call c) ≡ false

plain_call : (f : ℕ → ℕ) (c : Call) → IsPlain c → call_by f c ≡ c
plain_call f (call.End n) plain = absurd (cc plain)
plain_call f c plain = refl

plain_asks : (past : List Entry) (c : Call) → IsPlain c → Asks past c
plain_asks past (call.End n) plain = absurd (cc plain)
plain_asks past c plain = tt

-- the end of a ticket that is no longer unended is not done
never_done : (h : History) (who : Who) (n : ℕ) → (IsTicketNumber (past_in h) n → ⊥)
    → option_map_or is_done (replied h who (call.End n)) false ≡ false
unfolding replied
never_done h who n not_so =
    at (is_made h who (call.End n)) (answer h.layout (past_in h) who (call.End n))
    (end_not_done h.layout (past_in h) who n not_so)
  where
    at : (b : Bool) (r : Reply) → is_done r ≡ false → option_map_or is_done (if b then Some r else None) false ≡ false
    at true r not = not
    at false r not = refl

module _ {f : ℕ → ℕ} {h g : History} (a : AreHistoriesAlike f h g) where
  pub replied_plain : (who : Who) (c : Call) → IsPlain c
      → replied g who c ≡ option_map (reply_by (next_by f (past_in h) (past_in g))) (replied h who c)
  replied_plain who c plain =
      ap (replied g who) (sym (plain_call f c plain)) ∙ replied_alike a who c (plain_asks (past_in h) c plain)

  pub stepped_plain : (who : Who) (c : Call) → IsPlain c → GoOnAlike f h g (stepped h who c) (stepped g who c)
  stepped_plain who c plain =
      subst (λ d. GoOnAlike f h g (stepped h who c) (stepped g who d)) (plain_call f c plain)
      (stepped_alike a who c (plain_asks (past_in h) c plain))

  -- ---- workers

  pub retires_alike : (w : WorkerId) → retires g w ≡ retires h w
  unfolding retires
  retires_alike w =
      ap (λ o. option_map_or is_retired o false) (replied_plain (Worker w) call.Retire refl)
      ∙ at (replied h (Worker w) call.Retire)
    where
      by : (k : ℕ → ℕ) (r : Reply) → is_retired (reply_by k r) ≡ is_retired r
      by k r = grind arith

      at : (o : Option Reply) → option_map_or is_retired (option_map (reply_by (next_by f (past_in h) (past_in g))) o)
          false
          ≡ option_map_or is_retired o false
      at None = refl
      at (Some r) = by (next_by f (past_in h) (past_in g)) r

  starts_item : (w : WorkerId) → (r : Reply) → replied h (Worker w) call.Take ≡ Some r → (n : ℕ)
      → number_started r ≡ Some n
      → IsOpenNumber (past_in h) n
  unfolding replied
  starts_item w r is n started =
      let made = when_made (is_made h (Worker w) call.Take) (answer h.layout (past_in h) (Worker w) call.Take) is in
      started_matters (next_step a (Worker w) call.Take tt (fits_made a (Worker w) call.Take made.0)) n
      (ap number_started made.1 ∙ started)
    where
      when_made : (b : Bool) (q : Reply) → (if b then Some q else None) ≡ Some r → (b ≡ true) × (q ≡ r)
      when_made b q h = grind arith

  pub starts_alike : (w : WorkerId) → starts g w ≡ starts h w
  unfolding starts
  starts_alike w =
      ap (option_and_then (item_started (past_in g))) (replied_plain (Worker w) call.Take refl)
      ∙ at (replied h (Worker w) call.Take) refl
    where
      same_item : (o : Option Queueing)
          → option_map (λ (x : Queueing). x.item) (option_map (queueing_by f) o)
          ≡ option_map (λ (x : Queueing). x.item) o
      same_item None = refl
      same_item (Some x) = refl

      open_item : (o : Option ℕ) → ((n : ℕ) → o ≡ Some n → IsOpenNumber (past_in h) n)
          → option_and_then (λ n. option_map (λ (x : Queueing). x.item) (queueing_at (past_in g) n))
          (option_map (next_by f (past_in h) (past_in g)) o)
          ≡ option_and_then (λ n. option_map (λ (x : Queueing). x.item) (queueing_at (past_in h) n)) o
      open_item None opened = refl
      open_item (Some n) opened =
          let here = opened n refl in
          ap (λ m. option_map (λ (x : Queueing). x.item) (queueing_at (past_in g) m))
          (old_stays f (past_in h) (past_in g) n (matters_below (past_in h) n here))
          ∙ (ap (option_map (λ (x : Queueing). x.item)) (queueing_alike a.alike n here)
          ∙ same_item (queueing_at (past_in h) n))

      at : (o : Option Reply) → replied h (Worker w) call.Take ≡ o
          → option_and_then (item_started (past_in g)) (option_map (reply_by (next_by f (past_in h) (past_in g))) o)
          ≡ option_and_then (item_started (past_in h)) o
      at None is = refl
      at (Some r) is =
          ap (option_and_then (λ n. option_map (λ (x : Queueing). x.item) (queueing_at (past_in g) n)))
          (started_by (next_by f (past_in h) (past_in g)) r)
          ∙ open_item (number_started r) (starts_item w r is)

  -- ---- room for a whole wait

  takes_alike : (who : Who) (c : Call) (more : ℕ) → Asks (past_in h) c → fits h.layout who c ≡ true
      → takes_with g who (call_by f c) more ≡ takes_with h who c more
  takes_alike who c more asks fit =
      ap₂ (λ s room. has_time (past_in g) (call_by f c)
      && nat_le (room_needed s (entry_for s (past_in g) who (call_by f c) ∷ past_in g) + more) room) a.layout a.room
      ∙ ap₂ (λ b n. b && nat_le (n + more) h.room) (time_alike a.alike c)
      (needed_alike h.layout f (past_in h) (past_in g) _ _
      (step_of h.layout f (past_in h) (past_in g) who c a.legal a.other_legal a.alike asks fit) (same_length a))

  fits_takes : (who : Who) (c : Call) (more : ℕ) → Asks (past_in h) c
      → (fits g.layout who (call_by f c) && takes_with g who (call_by f c) more)
      ≡ (fits h.layout who c && takes_with h who c more)
  fits_takes who c more asks =
      ap (λ s. fits s who (call_by f c) && takes_with g who (call_by f c) more) a.layout ∙ at (fits h.layout who c) refl
    where
      none : (x y u v : Bool) → x ≡ y → y ≡ false → (x && u) ≡ (y && v)
      none x y u v same is = grind arith

      at : (b : Bool) → fits h.layout who c ≡ b
          → (fits h.layout who (call_by f c) && takes_with g who (call_by f c) more)
          ≡ (fits h.layout who c && takes_with h who c more)
      at false is = none _ _ _ _ (fits_alike h.layout f who c) is
      at true is = ap₂ (λ x y. x && y) (fits_alike h.layout f who c) (takes_alike who c more asks is)

  pub wait_room_alike : (w : WorkerId) (l : CallerId) (c : Call) → IsPlain c
      → has_wait_room g w l c ≡ has_wait_room h w l c
  unfolding has_wait_room
  wait_room_alike w l c plain =
      ap₂ (λ x y. x && y) (made_alike a (Worker w) call.Sleep tt)
      (ap (λ d. fits g.layout (Caller l) d && takes_with g (Caller l) d 2) (sym (plain_call f c plain))
      ∙ fits_takes (Caller l) c 2 (plain_asks (past_in h) c plain))

  -- ---- the end of a wait

  pub ends_alike : (who : Who) (n m : ℕ) → AreTicketsAlike f h g n m → ends g who m ≡ ends h who n
  unfolding ends
  ends_alike who n m w = ⊎_elim still ended_in_both w.ticket
    where
      at : (o : Option Reply) → option_map_or is_done (option_map (reply_by (next_by f (past_in h) (past_in g))) o)
          false
          ≡ option_map_or is_done o false
      at None = refl
      at (Some r) = done_by (next_by f (past_in h) (past_in g)) r

      still : IsTicketNumber (past_in h) n × (m ≡ f n)
          → option_map_or is_done (replied g who (call.End m)) false
          ≡ option_map_or is_done (replied h who (call.End n)) false
      still is =
          ap (λ k. option_map_or is_done (replied g who (call.End k)) false) is.1
          ∙ (ap (λ o. option_map_or is_done o false) (replied_alike a who (call.End n) is.0)
          ∙ at (replied h who (call.End n)))

      ended_in_both : (IsTicketNumber (past_in h) n → ⊥) × (IsTicketNumber (past_in g) m → ⊥)
          → option_map_or is_done (replied g who (call.End m)) false
          ≡ option_map_or is_done (replied h who (call.End n)) false
      ended_in_both not_so = never_done g who m not_so.1 ∙ sym (never_done h who n not_so.0)

-- ---- what is due is fired

pub fired_alike : (n : ℕ) {f : ℕ → ℕ} {h g : History} → AreHistoriesAlike f h g → (who : Who)
    → GoOnAlike f h g (fired n h who) (fired n g who)
unfolding fired
fired_alike zero a who = stand_still a
fired_alike (suc n) {f} {h} {g} a who =
    let on = stepped_plain a who call.Fire refl in
    at on (go_further on (fired_alike n on.alike who)) (replied h who call.Fire) (replied g who call.Fire)
    (replied_plain a who call.Fire refl)
  where
    nothing_by : (k : ℕ → ℕ) (r : Reply) → is_nothing (reply_by k r) ≡ is_nothing r
    nothing_by k r = grind arith

    pick : {h₁ g₁ h₂ g₂ : History} (b c : Bool) → c ≡ b → GoOnAlike f h g h₁ g₁ → GoOnAlike f h g h₂ g₂
        → GoOnAlike f h g (if b then h₁ else h₂) (if c then g₁ else g₂)
    pick true true same on further = on
    pick false false same on further = further
    pick true false same on further = absurd (cc same)
    pick false true same on further = absurd (cc same)

    at : {h₁ g₁ h₂ g₂ : History} → GoOnAlike f h g h₁ g₁ → GoOnAlike f h g h₂ g₂ → (o p : Option Reply)
        → p ≡ option_map (reply_by (next_by f (past_in h) (past_in g))) o
        → GoOnAlike f h g (option_map_or (λ r. if is_nothing r then h₁ else h₂) o h)
        (option_map_or (λ r. if is_nothing r then g₁ else g₂) p g)
    at on further None None same = stand_still a
    at on further None (Some r) same = absurd (cc same)
    at on further (Some r) None same = absurd (cc same)
    at on further (Some r) (Some q) same =
        pick (is_nothing r) (is_nothing q)
        (ap is_nothing (same_Some _ _ same) ∙ nothing_by (next_by f (past_in h) (past_in g)) r) on further

-- a wait that would end is for a ticket that is unended
unended : (h : History) (who : Who) (n : ℕ) → ends h who n ≡ true → (IsTicketNumber (past_in h) n → ⊥) → ⊥
unfolding ends
unended h who n is not_so = not_both (sym (never_done h who n not_so) ∙ is)
  where
    not_both : false ≡ true → ⊥
    not_both h = cc

pub ended_alike : {f : ℕ → ℕ} {h g : History} → AreHistoriesAlike f h g → (who : Who) (w v : Ticketed)
    → AreWaitsAlike (AreTicketsAlike f h g) w v → ends h who w.ticket ≡ true
    → GoOnAlike f h g (ended h who w) (ended g who v)
unfolding ended
ended_alike {f} {h} {g} a who w v wait is =
    ⊎_elim still (λ not_so. absurd (unended h who w.ticket is not_so.0)) wait.ticket.ticket
  where
    drained : (b c : Bool) → c ≡ b → (h₁ g₁ : History) → GoOnAlike f h g h₁ g₁
        → GoOnAlike f h g (if b then fired h₁.layout.items h₁ who else h₁)
        (if c then fired g₁.layout.items g₁ who else g₁)
    drained true true same h₁ g₁ on =
        go_further on
        (subst (λ n. GoOnAlike on.by h₁ g₁ (fired h₁.layout.items h₁ who) (fired n g₁ who))
        (sym (ap (λ (s : Layout). s.items) on.alike.layout)) (fired_alike h₁.layout.items on.alike who))
    drained false false same h₁ g₁ on = on
    drained true false same h₁ g₁ on = absurd (cc same)
    drained false true same h₁ g₁ on = absurd (cc same)

    still : IsTicketNumber (past_in h) w.ticket × (v.ticket ≡ f w.ticket)
        → GoOnAlike f h g (ended h who w) (ended g who v)
    still t =
        drained (is_drain w.call) (is_drain v.call) (ap is_drain wait.call) _ _
        (subst (λ n. GoOnAlike f h g (stepped h who (call.End w.ticket)) (stepped g who (call.End n))) (sym t.1)
        (stepped_alike a who (call.End w.ticket) t.0))

-- ---- whole calls

-- a reply gives the ticket of its entry, which is unended then
pub given_both : (r : Reply) (n : ℕ) → ticket_told r ≡ Some n → (gives_ticket r ≡ true) × (number_given r ≡ Some n)
given_both r n h = grind arith

given_by : (k : ℕ → ℕ) (r : Reply) → ticket_told (reply_by k r) ≡ option_map k (ticket_told r)
given_by k r = grind arith

pub record IsNewTicket (past : List Entry) (e : Entry) (n : ℕ) : Type 0 where
  pub unended : IsTicketNumber (e ∷ past) n
  pub number : n ≡ length past

pub new_ticket : (s : Layout) (past : List Entry) (e : Entry) (n : ℕ) → IsLegal s (e ∷ past)
    → ticket_told e.reply ≡ Some n → IsNewTicket past e n
new_ticket s past e n legal given =
    let both = given_both e.reply n given in
    let reason = ticket_reason s past e.who e.call e.reply (legal_fits s past e legal) (cause_of s past e legal) both.0
    in
    let number : n ≡ length past = same_Some n (length past) (sym both.1 ∙ reason.3) in
    let made : ticket_in e (length past) ≡ Some (record { caller = reason.0; call = e.call; number = length past }) =
    ap (λ b. if b then ticket_for e.who e.call (length past) else None) both.0
    ∙ ap (λ who. ticket_for who e.call (length past)) reason.1 in
    let here = in_right (filter (is_kept e) (unended_tickets past)) (option_to_list (ticket_in e (length past))) _
    (option_in (ticket_in e (length past)) _ made) in
    record {
      unended = subst (IsTicketNumber (e ∷ past)) (sym number)
          (in_mapped ticket_number (unended_tickets (e ∷ past)) _
          (subst (In (record { caller = reason.0; call = e.call; number = length past }))
          (sym (unended_go_on s past e legal)) here));
      number = number;
    }

abbrev pub AreOutcomesAlike : (ℕ → ℕ → Type 0) → Called → Called → Type 0
AreOutcomesAlike R NoRoom NoRoom = Unit {0}
AreOutcomesAlike R Whole Whole = Unit {0}
AreOutcomesAlike R (Waits w) (Waits v) = AreWaitsAlike R w v
AreOutcomesAlike R o p = ⊥

pub record CallsAreAlike (f : ℕ → ℕ) (h g : History) (r q : AfterCall) : Type 0 where
  pub on : GoOnAlike f h g r.history q.history
  pub outcome : AreOutcomesAlike (AreTicketsAlike on.by r.history q.history) r.outcome q.outcome

module _ {f : ℕ → ℕ} {h g : History} (a : AreHistoriesAlike f h g) where
  -- the ticket that a call gives is alike to that of the same call in the other
  abbrev BeginAlike : ℕ → ℕ → History → History → Type 0
  BeginAlike n m h₁ g₁ = (on : GoOnAlike f h g h₁ g₁) × AreTicketsAlike on.by h₁ g₁ n m

  new_wait : (e d : Entry) (n : ℕ) → IsStep h.layout f (past_in h) (past_in g) e d → ticket_told e.reply ≡ Some n
      → BeginAlike n (next_by f (past_in h) (past_in g) n) (with_entry h e) (with_entry g d)
  unfolding appended
  new_wait e d n k given =
      let by = next_by f (past_in h) (past_in g) in
      let t = new_ticket h.layout (past_in h) e n k.legal given in
      let other_number : by n ≡ length (past_in g) = ap by t.number ∙ new_is f (past_in h) (past_in g) in
      let wait : IsWaitAlike by (e ∷ past_in h) (d ∷ past_in g) n (by n) = record {
        below = omega (arith, t.number);
        other_below = omega (arith, other_number);
        ticket = inl (t.unended, refl);
      } in (
        appended a e d k,
        subst (λ past. IsWaitAlike by past (past_in (with_entry g d)) n (by n)) (sym (one_more_is_newest h.entries e))
            (subst (λ past. IsWaitAlike by (e ∷ past_in h) past n (by n)) (sym (one_more_is_newest g.entries d)) wait),
      )

  waits_new : (who : Who) (c : Call) → IsPlain c → (r : Reply) → replied h who c ≡ Some r → (n : ℕ)
      → ticket_told r ≡ Some n
      → BeginAlike n (next_by f (past_in h) (past_in g) n) (stepped h who c) (stepped g who c)
  unfolding replied stepped
  waits_new who c plain r is n given =
      at (is_made h who c) (is_made g who c) refl
      (ap (is_made g who) (sym (plain_call f c plain)) ∙ made_alike a who c (plain_asks (past_in h) c plain)) is
    where
      told : (b : Bool) (q : Reply) → (if b then Some q else None) ≡ Some r → (b ≡ true) × (q ≡ r)
      told b q h = grind arith

      step : is_made h who c ≡ true → IsStep h.layout f (past_in h) (past_in g) (next_entry h who c)
          (next_entry g who c)
      step made =
          subst (λ d. IsStep h.layout f (past_in h) (past_in g) (next_entry h who c) (next_entry g who d))
          (plain_call f c plain) (next_step a who c (plain_asks (past_in h) c plain) (fits_made a who c made))

      at : (b d : Bool) → is_made h who c ≡ b → d ≡ is_made h who c
          → (if b then Some (answer h.layout (past_in h) who c) else None) ≡ Some r
          → BeginAlike n (next_by f (past_in h) (past_in g) n) (if b then with_entry h (next_entry h who c) else h)
          (if d then with_entry g (next_entry g who c) else g)
      at true true made same q =
          new_wait (next_entry h who c) (next_entry g who c) n (step made) (ap ticket_told (told true _ q).1 ∙ given)
      at true false made same q = absurd (cc (same ∙ made))
      at false d made same q = absurd (cc (sym (told false (answer h.layout (past_in h) who c) q).0))

  begun_alike : {h₁ g₁ : History} (on : GoOnAlike f h g h₁ g₁) (who : Who) (w v : Ticketed)
      → AreWaitsAlike (AreTicketsAlike on.by h₁ g₁) w v → CallsAreAlike f h g (begun h₁ who w) (begun g₁ who v)
  begun_alike {h₁} {g₁} on who w v wait =
      at (ends h₁ who w.ticket) (ends g₁ who v.ticket) (ends_alike on.alike who w.ticket v.ticket wait.ticket)
      (λ is. go_further on (ended_alike on.alike who w v wait is))
    where
      at : {h₂ g₂ : History} (b c : Bool) → c ≡ b → (b ≡ true → GoOnAlike f h g h₂ g₂)
          → CallsAreAlike f h g (if b then record { history = h₂; outcome = Whole }
          else record { history = h₁; outcome = Waits w })
          (if c then record { history = g₂; outcome = Whole } else record { history = g₁; outcome = Waits v })
      at true true same done = record { on = done refl; outcome = tt }
      at false false same done = record { on = on; outcome = wait }
      at true false same done = absurd (cc same)
      at false true same done = absurd (cc same)

  after_reply_alike : (who : Who) (c : Call) → IsPlain c → (r : Reply) → replied h who c ≡ Some r
      → CallsAreAlike f h g (after_reply (stepped h who c) who c r)
      (after_reply (stepped g who c) who c (reply_by (next_by f (past_in h) (past_in g)) r))
  after_reply_alike who c plain r is =
      at (is_tick c) (ticket_told r) (ticket_told (reply_by (next_by f (past_in h) (past_in g)) r)) refl
      (given_by (next_by f (past_in h) (past_in g)) r)
    where
      on : GoOnAlike f h g (stepped h who c) (stepped g who c)
      on = stepped_plain a who c plain

      due : GoOnAlike f h g (fired (stepped h who c).layout.items (stepped h who c) who)
          (fired (stepped g who c).layout.items (stepped g who c) who)
      due =
          go_further on
          (subst (λ n. GoOnAlike on.by (stepped h who c) (stepped g who c)
          (fired (stepped h who c).layout.items (stepped h who c) who) (fired n (stepped g who c) who))
          (sym (ap (λ (s : Layout). s.items) on.alike.layout))
          (fired_alike (stepped h who c).layout.items on.alike who))

      at : (tick : Bool) (o p : Option ℕ) → ticket_told r ≡ o
          → p ≡ option_map (next_by f (past_in h) (past_in g)) (ticket_told r)
          → CallsAreAlike f h g
          (if tick then record { history = fired (stepped h who c).layout.items (stepped h who c) who; outcome = Whole }
          else option_map_or (λ k. begun (stepped h who c) who (record { ticket = k; call = c })) o
          (record { history = stepped h who c; outcome = Whole }))
          (if tick then record { history = fired (stepped g who c).layout.items (stepped g who c) who; outcome = Whole }
          else option_map_or (λ k. begun (stepped g who c) who (record { ticket = k; call = c })) p
          (record { history = stepped g who c; outcome = Whole }))
      at true o p given same = record { on = due; outcome = tt }
      at false None None given same = record { on = on; outcome = tt }
      at false None (Some m) given same = absurd (cc (same ∙ ap (option_map (next_by f (past_in h) (past_in g))) given))
      at false (Some n) None given same = absurd (cc (same ∙ ap (option_map (next_by f (past_in h) (past_in g))) given))
      at false (Some n) (Some m) given same =
          let new = waits_new who c plain r is n given in
          let number : m ≡ next_by f (past_in h) (past_in g) n =
          same_Some _ _ (same ∙ ap (option_map (next_by f (past_in h) (past_in g))) given) in
          begun_alike new.0 who (record { ticket = n; call = c }) (record { ticket = m; call = c })
          (record {
            call = refl;
            ticket =
                subst (AreTicketsAlike new.0.by (stepped h who c) (stepped g who c) n) (sym number) new.1;
          })

  pub called_alike : (who : Who) (c : Call) → IsPlain c → CallsAreAlike f h g (called h who c) (called g who c)
  unfolding called
  called_alike who c plain = at (replied h who c) (replied g who c) refl (replied_plain a who c plain)
    where
      at : (o p : Option Reply) → replied h who c ≡ o
          → p ≡ option_map (reply_by (next_by f (past_in h) (past_in g))) (replied h who c)
          → CallsAreAlike f h g (option_map_or (after_reply (stepped h who c) who c) o
          (record { history = h; outcome = NoRoom }))
          (option_map_or (after_reply (stepped g who c) who c) p (record { history = g; outcome = NoRoom }))
      at None None is same = record { on = stand_still a; outcome = tt }
      at None (Some q) is same =
          absurd (cc (same ∙ ap (option_map (reply_by (next_by f (past_in h) (past_in g)))) is))
      at (Some r) None is same =
          absurd (cc (same ∙ ap (option_map (reply_by (next_by f (past_in h) (past_in g)))) is))
      at (Some r) (Some q) is same =
          subst (λ q. CallsAreAlike f h g (after_reply (stepped h who c) who c r)
          (after_reply (stepped g who c) who c q))
          (sym (same_Some _ _ (same ∙ ap (option_map (reply_by (next_by f (past_in h) (past_in g)))) is)))
          (after_reply_alike who c plain r is)
