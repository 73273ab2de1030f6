-- Whole calls of one who spare the others: nobody else has an entry more, and what other workers run is as awake.
use Rattle.std.specs.Prelude.{if◌then◌else◌}
use Rattle.std.specs.Option.{option_map_or}
use Rattle.std.proofs.Common.{◌≡◌, ◌∙◌, ◌++◌, ◌∷◌, ℕ, zero, suc, Bool, true, false, List, [], Option, Some, None}
use Rattle.std.proofs.Common.{refl, sym, ap, subst, arith}
use mathlib.Core.List.{IsPrefix}
use Rattle.cmwq_lemmas.proofs.Lists.{count_by-cons}
use Rattle.cmwq_model.specs.Prelude.{is_drain, is_nothing, is_tick, ticket_told}
use Rattle.cmwq_model.specs.Prelude.{Layout, is_by, past_of, same_who, serial_of}
unfoldable use Rattle.cmwq_model.specs.Prelude.{IsLegal}
use Rattle.cmwq_model.specs.declared.call.Call.{Call}
use Rattle.cmwq_model.specs.declared.call.Call.TheVariants as call
use Rattle.cmwq_model.specs.declared.entry.Entry.{Entry}
use Rattle.cmwq_model.specs.declared.id.Who.{Who}
use Rattle.cmwq_model.specs.declared.id.Who.TheVariants.{Caller, Worker}
use Rattle.cmwq_model.specs.declared.reply.Reply.{Reply}
use Rattle.cmwq_model.proofs.Growing.{one_more_is_newest}
use Rattle.cmwq_core.specs.History.{History, next_entry, past_in, with_entry}
use Rattle.cmwq_monitor.proofs.Beginnings.{prefix_of_prefix, prefix_self, prefix_trans}
use Rattle.cmwq_play.specs.Machines.{AfterCall, after_reply, begun, ends, is_made}
use Rattle.cmwq_play.specs.Machines.{replied}
unfoldable use Rattle.cmwq_play.specs.Machines.{called, ended, fired, stepped}
use Rattle.cmwq_play.specs.declared.machine.Called.TheVariants.{NoRoom, Whole, Waits as Began}
use Rattle.cmwq_play.specs.declared.place.Ticketed.{Ticketed}
use Rattle.cmwq_schedule_laws.proofs.Awake.{IsAsAwake, awake_further, awake_itself, other_entry}
use Rattle.cmwq_schedule_laws.proofs.Keeping.{IsKept, kept_after, unmade_stays}
use Rattle.cmwq_schedule_laws.proofs.WaitsGoing.{WaitsGo, waits_entry, waits_further, waits_stay}

-- what a worker runs is as awake as it was
abbrev pub RunsAsAwake : Who → List Entry → List Entry → Type 0
RunsAsAwake (Worker w) old new = IsAsAwake (past_of old) (past_of new) w
RunsAsAwake (Caller c) old new = Unit {0}

-- one who has as many entries as before
pub record Spares (who : Who) (old new : List Entry) : Type 0 where
  pub longer : IsPrefix old new
  pub same : serial_of (past_of new) who ≡ serial_of (past_of old) who
  pub awake : RunsAsAwake who old new

awake_stays : (who : Who) (old : List Entry) → RunsAsAwake who old old
awake_stays (Worker w) old = awake_itself (past_of old) w
awake_stays (Caller c) old = tt

awake_on : (who : Who) (a b c : List Entry) → RunsAsAwake who a b → RunsAsAwake who b c → RunsAsAwake who a c
awake_on (Worker w) a b c x y = awake_further (past_of a) (past_of b) (past_of c) w x y
awake_on (Caller k) a b c x y = tt

pub spares_itself : (who : Who) (log : List Entry) → Spares who log log
spares_itself who log = record { longer = prefix_self log; same = refl; awake = awake_stays who log }

pub spares_further : (who : Who) (a b c : List Entry) → Spares who a b → Spares who b c → Spares who a c
spares_further who a b c x y = record {
  longer = prefix_trans a b c x.longer y.longer;
  same = y.same ∙ x.same;
  awake = awake_on who a b c x.awake y.awake;
}

-- ---- one entry

other_counted : (past : List Entry) (e : Entry) (who : Who) → is_by who e ≡ false
    → serial_of (e ∷ past) who ≡ serial_of past who
other_counted past e who other =
    let more = count_by-cons (is_by who) e past in
    grind (arith, more, other)

entry_awake : (s : Layout) (past : List Entry) (e : Entry) (who : Who) → IsLegal s (e ∷ past) → is_by who e ≡ false
    → (old new : List Entry) → past_of old ≡ past → past_of new ≡ e ∷ past → RunsAsAwake who old new
entry_awake s past e (Worker w) legal other old new was is =
    subst (λ (p : List Entry). IsAsAwake p (past_of new) w) (sym was)
    (subst (λ (p : List Entry). IsAsAwake past p w) (sym is) (other_entry s past e w legal other))
entry_awake s past e (Caller c) legal other old new was is = tt

made_spares : (h : History) (maker who : Who) (c : Call) → IsKept h.layout h
    → IsKept h.layout (with_entry h (next_entry h maker c)) → same_who maker who ≡ false
    → Spares who h.entries (h.entries ++ next_entry h maker c ∷ [])
made_spares h maker who c kept new other =
    let e = next_entry h maker c in
    let newest = one_more_is_newest h.entries e in
    record {
      longer = prefix_of_prefix h.entries (e ∷ []);
      same = ap (λ past. serial_of past who) newest ∙ other_counted (past_in h) e who other;
      awake = entry_awake h.layout (past_in h) e who (subst (IsLegal h.layout) newest new.legal) other h.entries
          (h.entries ++ e ∷ []) refl newest;
    }

made_waits : (first : ℕ) (h : History) (maker : Who) (c : Call)
    → IsKept h.layout (with_entry h (next_entry h maker c))
    → WaitsGo first maker (past_in h) (past_in (with_entry h (next_entry h maker c)))
made_waits first h maker c new =
    let e = next_entry h maker c in
    let newest = one_more_is_newest h.entries e in
    subst (WaitsGo first maker (past_in h)) (sym newest)
    (waits_entry first h.layout (past_in h) e (subst (IsLegal h.layout) newest new.legal))

-- ---- calls

-- a history that goes on by entries of one maker
pub record GoesOn (s : Layout) (maker : Who) (h g : History) : Type 0 where
  pub kept : IsKept s g
  pub spares : (who : Who) → same_who maker who ≡ false → Spares who h.entries g.entries
  pub waits : (first : ℕ) → WaitsGo first maker (past_in h) (past_in g)

module _ (s : Layout) (maker : Who) where
  pub goes_nowhere : (h : History) → IsKept s h → GoesOn s maker h h
  goes_nowhere h kept = record {
    kept = kept;
    spares = λ who other. spares_itself who h.entries;
    waits = λ first. waits_stay first maker (past_in h);
  }

  pub goes_further : (h g i : History) → GoesOn s maker h g → GoesOn s maker g i → GoesOn s maker h i
  goes_further h g i a b = record {
    kept = b.kept;
    spares = λ who other. spares_further who h.entries g.entries i.entries (a.spares who other) (b.spares who other);
    waits = λ first. waits_further first maker (past_in h) (past_in g) (past_in i) (a.waits first) (b.waits first);
  }

  either : (h g i : History) (b : Bool) → GoesOn s maker h g → GoesOn s maker h i
      → GoesOn s maker h (if b then g else i)
  either h g i true x y = x
  either h g i false x y = y

  pub stepped_goes : (h : History) (c : Call) → IsKept s h → GoesOn s maker h (stepped h maker c)
  unfolding stepped
  stepped_goes h c kept = at (is_made h maker c) refl
    where
      own : (b : Bool) → is_made h maker c ≡ b → IsKept h.layout h → IsKept h.layout (stepped h maker c)
          → GoesOn h.layout maker h (stepped h maker c)
      own true made k new =
          let steps : stepped h maker c ≡ with_entry h (next_entry h maker c) =
          ap (λ b. if b then with_entry h (next_entry h maker c) else h) made in
          subst (λ (g : History). IsKept h.layout g → GoesOn h.layout maker h g) (sym steps)
          (λ fresh. record {
            kept = fresh;
            spares = λ who other. made_spares h maker who c k fresh other;
            waits = λ first. made_waits first h maker c fresh;
          }) new
      own false not k new =
          subst (λ (g : History). GoesOn h.layout maker h g) (sym (unmade_stays h maker c not)) record {
            kept = k;
            spares = λ who other. spares_itself who h.entries;
            waits = λ first. waits_stay first maker (past_in h);
          }

      at : (b : Bool) → is_made h maker c ≡ b → GoesOn s maker h (stepped h maker c)
      at b made =
          subst (λ (l : Layout). IsKept l h → IsKept l (stepped h maker c) → GoesOn l maker h (stepped h maker c))
          kept.layout (own b made) kept (kept_after s h maker c kept)

  pub fired_goes : (n : ℕ) (h : History) → IsKept s h → GoesOn s maker h (fired n h maker)
  unfolding fired
  fired_goes zero h kept = goes_nowhere h kept
  fired_goes (suc n) h kept =
      at (stepped_goes h call.Fire kept) (fired_goes n (stepped h maker call.Fire)
      (kept_after s h maker call.Fire kept))
      (replied h maker call.Fire)
    where
      at : GoesOn s maker h (stepped h maker call.Fire)
          → GoesOn s maker (stepped h maker call.Fire) (fired n (stepped h maker call.Fire) maker) → (o : Option Reply)
          → GoesOn s maker h (option_map_or (λ r. if is_nothing r then stepped h maker call.Fire
          else fired n (stepped h maker call.Fire) maker) o h)
      at one on None = goes_nowhere h kept
      at one on (Some r) =
          either h _ _ (is_nothing r) one (goes_further h (stepped h maker call.Fire) _ one on)

  pub ended_goes : (h : History) (w : Ticketed) → IsKept s h → GoesOn s maker h (ended h maker w)
  unfolding ended
  ended_goes h w kept =
      let one = stepped_goes h (call.End w.ticket) kept in
      either h _ _ (is_drain w.call)
      (goes_further h (stepped h maker (call.End w.ticket)) _ one
      (fired_goes (stepped h maker (call.End w.ticket)).layout.items (stepped h maker (call.End w.ticket)) one.kept))
      one

  begun_goes : (h : History) (w : Ticketed) → IsKept s h → GoesOn s maker h (begun h maker w).history
  begun_goes h w kept = at (ends h maker w.ticket)
    where
      Goes : AfterCall → Type 0
      Goes r = GoesOn s maker h r.history

      at : (b : Bool) → Goes (if b then record { history = ended h maker w; outcome = Whole }
          else record { history = h; outcome = Began w })
      at true = ended_goes h w kept
      at false = goes_nowhere h kept

  pub called_goes : (h : History) (c : Call) → IsKept s h → GoesOn s maker h (called h maker c).history
  unfolding called
  called_goes h c kept = at (replied h maker c)
    where
      one : GoesOn s maker h (stepped h maker c)
      one = stepped_goes h c kept

      Goes : AfterCall → Type 0
      Goes r = GoesOn s maker h r.history

      given : (o : Option ℕ)
          → Goes (option_map_or (λ k. begun (stepped h maker c) maker (record { ticket = k; call = c })) o
          (record { history = stepped h maker c; outcome = Whole }))
      given None = one
      given (Some k) =
          goes_further h (stepped h maker c) _ one
          (begun_goes (stepped h maker c) (record { ticket = k; call = c }) one.kept)

      told : (b : Bool) (r : Reply)
          → Goes (if b then record {
            history = fired (stepped h maker c).layout.items (stepped h maker c) maker;
            outcome = Whole;
          } else option_map_or (λ k. begun (stepped h maker c) maker (record { ticket = k; call = c })) (ticket_told r)
          (record { history = stepped h maker c; outcome = Whole }))
      told true r =
          goes_further h (stepped h maker c) _ one
          (fired_goes (stepped h maker c).layout.items (stepped h maker c) one.kept)
      told false r = given (ticket_told r)

      at : (o : Option Reply)
          → Goes (option_map_or (after_reply (stepped h maker c) maker c) o (record { history = h; outcome = NoRoom }))
      at None = goes_nowhere h kept
      at (Some r) = told (is_tick c) r
