-- Premises of the law that a hub does not hang by itself, as tests that can be computed.
use Rattle.std.proofs.Common.{◌≡◌, ◌∙◌, ◌∷◌, Bool, List, None, Option, Some, ℕ, ap, arith, false, not, refl, subst, sym}
use Rattle.std.proofs.Common.{true, []}
use Rattle.std.specs.Prelude.{◌&&◌, Contains, is_some}
use Rattle.std.specs.List.{list_any}
use Rattle.std.specs.Option.{option_map_or}
use Rattle.std.proofs.lemmas.Bool.{and_from, and_parts, both_ways, false_from_ne_true}
use Rattle.cmwq_lemmas.proofs.Members.{any_in, contained_in}
unfoldable use Rattle.cmwq_model.specs.Prelude.{IsLegal}
use Rattle.cmwq_model.specs.Prelude.{Layout, is_frozen, is_started, opening, still_open, workers}
use Rattle.cmwq_model.specs.Widths.{width_told}
use Rattle.cmwq_model.specs.declared.entry.Entry.{Entry}
use Rattle.cmwq_model.specs.declared.record.Queueing.{Queueing}
use Rattle.cmwq_theory_wakes.specs.Readiness.{is_unready}
use Rattle.cmwq_theory_wakes.specs.Starting.{would_start}
use Rattle.cmwq_waits.specs.HeldUp.{awaits}
use Rattle.cmwq_waits.specs.Refused.{is_of_run, refusal}
use Rattle.cmwq_waits.specs.declared.run_wait.RunWait.{RunWait}
use Rattle.cmwq_waits.specs.declared.waits.Stuck.{Stuck}
use Rattle.cmwq_waits.specs.Allowed.{RefusesIn, WaitsWereAllowed, before_last}
use Rattle.cmwq_waiting.specs.Deadlocks.{MayTrap, NoneMayTrap, narrows, queues}
use Rattle.cmwq_waiting.specs.Rest.{EachRunWaits, IsAtRest, NoneShutDown}
use Rattle.cmwq_waits.specs.Begun.{wait_begun, waits_of}
use Rattle.cmwq_waiting.proofs.Allowed.{no_width}
use Rattle.cmwq_waits.proofs.Few.{there_in}
use Rattle.cmwq_waiting.proofs.Refused.{refusals_are_refused}

-- ---- of each entry

unfoldable pub each_entry : (List Entry → Entry → Bool) → List Entry → Bool
each_entry p [] = true
each_entry p (e ∷ past) = p past e && each_entry p past

-- ---- each wait was allowed

abbrev pub allows : ℕ → Layout → List Entry → RunWait → Entry → Bool
allows first s past w e = not (is_some (refusal s past (waits_of first past) w.run e.call))

abbrev pub was_allowed : ℕ → Layout → List Entry → Entry → Bool
was_allowed first s past e = option_map_or (λ w. allows first s (before_last past) w e) (wait_begun first past e) true

legal_before_last : (s : Layout) (past : List Entry) → IsLegal s past → IsLegal s (before_last past)
unfolding IsLegal
legal_before_last s [] legal = legal
legal_before_last s (e ∷ past) legal = legal.2

is_none : (o : Option Stuck) → not (is_some o) ≡ true → o ≡ None
is_none None h = refl
is_none (Some x) h = absurd (cc h)

pub all_allowed : (first : ℕ) (s : Layout) (past : List Entry) → IsLegal s past
    → each_entry (was_allowed first s) past ≡ true → WaitsWereAllowed first s past
unfolding IsLegal each_entry
all_allowed first s [] legal all = tt
all_allowed first s (e ∷ past) legal all =
    let k = and_parts (was_allowed first s past e) (each_entry (was_allowed first s) past) all in
    (λ w begun. this w begun k.0, all_allowed first s past legal.2 k.1)
  where
    this : (w : RunWait) → wait_begun first past e ≡ Some w → was_allowed first s past e ≡ true
        → RefusesIn first s (before_last past) w.run e.call None
    this w begun is =
        let allowed = sym (ap (λ o. option_map_or (λ w. allows first s (before_last past) w e) o true) begun) ∙ is in
        subst (λ o. RefusesIn first s (before_last past) w.run e.call o) (is_none _ allowed)
        (refusals_are_refused first s (before_last past) w.run e.call (legal_before_last s past legal.2))

-- ---- no entry may trap waits

abbrev pub queues_awaited : ℕ → List Entry → Entry → Queueing → Bool
queues_awaited first past e x = list_any (λ (w : RunWait). awaits (e ∷ past) w.ticket x) (waits_of first past)

abbrev pub is_calm : ℕ → List Entry → Entry → Bool
is_calm first past e = not (is_some (width_told e.reply))
    && not (option_map_or (queues_awaited first past e) (opening past e) false)

none_told : (o : Option ℕ) → not (is_some o) ≡ true → o ≡ None
none_told None h = refl
none_told (Some x) h = absurd (cc h)

pub none_traps : (first : ℕ) (s : Layout) (past : List Entry) → each_entry (is_calm first) past ≡ true
    → NoneMayTrap first s past
unfolding each_entry
none_traps first s [] all = tt
none_traps first s (e ∷ past) all =
    let k = and_parts (is_calm first past e) (each_entry (is_calm first) past) all in
    let parts = and_parts (not (is_some (width_told e.reply)))
    (not (option_map_or (queues_awaited first past e) (opening past e) false)) k.0 in
    (calm parts.0 parts.1, none_traps first s past k.1)
  where
    calm : not (is_some (width_told e.reply)) ≡ true
        → not (option_map_or (queues_awaited first past e) (opening past e) false) ≡ true → MayTrap first s past e → ⊥
    calm untold quiet (narrows w here x opened unstarted up less) =
        let same = no_width s past e x.place.queue.0 (none_told (width_told e.reply) untold) in
        absurd (omega (arith, less, same))
    calm untold quiet (queues w here x opened up) =
        let some = any_in (λ (v : RunWait). awaits (e ∷ past) v.ticket x) (waits_of first past) w
        (contained_in (waits_of first past) w here) up in
        let none : option_map_or (queues_awaited first past e) (opening past e) false ≡ false = grind (arith, quiet) in
        absurd (both_ways _ none (ap (λ o. option_map_or (queues_awaited first past e) o false) opened ∙ some))

-- ---- rest

pub at_rest : (first : ℕ) (s : Layout) (past : List Entry) → list_any (would_start s past) (workers s) ≡ false
    → list_any (λ (w : RunWait). not (is_unready past w.ticket.number w.ticket.call)) (waits_of first past) ≡ false
    → IsAtRest first s past
at_rest first s past none_starts none_ready = record {
  workers = λ w there. false_from_ne_true _ (λ starts.
      both_ways _ none_starts (any_in (would_start s past) (workers s) w (there_in s w there) starts));
  waits = λ w here. by (is_unready past w.ticket.number w.ticket.call) w refl here;
}
  where
    by : (b : Bool) (w : RunWait) → is_unready past w.ticket.number w.ticket.call ≡ b
        → Contains (waits_of first past) w → is_unready past w.ticket.number w.ticket.call ≡ true
    by true w is here = is
    by false w is here =
        absurd (both_ways _ none_ready (any_in (λ (v : RunWait). not (is_unready past v.ticket.number v.ticket.call))
        (waits_of first past) w (contained_in (waits_of first past) w here) (ap not is)))

-- ---- each run waits

abbrev pub acts : ℕ → List Entry → Queueing → Bool
acts first past x = is_started past x.number && not (list_any (is_of_run x.number) (waits_of first past))

pub all_wait : (first : ℕ) (past : List Entry) → list_any (acts first past) (still_open past) ≡ false
    → EachRunWaits first past
all_wait first past none x here started = by (list_any (is_of_run x.number) (waits_of first past)) refl
  where
    by : (b : Bool) → list_any (is_of_run x.number) (waits_of first past) ≡ b
        → list_any (is_of_run x.number) (waits_of first past) ≡ true
    by true is = is
    by false is =
        absurd (both_ways _ none (any_in (acts first past) (still_open past) x (contained_in (still_open past) x here)
        (and_from _ _ started (ap not is))))

-- ---- nothing is frozen

pub none_frozen : (s : Layout) (past : List Entry) → is_frozen past ≡ false → NoneShutDown s past
none_frozen s past thawed x here = grind (arith, thawed)
