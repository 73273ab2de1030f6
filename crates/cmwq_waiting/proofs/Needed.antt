-- The worked histories of the law that a hub does not hang by itself, by computation.
use Rattle.std.proofs.Common.{◌≡◌, ◌++◌, ◌∷◌, List, arith, false, map, refl, subst, true, ⊎_elim, []}
use Rattle.std.specs.Prelude.{Contains}
use Rattle.std.specs.List.{AllByRecursion}
use Rattle.cmwq_lemmas.proofs.Members.{contained_in}
use Rattle.cmwq_model.specs.Prelude.{IsLegal, Layout, fits, is_active, is_started, past_of, steps, still_open}
use Rattle.cmwq_model.specs.declared.call.Call.{Call}
use Rattle.cmwq_model.specs.declared.entry.Entry.{Entry}
use Rattle.cmwq_model.specs.declared.id.Who.{Who}
use Rattle.cmwq_model.specs.declared.record.Queueing.{Queueing}
use Rattle.cmwq_model_examples.specs.Words.{call_made}
use Rattle.cmwq_model_examples.proofs.Definitions.{definitions}
use Rattle.cmwq_theory_laws.proofs.OneEntry.{steps_are_legal}
unfoldable use Rattle.cmwq_waits.specs.Refused.{left_of}
use Rattle.cmwq_waiting.specs.Needed as premise
use Rattle.cmwq_waiting.specs.Needed.{Holds, IsNeeded, LentPremisesAreNeeded, OverPremisesAreNeeded, Premise}
use Rattle.cmwq_waiting.specs.Needed.{PremisesAreMet, PremisesAreNeeded, Story, active, alone, ended, finishing}
use Rattle.cmwq_waiting.specs.Needed.{for_itself, freezable, frozen, inactive, narrowed, one_queue, queued}
use Rattle.cmwq_waiting.specs.Needed.{queued_in_drain, retired, running, started, taking_back, two_queues, waiting}
use Rattle.cmwq_waiting.specs.Needed.{without_workers, woken}
use Rattle.cmwq_waiting.specs.Needed.{FrozenPremise, FrozenPremisesAreNeeded, HoldsThen, IsNeededThen}
use Rattle.cmwq_waiting.specs.Rest.{NoneActive, NoneRuns}
unfoldable use Rattle.cmwq_waits.specs.Begun.{waits_of}
unfoldable use Rattle.cmwq_waiting.proofs.Deciding.{each_entry}
use Rattle.cmwq_waiting.proofs.Deciding.{all_allowed, all_wait, at_rest, none_frozen, none_traps}

-- a history that its calls give
pub told : (s : Layout) (entries : List Entry)
    → AllByRecursion (λ (c : Who × Call). fits s c.0 c.1 ≡ true) (map call_made entries)
    → (steps s 100 (map call_made entries)).past ≡ past_of entries → IsLegal s (past_of entries)
told s entries fit gives = subst (IsLegal s) gives (steps_are_legal s 100 (map call_made entries) fit)

-- ---- one history meets all

abbrev story : Layout → List Entry → Story
story s entries = record { layout = s; entries = entries }

ended_legal : IsLegal (one_queue 2) (past_of ended.entries)
unfolding definitions
ended_legal =
    told (one_queue 2) ended.entries
    (refl, (refl, (refl, (refl, (refl, (refl, (refl, (refl, (refl, (refl, tt)))))))))) refl

pub premises_are_met : PremisesAreMet
unfolding definitions waits_of each_entry left_of
premises_are_met = record { waits = refl; holds = holds; none_open = refl }
  where
    holds : (q : Premise) → Holds q ended
    holds premise.layout = refl
    holds premise.legal = ended_legal
    holds premise.allowed = all_allowed 1 ended.layout (past_of ended.entries) ended_legal refl
    holds premise.untrapped = none_traps 1 ended.layout (past_of ended.entries) refl
    holds premise.rest = at_rest 1 ended.layout (past_of ended.entries) refl refl
    holds premise.waits = all_wait 1 (past_of ended.entries) refl
    holds premise.unfrozen = none_frozen ended.layout (past_of ended.entries) refl

-- ---- each is needed

no_workers_legal : IsLegal without_workers (past_of queued)
unfolding definitions
no_workers_legal = told without_workers queued (refl, tt) refl

no_workers : IsNeeded premise.layout (story without_workers queued)
unfolding definitions waits_of each_entry left_of
no_workers = record { others = others; is_open = λ none. cc none }
  where
    others : (q : Premise) → (q ≡ premise.layout → ⊥) → Holds q (story without_workers queued)
    others premise.layout not = absurd (not refl)
    others premise.legal not = no_workers_legal
    others premise.allowed not = all_allowed 1 without_workers (past_of queued) no_workers_legal refl
    others premise.untrapped not = none_traps 1 without_workers (past_of queued) refl
    others premise.rest not = at_rest 1 without_workers (past_of queued) refl refl
    others premise.waits not = all_wait 1 (past_of queued) refl
    others premise.unfrozen not = none_frozen without_workers (past_of queued) refl

no_places_legal : IsLegal (one_queue 0) (past_of queued)
unfolding definitions
no_places_legal = told (one_queue 0) queued (refl, tt) refl

no_places : IsNeeded premise.layout (story (one_queue 0) queued)
unfolding definitions waits_of each_entry left_of
no_places = record { others = others; is_open = λ none. cc none }
  where
    others : (q : Premise) → (q ≡ premise.layout → ⊥) → Holds q (story (one_queue 0) queued)
    others premise.layout not = absurd (not refl)
    others premise.legal not = no_places_legal
    others premise.allowed not = all_allowed 1 (one_queue 0) (past_of queued) no_places_legal refl
    others premise.untrapped not = none_traps 1 (one_queue 0) (past_of queued) refl
    others premise.rest not = at_rest 1 (one_queue 0) (past_of queued) refl refl
    others premise.waits not = all_wait 1 (past_of queued) refl
    others premise.unfrozen not = none_frozen (one_queue 0) (past_of queued) refl

made_up : IsNeeded premise.legal (story (one_queue 2) retired)
unfolding definitions waits_of each_entry left_of
made_up = record { others = others; is_open = λ none. cc none }
  where
    others : (q : Premise) → (q ≡ premise.legal → ⊥) → Holds q (story (one_queue 2) retired)
    others premise.layout not = refl
    others premise.legal not = absurd (not refl)
    others premise.allowed not = (λ w begun. absurd (cc begun), (λ w begun. absurd (cc begun), tt))
    others premise.untrapped not = none_traps 1 (one_queue 2) (past_of retired) refl
    others premise.rest not = at_rest 1 (one_queue 2) (past_of retired) refl refl
    others premise.waits not = all_wait 1 (past_of retired) refl
    others premise.unfrozen not = none_frozen (one_queue 2) (past_of retired) refl

refused_legal : IsLegal (one_queue 2) (past_of for_itself)
unfolding definitions
refused_legal = told (one_queue 2) for_itself (refl, (refl, (refl, (refl, tt)))) refl

refused : IsNeeded premise.allowed (story (one_queue 2) for_itself)
unfolding definitions waits_of each_entry left_of
refused = record { others = others; is_open = λ none. cc none }
  where
    others : (q : Premise) → (q ≡ premise.allowed → ⊥) → Holds q (story (one_queue 2) for_itself)
    others premise.layout not = refl
    others premise.legal not = refused_legal
    others premise.allowed not = absurd (not refl)
    others premise.untrapped not = none_traps 1 (one_queue 2) (past_of for_itself) refl
    others premise.rest not = at_rest 1 (one_queue 2) (past_of for_itself) refl refl
    others premise.waits not = all_wait 1 (past_of for_itself) refl
    others premise.unfrozen not = none_frozen (one_queue 2) (past_of for_itself) refl

narrower_legal : IsLegal (one_queue 2) (past_of narrowed)
unfolding definitions
narrower_legal =
    told (one_queue 2) narrowed (refl, (refl, (refl, (refl, (refl, (refl, (refl, (refl, (refl, tt))))))))) refl

narrower : IsNeeded premise.untrapped (story (one_queue 2) narrowed)
unfolding definitions waits_of each_entry left_of
narrower = record { others = others; is_open = λ none. cc none }
  where
    others : (q : Premise) → (q ≡ premise.untrapped → ⊥) → Holds q (story (one_queue 2) narrowed)
    others premise.layout not = refl
    others premise.legal not = narrower_legal
    others premise.allowed not = all_allowed 1 (one_queue 2) (past_of narrowed) narrower_legal refl
    others premise.untrapped not = absurd (not refl)
    others premise.rest not = at_rest 1 (one_queue 2) (past_of narrowed) refl refl
    others premise.waits not = all_wait 1 (past_of narrowed) refl
    others premise.unfrozen not = none_frozen (one_queue 2) (past_of narrowed) refl

in_drain_legal : IsLegal two_queues (past_of queued_in_drain)
unfolding definitions
in_drain_legal = told two_queues queued_in_drain (refl, (refl, (refl, (refl, (refl, (refl, (refl, (refl, tt)))))))) refl

in_drain : IsNeeded premise.untrapped (story two_queues queued_in_drain)
unfolding definitions waits_of each_entry left_of
in_drain = record { others = others; is_open = λ none. cc none }
  where
    others : (q : Premise) → (q ≡ premise.untrapped → ⊥) → Holds q (story two_queues queued_in_drain)
    others premise.layout not = refl
    others premise.legal not = in_drain_legal
    others premise.allowed not = all_allowed 1 two_queues (past_of queued_in_drain) in_drain_legal refl
    others premise.untrapped not = absurd (not refl)
    others premise.rest not = at_rest 1 two_queues (past_of queued_in_drain) refl refl
    others premise.waits not = all_wait 1 (past_of queued_in_drain) refl
    others premise.unfrozen not = none_frozen two_queues (past_of queued_in_drain) refl

unstarted_legal : IsLegal (one_queue 2) (past_of queued)
unfolding definitions
unstarted_legal = told (one_queue 2) queued (refl, tt) refl

unstarted : IsNeeded premise.rest (story (one_queue 2) queued)
unfolding definitions waits_of each_entry left_of
unstarted = record { others = others; is_open = λ none. cc none }
  where
    others : (q : Premise) → (q ≡ premise.rest → ⊥) → Holds q (story (one_queue 2) queued)
    others premise.layout not = refl
    others premise.legal not = unstarted_legal
    others premise.allowed not = all_allowed 1 (one_queue 2) (past_of queued) unstarted_legal refl
    others premise.untrapped not = none_traps 1 (one_queue 2) (past_of queued) refl
    others premise.rest not = absurd (not refl)
    others premise.waits not = all_wait 1 (past_of queued) refl
    others premise.unfrozen not = none_frozen (one_queue 2) (past_of queued) refl

ready_legal : IsLegal (one_queue 2) (past_of (waiting ++ running))
unfolding definitions
ready_legal = told (one_queue 2) (waiting ++ running) (refl, (refl, (refl, (refl, (refl, (refl, (refl, tt))))))) refl

ready : IsNeeded premise.rest (story (one_queue 2) (waiting ++ running))
unfolding definitions waits_of each_entry left_of
ready = record { others = others; is_open = λ none. cc none }
  where
    others : (q : Premise) → (q ≡ premise.rest → ⊥) → Holds q (story (one_queue 2) (waiting ++ running))
    others premise.layout not = refl
    others premise.legal not = ready_legal
    others premise.allowed not = all_allowed 1 (one_queue 2) (past_of (waiting ++ running)) ready_legal refl
    others premise.untrapped not = none_traps 1 (one_queue 2) (past_of (waiting ++ running)) refl
    others premise.rest not = absurd (not refl)
    others premise.waits not = all_wait 1 (past_of (waiting ++ running)) refl
    others premise.unfrozen not = none_frozen (one_queue 2) (past_of (waiting ++ running)) refl

acting_legal : IsLegal (one_queue 2) (past_of started)
unfolding definitions
acting_legal = told (one_queue 2) started (refl, (refl, tt)) refl

acting : IsNeeded premise.waits (story (one_queue 2) started)
unfolding definitions waits_of each_entry left_of
acting = record { others = others; is_open = λ none. cc none }
  where
    others : (q : Premise) → (q ≡ premise.waits → ⊥) → Holds q (story (one_queue 2) started)
    others premise.layout not = refl
    others premise.legal not = acting_legal
    others premise.allowed not = all_allowed 1 (one_queue 2) (past_of started) acting_legal refl
    others premise.untrapped not = none_traps 1 (one_queue 2) (past_of started) refl
    others premise.rest not = at_rest 1 (one_queue 2) (past_of started) refl refl
    others premise.waits not = absurd (not refl)
    others premise.unfrozen not = none_frozen (one_queue 2) (past_of started) refl

shut_down_legal : IsLegal freezable (past_of frozen)
unfolding definitions
shut_down_legal = told freezable frozen (refl, (refl, tt)) refl

shut_down : IsNeeded premise.unfrozen (story freezable frozen)
unfolding definitions waits_of each_entry left_of
shut_down = record { others = others; is_open = λ none. cc none }
  where
    others : (q : Premise) → (q ≡ premise.unfrozen → ⊥) → Holds q (story freezable frozen)
    others premise.layout not = refl
    others premise.legal not = shut_down_legal
    others premise.allowed not = all_allowed 1 freezable (past_of frozen) shut_down_legal refl
    others premise.untrapped not = none_traps 1 freezable (past_of frozen) refl
    others premise.rest not = at_rest 1 freezable (past_of frozen) refl refl
    others premise.waits not = all_wait 1 (past_of frozen) refl
    others premise.unfrozen not = absurd (not refl)

pub premises_are_needed : PremisesAreNeeded
premises_are_needed = record {
  no_workers = no_workers;
  no_places = no_places;
  made_up = made_up;
  refused = refused;
  narrower = narrower;
  in_drain = in_drain;
  unstarted = unstarted;
  ready = ready;
  acting = acting;
  shut_down = shut_down;
}

-- ---- the law that only what is frozen is open

-- the queueing of item 0
abbrev of_queued : Queueing
of_queued = record {
  item = record { 0 = 0 };
  place = record { queue = record { 0 = 0 }; cpu = record { 0 = 0 } };
  number = 0;
}

waits_to_start : (past : List Entry) → still_open past ≡ of_queued ∷ [] → is_started past 0 ≡ false → NoneRuns past
waits_to_start past one is x here =
    ⊎_elim (λ same. subst (λ (y : Queueing). is_started past y.number ≡ false) same is) (λ none. absurd none)
    (contained_in (of_queued ∷ []) x (subst (λ (xs : List Queueing). Contains xs x) one here))

no_workers_then : IsNeededThen premise.some_layout (story without_workers queued)
unfolding definitions waits_of each_entry left_of
no_workers_then =
    record { others = others; queueing = of_queued; is_open = (0, omega arith, refl); not_frozen = refl }
  where
    others : (q : FrozenPremise) → (q ≡ premise.some_layout → ⊥) → HoldsThen q (story without_workers queued)
    others premise.some_layout not = absurd (not refl)
    others premise.legal_entries not = no_workers_legal
    others premise.none_starts not = (at_rest 1 without_workers (past_of queued) refl refl).workers
    others premise.none_runs not = waits_to_start (past_of queued) refl refl

made_up_then : IsNeededThen premise.legal_entries (story (one_queue 2) retired)
unfolding definitions waits_of each_entry left_of
made_up_then =
    record { others = others; queueing = of_queued; is_open = (0, omega arith, refl); not_frozen = refl }
  where
    others : (q : FrozenPremise) → (q ≡ premise.legal_entries → ⊥) → HoldsThen q (story (one_queue 2) retired)
    others premise.some_layout not = refl
    others premise.legal_entries not = absurd (not refl)
    others premise.none_starts not = (at_rest 1 (one_queue 2) (past_of retired) refl refl).workers
    others premise.none_runs not = waits_to_start (past_of retired) refl refl

unstarted_then : IsNeededThen premise.none_starts (story (one_queue 2) queued)
unfolding definitions waits_of each_entry left_of
unstarted_then =
    record { others = others; queueing = of_queued; is_open = (0, omega arith, refl); not_frozen = refl }
  where
    others : (q : FrozenPremise) → (q ≡ premise.none_starts → ⊥) → HoldsThen q (story (one_queue 2) queued)
    others premise.some_layout not = refl
    others premise.legal_entries not = unstarted_legal
    others premise.none_starts not = absurd (not refl)
    others premise.none_runs not = waits_to_start (past_of queued) refl refl

acting_then : IsNeededThen premise.none_runs (story (one_queue 2) started)
unfolding definitions waits_of each_entry left_of
acting_then =
    record { others = others; queueing = of_queued; is_open = (0, omega arith, refl); not_frozen = refl }
  where
    others : (q : FrozenPremise) → (q ≡ premise.none_runs → ⊥) → HoldsThen q (story (one_queue 2) started)
    others premise.some_layout not = refl
    others premise.legal_entries not = acting_legal
    others premise.none_starts not = (at_rest 1 (one_queue 2) (past_of started) refl refl).workers
    others premise.none_runs not = absurd (not refl)

pub frozen_premises_are_needed : FrozenPremisesAreNeeded
frozen_premises_are_needed = record {
  no_workers = no_workers_then;
  made_up = made_up_then;
  unstarted = unstarted_then;
  acting = acting_then;
}

-- ---- the law of a hub that is over

none_active : NoneActive freezable (past_of inactive)
unfolding definitions
none_active x here =
    ⊎_elim (λ is. subst (λ (y : Queueing). is_active freezable (past_of inactive) y ≡ false) is refl)
    (λ none. absurd none) (contained_in (still_open (past_of inactive)) x here)

pub over_premises_are_needed : OverPremisesAreNeeded
unfolding definitions
over_premises_are_needed = record {
  active_ends = record {
    legal = told (one_queue 2) (active ++ finishing) (refl, (refl, (refl, (refl, tt)))) refl;
    unready = refl;
    ready = refl;
  };
  only_ends = (λ c is. absurd (cc is), (λ c is. absurd (cc is), tt));
  inactive_ends = record {
    legal = told freezable (inactive ++ taking_back) (refl, (refl, (refl, (refl, tt)))) refl;
    unready = refl;
    ready = refl;
  };
  none_active = none_active;
}

-- ---- the law of the tickets of lent callers

pub lent_premises_are_needed : LentPremisesAreNeeded
unfolding definitions waits_of
lent_premises_are_needed = record {
  alone_waits_none = record {
    legal = told (one_queue 2) alone (refl, tt) refl;
    unended = (0, omega arith, refl);
    lent = refl;
    none = refl;
  };
  waiters_make_none = (λ w here. absurd (contained_in [] w here), tt);
  woken_waits_none = record {
    legal = told (one_queue 2) woken (refl, (refl, (refl, (refl, (refl, (refl, tt)))))) refl;
    unended = (0, omega arith, refl);
    lent = refl;
    none = refl;
  };
  lent_follow = (
    λ lent given. absurd (cc lent),
    (
      λ lent given. refl,
      (
        λ lent given. absurd (cc lent),
        (λ lent given. absurd (cc lent), (λ lent given. absurd (cc lent), (λ lent given. absurd (cc lent), tt))),
      ),
    ),
  );
}
