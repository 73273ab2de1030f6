-- What holds of each dispatch goes on to hold.
use Rattle.cmwq_theory_steps.specs.Common.{◌≡◌, ◌*◌, Bool, true, false, not, ◌||◌, List}
use Rattle.cmwq_theory_steps.specs.Common.{ℕ, [], ◌∷◌, length, drop, refl, sym, ap, ap₂, ◌∙◌, subst}
use Rattle.cmwq_theory_steps.specs.Common.{Entry, Layout, Ticket, IsLegal, WorkerId, CallerId}
use Rattle.cmwq_theory_steps.specs.Common.{has_run, is_enlisted, eq-eqb}
use Rattle.std.proofs.lemmas.Bool.{and_from, both_ways}
use Rattle.cmwq_core.specs.History.{History, past_in, with_entry}
use Rattle.cmwq_model.proofs.Growing.{one_more_is_newest}
use Rattle.cmwq_theory_wakes.specs.Rest.{IsUnready}
use Rattle.cmwq_theory_wakes.specs.Starting.{would_start}
use Rattle.cmwq_waits.specs.Begun.{HasWaitsOf, Registry}
unfoldable use Rattle.cmwq_waits.specs.Begun.{waits_of}
use Rattle.cmwq_dispatch.specs.Asleep.{Asleep, IsLookedAfter, Leaves, NobodySleeps, Waits}
use Rattle.cmwq_dispatch.specs.Dispatched.{Dispatched, Enters, MayEnter, Stands, is_over}
use Rattle.cmwq_dispatch.specs.Dispatched.{active_in, past_now}
use Rattle.cmwq_dispatch.specs.Resting.{MayRest}
use Rattle.cmwq_dispatch.specs.Waiting.{IsKnown}
use Rattle.cmwq_dispatch.proofs.Cared.{leaves_kept, leaves_nobody, looked_after_nobody, waits_kept}
use Rattle.cmwq_dispatch.proofs.Over.{over_parts, stays_none}

-- ---- the history after an entry

pub newest : (h g : History) (e : Entry) → g ≡ with_entry h e → past_in g ≡ e ∷ past_in h
newest h g e made = ap past_in made ∙ one_more_is_newest h.entries e

pub older : (h g : History) (e : Entry) → g ≡ with_entry h e → drop 1 (past_in g) ≡ past_in h
older h g e made = ap (drop 1) (newest h g e made)

pub newest_first : (h g : History) (e : Entry) → g ≡ with_entry h e → past_in g ≡ e ∷ drop 1 (past_in g)
newest_first h g e made = newest h g e made ∙ ap (λ past. e ∷ past) (sym (older h g e made))

pub legal_after : (h g : History) (e : Entry) → g ≡ with_entry h e → IsLegal h.layout (e ∷ past_in h)
    → IsLegal g.layout (past_in g)
legal_after h g e made legal =
    subst (λ (s : Layout). IsLegal s (past_in g)) (sym (ap (λ (k : History). k.layout) made))
    (subst (IsLegal h.layout) (sym (newest h g e made)) legal)

pub looked_before : (h g : History) (e : Entry) (a : Asleep) → g ≡ with_entry h e
    → IsLookedAfter h.layout (past_in h) a → IsLookedAfter g.layout (drop 1 (past_in g)) a
looked_before h g e a made k =
    subst (λ (s : Layout). IsLookedAfter s (drop 1 (past_in g)) a) (sym (ap (λ (k : History). k.layout) made))
    (subst (λ past. IsLookedAfter h.layout past a) (sym (older h g e made)) k)

pub waits_after : (h g : History) (e : Entry) (r : Registry) → g ≡ with_entry h e
    → HasWaitsOf h.layout (e ∷ past_in h) r → HasWaitsOf g.layout (past_in g) r
waits_after h g e r made has =
    subst (λ (s : Layout). HasWaitsOf s (past_in g) r) (sym (ap (λ (k : History). k.layout) made))
    (subst (λ past. HasWaitsOf h.layout past r) (sym (newest h g e made)) has)

-- Where there is no entry, no run waits, whoever is lent.
pub none_waits : (s : Layout) (past : List Entry) (r : Registry) (first : ℕ) → past ≡ [] → HasWaitsOf s past r
    → HasWaitsOf s past (record r { first = first })
unfolding waits_of
none_waits s past r first none has = record {
  laid = has.laid;
  waits = has.waits ∙ ap (waits_of r.first) none ∙ sym (ap (waits_of first) none);
  places = has.places;
}

-- ---- what holds of each dispatch

pub stands_nobody : (d : Dispatched) → NobodySleeps d.asleep → length d.asleep.pools ≡ 2 * d.history.layout.cpus
    → Stands d
stands_nobody d nobody places = record {
  looked_after = looked_after_nobody d.history.layout (past_now d) d.asleep nobody places;
  over = λ is. nobody;
}

-- ---- one begins to sleep, or rises

pub stands_asleep : (d : Dispatched) (b : Asleep) → is_over d ≡ false
    → IsLookedAfter d.history.layout (past_now d) b → Stands d → Stands (record d { asleep = b })
stands_asleep d b lives looked k = record {
  looked_after = looked;
  over = λ is. absurd (both_ways _ lives is);
}

pub stands_waits : (d : Dispatched) (t : Ticket) (b : Asleep) (r : Bool) → is_over d ≡ false
    → IsKnown d.history.layout (past_now d) t → IsUnready (past_now d) t → (r ≡ true → Waits t d.asleep b)
    → (r ≡ false → b ≡ d.asleep) → Stands d → Stands (record d { asleep = b })
stands_waits d t b true lives known unready added full k =
    stands_asleep d b lives
    (waits_kept d.history.layout (past_now d) t d.asleep b known unready (added refl) k.looked_after) k
stands_waits d t b false lives known unready added full k =
    subst (λ (a : Asleep). Stands (record d { asleep = a })) (sym (full refl)) k

pub stands_leaves : (d : Dispatched) (c : CallerId) (b : Asleep) → Leaves c d.asleep b → Stands d
    → Stands (record d { asleep = b })
stands_leaves d c b leaves k = record {
  looked_after = leaves_kept d.history.layout (past_now d) c d.asleep b leaves k.looked_after;
  over = λ is. leaves_nobody c d.asleep b leaves (k.over is);
}

pub stands_rises : (d : Dispatched) (b : Asleep)
    → ((s : Layout) (past : List Entry) → IsLookedAfter s past d.asleep → IsLookedAfter s past b)
    → (NobodySleeps d.asleep → NobodySleeps b) → Stands d → Stands (record d { asleep = b })
stands_rises d b kept nobody k = record {
  looked_after = kept d.history.layout (past_now d) k.looked_after;
  over = λ is. nobody (k.over is);
}

-- what is over stays over
pub over_stays : (old new : Dispatched) (e : Entry) → Enters e old new
    → IsLegal old.history.layout (e ∷ past_now old) → MayEnter old e → is_over old ≡ true → is_over new ≡ true
over_stays old new e k legal may over =
    let parts = over_parts old over may.0 in
    let none = stays_none old.history.layout (past_now old) e legal parts.1 (λ c is. may.1 c over is) in
    ap₂ (λ f (b : Bool). f || b) (k.failed ∙ may.0)
    (and_from _ _ (and_from _ _ (k.closed ∙ parts.0)
    (eq-eqb _ 0 (ap (λ (h : History). active_in h.layout (past_in h)) k.history
    ∙ (ap (active_in old.history.layout) (one_more_is_newest old.history.entries e) ∙ none))))
    (eq-eqb _ 0 (k.firing ∙ parts.2)))

-- ---- a worker that would start nothing may rest

pub may_rest : (s : Layout) (past : List Entry) (w : WorkerId) (b : Bool) → b ≡ is_enlisted past w
    → has_run past w ≡ false → would_start s past w ≡ false → MayRest s past w.pool w.index b
may_rest s past w b is idle starts = record {
  idle = λ enlisted. and_from _ _ (sym is ∙ enlisted) (ap not idle);
  starts_nothing = starts;
  reserve = λ out. sym is ∙ out;
}
