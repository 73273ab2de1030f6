-- Of workers and queues that the layout doesn't have nothing ever happens.
use Rattle.std.proofs.Common.{ℕ, ◌≡◌, ◌==◌, ◌<◌, ◌≤◌, ◌&&◌, ◌||◌, Bool, true, false, not, List, [], ◌∷◌, length, Option}
use Rattle.std.proofs.Common.{Some, None, ap, sym, ◌∙◌, refl, arith, ⊎_elim, ◌⊎◌, inl, inr, nat_lt, if◌then◌else◌}
use Rattle.std.proofs.Common.{IsTrue, subst, cond}
use Rattle.std.specs.List.{AllByRecursion}
use Rattle.std.specs.Prelude.{is_some, option_and_then}
use Rattle.std.specs.Option.{option_map_or}
use Rattle.std.proofs.lemmas.Bool.{and_parts, cases_lt, eqb-true, false_from_ne_true, le-ltb, ltb-true}
use Rattle.cmwq_model.specs.Prelude.{IsLegal, Layout, enlists, fits, first_width, has_numbers, index_enlisted, is_at}
use Rattle.cmwq_model.specs.Prelude.{is_by, is_destroy_of, is_done, is_in_pool, is_retired, may_make, reply_fits, run}
use Rattle.cmwq_model.specs.Prelude.{same_pool, same_worker, sets_max, ticket_of, width_set, width_told, ends_destroy}
use Rattle.cmwq_model.specs.Prelude.{entry_fits}
use Rattle.cmwq_model.specs.Workers.{is_enlisted}
use Rattle.cmwq_model.specs.Runs.{is_asleep, last_start}
use Rattle.cmwq_model.specs.Tickets.{is_gone}
use Rattle.cmwq_model.specs.Widths.{max_active}
use Rattle.cmwq_model.specs.declared.call.Call.{Call}
use Rattle.cmwq_model.specs.declared.call.Call.TheVariants as call
use Rattle.cmwq_model.specs.declared.entry.Entry.{Entry}
use Rattle.cmwq_model.specs.declared.id.PoolId.{PoolId}
use Rattle.cmwq_model.specs.declared.id.Who.{Who}
use Rattle.cmwq_model.specs.declared.id.Who.TheVariants.{Caller, Worker}
use Rattle.cmwq_model.specs.declared.id.WorkerId.{WorkerId}
use Rattle.cmwq_model.specs.declared.reply.Reply.{Reply}
use Rattle.cmwq_model.specs.declared.reply.Reply.TheVariants as reply
use Rattle.cmwq_model.specs.declared.record.Ticket.{Ticket}
use Rattle.cmwq_lemmas.proofs.Members.{found}
use Rattle.cmwq_model.specs.Prelude.{destroys, unended_tickets}
use Rattle.cmwq_refinement.proofs.PlacesFit.{unended_fit}
use Rattle.cmwq_theory_laws.proofs.InRange.{entries_fit}

abbrev pub IsInside : Layout → WorkerId → Type 0
IsInside s w = (w.pool.cpu.0 < s.cpus) × (w.index < s.workers)

fits_inside : (s : Layout) (w : WorkerId) (c : Call) → fits s (Worker w) c ≡ true → IsInside s w
fits_inside s w c fit =
    let a = and_parts (may_make s (Worker w) c) (has_numbers s c) fit in
    grind (arith, ltb-true w.pool.cpu.0 s.cpus, ltb-true w.index s.workers, a.0)

own : (s : Layout) (w : WorkerId) (e : Entry) (who : Who) → (IsInside s w → ⊥) → fits s who e.call ≡ true
    → e.who ≡ who → is_by (Worker w) e ≡ true → ⊥
own s w e (Caller k) out fit is by = let h = rw is at by in cc
own s w e (Worker v) out fit is by =
    let h : same_worker v w ≡ true = rw is at by in
    let pools = and_parts (same_pool v.pool w.pool) (v.index == w.index) h in
    let cpus = and_parts (v.pool.cpu.0 == w.pool.cpu.0) _ pools.0 in
    let there = fits_inside s v e.call fit in
    let index : v.index ≡ w.index = eqb-true v.index w.index pools.1 in
    let cpu : v.pool.cpu.0 ≡ w.pool.cpu.0 = eqb-true v.pool.cpu.0 w.pool.cpu.0 cpus.0 in
    out (omega arith, omega arith)

-- no entry is by a worker that isn't there
pub not_by : (s : Layout) (w : WorkerId) (past : List Entry) (e : Entry) → IsLegal s (e ∷ past) → (IsInside s w → ⊥)
    → is_by (Worker w) e ≡ false
unfolding IsLegal
not_by s w past e legal out =
    false_from_ne_true (is_by (Worker w) e) (λ by. own s w e e.who out legal.0 refl by)

pub asleep_outside : (s : Layout) (w : WorkerId) (past : List Entry) → IsLegal s past → (IsInside s w → ⊥)
    → is_asleep past w ≡ false
unfolding is_asleep IsLegal
asleep_outside s w [] legal out = refl
asleep_outside s w (e ∷ past) legal out =
    rw (not_by s w past e legal out) (asleep_outside s w past legal.2 out)

starts_outside : (s : Layout) (w : WorkerId) (past : List Entry) → IsLegal s past → (IsInside s w → ⊥)
    → last_start past w ≡ None
unfolding last_start IsLegal
starts_outside s w [] legal out = refl
starts_outside s w (e ∷ past) legal out =
    rw (not_by s w past e legal out) (starts_outside s w past legal.2 out)

pub run_outside : (s : Layout) (w : WorkerId) (past : List Entry) → IsLegal s past → (IsInside s w → ⊥)
    → run past w ≡ None
run_outside s w past legal out = rw (starts_outside s w past legal out) refl

-- nor is it enlisted by another
enlists_inside : (s : Layout) (w : WorkerId) (past : List Entry) (e : Entry) (who : Who) (r : Reply)
    → IsLegal s (e ∷ past)
    → e.who ≡ who → e.reply ≡ r → (is_in_pool w.pool who && is_at (index_enlisted r) w.index) ≡ true → IsInside s w
unfolding IsLegal
enlists_inside s w past e (Caller c) r legal is it h = cc
enlists_inside s w past e (Worker v) (reply.StartedEnlist n x) legal is it h =
    let parts = and_parts (same_pool v.pool w.pool) (x == w.index) h in
    let cpus = and_parts (v.pool.cpu.0 == w.pool.cpu.0) _ parts.0 in
    let fit : fits s (Worker v) e.call ≡ true = rw is at legal.0 in
    let there = fits_inside s v e.call fit in
    let cpu : v.pool.cpu.0 ≡ w.pool.cpu.0 = eqb-true v.pool.cpu.0 w.pool.cpu.0 cpus.0 in
    let index : x ≡ w.index = eqb-true x w.index parts.1 in
    let replies = and_parts (fits s e.who e.call) (reply_fits s e.reply) (entries_fit s past e legal) in
    let small : nat_lt x s.workers ≡ true = ap (reply_fits s) (sym it) ∙ replies.1 in
    let less = ltb-true x s.workers small in
    (omega arith, omega arith)
enlists_inside s w past e (Worker v) r legal is it h = absurd (grind arith)

pub enlisted_outside : (s : Layout) (w : WorkerId) (past : List Entry) → IsLegal s past → (IsInside s w → ⊥)
    → is_enlisted past w ≡ (w.index == 0)
unfolding is_enlisted IsLegal
enlisted_outside s w [] legal out = refl
enlisted_outside s w (e ∷ past) legal out =
    let none : enlists e w ≡ false =
    false_from_ne_true (enlists e w) (λ h. out (enlists_inside s w past e e.who e.reply legal refl refl h)) in
    rw (none, not_by s w past e legal out) (enlisted_outside s w past legal.2 out)

-- ---- queues

destroyed_inside : (s : Layout) (q : ℕ) (past : List Entry) (who : Who) (c : Call) → IsLegal s past
    → ends_destroy past q who c ≡ true → q < length s.queues
destroyed_inside s q past who (call.End n) legal h = by (ticket_of past who n) refl h
  where
    by : (o : Option Ticket) → ticket_of past who n ≡ o → option_map_or (is_destroy_of q) o false ≡ true
        → q < length s.queues
    by None is h = cc
    by (Some t) is h =
        let there = (found _ (unended_tickets past) t is).0 in
        of_call t.call (unended_fit s past t legal there) h
      where
        of_call : (c : Call) → has_numbers s c ≡ true → destroys q c ≡ true → q < length s.queues
        of_call (call.Destroy r) fit h =
            let same : r.0 ≡ q = eqb-true r.0 q h in
            let less = ltb-true r.0 (length s.queues) fit in
            omega arith
        of_call c fit h = absurd (grind arith)
destroyed_inside s q past who c legal h = absurd (grind arith)

pub gone_outside : (s : Layout) (q : ℕ) (past : List Entry) → IsLegal s past → length s.queues ≤ q
    → is_gone past q ≡ false
unfolding is_gone IsLegal
gone_outside s q [] legal out = refl
gone_outside s q (e ∷ past) legal out =
    let none : ends_destroy past q e.who e.call ≡ false =
    false_from_ne_true (ends_destroy past q e.who e.call)
    (λ h. let inside = destroyed_inside s q past e.who e.call legal.2 h in omega arith) in
    rw (gone_outside s q past legal.2 out, none) (both (is_done e.reply))
  where
    both : (b : Bool) → (false || (b && false)) ≡ false
    both true = refl
    both false = refl

sets_inside : (s : Layout) (q : ℕ) (c : Call) → has_numbers s c ≡ true → sets_max c q ≡ true → q < length s.queues
sets_inside s q (call.SetMax r n) fit h =
    let parts = and_parts (nat_lt r.0 (length s.queues)) _ fit in
    let same : r.0 ≡ q = eqb-true r.0 q h in
    let less = ltb-true r.0 (length s.queues) parts.0 in
    omega arith
sets_inside s q c fit h = absurd (grind arith)

pub width_outside : (s : Layout) (q : ℕ) (past : List Entry) → IsLegal s past → length s.queues ≤ q
    → max_active s past q ≡ first_width s q
unfolding max_active IsLegal
width_outside s q [] legal out = refl
width_outside s q (e ∷ past) legal out =
    let fit = and_parts (may_make s e.who e.call) (has_numbers s e.call) legal.0 in
    let none : sets_max e.call q ≡ false =
    false_from_ne_true (sets_max e.call q) (λ h. let inside = sets_inside s q e.call fit.1 h in omega arith) in
    rw none (width_outside s q past legal.2 out)
