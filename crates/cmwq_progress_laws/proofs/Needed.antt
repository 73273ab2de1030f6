-- The examples, by computation.
use Rattle.std.proofs.Common.{◌≡◌, ◌+◌, ℕ, zero, suc, Bool, true, false, Some, length}
use Rattle.std.proofs.Common.{if◌then◌else◌, refl, sym, ap, subst, arith}
use Rattle.std.proofs.lemmas.Bool.{both_ways}
use Rattle.std.proofs.lemmas.Option.{same_Some}
use Rattle.std.specs.Prelude.{slice_get}
use Rattle.cmwq_model_examples.proofs.Definitions.{definitions}
use Rattle.cmwq_play.proofs.Moving.{may_within}
use Rattle.cmwq_play.specs.Machines.{replied, starts}
use Rattle.cmwq_play.specs.Searches.{AllEnd, IsFine, Rests}
use Rattle.cmwq_play.specs.Stands.{Stand, IsDone, calls_left, caller_acted, caller_moved, may, moved}
use Rattle.cmwq_play.specs.Starts.{first_stand}
use Rattle.cmwq_play.specs.declared.place.CallerAt.{CallerAt}
use Rattle.cmwq_progress_laws.specs.Needed.{AllMustEnd, PremisesMayHold, SomebodyMustMove, callers_turns, nobodys_turns}
use Rattle.cmwq_progress_laws.specs.Needed.{opens_gate, waits_at_gate}
use Rattle.cmwq_progress_laws.specs.Progress.{SomebodyMovesOn}
use Rattle.cmwq_progress_laws.specs.Turns.{Turns, stand_at}
use Rattle.cmwq_progress_laws.proofs.Progress.{ended_moved_on, moving_on_ends}
use Rattle.cmwq_progress_laws.proofs.Turns.{stays_for_good}

-- ---- of the three parties only the caller may move, or nobody may

only_caller : (p : Stand) → length p.callers + length p.workers ≡ 3 → may p 1 ≡ false → may p 2 ≡ false → (k : ℕ)
    → may p k ≡ true → k ≡ 0
only_caller p count one two zero is = refl
only_caller p count one two (suc zero) is = absurd (both_ways _ one is)
only_caller p count one two (suc (suc zero)) is = absurd (both_ways _ two is)
only_caller p count one two (suc (suc (suc k))) is =
    let less = may_within p (suc (suc (suc k))) is in absurd (omega arith)

nobody : (p : Stand) → length p.callers + length p.workers ≡ 3 → may p 0 ≡ false → may p 1 ≡ false → may p 2 ≡ false
    → Rests p
nobody p count none one two k = at (may p k) refl
  where
    at : (b : Bool) → may p k ≡ b → b ≡ false
    at false is = refl
    at true is =
        absurd (both_ways _ none (subst (λ j. may p j ≡ true) (only_caller p count one two k is) is))

-- ---- the caller opens a gate

caller_may : may opens_gate 0 ≡ true
unfolding first_stand may
caller_may = refl

alone : (k : ℕ) → may opens_gate k ≡ true → k ≡ 0
unfolding definitions first_stand may starts replied
alone = only_caller opens_gate refl refl refl

opened : Stand
opened = moved opens_gate 0

opened_rests : Rests opened
unfolding definitions opened first_stand may moved caller_moved caller_acted starts replied
opened_rests = nobody opened refl refl refl refl

opened_done : IsDone opened
unfolding definitions opened first_stand moved caller_moved caller_acted
opened_done = record { callers = none; workers = refl; active = refl }
  where
    none : (k : ℕ) (at : CallerAt) → slice_get opened.callers k ≡ Some at → calls_left opened k at ≡ false
    none zero at is = ap (calls_left opened 0) (sym (same_Some _ at is))
    none (suc k) at is = cc

all_end : AllEnd 1 opens_gate
unfolding AllEnd opened
all_end = (
  (λ rests. absurd (both_ways _ (rests 0) caller_may)),
  (λ k is. subst (λ j. IsFine (moved opens_gate j) × Rests (moved opens_gate j)) (sym (alone k is))
      ((λ rests. opened_done), opened_rests)),
)

opened_next : stand_at opens_gate callers_turns 1 ≡ opened
unfolding opened stand_at
opened_next = ap (λ b. if b then moved opens_gate 0 else opens_gate) caller_may

moves_on : SomebodyMovesOn opens_gate callers_turns
unfolding stand_at
moves_on zero party is = (0, omega arith, caller_may)
moves_on (suc time) party is =
    let at_first = subst Rests (sym opened_next) opened_rests in
    let same = stays_for_good opens_gate callers_turns 1 (suc time) at_first (omega arith) in
    absurd (both_ways _ (subst Rests (sym same) at_first party) is)

pub premises_may_hold : PremisesMayHold
premises_may_hold = record {
  all_end = all_end;
  moves_on = moves_on;
  ends = moving_on_ends 1 opens_gate callers_turns all_end moves_on;
}

-- ---- nobody has a turn

pub somebody_must_move : SomebodyMustMove
unfolding stand_at
somebody_must_move = record {
  all_end = all_end;
  never_ends =
      λ ends. let later = ended_moved_on opens_gate nobodys_turns ends 0 0 caller_may in
      both_ways false refl later.2;
}

-- ---- the caller waits at a gate

gate_rests : Rests waits_at_gate
unfolding definitions first_stand may starts replied
gate_rests = nobody waits_at_gate refl refl refl refl

gate_left : IsDone waits_at_gate → ⊥
unfolding first_stand
gate_left done = both_ways _ (done.callers 0 _ refl) refl

gate_stays : (turns : Turns) (time : ℕ) → stand_at waits_at_gate turns time ≡ waits_at_gate
unfolding stand_at
gate_stays turns time = stays_for_good waits_at_gate turns 0 time gate_rests (omega arith)

pub all_must_end : AllMustEnd
all_must_end = record {
  moves_on = λ turns time party is.
      absurd (both_ways _ (subst Rests (sym (gate_stays turns time)) gate_rests party) is);
  never_ends = λ turns ends.
      gate_left (subst IsDone (gate_stays turns ends.time) (ends.is_done ends.time (omega arith)));
}
