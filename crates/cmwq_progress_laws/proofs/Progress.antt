-- Where every schedule ends, turns in which somebody moves on have their end.
use Rattle.std.proofs.Common.{◌≡◌, ◌≤◌, ◌+◌, ◌-◌, ◌∙◌, ⊎_elim, ℕ, zero, suc, Bool, true, false, cond}
use Rattle.std.proofs.Common.{count_by, refl, sym, ap, subst, arith, nat_lt, ◌∷◌, []}
use Rattle.std.specs.List.{range_with_len}
use Rattle.std.specs.Option.{option_map_or}
use Rattle.std.proofs.lemmas.Bool.{both_ways, ltb-false, ltb-true}
use Rattle.cmwq_lemmas.proofs.Lists.{count_by-cons, count_append, range_more}
use Rattle.cmwq_play.specs.Searches.{AllEnd, IsFine, Rests}
use Rattle.cmwq_play.specs.Stands.{Stand, IsDone, may, moved}
use Rattle.cmwq_progress_laws.specs.Progress.{EndedMovedOn, FairTurnsEnd, MovesAreFew, MovingOnEnds}
use Rattle.cmwq_progress_laws.specs.Progress.{NobodyIsPassedOver, SomebodyMovesOn}
use Rattle.cmwq_progress_laws.specs.Turns.{HasItsEnd, Turns, moves_at, moves_before, stand_at}
use Rattle.cmwq_progress_laws.proofs.Turns.{FirstMove, first_move, moves, somebody_or_none, stays, stays_for_good}
use Rattle.cmwq_progress_laws.proofs.Turns as move

-- where nobody may move and it is fine, it has its end
ends_here : (start : Stand) (turns : Turns) (time : ℕ) → IsFine (stand_at start turns time)
    → Rests (stand_at start turns time) → HasItsEnd start turns
ends_here start turns time fine rests = record {
  time = time;
  rests = λ later after. subst Rests (sym (stays_for_good start turns time later rests after)) rests;
  is_done = λ later after. subst IsDone (sym (stays_for_good start turns time later rests after)) (fine rests);
}

-- a move made while the script stands as it did
pub record MoveFrom (start : Stand) (turns : Turns) (time : ℕ) : Type 0 where
  pub later : ℕ
  pub is_later : time ≤ later
  pub is_move : moves_at start turns later ≡ true
  pub same : stand_at start turns later ≡ stand_at start turns time

-- if one is made at a time, the first one is
first_from : (start : Stand) (turns : Turns) (time later : ℕ) → time ≤ later → moves_at start turns later ≡ true
    → MoveFrom start turns time
first_from start turns time later after is = elim (first_move start turns time (later - time)) [
  | move.one sooner from before moves same ↦
      record { later = sooner; is_later = from; is_move = moves; same = same }
  | move.none same ↦
      let there : time + (later - time) ≡ later = omega arith in
      record {
        later = later;
        is_later = after;
        is_move = is;
        same = ap (stand_at start turns) (sym there) ∙ same;
      }
]

ends_from : (n : ℕ) (start : Stand) (turns : Turns) (time : ℕ) → AllEnd n (stand_at start turns time)
    → SomebodyMovesOn start turns → HasItsEnd start turns
unfolding AllEnd
ends_from zero start turns time all on = ends_here start turns time all.0 all.1
ends_from (suc n) start turns time all on = ⊎_elim
    (λ able. let next = on time able.party able.may_move in
    let first = first_from start turns time next.0 next.1 next.2 in
    let it = moves start turns first.later first.is_move in
    let may_move : may (stand_at start turns time) it.party ≡ true =
    subst (λ p. may p it.party ≡ true) first.same it.may_move in
    ends_from n start turns (suc first.later)
    (subst (AllEnd n) (ap (λ p. moved p it.party) (sym first.same) ∙ sym it.next) (all.1 it.party may_move)) on)
    (λ rests. ends_here start turns time all.0 rests)
    (somebody_or_none (stand_at start turns time))

pub moving_on_ends : MovingOnEnds
unfolding stand_at
moving_on_ends n start turns all on = ends_from n start turns 0 all on

-- ---- parties that are not passed over

moved_on : (start : Stand) (turns : Turns) → NobodyIsPassedOver start turns → SomebodyMovesOn start turns
moved_on start turns fair time party is =
    let k = fair time party is in
    elim (first_move start turns time (k.0 - time)) [
      | move.one sooner from before moves same ↦ (sooner, from, moves)
      | move.none same ↦
          let there : time + (k.0 - time) ≡ k.0 = omega (arith, k.1) in
          let still : may (stand_at start turns k.0) party ≡ true =
          ap (λ t. may (stand_at start turns t) party) (sym there) ∙ ap (λ p. may p party) same ∙ is in
          ⊎_elim
          (λ turn. (k.0, k.1, ap (λ o. option_map_or (may (stand_at start turns k.0)) o false) turn ∙ still))
          (λ none. absurd (both_ways _ none still)) k.2
    ]

pub fair_turns_end : FairTurnsEnd
fair_turns_end n start turns all fair = moving_on_ends n start turns all (moved_on start turns fair)

-- ---- turns that have their end

pub ended_moved_on : EndedMovedOn
ended_moved_on start turns ends time party is = at (nat_lt time ends.time) refl
  where
    at : (b : Bool) → nat_lt time ends.time ≡ b
        → (later : ℕ) × (time ≤ later) × (moves_at start turns later ≡ true)
    at false not = absurd (both_ways _ (ends.rests time (ltb-false time ends.time not) party) is)
    at true before = elim (first_move start turns time (ends.time - time)) [
      | move.one sooner from less moves same ↦ (sooner, from, moves)
      | move.none same ↦
          let less = ltb-true time ends.time before in
          let there : time + (ends.time - time) ≡ ends.time = omega arith in
          absurd (both_ways _ (ends.rests ends.time (omega arith) party)
          (ap (λ t. may (stand_at start turns t) party) (sym there) ∙ ap (λ p. may p party) same ∙ is))
    ]

-- ---- how many moves there are

-- so many are made before a time, and all schedules end within the rest
record Left (n : ℕ) (start : Stand) (turns : Turns) (time : ℕ) : Type 0 where
  left : ℕ
  all_end : AllEnd left (stand_at start turns time)
  sum : moves_before start turns time + left ≡ n

one_and_none : (m : ℕ) → m + 0 ≡ m
one_and_none m = omega arith

one_more_time : (start : Stand) (turns : Turns) (time : ℕ)
    → moves_before start turns (suc time) ≡ moves_before start turns time + cond (moves_at start turns time) 1 0
one_more_time start turns time =
    let last = count_by-cons (moves_at start turns) time [] in
    let same : 0 + time ≡ time = omega arith in
    ap (count_by (moves_at start turns)) (range_more 0 time)
    ∙ count_append (moves_at start turns) (range_with_len 0 time) ((0 + time) ∷ [])
    ∙ ap (λ t. moves_before start turns time + count_by (moves_at start turns) (t ∷ [])) same
    ∙ ap (λ m. moves_before start turns time + m) (last ∙ one_and_none (cond (moves_at start turns time) 1 0))

one_less_left : (n : ℕ) (start : Stand) (turns : Turns) (time : ℕ) (left : ℕ)
    → AllEnd left (stand_at start turns time) → moves_before start turns time + left ≡ n
    → (b : Bool) → moves_at start turns time ≡ b → Left n start turns (suc time)
unfolding AllEnd
one_less_left n start turns time left all sum false none =
    let more = one_more_time start turns time ∙ ap (λ b. moves_before start turns time + cond b 1 0) none in
    record {
      left = left;
      all_end = subst (AllEnd left) (sym (stays start turns time none)) all;
      sum = omega (arith, more);
    }
one_less_left n start turns time zero all sum true is =
    let it = moves start turns time is in absurd (both_ways _ (all.1 it.party) it.may_move)
one_less_left n start turns time (suc left) all sum true is =
    let it = moves start turns time is in
    let more = one_more_time start turns time ∙ ap (λ b. moves_before start turns time + cond b 1 0) is in
    record {
      left = left;
      all_end = subst (AllEnd left) (sym it.next) (all.1 it.party it.may_move);
      sum = omega (arith, more);
    }

left_at : (n : ℕ) (start : Stand) (turns : Turns) (time : ℕ) → AllEnd n start → Left n start turns time
unfolding stand_at
left_at n start turns zero all = record { left = n; all_end = all; sum = omega arith }
left_at n start turns (suc time) all =
    let k = left_at n start turns time all in
    one_less_left n start turns time k.left k.all_end k.sum (moves_at start turns time) refl

pub moves_are_few : MovesAreFew
moves_are_few n start turns time all = let k = left_at n start turns time all in omega (arith, k.sum)
