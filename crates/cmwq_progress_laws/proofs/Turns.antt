-- What one turn does, and that a script stands where it stood until somebody moves.
use Rattle.std.proofs.Common.{◌≡◌, ◌<◌, ◌≤◌, ◌+◌, ◌-◌, ◌⊎◌, ◌∙◌, ℕ, zero, suc, Bool, true, false, if◌then◌else◌, Option}
use Rattle.std.proofs.Common.{Some, None, length, refl, sym, ap, subst, arith, inl, inr}
use Rattle.std.specs.Option.{option_map_or}
use Rattle.cmwq_lemmas.proofs.Passing.{Any, any_below}
use Rattle.cmwq_lemmas.proofs.Passing as found
use Rattle.cmwq_play.proofs.Moving.{rests_past}
use Rattle.cmwq_play.specs.Searches.{Rests}
use Rattle.cmwq_play.specs.Stands.{Stand, may, moved}
use Rattle.cmwq_progress_laws.specs.Turns.{Turns, after_turn, moves_at, stand_at}

-- ---- somebody may move, or nobody may

pub record MayMove (p : Stand) : Type 0 where
  pub party : ℕ
  pub may_move : may p party ≡ true

pub somebody_or_none : (p : Stand) → MayMove p ⊎ Rests p
somebody_or_none p = at (any_below (may p) (length p.callers + length p.workers))
  where
    at : Any (may p) (length p.callers + length p.workers) → MayMove p ⊎ Rests p
    at (found.one k less is first) = inl (record { party = k; may_move = is })
    at (found.none before first) =
        inr (rests_past p (length p.callers + length p.workers) (omega arith) before)

-- ---- one turn

pub record Moves (start : Stand) (turns : Turns) (time : ℕ) : Type 0 where
  pub party : ℕ
  pub may_move : may (stand_at start turns time) party ≡ true
  pub next : stand_at start turns (suc time) ≡ moved (stand_at start turns time) party

module _ (start : Stand) (turns : Turns) where
  pub moves : (time : ℕ) → moves_at start turns time ≡ true → Moves start turns time
  unfolding stand_at
  moves time is = at (turns time) refl is
    where
      at : (o : Option ℕ) → turns time ≡ o → option_map_or (may (stand_at start turns time)) o false ≡ true
          → Moves start turns time
      at None turn is = cc
      at (Some k) turn is = record {
        party = k;
        may_move = is;
        next = ap (after_turn (stand_at start turns time)) turn
            ∙ ap (λ b. if b then moved (stand_at start turns time) k else stand_at start turns time) is;
      }

  pub stays : (time : ℕ) → moves_at start turns time ≡ false
      → stand_at start turns (suc time) ≡ stand_at start turns time
  unfolding stand_at
  stays time none = at (turns time) refl none
    where
      at : (o : Option ℕ) → turns time ≡ o → option_map_or (may (stand_at start turns time)) o false ≡ false
          → after_turn (stand_at start turns time) (turns time) ≡ stand_at start turns time
      at None turn none = ap (after_turn (stand_at start turns time)) turn
      at (Some k) turn none = ap (after_turn (stand_at start turns time)) turn
          ∙ ap (λ b. if b then moved (stand_at start turns time) k else stand_at start turns time) none

  -- ---- the first move from a time on

  -- there is none for so long, or it comes where the script still stands as it did
  pub data FirstMove (time span : ℕ) : Type 0 where
    none : stand_at start turns (time + span) ≡ stand_at start turns time → FirstMove time span
    one : (later : ℕ) → time ≤ later → later < time + span → moves_at start turns later ≡ true
        → stand_at start turns later ≡ stand_at start turns time → FirstMove time span

  pub first_move : (time span : ℕ) → FirstMove time span
  first_move time zero = none (ap (stand_at start turns) (omega arith))
  first_move time (suc span) = elim (first_move time span) [
    | one later after before is same ↦ one later after (omega arith) is same
    | none same ↦ at (moves_at start turns (time + span)) refl same
  ]
    where
      at : (b : Bool) → moves_at start turns (time + span) ≡ b
          → stand_at start turns (time + span) ≡ stand_at start turns time → FirstMove time (suc span)
      at true is same = one (time + span) (omega arith) (omega arith) is same
      at false not same =
          let next : time + suc span ≡ suc (time + span) = omega arith in
          none (ap (stand_at start turns) next ∙ stays (time + span) not ∙ same)

  -- ---- nobody may move: so it stays

  none_moves : (time : ℕ) → Rests (stand_at start turns time) → moves_at start turns time ≡ false
  none_moves time rests = at (turns time)
    where
      at : (o : Option ℕ) → option_map_or (may (stand_at start turns time)) o false ≡ false
      at None = refl
      at (Some k) = rests k

  stays_on : (time span : ℕ) → Rests (stand_at start turns time)
      → stand_at start turns (time + span) ≡ stand_at start turns time
  stays_on time zero rests = ap (stand_at start turns) (omega arith)
  stays_on time (suc span) rests =
      let same = stays_on time span rests in
      let next : time + suc span ≡ suc (time + span) = omega arith in
      ap (stand_at start turns) next
      ∙ stays (time + span) (none_moves (time + span) (subst Rests (sym same) rests)) ∙ same

  pub stays_for_good : (time later : ℕ) → Rests (stand_at start turns time) → time ≤ later
      → stand_at start turns later ≡ stand_at start turns time
  stays_for_good time later rests after =
      let is : later ≡ time + (later - time) = omega arith in
      ap (stand_at start turns) is ∙ stays_on time (later - time) rests
