-- A state to which an effect was applied is one entry further on.
use Rattle.cmwq_state.specs.Common.{◌≡◌, ℕ, ◌+◌, ◌≤◌, true, List, [], ◌∷◌, ◌++◌, length, ap, arith, length-append}
use Rattle.cmwq_state.specs.Common.{Entry, Call, Layout, fits, serial_of, ticks_told, now, has_time, most_time, IsLegal}
use Rattle.cmwq_state.specs.Common.{past_of, length-reverse}
use Rattle.cmwq_state.specs.Tables.{IsThere}
use Rattle.cmwq_state.specs.State.{Parts, AreParts, IsState}
use Rattle.cmwq_state.specs.Effects.{IsEffect, IsNextEffect}
use Rattle.cmwq_state.specs.declared.effect.Effect.{Effect}
use Rattle.cmwq_state.proofs.Steps.{fits_there}
use Rattle.cmwq_model.proofs.Growing.{one_more_is_newest}

pub effect_fits : (s : Layout) (past : List Entry) (f : Effect) → IsEffect s past f
    → fits s f.entry.who f.entry.call ≡ true
unfolding IsLegal
effect_fits s past f is = is.legal.0

pub effect_there : (s : Layout) (past : List Entry) (f : Effect) → IsEffect s past f → IsThere s f.entry.who
effect_there s past f is = fits_there s f.entry.who f.entry.call (effect_fits s past f is)

pub effect_serial : (s : Layout) (past : List Entry) (f : Effect) → IsEffect s past f
    → f.entry.serial ≡ serial_of past f.entry.who
unfolding IsLegal
effect_serial s past f is = ap (λ (x : Entry). x.serial) is.legal.1

-- the time after a call that has time is within its room
pub time_within : (past : List Entry) (c : Call) (time : ℕ) → time ≡ now past → time ≤ most_time
    → has_time past c ≡ true → time + ticks_told c ≤ most_time
time_within past c time is within h = grind arith

-- the effect of an entry for which there is room is that of the next entry
pub next_effect : (s : Layout) (room : ℕ) (entries : List Entry) (parts : Parts) (f : Effect)
    → IsState s room entries parts → IsEffect s (past_of entries) f → IsNextEffect s (past_of entries) f
next_effect s room entries parts f b is = grind (arith, length-reverse)

pub appended : (s : Layout) (room : ℕ) (entries : List Entry) (old new : Parts) (f : Effect)
    → IsState s room entries old → IsEffect s (past_of entries) f → AreParts s (f.entry ∷ past_of entries) new →
    new.time ≡ old.time + ticks_told f.entry.call → new.owing ≡ f.owing → has_time (past_of entries) f.entry.call ≡ true
    → length entries + 1 + f.owing ≤ room → IsState s room (entries ++ f.entry ∷ []) new
appended s room entries old new f b is are time owing ticks within =
    grind (arith, length-append, one_more_is_newest, time_within)
