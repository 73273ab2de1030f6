-- What one more fire makes of a history.
use Rattle.std.proofs.Common.{ℕ, suc, zero, ◌≡◌, ◌<◌, ◌+◌, ◌-◌, Bool, true, false, Some, None, refl, sym, ◌∙◌, arith}
use Rattle.cmwq_model.specs.Prelude.{is_nothing}
use Rattle.cmwq_model.specs.declared.id.Who.{Who}
use Rattle.cmwq_model.specs.declared.call.Call.{Call}
use Rattle.cmwq_model.specs.declared.call.Call.TheVariants as call
use Rattle.cmwq_model.specs.declared.reply.Reply.{Reply}
use Rattle.cmwq_core.specs.History.{History}
use Rattle.cmwq_play.specs.Machines.{stepped, replied, fired, is_made}

-- where there is no reply, nothing is changed
pub stepped_none : (h : History) (who : Who) (c : Call) → replied h who c ≡ None → stepped h who c ≡ h
unfolding replied stepped
stepped_none h who c none = here (is_made h who c) refl
  where
    here : (b : Bool) → is_made h who c ≡ b → stepped h who c ≡ h
    here true made = let no = rw made at none in cc
    here false not = rw not refl

pub fired_zero : (h : History) (who : Who) → fired zero h who ≡ h
unfolding fired
fired_zero h who = refl

pub fired_none : (n : ℕ) (h : History) (who : Who) → replied h who call.Fire ≡ None → fired (suc n) h who ≡ h
unfolding fired
fired_none n h who none = rw none refl

pub fired_last : (n : ℕ) (h : History) (who : Who) (r : Reply) → replied h who call.Fire ≡ Some r → is_nothing r ≡ true
    → fired (suc n) h who ≡ stepped h who call.Fire
unfolding fired
fired_last n h who r some nothing = rw (some, nothing) refl

pub fired_more : (n : ℕ) (h : History) (who : Who) (r : Reply) → replied h who call.Fire ≡ Some r → is_nothing r ≡ false
    → fired (suc n) h who ≡ fired n (stepped h who call.Fire) who
unfolding fired
fired_more n h who r some other = rw (some, other) refl

-- ---- a loop of fires, of which so many are made, and which is to leave this history

-- the last one found no room, or nothing to fire
pub last_none : (items k : ℕ) (h goal : History) (who : Who) → k < items
    → ((n : ℕ) → k + n ≡ items → fired n h who ≡ goal) → replied h who call.Fire ≡ None
    → stepped h who call.Fire ≡ goal
last_none items k h goal who less so none =
    stepped_none h who call.Fire none ∙ sym (fired_none (items - suc k) h who none)
    ∙ so (suc (items - suc k)) (omega arith)

pub last_nothing : (items k : ℕ) (h goal : History) (who : Who) (r : Reply) → k < items
    → ((n : ℕ) → k + n ≡ items → fired n h who ≡ goal)
    → replied h who call.Fire ≡ Some r → is_nothing r ≡ true → stepped h who call.Fire ≡ goal
last_nothing items k h goal who r less so some nothing = sym (fired_last (items - suc k) h who r some nothing)
    ∙ so (suc (items - suc k)) (omega arith)

pub one_more : (items k : ℕ) (h goal : History) (who : Who) (r : Reply)
    → ((n : ℕ) → k + n ≡ items → fired n h who ≡ goal) → replied h who call.Fire ≡ Some r → is_nothing r ≡ false
    → (n : ℕ) → suc k + n ≡ items → fired n (stepped h who call.Fire) who ≡ goal
one_more items k h goal who r so some other n e = sym (fired_more n h who r some other) ∙ so (suc n) (omega arith)

pub all_made : (items k : ℕ) (h goal : History) (who : Who) → k ≡ items
    → ((n : ℕ) → k + n ≡ items → fired n h who ≡ goal) → h ≡ goal
all_made items k h goal who e so = sym (fired_zero h who) ∙ so zero (omega arith)
