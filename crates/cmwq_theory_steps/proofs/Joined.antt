-- What is active after an entry, and that it stays so while it is open.
use Rattle.cmwq_theory_steps.specs.Common.{◌≡◌, ◌<◌, true, false, ◌&&◌, ◌||◌, List, [], ◌∷◌, length, refl, ap, ap₂, ◌∙◌}
use Rattle.cmwq_theory_steps.specs.Common.{arith, ltb-true, Entry, Queueing, Layout, is_live, is_below_max_active}
use Rattle.cmwq_theory_steps.specs.Common.{is_active, is_listed}
use Rattle.cmwq_model.specs.declared.id.PoolId.{PoolId}

pub active_go_on : (s : Layout) (past : List Entry) (e : Entry) (x : Queueing)
    → is_active s (e ∷ past) x ≡ (is_live (e ∷ past) x && (is_active s past x || is_below_max_active s (e ∷ past) x))
unfolding is_active
active_go_on s past e x = refl

pub active_live : (s : Layout) (past : List Entry) (x : Queueing) → is_active s past x ≡ true → is_live past x ≡ true
unfolding is_active
active_live s [] x h = cc
active_live s (e ∷ past) x h = grind arith

pub active_older : (s : Layout) (past : List Entry) (x : Queueing) → is_active s past x ≡ true → x.number < length past
active_older s past x h = let live = active_live s past x h in ltb-true x.number (length past) (grind arith)

pub not_live : (s : Layout) (past : List Entry) (x : Queueing) → is_live past x ≡ false → is_active s past x ≡ false
unfolding is_active
not_live s [] x h = refl
not_live s (e ∷ past) x h = ap (λ b. b && (is_active s past x || is_below_max_active s (e ∷ past) x)) h

pub stays_active : (s : Layout) (past : List Entry) (e : Entry) (x : Queueing) → is_active s past x ≡ true
    → is_live (e ∷ past) x ≡ true → is_active s (e ∷ past) x ≡ true
stays_active s past e x active live =
    active_go_on s past e x ∙ ap₂ (λ a b. a && (b || is_below_max_active s (e ∷ past) x)) live active

pub listed_live : (s : Layout) (past : List Entry) (p : PoolId) (x : Queueing) → is_listed s past p x ≡ true
    → is_live past x ≡ true
listed_live s past p x h = active_live s past x (grind arith)
