-- What is owed while a history is frozen, after one more entry.
use Rattle.cmwq_theory_steps.specs.Common.{◌≡◌, ◌+◌, List, ◌∷◌, refl, sym, ap, Who, Call, Reply, Entry, Layout}
use Rattle.cmwq_theory_steps.specs.Common.{frozen_after, is_frozen, IsLegal}
use Rattle.cmwq_theory_steps.specs.Histories.{one}
use Rattle.cmwq_theory_steps.specs.RoomSteps.{is_frozen_now, is_thawed_now}
use Rattle.cmwq_theory_steps.proofs.Causes.{Cause, cause_of}
use Rattle.cmwq_theory_steps.proofs.Causes as cause

frozen_balance : (s : Layout) (past : List Entry) (who : Who) (c : Call) (r : Reply) → Cause s past who c r
    → one (frozen_after r (is_frozen past)) + one (is_thawed_now r) ≡ one (is_frozen past) + one (is_frozen_now r)
frozen_balance s past who c r (cause.freezes w free) = ap (λ b. one b + 1) (sym free)
frozen_balance s past who c r (cause.thaws w frozen) = ap (λ b. one b + 0) (sym frozen)
frozen_balance s past who c r other = refl

pub frozen_counted : (s : Layout) (past : List Entry) (e : Entry) → IsLegal s (e ∷ past)
    → one (is_frozen (e ∷ past)) + one (is_thawed_now e.reply) ≡ one (is_frozen past) + one (is_frozen_now e.reply)
unfolding is_frozen
frozen_counted s past e legal = frozen_balance s past e.who e.call e.reply (cause_of s past e legal)
