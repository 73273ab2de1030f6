-- Widths that stay.
use Rattle.cmwq_theory_steps.specs.Common.{◌≡◌, ℕ, Bool, true, false, ◌&&◌, List, ◌∷◌, None, refl, ap, ap₂, ◌∙◌}
use Rattle.cmwq_theory_steps.specs.Common.{if◌then◌else◌, Entry, Reply, Layout, is_freezable, width, max_active}
use Rattle.cmwq_theory_steps.specs.Common.{is_frozen, frozen_after, sets_max, width_told}
use Rattle.cmwq_model.specs.declared.reply.Reply.TheVariants as reply
use Rattle.std.specs.Option.{option_map_or}
use Rattle.cmwq_model.specs.Widths.{keeps_widths}

pub frozen_same : (r : Reply) (b : Bool) → keeps_widths r ≡ true → frozen_after r b ≡ b
frozen_same reply.Frozen b h = cc
frozen_same reply.Thawed b h = cc
frozen_same r b h = refl

told_none : (r : Reply) → keeps_widths r ≡ true → width_told r ≡ None
told_none (reply.Width n) h = cc
told_none r h = refl

pub max_same : (s : Layout) (past : List Entry) (e : Entry) (q : ℕ) → keeps_widths e.reply ≡ true
    → max_active s (e ∷ past) q ≡ max_active s past q
unfolding max_active
max_same s past e q h =
    ap (λ o. option_map_or (λ n. n) (if sets_max e.call q then o else None) (max_active s past q)) (told_none e.reply h)
    ∙ either (sets_max e.call q)
  where
    either : (b : Bool) → option_map_or (λ n. n) (if b then None else None) (max_active s past q) ≡ max_active s past q
    either true = refl
    either false = refl

pub width_same : (s : Layout) (past : List Entry) (e : Entry) (q : ℕ) → keeps_widths e.reply ≡ true
    → width s (e ∷ past) q ≡ width s past q
unfolding width is_frozen
width_same s past e q h =
    ap₂ (λ b n. if is_freezable s q && b then 0 else n) (frozen_same e.reply (is_frozen past) h) (max_same s past e q h)
