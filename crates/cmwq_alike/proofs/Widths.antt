-- Widths after a call.
use Rattle.std.specs.Prelude.{◌&&◌, if◌then◌else◌}
use Rattle.cmwq_alike.specs.Common.{◌≡◌, ℕ, Bool, List, ◌∷◌, None, option_map_or, arith, ap₂, ◌∙◌}
use Rattle.cmwq_alike.specs.Common.{Entry, Layout, Reply, Call, is_frozen, max_active, width, frozen_after, width_told}
use Rattle.cmwq_alike.specs.Common.{sets_max, is_freezable}
use Rattle.cmwq_alike.specs.Alike.{reply_by, call_by, next_by, IsStep}

frozen_by : (g : ℕ → ℕ) (r : Reply) (b : Bool) → frozen_after (reply_by g r) b ≡ frozen_after r b
frozen_by g r b = grind arith

told_by : (g : ℕ → ℕ) (r : Reply) → width_told (reply_by g r) ≡ width_told r
told_by g r = grind arith

sets_by : (g : ℕ → ℕ) (c : Call) (q : ℕ) → sets_max (call_by g c) q ≡ sets_max c q
sets_by g c q = grind arith

module _ {s : Layout} {f : ℕ → ℕ} {past other : List Entry} {e d : Entry} (k : IsStep s f past other e d) where
  pub frozen_stays : is_frozen (d ∷ other) ≡ is_frozen (e ∷ past)
  unfolding is_frozen
  frozen_stays =
      ap₂ (λ r b. frozen_after r b) k.same.reply k.alike.frozen
      ∙ frozen_by (next_by f past other) e.reply (is_frozen past)

  pub max_stays : (q : ℕ) → max_active s (d ∷ other) q ≡ max_active s (e ∷ past) q
  unfolding max_active
  max_stays q =
      ap₂ (λ o m. option_map_or (λ (n : ℕ). n) o m)
      (ap₂ (λ c r. if sets_max c q then width_told r else None) k.same.call k.same.reply
      ∙ ap₂ (λ b o. if b then o else None) (sets_by (next_by f past other) e.call q)
      (told_by (next_by f past other) e.reply))
      (k.alike.widths q)

  pub width_stays : (q : ℕ) → width s (d ∷ other) q ≡ width s (e ∷ past) q
  unfolding width
  width_stays q = ap₂ (λ b m. if is_freezable s q && b then 0 else m) frozen_stays (max_stays q)
