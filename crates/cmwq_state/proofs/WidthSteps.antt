-- The widths to which an entry is applied are those of the longer history.
use Rattle.cmwq_state.specs.Common.{◌≡◌, ℕ, ◌<◌, Bool, List, [], ◌∷◌, length, map, false, refl, ap, ap₂, ◌∙◌}
use Rattle.cmwq_state.specs.Common.{if◌then◌else◌, ◌&&◌, option_map_or, length-map, get_or-map, Entry, QueueShape}
use Rattle.cmwq_state.specs.Common.{Layout, no_queue, queue_at, max_active, is_frozen, frozen_after, width, width_set}
use Rattle.cmwq_state.specs.Common.{width_by}
use Rattle.cmwq_state.specs.Widths.{AreWidths, SetsWidth}

pub widths_applied : (s : Layout) (past : List Entry) (e : Entry) (old new : List ℕ) (frozen : Bool)
    → AreWidths s past old frozen → SetsWidth e.call e.reply old new
    → AreWidths s (e ∷ past) new (frozen_after e.reply frozen)
unfolding max_active is_frozen
widths_applied s past e old new frozen are applied = record {
  many = applied.many ∙ are.many;
  each = λ q here. applied.each q ∙ ap (option_map_or (λ (n : ℕ). n) (width_set e q)) (are.each q here);
  frozen = ap (frozen_after e.reply) are.frozen;
}

pub widths_are : (s : Layout) (past : List Entry) (most : List ℕ) (frozen : Bool) → AreWidths s past most frozen
    → (q : ℕ) → q < length s.queues → width_by s.queues most frozen q ≡ width s past q
unfolding width
widths_are s past most frozen are q here =
    ap₂ (λ b n. if (queue_at s q).freezable && b then 0 else n) are.frozen (are.each q here)

abbrev pub first_most : List QueueShape → List ℕ
first_most queues = map (λ (q : QueueShape). q.max_active) queues

pub widths_at_first : (s : Layout) → AreWidths s [] (first_most s.queues) false
unfolding max_active is_frozen
widths_at_first s = record {
  many = simp length-map;
  each = λ q here. get_or-map (λ (q : QueueShape). q.max_active) s.queues q no_queue 0 here;
  frozen = refl;
}
