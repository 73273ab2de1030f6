-- How wide each queue is at a time: what set_max said last, and nothing while a freezable queue is frozen.
use Rattle.std.specs.Prelude.{ℕ, Bool, true, false, ◌&&◌, ◌==◌, if◌then◌else◌, List, [], ◌∷◌, Option, Some, None}
use Rattle.std.specs.Option.{option_map_or}
use Rattle.cmwq_model.specs.declared.call.Call.{Call}
use Rattle.cmwq_model.specs.declared.call.Call.TheVariants as call
use Rattle.cmwq_model.specs.declared.reply.Reply.{Reply}
use Rattle.cmwq_model.specs.declared.reply.Reply.TheVariants as reply
use Rattle.cmwq_model.specs.declared.entry.Entry.{Entry}
use Rattle.cmwq_model.specs.Layout.{Layout, first_width, is_freezable}

-- an answer of an entry that changes no width
abbrev pub keeps_widths : Reply → Bool
keeps_widths (reply.Width n) = false
keeps_widths reply.Frozen = false
keeps_widths reply.Thawed = false
keeps_widths r = true

-- of the answers frozen and thawed, the last is frozen
abbrev pub frozen_after : Reply → Bool → Bool
frozen_after reply.Frozen frozen = true
frozen_after reply.Thawed frozen = false
frozen_after r frozen = frozen

unfoldable pub is_frozen : List Entry → Bool
is_frozen [] = false
is_frozen (e ∷ past) = frozen_after e.reply (is_frozen past)

-- max_active: what the last set_max of the queue was answered, and before that what the layout says
abbrev pub sets_max : Call → ℕ → Bool
sets_max (call.SetMax r n) q = r.0 == q
sets_max c q = false

abbrev pub width_told : Reply → Option ℕ
width_told (reply.Width n) = Some n
width_told r = None

abbrev pub width_set : Entry → ℕ → Option ℕ
width_set e q = if sets_max e.call q then width_told e.reply else None

unfoldable pub max_active : Layout → List Entry → ℕ → ℕ
max_active s [] q = first_width s q
max_active s (e ∷ past) q = option_map_or (λ n. n) (width_set e q) (max_active s past q)

-- the width that holds: how many queueings of the queue may be active on one CPU before no more become active there
abbrev pub is_shut_down : Layout → List Entry → ℕ → Bool
is_shut_down s past q = is_freezable s q && is_frozen past

unfoldable pub width : Layout → List Entry → ℕ → ℕ
width s past q = if is_shut_down s past q then 0 else max_active s past q
