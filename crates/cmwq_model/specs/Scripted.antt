-- Which calls a script may hold.
use Rattle.std.specs.Prelude.{◌≡◌, Bool, true, false}
use Rattle.cmwq_model.specs.declared.call.Call.{Call}
use Rattle.cmwq_model.specs.declared.call.Call.TheVariants as call
use Rattle.cmwq_model.specs.Layout.{Layout, is_callers, has_numbers}

-- A script holds whole calls of callers with numbers inside the layout: ends and fires come by themselves.
abbrev pub is_whole : Call → Bool
is_whole (call.End t) = false
is_whole call.Fire = false
is_whole c = is_callers c

abbrev pub IsScripted : Layout → Call → Type 0
IsScripted s c = (is_whole c ≡ true) × (has_numbers s c ≡ true)
