-- What one entry does to the levels that go on before it.
use Rattle.std.specs.Prelude.{◌≡◌, ◌-◌, ℕ, Bool, ◌||◌, not, false, if◌then◌else◌, List, Option, Some, None}
use Rattle.std.specs.Prelude.{option_to_list}
use Rattle.std.specs.Option.{option_map_or}
use Rattle.cmwq_model.specs.declared.entry.Entry.{Entry}
use Rattle.cmwq_model.specs.declared.record.Place.{Place}
use Rattle.cmwq_model.specs.declared.record.Queueing.{Queueing}
use Rattle.cmwq_model.specs.Prelude.{Layout}
use Rattle.cmwq_model.specs.Widths.{keeps_widths}
use Rattle.cmwq_state.specs.Effects.{IsEffect}
use Rattle.cmwq_state.specs.declared.effect.Effect.{Effect}
use Rattle.cmwq_chart.specs.declared.levels.Height.{Height}
use Rattle.cmwq_chart.specs.declared.levels.Level.{Level}
use Rattle.cmwq_chart.specs.Levels.{is_of_place, height_at, level_ended, level_from, level_until, IsPlaceOf}

-- an entry does this
abbrev pub IsEffectOf : Layout → List Entry → Entry → Effect → Type 0
IsEffectOf s past e f = (f.entry ≡ e) × IsEffect s past f

abbrev pub is_one_of_place : Place → Option Queueing → Bool
is_one_of_place p x = option_map_or (is_of_place p) x false

-- it may change the height of a place: it gave another width, or opens or ends something there
abbrev pub may_change : Effect → Place → Bool
may_change f p = not (keeps_widths f.entry.reply) || is_one_of_place p f.opened || is_one_of_place p f.ended

-- the level of the same place after a past
abbrev pub level_after : Layout → List Entry → Level → Level
level_after s past l = level_until s past None l.place

-- it is that, and goes on
pub record IsLevelAfter (s : Layout) (past : List Entry) (l : Level) : Type 0 where
  pub inside : IsPlaceOf s l.place
  pub height : l.height ≡ height_at s past l.place
  pub from : l.from ≡ level_from s past l.place
  pub to : l.to ≡ None

-- of a level that goes on before an entry, what the entry ends
abbrev pub ended_levels : Layout → List Entry → Entry → Level → List Level
ended_levels s past e l = option_to_list (level_ended s past e l.place)

-- what an entry behind n others makes of a level, where it changes it or doesn't
abbrev pub ended_if : Level → Bool → ℕ → Option Level
ended_if l changed n = if changed then Some (record l { to = Some (n - 1) }) else None

abbrev pub after_if : Level → Bool → Height → ℕ → Level
after_if l changed height n = record l { height = height; from = if changed then n else l.from }
