-- Each entry has a mark: what it did is a sign, an end of a bar, of a sleep or of a wait, or a mark in a wait.
use Rattle.std.specs.Prelude.{◌≡◌, Bool, true, false, ◌||◌, is_some}
use Rattle.cmwq_model.specs.declared.reply.Reply.{Reply}
use Rattle.cmwq_model.specs.declared.reply.Reply.TheVariants as reply
use Rattle.cmwq_model.specs.Prelude.{number_finished, number_started}
use Rattle.cmwq_chart.specs.CallerWaits.{is_end_answer}
use Rattle.cmwq_chart.specs.Signs.{sign_kind}

-- by the laws of starts and finishes, of sleeps and wakes, of ends, and of signs
abbrev pub is_of_bar : Reply → Bool
is_of_bar r = is_some (number_started r) || is_some (number_finished r)

abbrev pub is_of_sleep : Reply → Bool
is_of_sleep reply.Slept = true
is_of_sleep reply.Woke = true
is_of_sleep r = false

abbrev pub RepliesAreMarked : Type 0
RepliesAreMarked = (r : Reply) → (is_some (sign_kind r) || is_of_bar r || is_of_sleep r || is_end_answer r) ≡ true
