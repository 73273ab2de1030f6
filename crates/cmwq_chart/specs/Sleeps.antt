-- Sleeps: from the entry by which a worker's run sleeps to the one by which it goes on.
use Rattle.std.specs.Prelude.{ℕ, ◌&&◌, Bool, true, false, if◌then◌else◌, List, [], ◌∷◌, ◌++◌}
use Rattle.std.specs.Prelude.{length, flat_map, Option, Some, None, option_map, option_to_list}
use Rattle.cmwq_model.specs.declared.entry.Entry.{Entry}
use Rattle.cmwq_model.specs.declared.id.WorkerId.{WorkerId}
use Rattle.cmwq_model.specs.declared.id.Who.TheVariants.{Worker}
use Rattle.cmwq_model.specs.declared.reply.Reply.{Reply}
use Rattle.cmwq_model.specs.declared.reply.Reply.TheVariants as reply
use Rattle.cmwq_model.specs.Prelude.{is_by}
use Rattle.cmwq_chart.specs.declared.sleeps.Sleep.{Sleep}

-- the place of the entry by which a worker sleeps, after an entry of its own
abbrev pub since_after : Reply → ℕ → Option ℕ → Option ℕ
since_after (reply.Started n) place since = None
since_after (reply.StartedEnlist n x) place since = None
since_after reply.Slept place since = Some place
since_after reply.Woke place since = None
since_after r place since = since

-- since where the worker sleeps, if it does
unfoldable pub asleep_since : List Entry → WorkerId → Option ℕ
asleep_since [] w = None
asleep_since (e ∷ past) w = if is_by (Worker w) e then since_after e.reply (length past) (asleep_since past w)
    else asleep_since past w

abbrev pub sleep_from : WorkerId → Option ℕ → ℕ → Sleep
sleep_from w to from = record { worker = w; from = from; to = to }

abbrev pub ends_sleep : Reply → Bool
ends_sleep reply.Woke = true
ends_sleep r = false

-- the sleep that an entry after past ends
abbrev pub sleep_ended : List Entry → Entry → WorkerId → Option Sleep
sleep_ended past e w = if is_by (Worker w) e && ends_sleep e.reply
    then option_map (sleep_from w (Some (length past))) (asleep_since past w) else None

unfoldable pub sleeps_ended : List Entry → WorkerId → List Sleep
sleeps_ended [] w = []
sleeps_ended (e ∷ past) w = sleeps_ended past w ++ option_to_list (sleep_ended past e w)

-- and the one that goes on at the end
unfoldable pub sleeps_by : List Entry → WorkerId → List Sleep
sleeps_by past w = sleeps_ended past w ++ option_to_list (option_map (sleep_from w None) (asleep_since past w))

abbrev pub sleeps_of : List Entry → List WorkerId → List Sleep
sleeps_of past lanes = flat_map (sleeps_by past) lanes
