-- Levels: how many queueings of a queue are open on a CPU, how many of them are active, and how wide the queue is,
-- after each entry.
use Rattle.std.specs.Prelude.{ℕ, ◌+◌, ◌-◌, ◌*◌, ◌<◌, ◌==◌, ◌&&◌, Bool, not, if◌then◌else◌, List, [], ◌∷◌, ◌++◌, length}
use Rattle.std.specs.Prelude.{map, filter, count_by, flat_map, Option, Some, None, option_to_list, nat_lt}
use Rattle.std.specs.List.{range_with_len, list_any}
use Rattle.cmwq_model.specs.declared.entry.Entry.{Entry}
use Rattle.cmwq_model.specs.declared.record.Place.{Place}
use Rattle.cmwq_model.specs.declared.record.Queueing.{Queueing}
use Rattle.cmwq_model.specs.Prelude.{Layout, most_cpus, most_queues, same_place, still_open, is_active, width}
use Rattle.cmwq_chart.specs.declared.levels.Height.{Height}
use Rattle.cmwq_chart.specs.declared.levels.Level.{Level}

-- ---- the places that are shown: the queues on CPUs that ever had a queueing, by queue and CPU
abbrev pub is_of_place : Place → Queueing → Bool
is_of_place p x = same_place p x.place

abbrev pub has_queueings : List Queueing → Place → Bool
has_queueings queueings p = list_any (is_of_place p) queueings

-- the number of a place whose CPU a shape may have, and of where a queueing stands
abbrev pub level_number : Place → ℕ
level_number p = most_cpus * p.queue.0 + p.cpu.0

abbrev pub level_number_of : Queueing → Option ℕ
level_number_of x = if nat_lt x.place.cpu.0 most_cpus then Some (level_number x.place) else None

abbrev pub place_on : ℕ → ℕ → Place
place_on q c = record { queue = record { 0 = q }; cpu = record { 0 = c } }

abbrev pub places_of_queue : Layout → ℕ → List Place
places_of_queue s q = map (place_on q) (range_with_len 0 s.cpus)

-- how many there may be
abbrev pub most_places : ℕ
most_places = most_cpus * most_queues

abbrev pub all_places : Layout → List Place
all_places s = flat_map (places_of_queue s) (range_with_len 0 (length s.queues))

unfoldable pub places_of : Layout → List Queueing → List Place
places_of s queueings = filter (has_queueings queueings) (all_places s)

-- the layout has this queue, and may have this CPU
abbrev pub IsPlaceOf : Layout → Place → Type 0
IsPlaceOf s p = (p.queue.0 < length s.queues) × (p.cpu.0 < most_cpus)

-- ---- their levels
abbrev pub open_at : List Entry → Place → ℕ
open_at past p = count_by (is_of_place p) (still_open past)

abbrev pub is_active_at : Layout → List Entry → Place → Queueing → Bool
is_active_at s past p x = is_of_place p x && is_active s past x

abbrev pub active_at : Layout → List Entry → Place → ℕ
active_at s past p = count_by (is_active_at s past p) (still_open past)

abbrev pub height_at : Layout → List Entry → Place → Height
height_at s past p =
    record { open_count = open_at past p; active_count = active_at s past p; width = width s past p.queue.0 }

abbrev pub is_same_height : Height → Height → Bool
is_same_height h g = (h.open_count == g.open_count) && (h.active_count == g.active_count) && (h.width == g.width)

-- after so many entries another height is another level; before the first entry none is shown
abbrev pub is_changed : ℕ → Height → Height → Bool
is_changed n before after = nat_lt 0 n && not (is_same_height before after)

abbrev pub changes_level : Layout → List Entry → Entry → Place → Bool
changes_level s past e p = is_changed (length past) (height_at s past p) (height_at s (e ∷ past) p)

-- from which entry on it is as it is after a past
unfoldable pub level_from : Layout → List Entry → Place → ℕ
level_from s [] p = 0
level_from s (e ∷ past) p = if changes_level s past e p then length past else level_from s past p

abbrev pub level_until : Layout → List Entry → Option ℕ → Place → Level
level_until s past to p = record { place = p; height = height_at s past p; from = level_from s past p; to = to }

-- the level that an entry after past ends
abbrev pub level_ended : Layout → List Entry → Entry → Place → Option Level
level_ended s past e p = if changes_level s past e p then Some (level_until s past (Some (length past - 1)) p) else None

abbrev pub levels_ended_by : Layout → List Entry → Entry → List Place → List Level
levels_ended_by s past e places = flat_map (λ p. option_to_list (level_ended s past e p)) places

unfoldable pub levels_ended : Layout → List Entry → List Place → List Level
levels_ended s [] places = []
levels_ended s (e ∷ past) places = levels_ended s past places ++ levels_ended_by s past e places

-- and those that go on at the end
abbrev pub levels_left : Layout → List Entry → List Place → List Level
levels_left s past places = map (level_until s past None) places

abbrev pub levels_of : Layout → List Entry → List Place → List Level
levels_of s past places = levels_ended s past places ++ levels_left s past places
