-- Waits of callers: from the entry that gives a ticket to the one by which its end is answered done. Waits of a caller
-- that overlap stand in rows of their own: each in the first that is free where it begins.
use Rattle.std.specs.Prelude.{ℕ, ◌+◌, Bool, true, false, if◌then◌else◌, List, [], ◌∷◌, ◌++◌, length}
use Rattle.std.specs.Prelude.{map, filter}
use Rattle.std.specs.Prelude.{flat_map, min, Option, Some, None, option_map, option_and_then, option_to_list, nat_lt}
use Rattle.std.specs.Prelude.{slice_get, slice_set}
use Rattle.std.specs.Option.{option_map_or}
use Rattle.std.specs.List.{range_with_len, list_any}
use Rattle.cmwq_model.specs.declared.call.Call.{Call}
use Rattle.cmwq_model.specs.declared.call.Call.TheVariants as call
use Rattle.cmwq_model.specs.declared.entry.Entry.{Entry}
use Rattle.cmwq_model.specs.declared.id.CallerId.{CallerId}
use Rattle.cmwq_model.specs.declared.id.Who.TheVariants.{Caller}
use Rattle.cmwq_model.specs.declared.reply.Reply.{Reply}
use Rattle.cmwq_model.specs.declared.reply.Reply.TheVariants as reply
use Rattle.cmwq_model.specs.Prelude.{Layout, is_at, is_by, is_done, gives_ticket, most_tickets}
use Rattle.cmwq_chart.specs.declared.waits.CallerLane.{CallerLane}
use Rattle.cmwq_chart.specs.declared.waits.CallerWait.{CallerWait}
use Rattle.cmwq_chart.specs.declared.waits.WaitSign.{WaitSign}

-- ---- the rows of a caller: of each the ticket that waits there, if one does

-- the first row that is free, or the number of rows
unfoldable pub free_row : List (Option ℕ) → ℕ
free_row [] = 0
free_row (None ∷ rows) = 0
free_row (Some n ∷ rows) = 1 + free_row rows

-- the row in which a ticket waits, or the number of rows
unfoldable pub ticket_row : List (Option ℕ) → ℕ → ℕ
ticket_row [] n = 0
ticket_row (r ∷ rows) n = if is_at r n then 0 else 1 + ticket_row rows n

-- the ticket that waits in a row, if there is such a row and one does
abbrev pub ticket_in_row : List (Option ℕ) → ℕ → Option ℕ
ticket_in_row rows row = option_and_then (λ r. r) (slice_get rows row)

abbrev pub begun_in_row : List (Option ℕ) → ℕ → List (Option ℕ)
begun_in_row rows n = if nat_lt (free_row rows) (length rows) then slice_set rows (free_row rows) (Some n) else rows
    ++ Some n ∷ []

abbrev pub left_row : List (Option ℕ) → ℕ → List (Option ℕ)
left_row rows row = if nat_lt row (length rows) then slice_set rows row None else rows

-- the ticket whose end an entry asks for
abbrev pub end_asked : Call → Option ℕ
end_asked (call.End t) = Some t
end_asked c = None

-- and the one that an entry ends
abbrev pub number_done : Entry → Option ℕ
number_done e = if is_done e.reply then end_asked e.call else None

-- what an entry of the caller, whose number is n, makes of its rows
abbrev pub rows_after : Entry → ℕ → List (Option ℕ) → List (Option ℕ)
rows_after e n rows = if gives_ticket e.reply then begun_in_row rows n
    else option_map_or (λ t. left_row rows (ticket_row rows t)) (number_done e) rows

unfoldable pub wait_rows : List Entry → CallerId → List (Option ℕ)
wait_rows [] c = []
wait_rows (e ∷ past) c = if is_by (Caller c) e then rows_after e (length past) (wait_rows past c) else wait_rows past c

-- ---- its waits

abbrev pub wait_in : CallerId → ℕ → Option ℕ → ℕ → CallerWait
wait_in c row to from = record { caller = c; row = row; from = from; to = to }

-- the wait in a row that an entry after n others ends
abbrev pub wait_over : List (Option ℕ) → CallerId → ℕ → ℕ → Option CallerWait
wait_over rows c n row = option_map (wait_in c row (Some n)) (ticket_in_row rows row)

abbrev pub wait_ended_in : List (Option ℕ) → Entry → CallerId → ℕ → Option CallerWait
wait_ended_in rows e c n = option_and_then (λ t. wait_over rows c n (ticket_row rows t)) (number_done e)

abbrev pub wait_ended : List Entry → Entry → CallerId → Option CallerWait
wait_ended past e c = if is_by (Caller c) e then wait_ended_in (wait_rows past c) e c (length past) else None

unfoldable pub waits_ended : List Entry → CallerId → List CallerWait
waits_ended [] c = []
waits_ended (e ∷ past) c = waits_ended past c ++ option_to_list (wait_ended past e c)

-- and those that go on at the end, row after row
abbrev pub wait_left : List (Option ℕ) → CallerId → ℕ → List CallerWait
wait_left rows c row = option_to_list (option_map (wait_in c row None) (ticket_in_row rows row))

abbrev pub waits_left : List (Option ℕ) → CallerId → List CallerWait
waits_left rows c = flat_map (wait_left rows c) (range_with_len 0 (length rows))

unfoldable pub waits_by : List Entry → CallerId → List CallerWait
waits_by past c = waits_ended past c ++ waits_left (wait_rows past c) c

abbrev pub caller_waits_of : List Entry → List CallerId → List CallerWait
caller_waits_of past callers = flat_map (waits_by past) callers

-- ---- where their ends were asked for

abbrev pub is_end_answer : Reply → Bool
is_end_answer reply.Done = true
is_end_answer (reply.Waiting n) = true
is_end_answer r = false

abbrev pub sign_on : List (Option ℕ) → Entry → CallerId → ℕ → ℕ → Option WaitSign
sign_on rows e c n row =
    option_map (λ (t : ℕ). record { caller = c; row = row; at = n; is_done = is_done e.reply }) (ticket_in_row rows row)

abbrev pub wait_sign_in : List (Option ℕ) → Entry → CallerId → ℕ → Option WaitSign
wait_sign_in rows e c n =
    if is_end_answer e.reply then option_and_then (λ t. sign_on rows e c n (ticket_row rows t)) (end_asked e.call)
    else None

abbrev pub wait_sign_of : List Entry → Entry → CallerId → Option WaitSign
wait_sign_of past e c = if is_by (Caller c) e then wait_sign_in (wait_rows past c) e c (length past) else None

unfoldable pub wait_signs_by : List Entry → CallerId → List WaitSign
wait_signs_by [] c = []
wait_signs_by (e ∷ past) c = wait_signs_by past c ++ option_to_list (wait_sign_of past e c)

abbrev pub wait_signs_of : List Entry → List CallerId → List WaitSign
wait_signs_of past callers = flat_map (wait_signs_by past) callers

-- ---- the callers that have entries, each with as many rows as it has unended tickets at most

abbrev pub has_calls : List Entry → CallerId → Bool
has_calls entries c = list_any (is_by (Caller c)) entries

abbrev pub caller_of_number : ℕ → CallerId
caller_of_number n = record { 0 = n }

abbrev pub all_callers : Layout → List CallerId
all_callers s = map caller_of_number (range_with_len 0 s.callers)

unfoldable pub callers_of : Layout → List Entry → List CallerId
callers_of s entries = filter (has_calls entries) (all_callers s)

abbrev pub caller_lane : List Entry → CallerId → CallerLane
caller_lane past c = record { caller = c; rows = min (length (wait_rows past c)) most_tickets }

abbrev pub caller_lanes_of : List Entry → List CallerId → List CallerLane
caller_lanes_of past callers = map (caller_lane past) callers
