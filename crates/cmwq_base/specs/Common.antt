-- What the files of this crate name from outside it, in one import.
pub use Rattle.std.proofs.Common.{Bool, Err, List, None, Ok, Option, Result, Some, [], add-one, ap, append-nil}
pub use Rattle.std.proofs.Common.{append_assoc, arith, cond, drop, drop-cons, false, get_or, inl, inr, leb, length}
pub use Rattle.std.proofs.Common.{length-append, min, nat_le, nat_lt, not, refl, subst, suc, sym, take}
pub use Rattle.std.proofs.Common.{take-append-drop, true, zero, ℕ, ◌&&◌, ◌++◌, ◌+◌, ◌<◌, ◌==◌, ◌∙◌, ◌∷◌, ◌≡◌, ◌≤◌, ◌⊎◌}
pub use Rattle.std.proofs.lemmas.Bool.{and_from, and_parts, eq-eqb, eqb-true, le-leb, le-ltb, leb-true, lt-leb}
pub use Rattle.std.proofs.lemmas.Bool.{ltb-true}
pub use Rattle.std.proofs.lemmas.Bool.Decides.{nat_tests}
pub use Rattle.std.proofs.lemmas.List.{flat_map_more, get_or-take, length-drop, length-take, map_push, take-append-le}
pub use Rattle.std.proofs.lemmas.List.{take_all, take_min}
pub use Rattle.std.proofs.lemmas.List.Elements.{All-head, All-nil, All-push, All-tail}
pub use Rattle.std.proofs.lemmas.List.Splits.{join_with_byte-slice_split, slice_split_at, slice_split_first}
pub use Rattle.std.proofs.lemmas.List.Splits.{slice_split_none}
pub use Rattle.std.proofs.lemmas.List.Sums.{fails_before_first}
pub use Rattle.std.proofs.lemmas.Option.{same_Some}
pub use Rattle.std.proofs.lemmas.Result.{err_from_is_err_and}
pub use Rattle.std.proofs.lemmas.Slice.Eq.{bytes_eq-Decides}
pub use Rattle.std.specs.Io.KnownBytes.{Appends, Keeps, prepend_known}
pub use Rattle.std.specs.List.{All, join_with_byte, list_all, position_or_len, slice_split}
pub use Rattle.std.specs.Prelude.{IfOk, IfSome, IsTrue, codes, flat_map, if◌then◌else◌, is_some, map}
pub use Rattle.std.specs.Str.{bytes_eq}
pub use Rattle.std.proofs.KnownBytes.{Appends-trans}
pub use Rattle.cmwq_io.specs.Feeds.{has_feed, is_feed}
pub use Rattle.cmwq_io.specs.FirstLine.{TakesKnownLine, TakesLine, first_line}
pub use Rattle.cmwq_io.specs.declared.lines.Found.TheVariants.{Cut, End, Long, Whole}
pub use Rattle.cmwq_model.specs.Prelude.{IsCall, IsEntry, IsWho, Layout, are_counts, are_queues, entry_fits, fits}
pub use Rattle.cmwq_model.specs.Prelude.{greatest, is_between, is_layout, is_queue, layout_of, most_queues, reply_fits}
pub use Rattle.cmwq_model.specs.declared.call.Call.{Call}
pub use Rattle.cmwq_model.specs.declared.entry.Entry.{Entry}
pub use Rattle.cmwq_model.specs.declared.id.Who.{Who}
pub use Rattle.cmwq_model.specs.declared.shape.Counts.{Counts}
pub use Rattle.cmwq_model.specs.declared.shape.QueueShape.{QueueShape}
pub use Rattle.cmwq_text.proofs.EndLaws.{ends_read_again, ends_spelled_so, entry_ends_none}
pub use Rattle.cmwq_text.proofs.EntryLaws.{calls_read_again, calls_spelled_so, entries_read_again, entries_spelled_so}
pub use Rattle.cmwq_text.proofs.ReadRanges.{allowed_call, call_of_format_inside, entry_of_format_inside, short_entry_is}
pub use Rattle.cmwq_text.proofs.ReadRanges.{wide_call_of, wide_entry}
pub use Rattle.cmwq_text.proofs.ShapeLaws.{counts_read_again, counts_spelled_so, queues_of_calls_spelled_so}
pub use Rattle.cmwq_text.proofs.ShapeLaws.{queues_read_again, queues_spelled_so}
pub use Rattle.cmwq_text.proofs.Steps.{bind_some, chosen}
pub use Rattle.cmwq_text.proofs.WholeLines.{IsWholeLine, end_is_no_entry, end_is_no_shape, entry_begins, fits_line}
pub use Rattle.cmwq_text.proofs.WholeLines.{who_begins_no_queue, whole_call, whole_calls_version, whole_counts}
pub use Rattle.cmwq_text.proofs.WholeLines.{whole_end, whole_entry, whole_long_version, whole_queue, whole_version}
pub use Rattle.cmwq_text.specs.CallText.{call_read, call_text, call_words}
pub use Rattle.cmwq_text.specs.EndText.{end_of, end_text, end_words}
pub use Rattle.cmwq_text.specs.EntryText.{entry_of, entry_text, entry_words}
pub use Rattle.cmwq_text.specs.Formats.{allows_call, allows_counts, allows_entry, allows_numbers, allows_queue}
pub use Rattle.cmwq_text.specs.Formats.{calls_name, is_calls_line, is_version_line, line_limit, most_lines, needs_end}
pub use Rattle.cmwq_text.specs.Formats.{number_limit, old_lines, old_queues, queue_limit, room_limit, version_name}
unfoldable pub use Rattle.cmwq_text.specs.Formats.{of_version, call_of_format, counts_of_format, entry_of_format}
unfoldable pub use Rattle.cmwq_text.specs.Formats.{queue_of_format}
pub use Rattle.cmwq_text.specs.HistoryText.{body_text, calls_text, calls_version_text, counts_in, head_text, last_text}
pub use Rattle.cmwq_text.specs.HistoryText.{shape_text, text_of_format, version_text}
pub use Rattle.cmwq_text.specs.Numbers.{greatest_number}
pub use Rattle.cmwq_text.specs.ShapeText.{begins_queue, counts_read, counts_text, counts_words, flags_in}
pub use Rattle.cmwq_text.specs.ShapeText.{queue_of_calls, queue_of_history, queue_text, queue_with, queue_words}
pub use Rattle.cmwq_text.specs.ShapeText.{width_taken}
pub use Rattle.cmwq_text.specs.Words.{join_words}
