-- What the files of this crate name from outside it, in one import.
pub use Rattle.std.proofs.Common.{Bool, Err, List, None, Ok, Option, Result, Some, [], ap, append-nil, append_assoc}
pub use Rattle.std.proofs.Common.{arith, false, inl, inr, length, max, nat_le, nat_lt, refl, subst, sym, take, true, ℕ}
pub use Rattle.std.proofs.Common.{◌*◌, ◌++◌, ◌+◌, ◌-◌, ◌<◌, ◌==◌, ◌^◌, ◌∙◌, ◌∷◌, ◌≡◌, ◌≤◌, ◌⊎◌}
pub use Rattle.std.proofs.lemmas.Bool.{le-leb, ltb-true}
pub use Rattle.std.proofs.lemmas.Bool.Decides.{nat_tests}
pub use Rattle.std.proofs.lemmas.List.{length-append, length-reverse, reverse-append, reverse-reverse}
pub use Rattle.std.proofs.lemmas.List.Sums.{fold-append}
pub use Rattle.std.proofs.lemmas.Option.{same_Some}
pub use Rattle.std.proofs.lemmas.Result.{err_from_is_err_and}
pub use Rattle.std.specs.Io.KnownBytes.{Appends, Keeps, prepend_known}
pub use Rattle.std.specs.Prelude.{IfSome, MatchBool, fold, if◌then◌else◌, reverse, suc, zero}
pub use Rattle.cmwq_base.proofs.Fronts.{front_after, front_at, front_before, front_whole}
pub use Rattle.cmwq_base.proofs.Progress.{Progress, cut_fails, cut_no_fault, end_gives, found_so, line_grows}
pub use Rattle.cmwq_base.proofs.Progress.{long_fails, starts, too_many, whole_fails, whole_goes}
pub use Rattle.cmwq_base.proofs.Texts.{cut_found, end_found, long_found, pieces_fed, pieces_last, pieces_some}
pub use Rattle.cmwq_base.proofs.Texts.{whole_found}
pub use Rattle.cmwq_base.specs.Files.{File, Kind, Stage, begin, after_shape_line, body, ended, first_body_line, head}
pub use Rattle.cmwq_base.specs.Files.{is_long, opened, queue_line, shape_made, with_body_item, with_queue}
pub use Rattle.cmwq_base.specs.Files.{without_items}
unfoldable pub use Rattle.cmwq_base.specs.Files.{after_cut, after_head, after_whole_line, at_end, body_line, item_line}
pub use Rattle.cmwq_base.specs.Kinds.{call_file_of, calls_kind, front_file_of, history_file_of, history_kind}
pub use Rattle.cmwq_base.specs.Pieces.{pieces}
pub use Rattle.cmwq_base.specs.Stages.{contents_of, stage_of}
pub use Rattle.cmwq_base.specs.declared.refusal.Refusal.{Refusal}
pub use Rattle.cmwq_core.specs.History.{History, next_entry, past_in, takes, with_entry}
pub use Rattle.std.proofs.KnownBytes.{Appends-trans}
pub use Rattle.cmwq_io.specs.Feeds.{has_feed}
pub use Rattle.cmwq_io.specs.FirstLine.{TakesKnownLine, TakesLine}
pub use Rattle.cmwq_io.specs.Moves.{AppendsFront}
pub use Rattle.cmwq_io.specs.declared.lines.Found.TheVariants.{Cut, End, Long, Whole}
pub use Rattle.cmwq_model.specs.Prelude.{IsFirstWrong, IsLegal, Layout, Steps, Wants, entry_for, has_room, has_time}
pub use Rattle.cmwq_model.specs.Prelude.{is_layout, layout_of, most_time, none, past_of, step, steps, ticks_told}
unfoldable pub use Rattle.cmwq_model.specs.Prelude.{answer, now}
pub use Rattle.cmwq_model.specs.declared.call.Call.{Call}
pub use Rattle.cmwq_model.specs.declared.entry.Entry.{Entry}
pub use Rattle.cmwq_model.specs.declared.id.Who.{Who}
pub use Rattle.cmwq_model.specs.declared.shape.Counts.{Counts}
pub use Rattle.cmwq_model.specs.declared.shape.QueueShape.{QueueShape}
pub use Rattle.cmwq_model.specs.declared.verdict.Illegal.{Illegal}
pub use Rattle.cmwq_text.specs.EntryText.{entry_of, entry_text}
pub use Rattle.cmwq_text.specs.Formats.{allows_entry, calls_name, counts_of_format, is_timely, line_limit, most_lines}
pub use Rattle.cmwq_text.specs.Formats.{old_lines}
unfoldable pub use Rattle.cmwq_text.specs.Formats.{of_version, entry_of_format}
pub use Rattle.cmwq_text.specs.HistoryText.{body_text, entries_text, head_text, last_text, text_of_format}
