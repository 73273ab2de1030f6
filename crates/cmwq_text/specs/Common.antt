-- What the files of this crate name from outside it, in one import.
pub use Rattle.std.proofs.Common.{Bool, List, None, Option, Some, [], add-one, ap, append_assoc, arith, cond, drop}
pub use Rattle.std.proofs.Common.{drop-cons, eqb, false, get_or, inl, inr, leb, length, ltb, map, min, nat_le, refl}
pub use Rattle.std.proofs.Common.{rules, subst, suc, sym, take, true, zero, ℕ, ◌&&◌, ◌*◌, ◌++◌, ◌+◌, ◌-◌, ◌<◌, ◌^◌}
pub use Rattle.std.proofs.Common.{◌||◌, ◌∙◌, ◌∷◌, ◌≡◌, ◌≤◌, ◌⊎◌}
pub use Rattle.std.proofs.lemmas.Bool.{eqb-true, le-leb, leb-false, leb-true, lt-leb, lt-ltb, ltb-false, ltb-true}
pub use Rattle.std.proofs.lemmas.Bool.{ne_eqb}
pub use Rattle.std.proofs.lemmas.Fmt.{decimal-digits_value, decimal_digit, decimal_nonempty, digits_decimal}
pub use Rattle.std.proofs.lemmas.Fmt.{digits_value-decimal, first_decimal, length-decimal-le}
pub use Rattle.std.proofs.lemmas.List.{append-nil, drop_all, drop_at, get_or_append_left, length-append, map_push}
pub use Rattle.std.proofs.lemmas.List.{same_from_push, take_at, take_more}
pub use Rattle.std.proofs.lemmas.List.Splits.{join_with_byte-slice_split, slice_split_at, slice_split_first}
pub use Rattle.std.proofs.lemmas.List.Splits.{slice_split_none}
pub use Rattle.std.proofs.lemmas.List.Sums.{fails_before_first, position_or_len_is}
pub use Rattle.std.proofs.lemmas.Option.{cond_some, same_Some}
pub use Rattle.std.proofs.lemmas.Slice.Eq.{bytes_eq-Decides}
pub use Rattle.std.proofs.lemmas.Str.Parse.{IsNumeralModel, not_in_digits, numerals_by_fold}
pub use Rattle.std.specs.Char.{is_ascii_digit}
pub use Rattle.std.specs.Fmt.{decimal}
pub use Rattle.std.specs.List.{All, AllByRecursion, find, flat_map, join_with_byte, list_all, onto_first}
pub use Rattle.std.specs.List.{position_or_len, slice_split, starts_with}
pub use Rattle.std.specs.Prelude.{IsTrue, codes, if◌then◌else◌, nat_eq, not, position, slice_index, ◌==◌}
pub use Rattle.std.specs.Str.{all_ascii_digits, bytes_eq}
pub use Rattle.cmwq_model.specs.Prelude.{IsCall, IsEntry, IsReply, IsWho, Layout, are_counts, are_queues, entry_fits}
pub use Rattle.cmwq_model.specs.Prelude.{fits, greatest, greatest_byte, greatest_long, greatest_short, has_numbers}
pub use Rattle.cmwq_model.specs.Prelude.{has_place, is_between, is_callers, is_layout, is_queue, is_workers, may_make}
pub use Rattle.cmwq_model.specs.Prelude.{most_callers, most_cpus, most_items, most_queues, most_room, most_time}
pub use Rattle.cmwq_model.specs.Prelude.{most_workers, reply_fits}
pub use Rattle.cmwq_model.specs.Layout.{most_active}
pub use Rattle.cmwq_model.specs.declared.call.Call.{Call}
pub use Rattle.cmwq_model.specs.declared.entry.Entry.{Entry}
pub use Rattle.cmwq_model.specs.declared.id.CpuId.{CpuId}
pub use Rattle.cmwq_model.specs.declared.id.ItemId.{ItemId}
pub use Rattle.cmwq_model.specs.declared.id.QueueId.{QueueId}
pub use Rattle.cmwq_model.specs.declared.id.Who.{Who}
pub use Rattle.cmwq_model.specs.declared.id.Who.TheVariants.{Caller, Worker}
pub use Rattle.cmwq_model.specs.declared.reply.Reply.{Reply}
pub use Rattle.cmwq_model.specs.declared.shape.Counts.{Counts}
pub use Rattle.cmwq_model.specs.declared.shape.QueueShape.{QueueShape}
