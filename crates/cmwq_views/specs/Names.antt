-- The names of the kinds of calls and replies: the words with which they begin in a history's line.
use Rattle.std.specs.Prelude.{◌≡◌, ℕ, List, slice_index_or, slice_get, Some}
use Rattle.cmwq_model.specs.declared.call.Call.{Call}
use Rattle.cmwq_model.specs.declared.reply.Reply.{Reply}
use Rattle.cmwq_text.specs.CallText.{call_words}
use Rattle.cmwq_text.specs.Keywords.{keyword_text}
use Rattle.cmwq_text.specs.ReplyText.{reply_words}
use Rattle.cmwq_text.specs.declared.keyword.Keyword.TheVariants as word
use Rattle.cmwq_summary.specs.Kinds.{call_kind, reply_kind}
use Rattle.cmwq_views.specs.declared.name.TheConstants.{CALLS, REPLIES}

abbrev pub call_name : ℕ → List ℕ
call_name k = keyword_text (slice_index_or CALLS k word.Queue)

abbrev pub reply_name : ℕ → List ℕ
reply_name k = keyword_text (slice_index_or REPLIES k word.Queue)

-- a call's kind has the name of the call's first word, and so has a reply's
abbrev pub CallsAreNamed : Type 0
CallsAreNamed = (c : Call) → slice_get (call_words c) 0 ≡ Some (call_name (call_kind c))

abbrev pub RepliesAreNamed : Type 0
RepliesAreNamed = (r : Reply) → slice_get (reply_words r) 0 ≡ Some (reply_name (reply_kind r))
