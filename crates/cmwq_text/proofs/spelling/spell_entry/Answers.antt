use Rattle.std.specs.Prelude.{decimal}
use Rattle.cmwq_text.specs.IdText.{who_text}
use Rattle.cmwq_text.specs.CallText.{call_words}
use Rattle.cmwq_text.specs.ReplyText.{reply_words}
use Rattle.cmwq_text.specs.EntryText.{entry_text}
use Rattle.cmwq_text.proofs.Spacing.{entry_is}
use Rattle.cmwq_text.proofs.spelling.spell_entry.Goals as goal

pub returns : goal.returns
unfolding entry_text
returns c =
    let e = c.args.entry.now in
    rw (
      c.push-2.ensures.exact,
      c.push_reply.ensures.exact,
      c.push.ensures.exact,
      c.push_call.ensures.exact,
      c.push_numbers.ensures.exact,
      c.push_who.ensures.exact,
      c.clear.ensures,
    )
    (entry_is (who_text e.who) (decimal e.serial) (call_words e.call) (reply_words e.reply))
