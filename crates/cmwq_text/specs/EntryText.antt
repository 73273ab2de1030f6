-- Entries in a text: `<who> <serial> <call> = <reply>`.
use Rattle.std.specs.Prelude.{◌&&◌, if◌then◌else◌, ◌∷◌, ◌++◌}
use Rattle.cmwq_text.specs.Common.{ℕ, List, Option, Some, None, codes, decimal, Entry}
use Rattle.cmwq_text.specs.Words.{◌>>=◌, words_of, line_text, has_no_word, after, wide_in}
use Rattle.cmwq_text.specs.IdText.{who_text, who_in}
use Rattle.cmwq_text.specs.CallText.{call_words, call_in, may_say}
use Rattle.cmwq_text.specs.ReplyText.{reply_words, reply_in}

abbrev pub entry_words : Entry → List (List ℕ)
entry_words e = who_text e.who ∷ decimal e.serial ∷ call_words e.call ++ codes "=" ∷ reply_words e.reply

-- the line of an entry, with its line feed
unfoldable pub entry_text : Entry → List ℕ
entry_text e = line_text (entry_words e)

-- the entry of a line of a history, by all its words
abbrev pub entry_of_words : List (List ℕ) → Option Entry
entry_of_words words = do
  who ← who_in words
  serial ← wide_in who.1
  call ← call_in serial.1
  answer ← after (codes "=") call.1
  reply ← reply_in answer
  if has_no_word reply.1 && may_say who.0 call.0
      then Some (record { who = who.0; serial = serial.0; call = call.0; reply = reply.0 })
      else None

-- by the line, without its line feed
unfoldable pub entry_of : List ℕ → Option Entry
entry_of line = entry_of_words (words_of line)
