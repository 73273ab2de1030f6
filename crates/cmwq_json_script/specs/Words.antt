-- The words that calls and actions begin with: the text of each, and which one a text is.
use Rattle.cmwq_json_script.specs.Common.{ℕ, Bool, List, find, Option, codes, bytes_eq}
use Rattle.cmwq_json_script.specs.declared.word.Word.{Word}
use Rattle.cmwq_json_script.specs.declared.word.Word.TheVariants as word
use Rattle.cmwq_json_script.specs.declared.word.TheConstants.{WORDS}

unfoldable pub word_text : Word → List ℕ
word_text word.Queue = codes "queue"
word_text word.Delay = codes "delay"
word_text word.Modify = codes "modify"
word_text word.Cancel = codes "cancel"
word_text word.Tick = codes "tick"
word_text word.Flush = codes "flush"
word_text word.FlushItem = codes "flush_item"
word_text word.FlushDelayed = codes "flush_delayed"
word_text word.CancelSync = codes "cancel_sync"
word_text word.Drain = codes "drain"
word_text word.SetMax = codes "set_max"
word_text word.Freeze = codes "freeze"
word_text word.Thaw = codes "thaw"
word_text word.Destroy = codes "destroy"
word_text word.Open = codes "open"
word_text word.SleepAt = codes "sleep_at"
word_text word.Wait = codes "wait"
word_text word.Lock = codes "lock"
word_text word.Unlock = codes "unlock"

abbrev pub is_word_text : List ℕ → Word → Bool
is_word_text bytes word = bytes_eq (word_text word) bytes

unfoldable pub word_of : List ℕ → Option Word
word_of bytes = find (is_word_text bytes) WORDS
