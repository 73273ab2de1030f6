-- The line of a verdict: `legal <entries>`, `illegal at <position>: serial <serial>` or `illegal at <position>: reply
-- <reply>`.
use Rattle.std.specs.Prelude.{ℕ, List, [], ◌∷◌, ◌++◌, codes, decimal}
use Rattle.cmwq_model.specs.declared.verdict.Wanted.{Wanted}
use Rattle.cmwq_model.specs.declared.verdict.Illegal.{Illegal}
use Rattle.cmwq_model.specs.declared.verdict.Wanted.TheVariants as wanted
use Rattle.cmwq_text.specs.Words.{space_words}
use Rattle.cmwq_text.specs.ReplyText.{reply_words}

-- of a legal history, with how many entries it has
abbrev pub legal_text : ℕ → List ℕ
legal_text n = codes "legal " ++ decimal n ++ 10 ∷ []

abbrev pub wanted_text : Wanted → List ℕ
wanted_text (wanted.Serial n) = codes ": serial " ++ decimal n
wanted_text (wanted.Reply r) = codes ": reply" ++ space_words (reply_words r)

abbrev pub illegal_text : Illegal → List ℕ
illegal_text i = codes "illegal at " ++ decimal i.at ++ wanted_text i.wanted ++ 10 ∷ []
