use Rattle.std.proofs.Common.{◌∙◌, sym}
use Rattle.cmwq_text.specs.declared.keyword.Keyword.TheVariants as word
use Rattle.cmwq_text.specs.Keywords.{is_keyword_text}
use Rattle.cmwq_text.proofs.Letters.{find_after_two}
use Rattle.cmwq_text.proofs.keyword.keyword_among.Goals as goal

pub returns-in-len2-up-2 : goal.returns-in-len2-up-2
returns-in-len2-up-2 c =
    c.keyword_in_list.ensures ∙ find_after_two (is_keyword_text c.args.word.now) c.args.keywords.now word.Queue
    c.in-len2-up.len_at_least
    (sym c.is_written.ensures ∙ c.if-is_written.false) (sym c.is_written-2.ensures ∙ c.if-is_written-2.false)
