use Rattle.cmwq_text.specs.Common.{◌∙◌, refl, arith, ne_eqb}
use Rattle.cmwq_text.specs.Keywords.{keyword_text, keyword_of}
use Rattle.cmwq_text.proofs.Letters.{no_word, with_letter, other_letter}
use Rattle.cmwq_text.proofs.keyword.keyword_of.Goals as goal

pub returns-in_err-first : goal.returns-in_err-first
returns-in_err-first c = c.from_residual.ensures ∙ no_word c.args.word.now c.in_err-first.ensures.value

pub returns-in-97 : goal.returns-in-97
unfolding keyword_text keyword_of
returns-in-97 c =
    c.keyword_among.ensures ∙ with_letter c.args.word.now 97 c.in_ok-first.field-0.now c.in_ok-first.ensures.value
    c.in-97.is

pub returns-in-98 : goal.returns-in-98
unfolding keyword_text keyword_of
returns-in-98 c =
    c.keyword_among-in-98.ensures ∙ with_letter c.args.word.now 98 c.in_ok-first.field-0.now c.in_ok-first.ensures.value
    c.in-98.is

pub returns-in-99 : goal.returns-in-99
unfolding keyword_text keyword_of
returns-in-99 c =
    c.keyword_among-in-99.ensures ∙ with_letter c.args.word.now 99 c.in_ok-first.field-0.now c.in_ok-first.ensures.value
    c.in-99.is

pub returns-in-100 : goal.returns-in-100
unfolding keyword_text keyword_of
returns-in-100 c =
    c.keyword_among-in-100.ensures
    ∙ with_letter c.args.word.now 100 c.in_ok-first.field-0.now c.in_ok-first.ensures.value c.in-100.is

pub returns-in-101 : goal.returns-in-101
unfolding keyword_text keyword_of
returns-in-101 c =
    c.keyword_among-in-101.ensures
    ∙ with_letter c.args.word.now 101 c.in_ok-first.field-0.now c.in_ok-first.ensures.value c.in-101.is

pub returns-in-102 : goal.returns-in-102
unfolding keyword_text keyword_of
returns-in-102 c =
    c.keyword_among-in-102.ensures
    ∙ with_letter c.args.word.now 102 c.in_ok-first.field-0.now c.in_ok-first.ensures.value c.in-102.is

pub returns-in-103 : goal.returns-in-103
unfolding keyword_text keyword_of
returns-in-103 c =
    c.keyword_among-in-103.ensures
    ∙ with_letter c.args.word.now 103 c.in_ok-first.field-0.now c.in_ok-first.ensures.value c.in-103.is

pub returns-in-104 : goal.returns-in-104
unfolding keyword_text keyword_of
returns-in-104 c =
    c.keyword_among-in-104.ensures
    ∙ with_letter c.args.word.now 104 c.in_ok-first.field-0.now c.in_ok-first.ensures.value c.in-104.is

pub returns-in-105 : goal.returns-in-105
unfolding keyword_text keyword_of
returns-in-105 c =
    c.keyword_among-in-105.ensures
    ∙ with_letter c.args.word.now 105 c.in_ok-first.field-0.now c.in_ok-first.ensures.value c.in-105.is

pub returns-in-107 : goal.returns-in-107
unfolding keyword_text keyword_of
returns-in-107 c =
    c.keyword_among-in-107.ensures
    ∙ with_letter c.args.word.now 107 c.in_ok-first.field-0.now c.in_ok-first.ensures.value c.in-107.is

pub returns-in-109 : goal.returns-in-109
unfolding keyword_text keyword_of
returns-in-109 c =
    c.keyword_among-in-109.ensures
    ∙ with_letter c.args.word.now 109 c.in_ok-first.field-0.now c.in_ok-first.ensures.value c.in-109.is

pub returns-in-110 : goal.returns-in-110
unfolding keyword_text keyword_of
returns-in-110 c =
    c.keyword_among-in-110.ensures
    ∙ with_letter c.args.word.now 110 c.in_ok-first.field-0.now c.in_ok-first.ensures.value c.in-110.is

pub returns-in-113 : goal.returns-in-113
unfolding keyword_text keyword_of
returns-in-113 c =
    c.keyword_among-in-113.ensures
    ∙ with_letter c.args.word.now 113 c.in_ok-first.field-0.now c.in_ok-first.ensures.value c.in-113.is

pub returns-in-114 : goal.returns-in-114
unfolding keyword_text keyword_of
returns-in-114 c =
    c.keyword_among-in-114.ensures
    ∙ with_letter c.args.word.now 114 c.in_ok-first.field-0.now c.in_ok-first.ensures.value c.in-114.is

pub returns-in-115 : goal.returns-in-115
unfolding keyword_text keyword_of
returns-in-115 c =
    c.keyword_among-in-115.ensures
    ∙ with_letter c.args.word.now 115 c.in_ok-first.field-0.now c.in_ok-first.ensures.value c.in-115.is

pub returns-in-116 : goal.returns-in-116
unfolding keyword_text keyword_of
returns-in-116 c =
    c.keyword_among-in-116.ensures
    ∙ with_letter c.args.word.now 116 c.in_ok-first.field-0.now c.in_ok-first.ensures.value c.in-116.is

pub returns-in-117 : goal.returns-in-117
unfolding keyword_text keyword_of
returns-in-117 c =
    c.keyword_among-in-117.ensures
    ∙ with_letter c.args.word.now 117 c.in_ok-first.field-0.now c.in_ok-first.ensures.value c.in-117.is

pub returns-in-119 : goal.returns-in-119
unfolding keyword_text keyword_of
returns-in-119 c =
    c.keyword_among-in-119.ensures
    ∙ with_letter c.args.word.now 119 c.in_ok-first.field-0.now c.in_ok-first.ensures.value c.in-119.is

pub returns-in-121 : goal.returns-in-121
unfolding keyword_text keyword_of
returns-in-121 c =
    c.keyword_among-in-121.ensures
    ∙ with_letter c.args.word.now 121 c.in_ok-first.field-0.now c.in_ok-first.ensures.value c.in-121.is

pub returns-in_default : goal.returns-in_default
returns-in_default c =
    other_letter c.args.word.now c.in_ok-first.field-0.now c.in_ok-first.ensures.value
    (rw (
      ne_eqb c.in_ok-first.field-0.now 97 (λ e. absurd (omega (arith, e))),
      ne_eqb c.in_ok-first.field-0.now 98 (λ e. absurd (omega (arith, e))),
      ne_eqb c.in_ok-first.field-0.now 99 (λ e. absurd (omega (arith, e))),
      ne_eqb c.in_ok-first.field-0.now 100 (λ e. absurd (omega (arith, e))),
      ne_eqb c.in_ok-first.field-0.now 101 (λ e. absurd (omega (arith, e))),
      ne_eqb c.in_ok-first.field-0.now 102 (λ e. absurd (omega (arith, e))),
      ne_eqb c.in_ok-first.field-0.now 103 (λ e. absurd (omega (arith, e))),
      ne_eqb c.in_ok-first.field-0.now 104 (λ e. absurd (omega (arith, e))),
      ne_eqb c.in_ok-first.field-0.now 105 (λ e. absurd (omega (arith, e))),
      ne_eqb c.in_ok-first.field-0.now 107 (λ e. absurd (omega (arith, e))),
      ne_eqb c.in_ok-first.field-0.now 109 (λ e. absurd (omega (arith, e))),
      ne_eqb c.in_ok-first.field-0.now 110 (λ e. absurd (omega (arith, e))),
      ne_eqb c.in_ok-first.field-0.now 113 (λ e. absurd (omega (arith, e))),
      ne_eqb c.in_ok-first.field-0.now 114 (λ e. absurd (omega (arith, e))),
      ne_eqb c.in_ok-first.field-0.now 115 (λ e. absurd (omega (arith, e))),
      ne_eqb c.in_ok-first.field-0.now 116 (λ e. absurd (omega (arith, e))),
      ne_eqb c.in_ok-first.field-0.now 117 (λ e. absurd (omega (arith, e))),
      ne_eqb c.in_ok-first.field-0.now 119 (λ e. absurd (omega (arith, e))),
      ne_eqb c.in_ok-first.field-0.now 121 (λ e. absurd (omega (arith, e))),
    ) refl)
