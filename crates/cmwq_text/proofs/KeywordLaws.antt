-- A keyword that is spelled is read again, and what is read as a keyword is spelled so.
use Rattle.cmwq_text.specs.Common.{◌≡◌, ℕ, true, List, ◌∷◌, Some, refl, ap, sym, ◌∙◌, bytes_eq-Decides}
use Rattle.cmwq_text.specs.declared.keyword.Keyword.{Keyword}
use Rattle.cmwq_text.specs.declared.keyword.Keyword.TheVariants as word
use Rattle.cmwq_text.specs.declared.keyword.TheConstants.{KEYWORDS}
use Rattle.cmwq_text.specs.Keywords.{keyword_text, is_keyword_text, keyword_of, keyword_in}
use Rattle.cmwq_text.proofs.WordLaws.{is_plain, word_takes}
use Rattle.cmwq_lemmas.proofs.Lists.{found_passes}

pub is_plain-text : (k : Keyword) → is_plain (keyword_text k) ≡ true
unfolding keyword_text
is_plain-text word.Queue = refl
is_plain-text k = refl

pub keyword_again : (k : Keyword) → keyword_of (keyword_text k) ≡ Some k
unfolding keyword_of keyword_text
keyword_again word.Queue = refl
keyword_again k = refl

pub keyword_is : (k : Keyword) (w : List ℕ) → keyword_of w ≡ Some k → w ≡ keyword_text k
unfolding keyword_of
keyword_is k w e = sym ((bytes_eq-Decides (keyword_text k) w).0 (found_passes (is_keyword_text w) KEYWORDS k e))

pub keyword_takes : (ws : List (List ℕ)) (x : Keyword × List (List ℕ)) → keyword_in ws ≡ Some x
    → ws ≡ keyword_text x.0 ∷ x.1
keyword_takes ws x e =
    let read = word_takes keyword_of ws x e in
    read.1 ∙ ap (λ (w : List ℕ). w ∷ x.1) (keyword_is x.0 read.0 read.2)
