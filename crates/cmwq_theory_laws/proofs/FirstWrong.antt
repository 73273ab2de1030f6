-- The first wrong entry of a history.
use Rattle.cmwq_theory_laws.specs.Common.{◌≡◌, ◌<◌, Bool, true, false, nat_lt, List, [], ◌∷◌, ◌++◌, length, reverse}
use Rattle.cmwq_theory_laws.specs.Common.{refl, sym, ap, ◌∙◌, subst, append_assoc, arith, reverse-append, ltb-true}
use Rattle.cmwq_theory_laws.specs.Common.{nat_tests, Entry, Illegal, Layout, IsLegal, past_of, entry_for, Wants}
use Rattle.cmwq_theory_laws.specs.Common.{IsFirstWrong}
use Rattle.cmwq_model.specs.declared.verdict.Wanted.{Wanted}
use Rattle.cmwq_model.specs.declared.verdict.Wanted.TheVariants as wanted
use Rattle.cmwq_model.proofs.Growing.{older_are_legal}

-- ---- a first wrong entry is of no legal history

past_split : (before : List Entry) (e : Entry) (rest : List Entry) → past_of (before ++ e ∷ rest) ≡ past_of rest
    ++ (e ∷ past_of before)
past_split before e rest =
    reverse-append before (e ∷ rest) ∙ ap (λ (p : List Entry). p ++ reverse before) (reverse-append (e ∷ []) rest)
    ∙ append_assoc (reverse rest) (e ∷ []) (reverse before)

never_right : (s : Layout) (past : List Entry) (e : Entry) (w : Wanted) → Wants s past e w
    → e ≡ entry_for s past e.who e.call → ⊥
never_right s past e (wanted.Serial n) h right = h.1 (ap (λ (x : Entry). x.serial) right ∙ sym h.0)
never_right s past e (wanted.Reply r) h right = h.2 (ap (λ (x : Entry). x.reply) right ∙ sym h.1)

-- an entry after which the history was legal isn't wrong
never_legal : (s : Layout) (before rest : List Entry) (e : Entry) (w : Wanted) → Wants s (past_of before) e w
    → IsLegal s (past_of (before ++ e ∷ rest)) → ⊥
unfolding IsLegal
never_legal s before rest e w wants legal =
    never_right s (past_of before) e w wants
    (older_are_legal s (past_of rest) (e ∷ past_of before) (subst (IsLegal s) (past_split before e rest) legal)).1

pub wrong_are_illegal : (s : Layout) (entries : List Entry) (i : Illegal) → IsFirstWrong s entries i
    → IsLegal s (past_of entries) → ⊥
wrong_are_illegal s entries i f legal =
    never_legal s f.before f.rest f.entry i.wanted f.wants
    (subst (λ (es : List Entry). IsLegal s (past_of es)) f.parts legal)

-- ---- there is one at most

-- of two ways to split a list the shorter front, and what follows it, stand in the longer one
shorter_front : (xs ys : List Entry) (x y : Entry) (r t : List Entry) → xs ++ x ∷ r ≡ ys ++ y ∷ t
    → length xs < length ys → (m : List Entry) × (ys ≡ xs ++ x ∷ m)
shorter_front [] [] x y r t same less = absurd (omega arith)
shorter_front [] (z ∷ ys) x y r t same less = (ys, cc)
shorter_front (w ∷ xs) [] x y r t same less = absurd (omega arith)
shorter_front (w ∷ xs) (z ∷ ys) x y r t same less = let more = shorter_front xs ys x y r t (cc) (omega arith) in
    (more.0, cc)

same_front : (xs ys : List Entry) (x y : Entry) (r t : List Entry) → xs ++ x ∷ r ≡ ys ++ y ∷ t → length xs ≡ length ys
    → (xs ≡ ys) × (x ≡ y)
same_front [] [] x y r t same long = (refl, cc)
same_front [] (z ∷ ys) x y r t same long = absurd (omega arith)
same_front (w ∷ xs) [] x y r t same long = absurd (omega arith)
same_front (w ∷ xs) (z ∷ ys) x y r t same long = let more = same_front xs ys x y r t (cc) (omega arith) in (cc, more.1)

not_before : (s : Layout) (entries : List Entry) (i j : Illegal) (f : IsFirstWrong s entries i)
    (g : IsFirstWrong s entries j) → length f.before < length g.before → ⊥
not_before s entries i j f g less =
    let inside = shorter_front f.before g.before f.entry g.entry f.rest g.rest (sym f.parts ∙ g.parts) less in
    never_legal s f.before inside.0 f.entry i.wanted f.wants
    (subst (λ (es : List Entry). IsLegal s (past_of es)) inside.1 g.is_legal)

wanted_once : (s : Layout) (past : List Entry) (e : Entry) (v w : Wanted) → Wants s past e v → Wants s past e w → v ≡ w
wanted_once s past e (wanted.Serial n) (wanted.Serial m) h k = ap wanted.Serial (h.0 ∙ sym k.0)
wanted_once s past e (wanted.Serial n) (wanted.Reply r) h k = absurd (h.1 (k.0 ∙ sym h.0))
wanted_once s past e (wanted.Reply r) (wanted.Serial n) h k = absurd (k.1 (h.0 ∙ sym k.0))
wanted_once s past e (wanted.Reply r) (wanted.Reply q) h k = ap wanted.Reply (h.1 ∙ sym k.1)

same_place : (s : Layout) (entries : List Entry) (i j : Illegal) (f : IsFirstWrong s entries i)
    (g : IsFirstWrong s entries j) → length f.before ≡ length g.before → i ≡ j
same_place s entries i j f g long =
    let front = same_front f.before g.before f.entry g.entry f.rest g.rest (sym f.parts ∙ g.parts) long in
    let wants : Wants s (past_of f.before) f.entry j.wanted =
    subst (λ (es : List Entry). Wants s (past_of es) f.entry j.wanted) (sym front.0)
    (subst (λ (e : Entry). Wants s (past_of g.before) e j.wanted) (sym front.1) g.wants) in
    let wanted = wanted_once s (past_of f.before) f.entry i.wanted j.wanted f.wants wants in
    let at = f.place ∙ long ∙ sym g.place in
    λ k. record { at = at k; wanted = wanted k }

pub first_wrong_is_one : (s : Layout) (entries : List Entry) (i j : Illegal) → IsFirstWrong s entries i
    → IsFirstWrong s entries j → i ≡ j
first_wrong_is_one s entries i j f g =
    by_less (nat_lt (length f.before) (length g.before)) (nat_lt (length g.before) (length f.before)) refl refl
  where
    by_less : (a b : Bool) → nat_lt (length f.before) (length g.before) ≡ a → nat_lt (length g.before) (length f.before)
        ≡ b → i ≡ j
    by_less true b ha hb = absurd (not_before s entries i j f g (ltb-true _ _ ha))
    by_less false true ha hb = absurd (not_before s entries j i g f (ltb-true _ _ hb))
    by_less false false ha hb = same_place s entries i j f g (grind (arith, nat_tests))
