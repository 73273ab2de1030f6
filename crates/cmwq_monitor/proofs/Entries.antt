-- The entries of one who.
use Rattle.cmwq_monitor.specs.Common.{◌≡◌, ℕ, ◌≤◌, List, [], ◌∷◌, ◌++◌, length, reverse, Bool, true, false, cond, refl}
use Rattle.cmwq_monitor.specs.Common.{ap, sym, ◌∙◌, subst, arith, length-append, append-nil, append_assoc, count_by}
use Rattle.cmwq_monitor.specs.Common.{reverse-append, nil_from_length, filter-append, Who, Entry, is_by, serial_of}
use Rattle.cmwq_monitor.specs.Common.{past_of, serials_rise, IsPrefix}
use Rattle.std.proofs.lemmas.List.Sums.{length-filter}
use Rattle.cmwq_lemmas.proofs.Lists.{count_by-cons, count_append}
use Rattle.cmwq_pwq.proofs.Passes.{count_by-one}
use Rattle.cmwq_monitor.specs.Participants.{View, Gains, made_by}
use Rattle.cmwq_monitor.proofs.Beginnings.{prefix_self, prefix_trans}

count_reverse : {X : Type 0} (p : X → Bool) (xs : List X) → count_by p (reverse xs) ≡ count_by p xs
count_reverse p [] = refl
count_reverse p (x ∷ xs) =
    ap (count_by p) (reverse-append (x ∷ []) xs) ∙ count_append p (reverse xs) (x ∷ [])
    ∙ (let r = count_reverse p xs in let c = count_by-cons p x xs in let o = count_by-one p x in omega arith)

pub made_length : (who : Who) (xs : List Entry) → length (made_by who xs) ≡ serial_of (past_of xs) who
made_length who xs = length-filter (is_by who) xs ∙ sym (count_reverse (is_by who) xs)

-- a longer history with no more entries of one who has the same
pub made_same : (who : Who) (xs ys : List Entry) → IsPrefix xs ys → length (made_by who ys) ≤ length (made_by who xs)
    → made_by who ys ≡ made_by who xs
made_same who xs ys p le =
    let all : made_by who ys ≡ made_by who xs ++ made_by who p.0 =
    ap (made_by who) (sym p.1) ∙ filter-append (is_by who) xs p.0 in
    let none : made_by who p.0 ≡ [] =
    nil_from_length (made_by who p.0) (let a = ap length all in let b =
    length-append (made_by who xs) (made_by who p.0) in omega arith) in
    all ∙ ap (λ zs. made_by who xs ++ zs) none ∙ append-nil (made_by who xs)

one_is_true : (b : Bool) → ◌≡◌ {A = ℕ} (cond b 1 0) 1 → b ≡ true
one_is_true true e = refl
one_is_true false e = absurd (omega (arith, e))

pub is_by_own : (e : Entry) → is_by e.who e ≡ true
is_by_own e = one_is_true (is_by e.who e) (sym (count_by-one (is_by e.who) e) ∙ (serials_rise [] e).0)

pub made_own : (who : Who) (e : Entry) → e.who ≡ who → made_by who (e ∷ []) ≡ e ∷ []
made_own who e same = let by : is_by who e ≡ true = subst (λ w. is_by w e ≡ true) same (is_by_own e) in rw by refl

-- what was gained in two steps
pub gains_none : (v : View) → Gains v [] v
gains_none v =
    record {
      same = refl;
      serial = omega arith;
      older = prefix_self v.seen;
      made =
          sym (append-nil (made_by v.who v.seen));
    }

pub gains_more : (v m w : View) (xs ys : List Entry) → Gains v xs m → Gains m ys w → Gains v (xs ++ ys) w
gains_more v m w xs ys a b = record {
  same = b.same ∙ a.same;
  serial = (let p = a.serial in let q = b.serial in let l = length-append xs ys in omega arith);
  older = prefix_trans v.seen m.seen w.seen a.older b.older;
  made =
      subst (λ who. made_by who w.seen ≡ made_by who m.seen ++ ys) a.same b.made
      ∙ ap (λ zs. zs ++ ys) a.made ∙ append_assoc (made_by v.who v.seen) xs ys;
}

-- who made no entry counts as many as before
pub counts_kept : (m w : View) → serial_of (past_of m.seen) m.who ≡ m.serial → Gains m [] w
    → serial_of (past_of w.seen) w.who ≡ w.serial
counts_kept m w counts gains =
    let made : made_by w.who w.seen ≡ made_by m.who m.seen ++ [] =
    subst (λ who. made_by who w.seen ≡ made_by m.who m.seen ++ []) (sym gains.same) gains.made in
    let a = made_length w.who w.seen in
    let b = made_length m.who m.seen in
    let c = ap length (made ∙ append-nil (made_by m.who m.seen)) in
    let d = gains.serial in
    omega (arith, a, b, c, d, counts)
