-- The serials of new entries.
use Rattle.cmwq_monitor.specs.Common.{◌≡◌, ℕ, zero, suc, ◌+◌, List, ◌∷◌, ◌++◌, length, map, drop, ap, sym, ◌∙◌, subst}
use Rattle.cmwq_monitor.specs.Common.{arith, length-append, range_with_len, filter, reverse-reverse, map-append}
use Rattle.cmwq_monitor.specs.Common.{length-map, Entry, serial_of, is_by, Layout, IsLegal, past_of}
use Rattle.std.proofs.lemmas.List.FromFn.{length-range_with_len}
use Rattle.std.proofs.Math.Seq.{drop-append_seam}
use Rattle.cmwq_theory_laws.specs.Sanity.{serial_told}
use Rattle.cmwq_theory_laws.proofs.OneEntry.{serials_count}
use Rattle.cmwq_monitor.specs.Participants.{View, Gains, made_by}
use Rattle.cmwq_monitor.specs.Calls.{StandFrom}
use Rattle.cmwq_monitor.proofs.Entries.{made_length}

range_split : (a n m : ℕ) → range_with_len a (n + m) ≡ range_with_len a n ++ range_with_len (a + n) m
range_split a zero m =
    let none : 0 + m ≡ m = omega arith in
    let same : a ≡ a + 0 = omega arith in
    ap (range_with_len a) none ∙ ap (λ b. range_with_len b m) same
range_split a (suc n) m =
    let one : suc n + m ≡ suc (n + m) = omega arith in
    let same : (a + 1) + n ≡ a + suc n = omega arith in
    ap (range_with_len a) one
    ∙ ap (λ ms. a ∷ ms) (range_split (a + 1) n m ∙ ap (λ b. range_with_len (a + 1) n ++ range_with_len b m) same)

-- two lists that are one after prefixes of one length
behind_same : (xs ys us vs : List ℕ) → length xs ≡ length us → xs ++ ys ≡ us ++ vs → ys ≡ vs
behind_same xs ys us vs len same =
    sym (drop-append_seam xs ys) ∙ ap (drop (length xs)) same ∙ ap (λ n. drop n (us ++ vs)) len ∙ drop-append_seam us vs

-- in a legal history the entries of one stand under 0, 1, 2 and so on
all_stand : (s : Layout) (w : View) → IsLegal s (past_of w.seen) → serial_of (past_of w.seen) w.who ≡ w.serial
    → map serial_told (made_by w.who w.seen) ≡ range_with_len 0 w.serial
all_stand s w legal counts =
    ap (λ es. map serial_told (filter (is_by w.who) es)) (sym (reverse-reverse w.seen))
    ∙ serials_count s (past_of w.seen) legal w.who ∙ ap (range_with_len 0) counts

pub stand_next : (s : Layout) (v w : View) (entries : List Entry) → Gains v entries w
    → serial_of (past_of w.seen) w.who ≡ w.serial → IsLegal s (past_of w.seen) → StandFrom v.serial entries
stand_next s v w entries gains counts legal =
    let before = made_by v.who v.seen in
    let made : made_by w.who w.seen ≡ before ++ entries =
    subst (λ who. made_by who w.seen ≡ before ++ entries) (sym gains.same) gains.made in
    let all : map serial_told before ++ map serial_told entries ≡ range_with_len 0 v.serial
    ++ range_with_len v.serial (length entries) =
    sym (map-append serial_told before entries) ∙ ap (map serial_told) (sym made) ∙ all_stand s w legal counts
    ∙ ap (range_with_len 0) gains.serial
    ∙ range_split 0 v.serial (length entries) ∙ ap (λ b. range_with_len 0 v.serial ++ range_with_len b (length entries))
    (let same : 0 + v.serial ≡ v.serial = omega arith in same) in
    let many : length before ≡ v.serial =
    (let a = made_length w.who w.seen in let b = ap length made in let c = length-append before entries in let d =
    gains.serial in omega (arith, a, b, c, d, counts)) in
    behind_same (map serial_told before) (map serial_told entries) (range_with_len 0 v.serial)
    (range_with_len v.serial (length entries))
    (length-map before serial_told ∙ many ∙ sym (length-range_with_len 0 v.serial)) all
