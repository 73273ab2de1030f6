-- A call has one legal entry, steps are legal, and serials count up.
use Rattle.cmwq_theory_laws.specs.Common.{◌≡◌, ◌+◌, ℕ, Bool, true, false, cond, List, [], ◌∷◌, ◌++◌, map, filter, refl}
use Rattle.cmwq_theory_laws.specs.Common.{sym, ap, ap₂, ◌∙◌, arith, append-nil, fold, if◌then◌else◌, reverse}
use Rattle.cmwq_theory_laws.specs.Common.{AllByRecursion, range_with_len, eqb-true, reverse-append, map-append}
use Rattle.cmwq_theory_laws.specs.Common.{filter-append, Who, Caller, Worker, Call, Entry, Layout, fits, same_who}
use Rattle.cmwq_theory_laws.specs.Common.{is_by, serial_of, IsLegal, entry_for, Steps, has_room, step, none, steps}
use Rattle.cmwq_theory_laws.specs.Common.{count_by-cons, same_worker-true}
use Rattle.std.proofs.Common.{suc, zero-add}
use Rattle.cmwq_lemmas.proofs.Lists.{range_more}
use Rattle.cmwq_theory_laws.specs.Sanity.{HasOneEntry, serials, serial_told}

-- ---- one entry

pub one_entry : (s : Layout) (past : List Entry) → IsLegal s past → (who : Who) (call : Call) → fits s who call ≡ true
    → HasOneEntry s past who call
unfolding IsLegal
one_entry s past legal who call fit = record {
  entry = entry_for s past who call;
  is_of = (refl, refl);
  is_legal = (fit, refl, legal);
  no_other = λ e of legal. legal.1 ∙ ap₂ (entry_for s past) of.0 of.1;
}

-- ---- steps

legal_step : (s : Layout) (room : ℕ) (t : Steps) (c : Who × Call) → fits s c.0 c.1 ≡ true → IsLegal s t.past
    → IsLegal s (step s room t c).past
unfolding IsLegal
legal_step s room t c fit legal = here (has_room s room t.past c.0 c.1)
  where
    here : (b : Bool) → let stepped : Steps =
        if b then record { past = entry_for s t.past c.0 c.1 ∷ t.past; left_out = t.left_out }
        else record { past = t.past; left_out = t.left_out + 1 } in IsLegal s stepped.past
    here true = (fit, refl, legal)
    here false = legal

legal_on : (s : Layout) (room : ℕ) (t : Steps) (calls : List (Who × Call))
    → AllByRecursion (λ c. fits s c.0 c.1 ≡ true) calls → IsLegal s t.past → IsLegal s (fold (step s room) t calls).past
legal_on s room t [] fit legal = legal
legal_on s room t (c ∷ calls) fit legal =
    legal_on s room (step s room t c) calls fit.1 (legal_step s room t c fit.0 legal)

pub steps_are_legal : (s : Layout) (room : ℕ) (calls : List (Who × Call))
    → AllByRecursion (λ c. fits s c.0 c.1 ≡ true) calls → IsLegal s (steps s room calls).past
unfolding IsLegal
steps_are_legal s room calls fit = legal_on s room none calls fit tt

-- ---- serials

pub same_who-true : (v w : Who) → same_who v w ≡ true → v ≡ w
same_who-true (Caller c) (Caller d) h = ap (λ n. Caller (record { 0 = n })) (eqb-true c.0 d.0 h)
same_who-true (Worker v) (Worker w) h = ap Worker (same_worker-true v w h)
same_who-true (Caller c) (Worker w) h = cc
same_who-true (Worker v) (Caller d) h = cc

told_next : (s : Layout) (past : List Entry) (e : Entry) (who : Who) → IsLegal s (e ∷ past) → is_by who e ≡ true
    → e.serial ≡ serial_of past who
unfolding IsLegal
told_next s past e who legal by = ap (λ (x : Entry). x.serial) legal.1
    ∙ ap (serial_of past) (same_who-true e.who who by)

serials_more : (past : List Entry) (e : Entry) (who : Who) → serials (e ∷ past) who ≡ serials past who
    ++ map serial_told (cond (is_by who e) (e ∷ []) [])
serials_more past e who =
    ap (λ es. map serial_told (filter (is_by who) es)) (reverse-append (e ∷ []) past)
    ∙ ap (map serial_told) (filter-append (is_by who) (reverse past) (e ∷ []))
    ∙ map-append serial_told (filter (is_by who) (reverse past)) (cond (is_by who e) (e ∷ []) [])

one_more : (s : Layout) (past : List Entry) (e : Entry) (who : Who) (b : Bool) → IsLegal s (e ∷ past) → is_by who e ≡ b
    → serials past who ≡ range_with_len 0 (serial_of past who)
    → serials past who ++ map serial_told (cond b (e ∷ []) []) ≡ range_with_len 0 (cond b 1 0 + serial_of past who)
one_more s past e who true legal by earlier =
    ap₂ (λ ms m. ms ++ m ∷ []) earlier (told_next s past e who legal by ∙ sym (zero-add (serial_of past who)))
    ∙ sym (range_more 0 (serial_of past who)) ∙ ap (range_with_len 0) {x = suc (serial_of past who)} (omega arith)
one_more s past e who false legal by earlier = append-nil (serials past who) ∙ earlier
    ∙ ap (range_with_len 0) (sym (zero-add (serial_of past who)))

pub serials_count : (s : Layout) (past : List Entry) → IsLegal s past → (who : Who)
    → serials past who ≡ range_with_len 0 (serial_of past who)
unfolding IsLegal
serials_count s [] legal who = refl
serials_count s (e ∷ past) legal who =
    serials_more past e who ∙ one_more s past e who (is_by who e) legal refl (serials_count s past legal.2 who)
    ∙ ap (range_with_len 0) (sym (count_by-cons (is_by who) e past))
