-- The function that the look computes is the definition.
use Rattle.std.proofs.Common.{◌≡◌, ◌∙◌, ℕ, Bool, true, false, List, [], ◌∷◌, ◌++◌, Some, None, length, ap, arith, inl, inr}
use Rattle.std.proofs.Common.{filter, refl, sym, ⊎_elim, eq-eqb, suc, get_or, not, ◌<◌}
use Rattle.std.specs.Prelude.{if◌then◌else◌}
use Rattle.std.proofs.lemmas.List.Kept.{AllPairs-cons, AllPairs-filter}
use Rattle.cmwq_lemmas.proofs.Members.{In, contained_in, in_append, in_filter, in_right}
use Rattle.cmwq_model.specs.Prelude.{Layout}
use Rattle.cmwq_model.specs.declared.call.Call.{Call}
use Rattle.cmwq_model.specs.declared.entry.Entry.{Entry}
use Rattle.cmwq_model.specs.declared.record.Queueing.{Queueing}
use Rattle.cmwq_waits.specs.HeldUp.{awaits}
use Rattle.cmwq_waits.specs.Refused.{AreApart, RefusalsAreRefused, Refuses, is_other, is_turned_away, never_ends, next_ticket}
use Rattle.cmwq_waits.specs.Refused.{next_wait, scene_after, waits_with}
use Rattle.cmwq_waits.specs.declared.run_wait.RunWait.{RunWait}
use Rattle.cmwq_waits.specs.declared.waits.Stuck.TheVariants.{Itself, Circle}
use Rattle.cmwq_waits.proofs.Greatest.{is_never, later_apart, never_is}
use Rattle.cmwq_waits.proofs.Loops.{at_place}

-- ---- those of other runs, and one more, are apart

other_than : (run : ℕ) (ws : List RunWait) (w : RunWait) → In w (filter (is_other run) ws) → w.run.number ≡ run → ⊥
other_than run ws w here same =
    let passes = (in_filter (is_other run) ws w here).1 in
    let is = eq-eqb w.run.number run same in
    cc (sym (ap not is) ∙ passes)

apart_more : (ws : List RunWait) (w : RunWait) → AreApart ws → ((v : RunWait) → In v ws → v.run.number ≡ w.run.number → ⊥)
    → AreApart (ws ++ w ∷ [])
apart_more [] w apart other = λ i j d less within. absurd (omega arith)
apart_more (u ∷ us) w apart other =
    AllPairs-cons (λ (v x : RunWait). v.run.number ≡ x.run.number → ⊥) u (us ++ w ∷ [])
    (λ k d within. first k d within)
    (apart_more us w (λ i j d less within. apart (suc i) (suc j) d (omega arith) (omega arith))
    (λ v here same. other v (inr here) same))
  where
    first : (k : ℕ) (d : RunWait) → k < length (us ++ w ∷ []) → u.run.number ≡ (get_or (us ++ w ∷ []) k d).run.number → ⊥
    first k d within same =
        let x = get_or (us ++ w ∷ []) k d in
        ⊎_elim (λ (old : In x us). later_apart u x us apart old same)
        (λ (new : In x (w ∷ [])). ⊎_elim
        (λ (is : w ≡ x). other u (inl refl) (same ∙ ap (λ (v : RunWait). v.run.number) (sym is)))
        (λ none. absurd none) new)
        (in_append us (w ∷ []) x (contained_in (us ++ w ∷ []) x (at_place (us ++ w ∷ []) k d within)))

pub apart_with : (ws : List RunWait) (w : RunWait) → AreApart ws
    → AreApart (filter (is_other w.run.number) ws ++ w ∷ [])
apart_with ws w apart =
    apart_more (filter (is_other w.run.number) ws) w
    (AllPairs-filter (λ (v x : RunWait). v.run.number ≡ x.run.number → ⊥) (is_other w.run.number) ws apart)
    (λ v here same. other_than w.run.number ws v here same)

-- ---- the law

module _ (s : Layout) (past : List Entry) (waits : List RunWait) (run : Queueing) (c : Call)
    (apart : AreApart waits) where
  abbrev all : List RunWait
  all = waits_with past waits run c

  told : (turned own never : Bool) → is_turned_away past c ≡ turned → awaits past (next_ticket past c) run ≡ own
      → never_ends (scene_after s past c) all run.number ≡ never
      → Refuses s past waits run c
      (if turned then None else if own then Some Itself else if never then Some Circle else None)
  told true own never turned is found = inl turned
  told false true never turned is found = (turned, is)
  told false false true turned is found =
      (turned, is, never_is (scene_after s past c) all (apart_with waits (next_wait past run c) apart) run.number found)
  told false false false turned is found =
      inr (
        is,
        λ never. cc
            (sym found
            ∙ is_never (scene_after s past c) all (next_wait past run c)
            (in_right (filter (is_other run.number) waits) (next_wait past run c ∷ []) (next_wait past run c) (inl refl)) never),
      )

pub refusals_are_refused : RefusalsAreRefused
refusals_are_refused s past waits run c apart =
    told s past waits run c apart (is_turned_away past c) (awaits past (next_ticket past c) run)
    (never_ends (scene_after s past c) (waits_with past waits run c) run.number) refl refl refl
