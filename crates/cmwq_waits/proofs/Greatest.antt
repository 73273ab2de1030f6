-- Where no run waits twice, what is left of the waits is the greatest set of which each is held up by all.
use Rattle.std.proofs.Common.{◌≡◌, ◌∙◌, ◌≤◌, ℕ, Bool, true, false, List, [], ◌∷◌, zero, suc, length, ap, arith}
use Rattle.std.proofs.Common.{filter, inl, inr, refl, ◌⊎◌, subst, sym, eq-eqb, eqb-true, ⊎_elim}
use Rattle.std.specs.Prelude.{◌&&◌, ◌==◌}
use Rattle.std.specs.List.{list_any}
use Rattle.cmwq_lemmas.proofs.Filters.{filter_twice}
use Rattle.cmwq_lemmas.proofs.Lists.{filter_shorter}
use Rattle.cmwq_lemmas.proofs.Members.{In, any_in, contained_in, filter_in, in_any, in_contained, in_filter}
use Rattle.cmwq_lemmas.proofs.Truth.{same_bools}
use Rattle.cmwq_waits.specs.HeldUp.{IsDeadlock, NeverEnds, Scene, is_held_up, is_in, members}
use Rattle.cmwq_waits.specs.Refused.{AreApart, is_of_run, never_ends, stays}
unfoldable use Rattle.cmwq_waits.specs.Refused.{left_of}
use Rattle.cmwq_waits.specs.declared.run_wait.RunWait.{RunWait}
use Rattle.cmwq_waits.proofs.Held.{and_true}
use Rattle.cmwq_waits.proofs.Narrowing.{left_stable, more_held, none_yet, one_more, stable}

-- ---- a run waits once

pub later_apart : (u w : RunWait) (us : List RunWait) → AreApart (u ∷ us) → In w us → u.run.number ≡ w.run.number → ⊥
later_apart u w us apart here same =
    let at = in_contained us w here in
    apart zero (suc at.0) w (omega arith) (let less = at.1 in omega arith)
    (same ∙ ap (λ (v : RunWait). v.run.number) (sym at.2))

pub same_run : (ws : List RunWait) (v w : RunWait) → AreApart ws → In v ws → In w ws → v.run.number ≡ w.run.number
    → v ≡ w
same_run [] v w apart here there same = absurd here
same_run (u ∷ us) v w apart here there same =
    ⊎_elim
    (λ (first : u ≡ v). ⊎_elim (λ (also : u ≡ w). sym first ∙ also)
    (λ (later : In w us). absurd (later_apart u w us apart later (ap (λ (x : RunWait). x.run.number) first ∙ same)))
    there)
    (λ (later : In v us). ⊎_elim
    (λ (first : u ≡ w). absurd
    (later_apart u v us apart later (ap (λ (x : RunWait). x.run.number) first ∙ sym same)))
    (λ (also : In w us). same_run us v w (rest u us apart) later also same) there) here
  where
    rest : (u : RunWait) (us : List RunWait) → AreApart (u ∷ us) → AreApart us
    rest u us apart i j d less within = apart (suc i) (suc j) d (omega arith) (omega arith)

-- ---- what is left is stable

pub left_is_stable : (n : ℕ) (c : Scene) (set : List RunWait) → length set ≤ n
    → filter (stays c (left_of n c set)) (left_of n c set) ≡ left_of n c set
left_is_stable zero c [] few = rw (none_yet c []) refl
left_is_stable zero c (w ∷ ws) few = absurd (omega arith)
left_is_stable (suc n) c set few =
    step (λ less. left_is_stable n c (filter (stays c set) set) less)
    (same_or_not (length (filter (stays c set) set)) (length set))
  where
    same_or_not : (a b : ℕ) → (a ≡ b) ⊎ (a ≡ b → ⊥)
    same_or_not a b = decide (a == b) refl
      where
        decide : (t : Bool) → (a == b) ≡ t → (a ≡ b) ⊎ (a ≡ b → ⊥)
        decide true same = inl (eqb-true a b same)
        decide false other = inr (λ same. cc (sym other ∙ eq-eqb a b same))

    fewer : (a b m : ℕ) → (a ≡ b → ⊥) → a ≤ b → b ≤ suc m → a ≤ m
    fewer a b m apart less few = grind (arith, apart)

    step : (length (filter (stays c set) set) ≤ n
        → filter (stays c (left_of n c (filter (stays c set) set))) (left_of n c (filter (stays c set) set))
        ≡ left_of n c (filter (stays c set) set))
        → (length (filter (stays c set) set) ≡ length set) ⊎ (length (filter (stays c set) set) ≡ length set → ⊥)
        → filter (stays c (left_of (suc n) c set)) (left_of (suc n) c set) ≡ left_of (suc n) c set
    step rest (inl same) =
        let still = stable (stays c set) set same in
        rw (left_stable (suc n) c set still) still
    step rest (inr apart) =
        let less = filter_shorter (stays c set) set in
        rw (one_more n c set) (rest (fewer (length (filter (stays c set) set)) (length set) n apart less few))

-- ---- what is left of those that pass a test are those that pass another, and each deadlock that passes stays

abbrev Passes : Scene → List RunWait → (RunWait → Bool) → (ℕ → Bool) → Type 0
Passes c all q p = (w : RunWait) → In w all → is_in p w ≡ true → q w ≡ true

record IsLeft (c : Scene) (all : List RunWait) (n : ℕ) (q : RunWait → Bool) : Type 0 where
  test : RunWait → Bool
  left : left_of n c (filter q all) ≡ filter test all
  stay : (p : ℕ → Bool) → IsDeadlock c all p → Passes c all q p → Passes c all test p

module _ (c : Scene) (all : List RunWait) where
  one_round : (q : RunWait → Bool) (p : ℕ → Bool) → IsDeadlock c all p → Passes c all q p
      → Passes c all (λ w. q w && stays c (filter q all) w) p
  one_round q p dead passes w here is =
      and_true (passes w here is)
      (more_held (is_in p) q c all passes w.ticket (dead w (in_contained all w here) is))

  is_left : (n : ℕ) (q : RunWait → Bool) → IsLeft c all n q
  is_left zero q = record { test = q; left = none_yet c (filter q all); stay = λ p dead passes. passes }
  is_left (suc n) q =
      let more = is_left n (λ w. q w && stays c (filter q all) w) in
      record {
        test = more.test;
        left = one_more n c (filter q all) ∙ (ap (left_of n c) (filter_twice (stays c (filter q all)) q all) ∙ more.left);
        stay = λ p dead passes. more.stay p dead (one_round q p dead passes);
      }

  all_pass : (ws : List RunWait) → filter (λ w. true) ws ≡ ws
  all_pass [] = refl
  all_pass (w ∷ ws) = ap (λ vs. w ∷ vs) (all_pass ws)

  abbrev left : List RunWait
  left = left_of (length all) c all

  left_all : IsLeft c all (length all) (λ w. true)
  left_all = is_left (length all) (λ w. true)

  left_passes : left ≡ filter left_all.test all
  left_passes = ap (left_of (length all) c) (sym (all_pass all)) ∙ left_all.left

  abbrev has : ℕ → Bool
  has k = list_any (is_of_run k) left

  module _ (apart : AreApart all) where
    -- by their runs' numbers
    has_left : (w : RunWait) → In w all → is_in has w ≡ left_all.test w
    has_left w here =
        same_bools (has w.run.number) (left_all.test w)
        (λ some. let v = in_any (is_of_run w.run.number) left some in
        let kept = in_filter left_all.test all v.0 (subst (In v.0) left_passes v.1) in
        let same = same_run all v.0 w apart kept.0 here (eqb-true v.0.run.number w.run.number v.2) in
        subst (λ (x : RunWait). left_all.test x ≡ true) same kept.1)
        (λ passes. any_in (is_of_run w.run.number) left w
        (subst (In w) (sym left_passes) (filter_in left_all.test all w here passes))
        (eq-eqb w.run.number w.run.number refl))

    same_filter : (p q : RunWait → Bool) (ws : List RunWait) → ((w : RunWait) → In w ws → p w ≡ q w)
        → filter p ws ≡ filter q ws
    same_filter p q [] same = refl
    same_filter p q (w ∷ ws) same =
        grind (arith, same w (inl refl), same_filter p q ws (λ v here. same v (inr here)))

    members_left : members has all ≡ left
    members_left = same_filter (is_in has) left_all.test all has_left ∙ sym left_passes

    left_dead : IsDeadlock c all has
    left_dead w here is =
        let kept =
        subst (In w) (sym left_passes)
        (filter_in left_all.test all w (contained_in all w here)
        (sym (has_left w (contained_in all w here)) ∙ is)) in
        let still = subst (In w) (sym (left_is_stable (length all) c all (omega arith))) kept in
        subst (λ ws. is_held_up c ws w.ticket ≡ true) (sym members_left) (in_filter (stays c left) left w still).1

    pub never_is : (run : ℕ) → never_ends c all run ≡ true → NeverEnds c all run
    never_is run never = record { set = has; has = never; deadlock = left_dead }

  -- each deadlock is left
  pub is_never : (w : RunWait) → In w all → NeverEnds c all w.run.number → never_ends c all w.run.number ≡ true
  is_never w here never =
      any_in (is_of_run w.run.number) left w
      (subst (In w) (sym left_passes)
      (filter_in left_all.test all w here (left_all.stay never.set never.deadlock (λ v there is. refl) w here never.has)))
      (eq-eqb w.run.number w.run.number refl)
