-- A larger set holds up more, and the search for the greatest set that holds itself up.
use Rattle.std.proofs.Common.{◌≡◌, ◌∙◌, ◌<◌, ◌≤◌, ◌+◌, ℕ, Bool, true, false, List, [], ◌∷◌, length, refl, subst, sym, ap}
use Rattle.std.proofs.Common.{arith, filter, inl, inr, not, cond}
use Rattle.std.specs.Prelude.{◌&&◌, ◌||◌, count_by}
use Rattle.std.specs.List.{list_any, sum_by}
use Rattle.std.proofs.lemmas.Bool.{le-leb, leb-true}
use Rattle.std.proofs.lemmas.List.Sums.{sum_by-cons}
use Rattle.cmwq_model.specs.Prelude.{is_active, is_started, max_active}
use Rattle.cmwq_model.specs.declared.record.Place.{Place}
use Rattle.cmwq_model.specs.declared.record.Queueing.{Queueing}
use Rattle.cmwq_model.specs.declared.record.Ticket.{Ticket}
use Rattle.cmwq_lemmas.proofs.Lists.{count_by-cons, filter_shorter}
use Rattle.cmwq_lemmas.proofs.Members.{In, any_in, contained_in, filter_in, in_any, in_contained}
use Rattle.cmwq_lemmas.proofs.Members.{in_filter}
use Rattle.cmwq_waits.specs.HeldUp.{Scene, awaits, has_run_of, have_all_places}
use Rattle.cmwq_waits.specs.HeldUp.{have_all_workers, is_held_up, is_held_up_by, is_in_pool, is_kept}
use Rattle.cmwq_waits.specs.HeldUp.{is_of_item, places_ahead}
use Rattle.cmwq_waits.specs.Looks.{AreSeen}
use Rattle.cmwq_waits.specs.Narrowing.{AreKnown, IsNarrowed}
use Rattle.cmwq_waits.specs.Refused.{is_of_run, never_ends, stays}
unfoldable use Rattle.cmwq_waits.specs.Refused.{left_of}
use Rattle.std.proofs.Common.{zero, suc}
use Rattle.std.specs.Prelude.{◌-◌}
use Rattle.cmwq_waits.specs.declared.run_wait.RunWait.{RunWait}
use Rattle.cmwq_waits.proofs.Held.{and_true, both}

at_most_one : (b : Bool) (u : RunWait) (vs : List RunWait) → length (cond b (u ∷ vs) vs) ≤ length vs + 1
at_most_one true u vs = omega arith
at_most_one false u vs = omega arith

module _ (p q : RunWait → Bool) where
  abbrev IsWithin : List RunWait → Type 0
  IsWithin ws = (w : RunWait) → In w ws → p w ≡ true → q w ≡ true

  more_counted : (f : RunWait → Bool) (ws : List RunWait) → IsWithin ws
      → count_by f (filter p ws) ≤ count_by f (filter q ws)
  more_counted f [] within = omega arith
  more_counted f (w ∷ ws) within =
      grind (
        arith,
        more_counted f ws (λ v here. within v (inr here)),
        within w (inl refl),
        count_by-cons f w (filter p ws),
        count_by-cons f w (filter q ws),
      )

  more_summed : (f : RunWait → ℕ) (ws : List RunWait) → IsWithin ws → sum_by f (filter p ws) ≤ sum_by f (filter q ws)
  more_summed f [] within = omega arith
  more_summed f (w ∷ ws) within =
      grind (
        arith,
        more_summed f ws (λ v here. within v (inr here)),
        within w (inl refl),
        sum_by-cons f w (filter p ws),
        sum_by-cons f w (filter q ws),
      )

  more_some : (f : RunWait → Bool) (ws : List RunWait) → IsWithin ws → list_any f (filter p ws) ≡ true
      → list_any f (filter q ws) ≡ true
  more_some f ws within some =
      let w = in_any f (filter p ws) some in
      let kept = in_filter p ws w.0 w.1 in
      any_in f (filter q ws) w.0 (filter_in q ws w.0 kept.0 (within w.0 kept.0 kept.1)) w.2

  -- ---- what a set keeps, a larger one keeps

  module _ (c : Scene) (ws : List RunWait) (within : IsWithin ws) where
    more_workers : (r : Place) → have_all_workers c.layout (filter p ws) r ≡ true
        → have_all_workers c.layout (filter q ws) r ≡ true
    more_workers r all =
        let f = is_in_pool c.layout r in
        let many = leb-true c.layout.workers (count_by f (filter p ws)) all in
        let more = more_counted f ws within in
        le-leb c.layout.workers (count_by f (filter q ws)) (omega (arith, many, more))

    more_places : (x : Queueing) → have_all_places c (filter p ws) x ≡ true → have_all_places c (filter q ws) x ≡ true
    more_places x all =
        let most = max_active c.layout c.past x.place.queue.0 in
        let many = leb-true most (sum_by (places_ahead c x) (filter p ws)) all in
        let more = more_summed (places_ahead c x) ws within in
        le-leb most (sum_by (places_ahead c x) (filter q ws)) (omega (arith, many, more))

    more_kept : (x : Queueing) → is_kept c (filter p ws) x ≡ true → is_kept c (filter q ws) x ≡ true
    more_kept x kept =
        parts (has_run_of (filter p ws) x.item.0) (has_run_of (filter q ws) x.item.0)
        (have_all_workers c.layout (filter p ws) x.place) (have_all_workers c.layout (filter q ws) x.place)
        (have_all_places c (filter p ws) x) (have_all_places c (filter q ws) x) (is_started c.past x.number)
        (is_active c.layout c.past x) (more_some (is_of_item x.item.0) ws within) (more_workers x.place)
        (more_places x) kept
      where
        parts : (r s v w y z started active : Bool) → (r ≡ true → s ≡ true) → (v ≡ true → w ≡ true)
            → (y ≡ true → z ≡ true) → (r || (not started && (v || (not active && y)))) ≡ true
            → (s || (not started && (w || (not active && z)))) ≡ true
        parts r s v w y z started active a b d kept = grind (arith, a, b, d, kept)

    pub more_held : (t : Ticket) → is_held_up c (filter p ws) t ≡ true → is_held_up c (filter q ws) t ≡ true
    more_held t held =
        let x = in_any (is_held_up_by c (filter p ws) t) c.opened held in
        let parts = both (awaits c.past t x.0) (is_kept c (filter p ws) x.0) x.2 in
        any_in (is_held_up_by c (filter q ws) t) c.opened x.0 x.1 (and_true parts.0 (more_kept x.0 parts.1))

-- ---- the search

pub stable : {X : Type 0} (p : X → Bool) (xs : List X) → length (filter p xs) ≡ length xs → filter p xs ≡ xs
stable p [] same = refl
stable p (x ∷ xs) same = by (p x) (stable p xs) same
  where
    by : (b : Bool) → (length (filter p xs) ≡ length xs → filter p xs ≡ xs)
        → length (cond b (x ∷ filter p xs) (filter p xs)) ≡ length (x ∷ xs)
        → cond b (x ∷ filter p xs) (filter p xs) ≡ x ∷ xs
    by true rest many = ap (λ ys. x ∷ ys) (rest (omega (arith, many)))
    by false rest many = absurd (let less = filter_shorter p xs in omega (arith, many, less))

pub left_stable : (n : ℕ) (c : Scene) (set : List RunWait) → filter (stays c set) set ≡ set → left_of n c set ≡ set
unfolding left_of
left_stable zero c set same = refl
left_stable (suc n) c set same = ap (left_of n c) same ∙ left_stable n c set same

pub one_more : (n : ℕ) (c : Scene) (set : List RunWait) → left_of (suc n) c set ≡ left_of n c (filter (stays c set) set)
unfolding left_of
one_more n c set = refl

pub none_yet : (c : Scene) (set : List RunWait) → left_of zero c set ≡ set
unfolding left_of
none_yet c set = refl

module _ (c : Scene) (all : List RunWait) where
  pub narrowed_first : IsNarrowed c all all 0
  narrowed_first = record {
    few = omega arith;
    more = λ n same. ap (λ m. left_of m c all) (omega arith);
    some = λ w here. here;
    fewer = omega arith;
  }

  pub left_seen : (left : List RunWait) (n : ℕ) → IsNarrowed c all left n → AreSeen c.past all → AreSeen c.past left
  left_seen left n is seen w here = seen w (is.some w here)

  pub left_known : (left : List RunWait) (n : ℕ) → IsNarrowed c all left n → AreKnown c all → AreKnown c left
  left_known left n is known w here = known w (is.some w here)

  pub narrowed_more : (left rest : List RunWait) (n : ℕ) → IsNarrowed c all left n → n < length all
      → rest ≡ filter (stays c left) left → IsNarrowed c all rest (n + 1)
  narrowed_more left rest n is less kept = record {
    few = omega arith;
    more = λ m same.
        ap (left_of m c) kept
        ∙ (sym (one_more m c left) ∙ is.more (suc m) (omega (arith, same)));
    some = λ w here. is.some w
        (in_contained left w (in_filter (stays c left) left w (subst (In w) kept (contained_in rest w here))).0);
    fewer =
        (let shorter = filter_shorter (stays c left) left in
        omega (arith, is.fewer, shorter, ap length kept));
  }

  -- all stay
  pub found_stable : (left rest : List RunWait) (n run : ℕ) → IsNarrowed c all left n → rest ≡ filter (stays c left) left
      → length rest ≡ length left → list_any (is_of_run run) left ≡ never_ends c all run
  found_stable left rest n run is kept same =
      let still = stable (stays c left) left (ap length (sym kept) ∙ same) in
      ap (list_any (is_of_run run))
      (sym (left_stable (length all - n) c left still) ∙ is.more (length all - n) (let few = is.few in omega arith))

  pub found_last : (left : List RunWait) (n run : ℕ) → IsNarrowed c all left n → length all ≤ n
      → list_any (is_of_run run) left ≡ never_ends c all run
  found_last left n run is many =
      ap (list_any (is_of_run run)) (sym (none_yet c left) ∙ is.more 0 (let few = is.few in omega arith))
