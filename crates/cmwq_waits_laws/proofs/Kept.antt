-- What runs that wait keep, they keep after one more entry too.
use Rattle.std.proofs.Common.{◌≡◌, ◌≤◌, ◌∷◌, ◌&&◌, ◌||◌, Bool, true, false, not, List, ap, ap₂, arith}
use Rattle.std.proofs.Common.{count_by, eq-eqb, eqb-true, filter, option_to_list, refl, subst, sym, ⊎_elim}
use Rattle.std.specs.List.{sum_by}
use Rattle.std.proofs.lemmas.Bool.{and_parts, both_ways, false_from_ne_true, le-leb, leb-true, or_left, or_right}
use Rattle.std.proofs.lemmas.Bool.{true_from_ne_false}
use Rattle.cmwq_lemmas.proofs.Lists.{count_append}
use Rattle.cmwq_lemmas.proofs.Members.{In, any_in, contained_in, in_any, in_contained, of_in}
use Rattle.cmwq_model.specs.Prelude.{IsLegal, Layout, finishes, is_started, max_active, opening, starts, still_open}
unfoldable use Rattle.cmwq_model.specs.Prelude.{is_active}
use Rattle.cmwq_model.specs.declared.entry.Entry.{Entry}
use Rattle.cmwq_model.specs.declared.record.Queueing.{Queueing}
use Rattle.cmwq_theory_steps.specs.Endings.{survives}
use Rattle.cmwq_theory_steps.proofs.Ended.{found_open}
use Rattle.cmwq_theory_steps.proofs.Endings.{open_go_on}
use Rattle.cmwq_theory_steps.proofs.StartsListed.{IsFound}
use Rattle.cmwq_theory_steps.proofs.WorklistSteps.{starts_only_active}
use Rattle.cmwq_waits.specs.HeldUp.{Scene, has_run_of, have_all_places, have_all_workers, is_ahead_of_item, is_kept}
use Rattle.cmwq_waits.specs.HeldUp.{is_of_item, places_ahead}
use Rattle.cmwq_waits.specs.Looks.{IsSeen}
use Rattle.cmwq_waits.specs.Refused.{AreApart}
use Rattle.cmwq_waits.specs.declared.run_wait.RunWait.{RunWait}
use Rattle.cmwq_waits.proofs.Loops.{le_or_lt}
use Rattle.cmwq_waits_laws.specs.Lasting.{LetsGo, ends_unstarted, is_awaited, scene_of, widens}
use Rattle.cmwq_waits_laws.proofs.Apart.{items_differ, same_run_of}
use Rattle.cmwq_waits_laws.proofs.Counts.{count_stays, sum_by_each}
use Rattle.cmwq_waits_laws.proofs.Places.{stays_inactive}
use Rattle.cmwq_waits_laws.proofs.Staying.{is_ending, run_survives, stays_open}
use Rattle.cmwq_waits_laws.proofs.Workers.{none_starts}

-- ---- the ways in which a queueing is kept

pub data Way (runs started workers active places : Bool) : Type 0 where
  its_run : runs ≡ true → Way runs started workers active places
  all_workers : started ≡ false → workers ≡ true → Way runs started workers active places
  all_places : started ≡ false → active ≡ false → places ≡ true → Way runs started workers active places

pub way : (runs started workers active places : Bool)
    → (runs || (not started && (workers || (not active && places)))) ≡ true → Way runs started workers active places
way true started workers active places kept = its_run refl
way false true workers active places kept = absurd (cc kept)
way false false true active places kept = all_workers refl refl
way false false false true places kept = absurd (cc kept)
way false false false false places kept = all_places refl refl kept

pub by_way : (runs started workers active places : Bool) → Way runs started workers active places
    → (runs || (not started && (workers || (not active && places)))) ≡ true
by_way runs started workers active places (its_run is) = grind (arith, is)
by_way runs started workers active places (all_workers unstarted is) = grind (arith, unstarted, is)
by_way runs started workers active places (all_places unstarted inactive is) = grind (arith, unstarted, inactive, is)

abbrev pub Keeps : Scene → List RunWait → Queueing → Type 0
Keeps c ws x = Way (has_run_of ws x.item.0) (is_started c.past x.number) (have_all_workers c.layout ws x.place)
    (is_active c.layout c.past x) (have_all_places c ws x)

-- ---- one more entry

-- The runs of these are open, and of different items. The entry finishes none of them, and does not let
-- them go.
pub record GoOn (s : Layout) (past : List Entry) (e : Entry) (ws : List RunWait) : Type 0 where
  pub legal : IsLegal s (e ∷ past)
  pub before : IsLegal s past
  pub apart : AreApart ws
  pub seen : (w : RunWait) → In w ws → IsSeen past w
  pub run_on : (w : RunWait) → In w ws → finishes w.run.number e ≡ false
  pub holds : LetsGo s past e ws → ⊥

module _ (s : Layout) (past : List Entry) (e : Entry) (ws : List RunWait) (on : GoOn s past e ws) where
  abbrev now : Scene
  now = scene_of s past

  abbrev next : Scene
  next = scene_of s (e ∷ past)

  -- ---- what they keep stays open

  unstarted_survives : (x : Queueing) → In x (still_open past) → is_started past x.number ≡ false
      → (is_awaited past ws x || has_run_of ws x.item.0) ≡ true → survives past e x ≡ true
  unstarted_survives x here unstarted theirs =
      true_from_ne_false _ (λ gone. on.holds
      (ends_unstarted x (is_ending s past e on.legal x here gone) unstarted theirs))

  run_of_item : (x : Queueing) → In x (still_open past) → is_started past x.number ≡ true
      → has_run_of ws x.item.0 ≡ true → survives past e x ≡ true
  run_of_item x here started has =
      let w = in_any (is_of_item x.item.0) ws has in
      let seen = on.seen w.0 w.1 in
      let same =
      same_run_of s past w.0.run x on.before (contained_in (still_open past) w.0.run seen.is_open) here
      seen.has_started started (eqb-true w.0.run.item.0 x.item.0 w.2) in
      run_survives s past e on.legal x started
      (subst (λ (y : Queueing). finishes y.number e ≡ false) same (on.run_on w.0 w.1))

  item_survives : (x : Queueing) → In x (still_open past) → has_run_of ws x.item.0 ≡ true → survives past e x ≡ true
  item_survives x here has = by (is_started past x.number) refl
    where
      by : (b : Bool) → is_started past x.number ≡ b → survives past e x ≡ true
      by true started = run_of_item x here started has
      by false unstarted =
          unstarted_survives x here unstarted (or_right (is_awaited past ws x) (has_run_of ws x.item.0) has)

  kept_survives : (x : Queueing) → In x (still_open past) → is_awaited past ws x ≡ true → Keeps now ws x
      → survives past e x ≡ true
  kept_survives x here up (its_run has) = item_survives x here has
  kept_survives x here up (all_workers unstarted all) =
      unstarted_survives x here unstarted (or_left (is_awaited past ws x) (has_run_of ws x.item.0) up)
  kept_survives x here up (all_places unstarted inactive all) =
      unstarted_survives x here unstarted (or_left (is_awaited past ws x) (has_run_of ws x.item.0) up)

  -- ---- they keep their places

  no_wider : (x : Queueing) → In x (still_open past) → is_started past x.number ≡ false → is_awaited past ws x ≡ true
      → max_active s (e ∷ past) x.place.queue.0 ≤ max_active s past x.place.queue.0
  no_wider x here unstarted up =
      ⊎_elim (λ less. less)
      (λ more. absurd (on.holds (widens x (in_contained (still_open past) x here) unstarted up more)))
      (le_or_lt (max_active s (e ∷ past) x.place.queue.0) (max_active s past x.place.queue.0))

  ahead_stays : (x : Queueing) (w : RunWait) → In w ws → places_ahead now x w ≤ places_ahead next x w
  ahead_stays x w here =
      let ahead = is_ahead_of_item x w.run.item.0 in
      omega (
        arith,
        count_stays ahead (survives past e) (still_open past)
            (λ y there is. item_survives y there
            (any_in (is_of_item y.item.0) ws w here
            (eq-eqb w.run.item.0 y.item.0 (sym (eqb-true y.item.0 w.run.item.0 (and_parts _ _ is).0))))),
        count_append ahead (filter (survives past e) (still_open past)) (option_to_list (opening past e)),
        ap (count_by ahead) (open_go_on s past e on.legal),
      )

  places_stay : (x : Queueing) → In x (still_open past) → is_started past x.number ≡ false
      → is_awaited past ws x ≡ true → have_all_places now ws x ≡ true → have_all_places next ws x ≡ true
  places_stay x here unstarted up all =
      let q = x.place.queue.0 in
      let were = leb-true (max_active s past q) (sum_by (places_ahead now x) ws) all in
      le-leb (max_active s (e ∷ past) q) (sum_by (places_ahead next x) ws)
      (omega (
        arith,
        were,
        no_wider x here unstarted up,
        sum_by_each (places_ahead now x) (places_ahead next x) ws (ahead_stays x),
      ))

  -- ---- and so what they keep

  still_unstarted : (x : Queueing) → is_started past x.number ≡ false → starts x.number e ≡ false
      → is_started (e ∷ past) x.number ≡ false
  still_unstarted x unstarted starts_not = ap₂ (λ a b. a || b) starts_not unstarted

  starts_no_inactive : (x : Queueing) → In x (still_open past) → is_active s past x ≡ false → starts x.number e ≡ false
  starts_no_inactive x here inactive = false_from_ne_true _ (λ starts_it.
      both_ways _ inactive
      (starts_only_active s past e on.legal x.number x starts_it
      (of_in (IsFound past) (still_open past) x (found_open past) here)))

  keeps_on : (x : Queueing) → In x (still_open past) → is_awaited past ws x ≡ true → Keeps now ws x → Keeps next ws x
  keeps_on x here up (its_run has) = its_run has
  keeps_on x here up (all_workers unstarted all) =
      all_workers
      (still_unstarted x unstarted (none_starts s past e ws x on.legal on.before on.apart on.seen here all)) all
  keeps_on x here up (all_places unstarted inactive all) =
      let places = places_stay x here unstarted up all in
      all_places (still_unstarted x unstarted (starts_no_inactive x here inactive))
      (stays_inactive s past e ws x (items_differ s past ws on.before on.apart on.seen) inactive places) places

  pub kept_on : (x : Queueing) → In x (still_open past) → is_awaited past ws x ≡ true → is_kept now ws x ≡ true
      → (In x (still_open (e ∷ past))) × (is_kept next ws x ≡ true)
  kept_on x here up kept =
      let keeps : Keeps now ws x =
      way (has_run_of ws x.item.0) (is_started past x.number) (have_all_workers s ws x.place)
      (is_active s past x) (have_all_places now ws x) kept in (
        stays_open s past e on.legal x here (kept_survives x here up keeps),
        by_way (has_run_of ws x.item.0) (is_started (e ∷ past) x.number) (have_all_workers s ws x.place)
            (is_active s (e ∷ past) x) (have_all_places next ws x) (keeps_on x here up keeps),
      )
