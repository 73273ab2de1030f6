-- The pool workqueues to which an entry is applied are those of the longer history.
use Rattle.cmwq_state.specs.Common.{◌≡◌, ℕ, ◌+◌, ◌*◌, ◌-◌, ◌<◌, ◌≤◌, Bool, true, false, not, ◌&&◌, ◌==◌, append-nil}
use Rattle.cmwq_state.specs.Common.{inl, List, [], ◌∷◌, ◌++◌, length, filter, count_by, cond, Option, Some, None}
use Rattle.cmwq_state.specs.Common.{option_to_list, refl, sym, ap, ap₂, ◌∙◌, subst, arith, nat_lt, AllByRecursion}
use Rattle.cmwq_state.specs.Common.{list_any, slice_set, if◌then◌else◌, eq-eqb, eqb-true, false_from_ne_true, not-true}
use Rattle.cmwq_state.specs.Common.{not-false, same_Some, option_map_or, All-from_recursion, length-set, Entry}
use Rattle.cmwq_state.specs.Common.{Queueing, Layout, width, still_open, opening, has_number, is_below_max_active}
use Rattle.cmwq_state.specs.Common.{is_active, newly_active, IsLegal, All_map, All_filter, one, is_on, active_count}
use Rattle.cmwq_state.specs.Common.{survives, ending, waits, stay_count, waiting_queueings, candidates, has_none}
use Rattle.cmwq_state.specs.Common.{filter_same, candidates_are, newly_are, waiting_goes_on, number_of_queueing}
use Rattle.cmwq_state.specs.Common.{open_there, In, of_in, all_in, in_right, in_filter, filter_in, opened_are_there}
use Rattle.cmwq_state.specs.Common.{PwqState, count_at, count_of_same_pwq, place_of, is_waiting, is_other_waiting}
use Rattle.cmwq_state.specs.Common.{pwqs_without_open, pwqs_after_end, pwqs_after_opening, MayEndInPwqs, MayOpenInPwqs}
use Rattle.cmwq_state.specs.Common.{AreBelowMaxActive, Passes, IsPlaced, ArePlaced, count_set, place_inside, on_itself}
use Rattle.cmwq_state.specs.Common.{on_parts, most_cpus}
use Rattle.std.proofs.lemmas.List.Folds.{list_any_none}
use Rattle.cmwq_theory_steps.proofs.Way.{way_by_picked}
use Rattle.cmwq_theory_steps.proofs.ActiveCounts.{stays_counted, active_count_goes_on}
use Rattle.cmwq_refinement.specs.Places as places
use Rattle.cmwq_lemmas.proofs.Rising.{rises_unique}
use Rattle.cmwq_refinement.proofs.QueueingSteps.{QueueingStep, ends_one, ends_none, queueing_step, open_numbers_rise}
use Rattle.cmwq_state.specs.Pwqs.{ArePwqsOf}
use Rattle.cmwq_state.proofs.PwqsItems.{none_left, number_of_item}
use Rattle.std.proofs.lemmas.Bool.{false≢true}
use Rattle.cmwq_lemmas.proofs.Lists.{filter_all}
use Rattle.cmwq_lemmas.proofs.Members.{any_in}

-- ---- what waits has this number where it is this one

other_number : (s : Layout) (past : List Entry) (x y : Queueing) → In x (still_open past) → waits s past x ≡ false
    → In y (waiting_queueings s past) → (y.number == x.number) ≡ false
other_number s past x y here fails there = false_from_ne_true (y.number == x.number) (λ same.
    let k = in_filter (waits s past) (still_open past) y there in
    let is = rises_unique number_of_queueing (still_open past) y x (open_numbers_rise past) k.0 here
    (eqb-true y.number x.number same) in
    false≢true (sym fails ∙ (sym (ap (waits s past) is) ∙ k.1)))

pub waits_by_number : (s : Layout) (past : List Entry) (x : Queueing) → In x (still_open past)
    → list_any (has_number x.number) (waiting_queueings s past) ≡ waits s past x
waits_by_number s past x here = by (waits s past x) refl
  where
    by : (b : Bool) → waits s past x ≡ b → list_any (has_number x.number) (waiting_queueings s past) ≡ b
    by true stays =
        any_in (has_number x.number) (waiting_queueings s past) x
        (filter_in (waits s past) (still_open past) x here stays) (eq-eqb x.number x.number refl)
    by false fails =
        list_any_none (has_number x.number) (waiting_queueings s past)
        (All-from_recursion (λ y. has_number x.number y ≡ false) (waiting_queueings s past)
        (all_in (λ y. has_number x.number y ≡ false) (waiting_queueings s past)
        (λ y there. other_number s past x y here fails there)))

-- ---- after the end: what waited and survives, and the counts of those that stay

pub record IsMid (s : Layout) (past : List Entry) (e : Entry) (l : PwqState) : Type 0 where
  pub items : l.items ≡ s.items
  pub many : length l.counts ≡ most_cpus * length s.queues
  pub waiting : l.waiting ≡ filter (survives past e) (waiting_queueings s past)
  pub counts : (q c : ℕ) → q < length s.queues → c < most_cpus → count_at l.counts q c ≡ stay_count s past e q c

-- after what is opened: the candidates
pub record IsReadyToPass (s : Layout) (past : List Entry) (e : Entry) (l : PwqState) : Type 0 where
  pub items : l.items ≡ s.items
  pub many : length l.counts ≡ most_cpus * length s.queues
  pub waiting : l.waiting ≡ candidates s past e
  pub counts : (q c : ℕ) → q < length s.queues → c < most_cpus → count_at l.counts q c ≡ stay_count s past e q c

-- after the pass
pub record ArePassed (s : Layout) (past : List Entry) (e : Entry) (old new : PwqState) (wide : ℕ → ℕ) : Type 0 where
  pub passes : (way : Queueing → Bool) → AreBelowMaxActive way wide old.counts old.waiting
      → Passes way old.waiting old.counts new.counts new.waiting new.activated
  pub items : new.items ≡ old.items
  pub widths : (q : ℕ) → q < length s.queues → wide q ≡ width s (e ∷ past) q

among_waiting : (P : Queueing → Type 0) (s : Layout) (past : List Entry) → AllByRecursion P (still_open past)
    → AllByRecursion P (waiting_queueings s past)
among_waiting P s past h = All_filter P (waits s past) (still_open past) (All_map P _ (still_open past) (λ x k _. k) h)

module _ (s : Layout) (past : List Entry) (e : Entry) (legal : IsLegal s (e ∷ past)) (few : s.cpus ≤ most_cpus) where
  stays_none : (q c : ℕ) → ending past e ≡ None → stay_count s past e q c ≡ active_count s past q c
  stays_none q c is = grind (arith, stays_counted)

  stays_one : (q c : ℕ) (x : Queueing) → ending past e ≡ Some x
      → stay_count s past e q c + one (is_on q c x && is_active s past x) ≡ active_count s past q c
  stays_one q c x is =
      ap (λ o. stay_count s past e q c + one
      (option_map_or (λ (y : Queueing). is_on q c y && is_active s past y) o false)) (sym is)
      ∙ stays_counted s past e legal q c

  ended_waiting : (l : PwqState) (x : Queueing) → ArePwqsOf s past l → ending past e ≡ Some x
      → AllByRecursion (λ y. survives past e y ≡ not (y.number == x.number)) (still_open past) → waits s past x ≡ true →
      IsMid s past e (record l { waiting = filter (is_other_waiting x.number) l.waiting })
  ended_waiting l x are is survivors stays = record {
    items = are.items;
    many = are.many;
    waiting = ap (filter (is_other_waiting x.number)) are.waiting
        ∙ filter_same (is_other_waiting x.number) (survives past e) (waiting_queueings s past)
        (among_waiting (λ y. is_other_waiting x.number y ≡ survives past e y) s past
        (All_map _ _ (still_open past) (λ y h. sym h) survivors));
    counts = λ q c here less.
        let counted = stays_one q c x is in
        let inactive : is_active s past x ≡ false = not-true (is_active s past x) stays in
        let zero : one (is_on q c x && is_active s past x) ≡ 0 = ap (λ b. one (is_on q c x && b)) inactive
        ∙ none (is_on q c x) in
        let was = are.counts q c here less in
        omega arith;
  }
    where
      none : (b : Bool) → one (b && false) ≡ 0
      none b = grind arith

  ended_active : (l : PwqState) (x : Queueing) → ArePwqsOf s past l → ending past e ≡ Some x → In x (still_open past)
      → places.IsQueueingThere s x
      → AllByRecursion (λ y. survives past e y ≡ not (y.number == x.number)) (still_open past) → waits s past x ≡ false
      →
      IsMid s past e
      (record l
      { counts = slice_set l.counts (place_of x.place.queue.0 x.place.cpu.0) (count_of_same_pwq l.counts x - 1) })
  ended_active l x are is here there survivors fails = record {
    items = are.items;
    many = length-set l.counts (place_of x.place.queue.0 x.place.cpu.0) (count_of_same_pwq l.counts x - 1) ∙ are.many;
    waiting =
        are.waiting
        ∙ sym (filter_all (survives past e) (waiting_queueings s past)
        (all_in (λ y. survives past e y ≡ true) (waiting_queueings s past) (λ y listed.
        of_in (λ z. survives past e z ≡ not (z.number == x.number)) (still_open past) y survivors
        (in_filter (waits s past) (still_open past) y listed).0
        ∙ ap not (other_number s past x y here fails listed))));
    counts = λ q c inside less. count_set l.counts x (count_of_same_pwq l.counts x - 1) q c cpu less at
        ∙ by q c inside less (is_on q c x) refl;
  }
    where
      cpu : x.place.cpu.0 < most_cpus
      cpu = let h = there.cpu in omega arith

      at : place_of x.place.queue.0 x.place.cpu.0 < length l.counts
      at = place_inside x.place.queue.0 x.place.cpu.0 (length s.queues) (length l.counts) there.queue cpu are.many

      active : is_active s past x ≡ true
      active = not-false (is_active s past x) fails

      counted : (q c : ℕ) (b : Bool) → is_on q c x ≡ b → stay_count s past e q c + one b ≡ active_count s past q c
      counted q c b on = ap (λ a. stay_count s past e q c + one a) (sym (ap₂ (λ a d. a && d) on active ∙ and_true b))
          ∙ stays_one q c x is
        where
          and_true : (a : Bool) → (a && true) ≡ a
          and_true true = refl
          and_true false = refl

      by : (q c : ℕ) → q < length s.queues → c < most_cpus → (b : Bool) → is_on q c x ≡ b
          → cond b (count_of_same_pwq l.counts x - 1) (count_at l.counts q c) ≡ stay_count s past e q c
      by q c inside less true on =
          let p = on_parts q c x on in
          let same : count_of_same_pwq l.counts x ≡ count_at l.counts q c = ap₂ (count_at l.counts) p.0 p.1 in
          let was = are.counts q c inside less in let step = counted q c true on in omega arith
      by q c inside less false on = let was = are.counts q c inside less in let step = counted q c false on in
          omega arith

  pwqs_ended_as : (l : PwqState) → ArePwqsOf s past l → IsLegal s past → QueueingStep past e → (o : Option Queueing)
      → ending past e ≡ o → IsMid s past e (pwqs_after_end o l) × MayEndInPwqs o l
  pwqs_ended_as l are before (ends_none is survivors) None same = (
    record {
      items = are.items;
      many = are.many;
      waiting =
          are.waiting
          ∙ sym (filter_all (survives past e) (waiting_queueings s past)
          (among_waiting (λ y. survives past e y ≡ true) s past survivors));
      counts = λ q c here less. are.counts q c here less ∙ sym (stays_none q c is);
    },
    tt,
  )
  pwqs_ended_as l are before (ends_none is survivors) (Some x) same = cc
  pwqs_ended_as l are before (ends_one y is here survivors) None same = cc
  pwqs_ended_as l are before (ends_one y is here survivors) (Some x) same =
      let it : y ≡ x = same_Some y x (sym is ∙ same) in
      found x same (subst (λ z. In z (still_open past)) it here)
      (subst (λ z. AllByRecursion (λ v. survives past e v ≡ not (v.number == z.number)) (still_open past)) it
      survivors)
    where
      found : (x : Queueing) → ending past e ≡ Some x → In x (still_open past)
          → AllByRecursion (λ v. survives past e v ≡ not (v.number == x.number)) (still_open past)
          → IsMid s past e (pwqs_without_open l x) × MayEndInPwqs (Some x) l
      found x is here survivors =
          let there = open_there s past x before here in
          let cpu : x.place.cpu.0 < most_cpus = let h = there.cpu in omega arith in
          let waits_as : is_waiting l x ≡ waits s past x = ap (list_any (has_number x.number)) are.waiting
          ∙ waits_by_number s past x here in
          let at = place_inside x.place.queue.0 x.place.cpu.0 (length s.queues) (length l.counts) there.queue cpu
          are.many in (
            by (waits s past x) refl there waits_as,
            record {
              item = rw are.items there.item;
              number = rw are.waiting (number_of_item s past x here);
              place =
                  at;
              counted = λ fails. positive there cpu (sym waits_as ∙ fails);
            },
          )
        where
          by : (b : Bool) → waits s past x ≡ b → places.IsQueueingThere s x → is_waiting l x ≡ waits s past x
              → IsMid s past e (pwqs_without_open l x)
          by true stays there waits_as =
              subst (λ b. IsMid s past e (if b then record l { waiting = filter (is_other_waiting x.number) l.waiting }
              else record l {
                counts =
                    slice_set l.counts (place_of x.place.queue.0 x.place.cpu.0) (count_of_same_pwq l.counts x - 1);
              }))
              (sym (waits_as ∙ stays)) (ended_waiting l x are is survivors stays)
          by false fails there waits_as =
              subst (λ b. IsMid s past e (if b then record l { waiting = filter (is_other_waiting x.number) l.waiting }
              else record l {
                counts =
                    slice_set l.counts (place_of x.place.queue.0 x.place.cpu.0) (count_of_same_pwq l.counts x - 1);
              }))
              (sym (waits_as ∙ fails)) (ended_active l x are is here there survivors fails)

          positive : places.IsQueueingThere s x → x.place.cpu.0 < most_cpus → waits s past x ≡ false
              → 0 < count_of_same_pwq l.counts x
          positive there cpu fails =
              let active : is_active s past x ≡ true = not-false (is_active s past x) fails in
              let on = on_itself x.place.queue.0 x.place.cpu.0 x refl refl in
              let one_more : one (is_on x.place.queue.0 x.place.cpu.0 x && is_active s past x) ≡ 1 =
              ap₂ (λ a b. one (a && b)) on active in
              let counted = stays_one x.place.queue.0 x.place.cpu.0 x is in
              let was = are.counts x.place.queue.0 x.place.cpu.0 there.queue cpu in
              omega arith

  pub pwqs_ended : (l : PwqState) → ArePwqsOf s past l → IsLegal s past
      → IsMid s past e (pwqs_after_end (ending past e) l) × MayEndInPwqs (ending past e) l
  pwqs_ended l are before = pwqs_ended_as l are before (queueing_step s past e legal) (ending past e) refl

  -- ---- after what is opened: the candidates

  pwqs_opened_as : (l : PwqState) → IsMid s past e l → (o : Option Queueing) → opening past e ≡ o
      → IsReadyToPass s past e (pwqs_after_opening o l) × MayOpenInPwqs o l
  pwqs_opened_as l mid None is = (
    record {
      items = mid.items;
      many = mid.many;
      waiting =
          mid.waiting
          ∙ (sym (append-nil (filter (survives past e) (waiting_queueings s past)))
          ∙ (ap (λ o. filter (survives past e) (waiting_queueings s past) ++ option_to_list o) (sym is)
          ∙ sym (candidates_are s past e legal)));
      counts = mid.counts;
    },
    tt,
  )
  pwqs_opened_as l mid (Some x) is =
      let all : l.waiting ++ x ∷ [] ≡ candidates s past e =
      ap (λ ys. ys ++ x ∷ []) mid.waiting
      ∙ (ap (λ o. filter (survives past e) (waiting_queueings s past) ++ option_to_list o) (sym is)
      ∙ sym (candidates_are s past e legal)) in (
        record { items = mid.items; many = mid.many; waiting = all; counts = mid.counts },
        record {
          item = rw mid.items there.item;
          cpu = cpu;
          place = place_inside x.place.queue.0 x.place.cpu.0 (length s.queues) (length l.counts) there.queue cpu
              mid.many;
          free = rw mid.waiting (none_left s past e legal x is);
        },
      )
    where
      there : places.IsQueueingThere s x
      there = opened_are_there s past e x legal is

      cpu : x.place.cpu.0 < most_cpus
      cpu = let h = there.cpu in omega arith

  pub pwqs_opened : (l : PwqState) → IsMid s past e l → IsReadyToPass s past e (pwqs_after_opening (opening past e) l)
      × MayOpenInPwqs (opening past e) l
  pwqs_opened l mid = pwqs_opened_as l mid (opening past e) refl

  -- ---- after the pass: the pwqs of the longer history

  candidate_there : (x : Queueing) → In x (candidates s past e) → places.IsQueueingThere s x
  candidate_there x h = open_there s (e ∷ past) x legal (in_filter (waits s past) (still_open (e ∷ past)) x h).0

  candidate_placed : (x : Queueing) → In x (candidates s past e) → IsPlaced (length s.queues) x
  candidate_placed x h = let there = candidate_there x h in let k = there.cpu in (there.queue, omega arith)

  pub are_placed : (l : PwqState) → IsReadyToPass s past e l → ArePlaced (length s.queues) l.waiting
  are_placed l r =
      subst (ArePlaced (length s.queues)) (sym r.waiting)
      (All-from_recursion (IsPlaced (length s.queues)) (candidates s past e)
      (all_in (IsPlaced (length s.queues)) (candidates s past e) candidate_placed))

  are_below_max_active : (l : PwqState) (wide : ℕ → ℕ) → IsReadyToPass s past e l
      → ((q : ℕ) → q < length s.queues → wide q ≡ width s (e ∷ past) q)
      → AreBelowMaxActive (is_below_max_active s (e ∷ past)) wide l.counts l.waiting
  are_below_max_active l wide r widths = λ done x rest split.
      let is : candidates s past e ≡ done ++ x ∷ rest = sym r.waiting ∙ split in
      let placed = candidate_placed x (subst (In x) (sym is) (in_right done (x ∷ rest) x (inl refl))) in
      way_by_picked s past e done x rest is
      ∙ ap₂ (λ n w.
      nat_lt (n + count_by (is_on x.place.queue.0 x.place.cpu.0) (filter (is_below_max_active s (e ∷ past)) done))
      w) (sym (r.counts x.place.queue.0 x.place.cpu.0 placed.0 placed.1)) (sym (widths x.place.queue.0 placed.0))

  pub pwqs_passed : (l new : PwqState) (wide : ℕ → ℕ) → IsReadyToPass s past e l → ArePassed s past e l new wide
      → ArePwqsOf s (e ∷ past) new × (new.activated ≡ newly_active s past e)
  pwqs_passed l new wide r passed =
      let p = passed.passes (is_below_max_active s (e ∷ past)) (are_below_max_active l wide r passed.widths) in
      let newly : filter (is_below_max_active s (e ∷ past)) l.waiting ≡ newly_active s past e =
      ap (filter (is_below_max_active s (e ∷ past))) r.waiting ∙ sym (newly_are s past e) in (
        record {
          items = passed.items ∙ r.items;
          many = p.many ∙ r.many;
          waiting = p.kept ∙ (ap (filter (has_none s (e ∷ past))) r.waiting ∙ sym (waiting_goes_on s past e));
          counts = λ q c here less.
              let inside = place_inside q c (length s.queues) (length l.counts) here less r.many in
              p.counts q c less inside
              ∙ (ap₂ (λ n ys. n + count_by (is_on q c) ys) (r.counts q c here less) newly
              ∙ sym (active_count_goes_on s past e q c));
        },
        p.activated ∙ newly,
      )
