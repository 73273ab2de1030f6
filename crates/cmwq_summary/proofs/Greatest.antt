-- What is open at a place, and the most that ever was, go on with each entry.
use Rattle.cmwq_model.specs.Prelude.{most_cpus}
use Rattle.std.proofs.Common.{◌≡◌, ◌⊎◌, ℕ, ◌+◌, ◌-◌, ◌*◌, ◌/◌, ◌%◌, ◌<◌, ◌≤◌, Bool, true, false, cond, ◌==◌, ◌&&◌, max}
use Rattle.std.proofs.Common.{List, [], ◌∷◌, length, get_or, set, eqb, filter, count_by, Option, Some, None}
use Rattle.std.proofs.Common.{option_to_list, refl, sym, ap, ap₂, ◌∙◌, subst, inl, inr, arith, replicate, length-set}
use Rattle.std.proofs.Common.{get_or-set_other, get_or-set_same}
use Rattle.std.proofs.lemmas.List.{length-replicate, get_or-replicate, get_or_past}
use Rattle.std.proofs.lemmas.List.Sums.{count_by-le-length}
use Rattle.std.proofs.lemmas.List.Filters.{sum_by-filter_both}
use Rattle.std.proofs.lemmas.Bool.{cases_lt, eqb-true, eqb-false}
use Rattle.std.specs.Prelude.{if◌then◌else◌, slice_index, option_map}
use Rattle.cmwq_lemmas.proofs.Lists.{count_by-cons, count_append}
use Rattle.cmwq_lemmas.proofs.Members.{found}
use Rattle.cmwq_model.specs.declared.entry.Entry.{Entry}
use Rattle.cmwq_model.specs.declared.record.Queueing.{Queueing}
use Rattle.cmwq_model.specs.Prelude.{Layout, is_at, is_layout, opening, queueings, still_open, IsLegal}
use Rattle.cmwq_theory_steps.specs.Endings.{survives, is_ended, ending}
use Rattle.cmwq_theory_steps.specs.Histories.{one}
use Rattle.cmwq_theory_steps.specs.Places.{is_on}
use Rattle.cmwq_theory_steps.proofs.Endings.{open_go_on}
use Rattle.cmwq_theory_steps.proofs.Ended.{one_ends}
use Rattle.cmwq_theory_steps.proofs.Limits.{two_for_each_item}
use Rattle.cmwq_refinement.proofs.PlacesFit.{opened_are_there, open_there}
use Rattle.cmwq_model.proofs.Limits.{limits_of}
use Rattle.cmwq_state.specs.Pwqs.{AreActiveCounts}
use Rattle.cmwq_summary.specs.Figures.{place_number}
use Rattle.cmwq_model.specs.Widths.{keeps_widths}
use Rattle.cmwq_summary.specs.Tallies.{with_one}
use Rattle.cmwq_summary.proofs.ActiveRises.{no_more_active}
use Rattle.cmwq_summary.proofs.Tables.{updated}
use Rattle.cmwq_summary.specs.Peaks.{peak, open_count_at, active_count_at, most_open_at, most_active_at, AreMeasured}
use Rattle.cmwq_summary.specs.Peaks.{AreRaised, raised_at, without_one}

-- ---- at first

pub none_measured : (measure : ℕ → List Entry → ℕ) (many : ℕ) → ((k : ℕ) → measure k [] ≡ 0)
    → AreMeasured measure many [] (replicate many 0)
none_measured measure many none =
    record { many_are = length-replicate many 0; each = λ k h. get_or-replicate many k 0 0 h ∙ sym (none k) }

pub none_open : (k : ℕ) → open_count_at k [] ≡ 0
unfolding queueings
none_open k = refl

pub none_most_open : (k : ℕ) → most_open_at k [] ≡ 0
unfolding peak queueings
none_most_open k = refl

pub none_most_active : (s : Layout) (k : ℕ) → most_active_at s k [] ≡ 0
unfolding peak queueings
none_most_active s k = refl

-- ---- whether a queueing is of the place with a number

at_place : (q c k : ℕ) → c < most_cpus → ((q == k / most_cpus) && (c == k % most_cpus)) ≡ (most_cpus * q + c == k)
at_place q c k h = by (q == k / most_cpus) (c == k % most_cpus) (most_cpus * q + c == k) refl refl refl
  where
    by : (a b d : Bool) → (q == k / most_cpus) ≡ a → (c == k % most_cpus) ≡ b → (most_cpus * q + c == k) ≡ d
        → (a && b) ≡ d
    by true true true qs cs is = refl
    by true true false qs cs is =
        absurd (eqb-false (most_cpus * q + c) k is (let x = eqb-true q (k / most_cpus) qs in let y =
        eqb-true c (k % most_cpus) cs in omega arith))
    by true false true qs cs is =
        absurd (eqb-false c (k % most_cpus) cs (let y = eqb-true (most_cpus * q + c) k is in omega arith))
    by true false false qs cs is = refl
    by false b true qs cs is =
        absurd (eqb-false q (k / most_cpus) qs (let y = eqb-true (most_cpus * q + c) k is in omega arith))
    by false b false qs cs is = refl

-- how many of one are of it
count_one : (k : ℕ) (o : Option Queueing) → ((x : Queueing) → o ≡ Some x → x.place.cpu.0 < most_cpus)
    → count_by (is_on (k / most_cpus) (k % most_cpus)) (option_to_list o) ≡ one (is_at (option_map place_number o) k)
count_one k None there = refl
count_one k (Some x) there =
    count_by-cons (is_on (k / most_cpus) (k % most_cpus)) x []
    ∙ ap (λ b. cond b 1 0 + 0) (at_place x.place.queue.0 x.place.cpu.0 k (there x refl)) ∙ by (place_number x == k)
  where
    by : (b : Bool) → cond b 1 0 + 0 ≡ one b
    by true = refl
    by false = refl

-- ---- one more and one less in a table

with_one_at : (counts : List ℕ) (o : Option ℕ) (k : ℕ) → k < length counts
    → slice_index (with_one counts o) k ≡ slice_index counts k + one (is_at o k)
with_one_at counts None k h = omega arith
with_one_at counts (Some j) k h = updated (λ n. n + 1) counts j k 0 h ∙ by (eqb j k)
  where
    by : (b : Bool) → (if b then slice_index counts k + 1 else slice_index counts k) ≡ slice_index counts k + one b
    by true = refl
    by false = omega arith

without_one_at : (counts : List ℕ) (o : Option ℕ) (k : ℕ) → k < length counts → slice_index (without_one counts o) k
    ≡ slice_index counts k - one (is_at o k)
without_one_at counts None k h = omega arith
without_one_at counts (Some j) k h = updated (λ n. n - 1) counts j k 0 h ∙ by (eqb j k)
  where
    by : (b : Bool) → (if b then slice_index counts k - 1 else slice_index counts k) ≡ slice_index counts k - one b
    by true = refl
    by false = omega arith

pub length_with_one : (counts : List ℕ) (o : Option ℕ) → length (with_one counts o) ≡ length counts
length_with_one counts None = refl
length_with_one counts (Some j) = length-set counts j _

pub length_without_one : (counts : List ℕ) (o : Option ℕ) → length (without_one counts o) ≡ length counts
length_without_one counts None = refl
length_without_one counts (Some j) = length-set counts j _

module _ (s : Layout) (past : List Entry) (e : Entry) (legal : IsLegal s (e ∷ past)) (inside : is_layout s ≡ true) where
  opened_there : (x : Queueing) → opening past e ≡ Some x → x.place.cpu.0 < most_cpus
  opened_there x is = let there = (opened_are_there s past e x legal is).cpu in let few = (limits_of s inside).cpus.1 in
      omega arith

  ended_there : (x : Queueing) → ending past e ≡ Some x → x.place.cpu.0 < most_cpus
  unfolding IsLegal
  ended_there x is = let there = (open_there s past x legal.2 (found (is_ended past e) (still_open past) x is).0).cpu in
      let few = (limits_of s inside).cpus.1 in omega arith

  -- what is open at a place after an entry
  open_goes_on : (k : ℕ) → open_count_at k (e ∷ past) + one (is_at (option_map place_number (ending past e)) k)
      ≡ open_count_at k past + one (is_at (option_map place_number (opening past e)) k)
  open_goes_on k =
      let on = is_on (k / most_cpus) (k % most_cpus) in
      let after = ap (count_by on) (open_go_on s past e legal)
      ∙ count_append on (filter (survives past e) (still_open past)) (option_to_list (opening past e)) in
      let opened = count_one k (opening past e) opened_there in
      let before =
      sym (sum_by-filter_both (survives past e) (is_ended past e) (λ y. refl) (λ y. cond (on y) 1 0)
      (still_open past)) in
      let ended : count_by on (filter (is_ended past e) (still_open past))
      ≡ one (is_at (option_map place_number (ending past e)) k) = ap (count_by on) (one_ends s past e legal)
      ∙ count_one k (ending past e) ended_there in
      let split : count_by on (still_open past) ≡ count_by on (filter (survives past e) (still_open past)) + count_by on
      (filter (is_ended past e) (still_open past)) = before in
      omega (arith, after, opened, split, ended)

  pub open_ones_go_on : (many : ℕ) (old : List ℕ) → AreMeasured open_count_at many past old
      → AreMeasured open_count_at many (e ∷ past)
      (without_one (with_one old (option_map place_number (opening past e)))
      (option_map place_number (ending past e)))
  open_ones_go_on many old are = record {
    many_are = length_without_one more (option_map place_number (ending past e)) ∙ long;
    each = λ k h.
        let there : k < length old = let m = are.many_are in omega arith in
        let first = with_one_at old (option_map place_number (opening past e)) k there in
        let second =
        without_one_at more (option_map place_number (ending past e)) k
        (rw (length_with_one old (option_map place_number (opening past e))) there) in
        let step = open_goes_on k in let was = are.each k h in
        omega (arith, first, second, step, was);
  }
    where
      more : List ℕ
      more = with_one old (option_map place_number (opening past e))

      long : length more ≡ many
      long = length_with_one old (option_map place_number (opening past e)) ∙ are.many_are

  -- ---- the most that ever was

  below_peak : (measure : List Entry → ℕ) (h : List Entry) → measure h ≤ peak measure h
  unfolding peak
  below_peak measure [] = omega arith
  below_peak measure (d ∷ h) = omega arith

  -- where the measure rises only where something is opened
  peaks_go_on : (measure : ℕ → List Entry → ℕ) (many : ℕ) (old now : List ℕ)
      → ((k : ℕ) → is_at (option_map place_number (opening past e)) k ≡ false → measure k (e ∷ past) ≤ measure k past)
      → AreMeasured (λ k. peak (measure k)) many past old → AreMeasured measure many (e ∷ past) now
      → AreMeasured (λ k. peak (measure k)) many (e ∷ past)
      (raised_at old (option_map place_number (opening past e)) now)
  unfolding peak
  peaks_go_on measure many old now falls are is_now = of (option_map place_number (opening past e)) refl
    where
      no_more : (k : ℕ) → is_at (option_map place_number (opening past e)) k ≡ false
          → max (peak (measure k) past) (measure k (e ∷ past)) ≡ peak (measure k) past
      no_more k none = let less = falls k none in let most = below_peak (measure k) past in omega (arith, less, most)

      of : (o : Option ℕ) → option_map place_number (opening past e) ≡ o
          → AreMeasured (λ k. peak (measure k)) many (e ∷ past) (raised_at old o now)
      of None is =
          record { many_are = are.many_are; each = λ k h. are.each k h ∙ sym (no_more k (ap (λ o. is_at o k) is)) }
      of (Some j) is =
          record {
            many_are = length-set old j _ ∙ are.many_are;
            each = λ k h. let long = are.many_are in
                updated (λ n. max n (slice_index now j)) old j k 0 (omega arith) ∙ by k h (eqb j k) refl;
          }
        where
          by : (k : ℕ) → k < many → (b : Bool) → eqb j k ≡ b
              → (if b then max (slice_index old k) (slice_index now j) else slice_index old k)
              ≡ max (peak (measure k) past) (measure k (e ∷ past))
          by k h true same = rw (eqb-true j k same) (ap₂ max (are.each k h) (is_now.each k h))
          by k h false other = are.each k h ∙ sym (no_more k (ap (λ o. is_at o k) is ∙ other))

  pub most_open_goes_on : (many : ℕ) (old open_now : List ℕ) → AreMeasured most_open_at many past old
      → AreMeasured open_count_at many (e ∷ past) open_now
      → AreMeasured most_open_at many (e ∷ past) (raised_at old (option_map place_number (opening past e)) open_now)
  most_open_goes_on many old open_now are now =
      peaks_go_on open_count_at many old open_now (λ k none. let step = open_goes_on k in
      let nothing : one (is_at (option_map place_number (opening past e)) k) ≡ 0 = ap one none in
      omega (arith, step, nothing)) are now

  -- the counts of the active ones are what is measured of them
  active_measured : (counts : List ℕ) → AreActiveCounts s (e ∷ past) counts
      → AreMeasured (active_count_at s) (most_cpus * length s.queues) (e ∷ past) counts
  active_measured counts active = record {
    many_are = active.many;
    each = λ k h.
        let place : most_cpus * (k / most_cpus) + k % most_cpus ≡ k = omega arith in
        subst (λ n. slice_index counts n ≡ active_count_at s k (e ∷ past)) place
        (active.each (k / most_cpus) (k % most_cpus) (omega arith) (omega arith));
  }

  -- as long as no width changes
  pub most_active_goes_on_opened : (old counts : List ℕ) → keeps_widths e.reply ≡ true
      → AreMeasured (most_active_at s) (most_cpus * length s.queues) past old → AreActiveCounts s (e ∷ past) counts
      → AreMeasured (most_active_at s) (most_cpus * length s.queues) (e ∷ past)
      (raised_at old (option_map place_number (opening past e)) counts)
  most_active_goes_on_opened old counts keeps are active =
      peaks_go_on (active_count_at s) (most_cpus * length s.queues) old counts
      (λ k none. no_more_active (k / most_cpus) (k % most_cpus) s past e legal keeps
      (count_one k (opening past e) opened_there ∙ ap one none))
      are (active_measured counts active)

  -- and at any entry
  pub most_active_goes_on : (old new counts : List ℕ)
      → AreMeasured (most_active_at s) (most_cpus * length s.queues) past old → AreActiveCounts s (e ∷ past) counts
      → AreRaised old new counts
      → AreMeasured (most_active_at s) (most_cpus * length s.queues) (e ∷ past) new
  unfolding peak
  most_active_goes_on old new counts are active raised = record {
    many_are = raised.many_are ∙ are.many_are;
    each = λ k h. let there : k < length old = let m = are.many_are in omega arith in
        raised.each k there ∙ ap₂ max (are.each k h) ((active_measured counts active).each k h);
  }

-- ---- there is room for one more

pub open_few : (s : Layout) (past : List Entry) (k : ℕ) → IsLegal s past → open_count_at k past ≤ 2 * s.items
open_few s past k legal = let few = count_by-le-length (is_on (k / most_cpus) (k % most_cpus)) (still_open past) in
    let all = two_for_each_item s past legal in omega arith

pub open_ones_few : (s : Layout) (past : List Entry) (counts : List ℕ) → IsLegal s past → is_layout s ≡ true
    → AreMeasured open_count_at (most_cpus * length s.queues) past counts → (k : ℕ)
    → slice_index counts k < 9223372036854775808
open_ones_few s past counts legal inside are k = of (cases_lt k (most_cpus * length s.queues))
  where
    of : (k < most_cpus * length s.queues) ⊎ (most_cpus * length s.queues ≤ k)
        → slice_index counts k < 9223372036854775808
    of (inl h) = let same = are.each k h in let few = open_few s past k legal in let items =
        (limits_of s inside).items.1 in omega arith
    of (inr h) = let long : length counts ≤ k = let m = are.many_are in omega arith in let none =
        get_or_past counts k 0 long in omega arith
