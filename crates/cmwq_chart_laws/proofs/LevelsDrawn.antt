-- Of each place one level covers an entry, and is drawn where its row shows something.
use Rattle.std.proofs.Common.{◌≡◌, ℕ, ◌+◌, ◌-◌, ◌<◌, ◌≤◌, ◌==◌, Bool, true, false, ◌&&◌, not, List, []}
use Rattle.std.proofs.Common.{◌∷◌, ◌++◌, cond, length, map, filter, flat_map, Option, Some, None}
use Rattle.std.proofs.Common.{option_to_list, IfSome, refl, sym, ap, ap₂, ◌∙◌, subst, arith, nat_lt, nat_le, eq-eqb}
use Rattle.std.proofs.Common.{eqb-true, leb-true, le-leb, ltb-true, ltb-false, append-nil}
use Rattle.std.proofs.Common.{◌⊎◌, ⊎_elim, inl, inr}
use Rattle.std.specs.Prelude.{if◌then◌else◌, IsTrue}
use Rattle.std.specs.Option.{option_map_or}
use Rattle.std.specs.List.{AllByRecursion, range_with_len}
use Rattle.std.proofs.lemmas.Bool.{and_parts}
use Rattle.std.proofs.lemmas.List.Elements.{filter-append}
use Rattle.cmwq_lemmas.proofs.Lists.{All_each, All_map, all_mapped}
use Rattle.cmwq_lemmas.proofs.Members.{In, any_in, contained_in, in_any, in_filter, filter_in, of_in}
use Rattle.cmwq_lemmas.proofs.Truth.{and_false, same_bools}
use Rattle.cmwq_lemmas.proofs.Passing.{all_kept, filter_mapped}
use Rattle.cmwq_model.specs.declared.entry.Entry.{Entry}
use Rattle.cmwq_model.specs.declared.id.Who.{Who}
use Rattle.cmwq_model.specs.declared.id.Who.TheVariants.{Caller, Worker}
use Rattle.cmwq_model.specs.declared.record.Place.{Place}
use Rattle.cmwq_model.specs.Prelude.{IsLegal, Layout, is_layout, past_of, queueings}
use Rattle.cmwq_chart.specs.declared.levels.Level.{Level}
use Rattle.cmwq_chart.specs.Levels.{all_places, changes_level, has_queueings, height_at, level_ended, level_from}
use Rattle.cmwq_chart.specs.Levels.{level_until, levels_ended, levels_ended_by, levels_left, levels_of, open_at}
use Rattle.cmwq_chart.specs.Levels.{place_on}
use Rattle.cmwq_chart.specs.Levels.{places_of, places_of_queue}
use Rattle.cmwq_chart.specs.Shapes.{places_in}
use Rattle.cmwq_chart_text.specs.declared.figures.Figure.{Figure}
use Rattle.cmwq_chart_text.specs.declared.figures.Figure.TheVariants as figure
use Rattle.cmwq_chart_text.specs.declared.figures.Row.TheVariants as row
use Rattle.cmwq_chart_text.specs.declared.page.Page.{Page}
use Rattle.cmwq_chart_text.specs.declared.page.Window.{Window}
use Rattle.cmwq_chart_text.specs.Bands.{stands_in}
use Rattle.cmwq_chart_text.specs.Drawings.{shows}
use Rattle.cmwq_chart_text.specs.Figures.{figure_from, figure_row, figure_to, is_flat, row_number, who_row}
use Rattle.cmwq_chart.specs.Bars.{bars_of}
use Rattle.cmwq_chart.specs.CallerWaits.{callers_of, caller_waits_of, wait_signs_of}
use Rattle.cmwq_chart.specs.Lanes.{lanes_of}
use Rattle.cmwq_chart.specs.Signs.{signs_of}
use Rattle.cmwq_chart.specs.Sleeps.{sleeps_of}
use Rattle.cmwq_chart_laws.specs.Charts.{chart_figures, chart_page, chart_parts}
use Rattle.cmwq_chart_laws.specs.Drawn.{AreOfRows, IsRow, IsShownIn, drawn_in, is_of_row, standing_in}
use Rattle.cmwq_chart_laws.specs.Standing.{HasEntryIn}
use Rattle.cmwq_chart_laws.proofs.ChartRows.{charts_are_of_rows, levels_rows, limits, places_rows}
use Rattle.cmwq_chart_laws.proofs.RowNumbers.{rows_are_told_apart}
use Rattle.cmwq_chart_laws.proofs.Shown.{figures_are_drawn}
use Rattle.cmwq_chart_laws.proofs.StandIn.{between_ends, entry_of, figures_stand_with_entries}
use Rattle.cmwq_chart_laws.specs.Levels.{HasOneLevelDrawn, LevelsAreDrawn, is_level_over}
use Rattle.cmwq_output_laws.proofs.LevelsStand.{changed_later, from_within, levels_are_true}
use Rattle.cmwq_output_laws.specs.LevelLaws.{Covers, IsTrueAfter, IsTrueWhereItIs}
use Rattle.cmwq_output_laws.specs.BarLaws.{StandsIn}
use Rattle.cmwq_chart_laws.proofs.Folded.{only, picked, same_if}
use Rattle.cmwq_chart_laws.proofs.Meant.{range_in_it}
use Rattle.cmwq_chart_laws.proofs.Rows.{All_flat_map}
use Rattle.cmwq_chart_laws.proofs.Once.{filters_commute, only_levels}
use Rattle.cmwq_chart_laws.proofs.Tickets.{same_flat}

-- ---- of one place, one level covers an entry

abbrev over : ℕ → Level → Bool
over at l = nat_le l.from at && option_map_or (λ last. nat_le at last) l.to true

abbrev alone : Place → List Place
alone p = p ∷ []

le-leb-not : (a b : ℕ) → b < a → nat_le a b ≡ false
le-leb-not a b less = by (nat_le a b) refl
  where
    by : (c : Bool) → nat_le a b ≡ c → c ≡ false
    by false is = refl
    by true is = let over = leb-true a b is in absurd (omega arith)

record HasEnded (s : Layout) (past : List Entry) (p : Place) (at : ℕ) : Type 0 where
  level : Level
  covers : filter (over at) (levels_ended s past (alone p)) ≡ level ∷ []

ended_cover : (s : Layout) (past : List Entry) (p : Place) (at : ℕ)
    → (at < level_from s past p → HasEnded s past p at)
    × (level_from s past p ≤ at → filter (over at) (levels_ended s past (alone p)) ≡ [])
unfolding levels_ended level_from
ended_cover s [] p at = ((λ less. absurd (omega arith)), (λ h. refl))
ended_cover s (a ∷ past) p at =
    by (ended_cover s past p at) (changes_level s past a p) refl
  where
    whole : (b : Bool) → changes_level s past a p ≡ b
        → filter (over at) (levels_ended s past (alone p) ++ (option_to_list (level_ended s past a p) ++ []))
        ≡ filter (over at) (levels_ended s past (alone p))
        ++ (if b then filter (over at) (level_until s past (Some (length past - 1)) p ∷ []) else [])
    whole b is =
        filter-append (over at) (levels_ended s past (alone p)) (option_to_list (level_ended s past a p) ++ [])
        ∙ ap (λ l. filter (over at) (levels_ended s past (alone p)) ++ filter (over at) l)
        (append-nil (option_to_list (level_ended s past a p)))
        ∙ ap (λ c. filter (over at) (levels_ended s past (alone p)) ++ filter (over at)
        (option_to_list (if c then Some (level_until s past (Some (length past - 1)) p) else None))) is
        ∙ ap (λ l. filter (over at) (levels_ended s past (alone p)) ++ l) (split b)
      where
        split : (b : Bool) → filter (over at)
            (option_to_list (if b then Some (level_until s past (Some (length past - 1)) p) else None))
            ≡ (if b then filter (over at) (level_until s past (Some (length past - 1)) p ∷ []) else [])
        split true = refl
        split false = refl

    by : (at < level_from s past p → HasEnded s past p at)
        × (level_from s past p ≤ at → filter (over at) (levels_ended s past (alone p)) ≡ [])
        → (b : Bool) → changes_level s past a p ≡ b
        → (at < (if changes_level s past a p then length past else level_from s past p) → HasEnded s (a ∷ past) p at)
        × ((if changes_level s past a p then length past else level_from s past p) ≤ at
        → filter (over at) (levels_ended s (a ∷ past) (alone p)) ≡ [])
    by earlier false is =
        let same : (if changes_level s past a p then length past else level_from s past p) ≡ level_from s past p =
        ap (λ c. if c then length past else level_from s past p) is in (
          (λ less. let h = earlier.0 (omega arith) in record {
            level = h.level;
            covers = whole false is ∙ append-nil (filter (over at) (levels_ended s past (alone p))) ∙ h.covers;
          }),
          (λ begun. whole false is ∙ append-nil (filter (over at) (levels_ended s past (alone p)))
              ∙ earlier.1 (omega arith)),
        )
    by earlier true is =
        let same : (if changes_level s past a p then length past else level_from s past p) ≡ length past =
        ap (λ c. if c then length past else level_from s past p) is in
        let some = changed_later (length past) (height_at s past p) (height_at s (a ∷ past) p) is in
        let within = from_within s past p in (
          (λ less. let l : at < length past = omega arith in
              here some within earlier l (nat_lt at (level_from s past p)) refl (whole true is)),
          (λ late. whole true is
              ∙ ap₂ (λ k l. k ++ l) (earlier.1 (omega arith))
              (let high : nat_le at (length past - 1) ≡ false = le-leb-not at (length past - 1) (omega arith) in
              ap (λ b. cond (nat_le (level_from s past p) at && b)
              (level_until s past (Some (length past - 1)) p ∷ []) []) high
              ∙ ap (λ b. cond b (level_until s past (Some (length past - 1)) p ∷ []) [])
              (and_false (nat_le (level_from s past p) at)))),
        )
      where
        here : 0 < length past → level_from s past p ≤ length past - 1
            → (at < level_from s past p → HasEnded s past p at)
            × (level_from s past p ≤ at → filter (over at) (levels_ended s past (alone p)) ≡ [])
            → at < length past → (b : Bool) → nat_lt at (level_from s past p) ≡ b
            → filter (over at) (levels_ended s past (alone p) ++ (option_to_list (level_ended s past a p) ++ []))
            ≡ filter (over at) (levels_ended s past (alone p))
            ++ filter (over at) (level_until s past (Some (length past - 1)) p ∷ [])
            → HasEnded s (a ∷ past) p at
        here some within earlier less true k parts =
            let before : at < level_from s past p = ltb-true at (level_from s past p) k in
            let h = earlier.0 before in
            record {
              level = h.level;
              covers = parts
                  ∙ ap₂ (λ k l. k ++ l) h.covers
                  (ap (λ b. cond (b && nat_le at (length past - 1))
                  (level_until s past (Some (length past - 1)) p ∷ []) [])
                  (le-leb-not (level_from s past p) at before));
            }
        here some within earlier less false k parts =
            let begun : level_from s past p ≤ at = ltb-false at (level_from s past p) k in
            record {
              level = level_until s past (Some (length past - 1)) p;
              covers = parts
                  ∙ ap₂ (λ k l. k ++ l) (earlier.1 begun)
                  (ap₂ (λ b c. cond (b && c) (level_until s past (Some (length past - 1)) p ∷ []) [])
                  (le-leb (level_from s past p) at begun)
                  (le-leb at (length past - 1) (let m : at ≤ length past - 1 = omega arith in m)));
            }

record HasOne (s : Layout) (past : List Entry) (p : Place) (at : ℕ) : Type 0 where
  level : Level
  covers : filter (over at) (levels_of s past (alone p)) ≡ level ∷ []

one_level : (s : Layout) (past : List Entry) (p : Place) (at : ℕ) → HasOne s past p at
one_level s past p at = by (nat_lt at (level_from s past p)) refl
  where
    both : filter (over at) (levels_of s past (alone p))
        ≡ filter (over at) (levels_ended s past (alone p)) ++ filter (over at) (level_until s past None p ∷ [])
    both = filter-append (over at) (levels_ended s past (alone p)) (level_until s past None p ∷ [])

    by : (b : Bool) → nat_lt at (level_from s past p) ≡ b → HasOne s past p at
    by true is =
        let less = ltb-true at (level_from s past p) is in
        let h = (ended_cover s past p at).0 less in
        record {
          level = h.level;
          covers = both
              ∙ ap₂ (λ k l. k ++ l) h.covers
              (ap (λ b. cond (b && true) (level_until s past None p ∷ []) [])
              (le-leb-not (level_from s past p) at less));
        }
    by false is =
        let begun = ltb-false at (level_from s past p) is in
        record {
          level = level_until s past None p;
          covers = both
              ∙ ap₂ (λ k l. k ++ l) ((ended_cover s past p at).1 begun)
              (ap (λ b. cond (b && true) (level_until s past None p ∷ []) []) (le-leb (level_from s past p) at begun));
        }

-- ---- the levels of one place are among all

abbrev same_as : Place → Place → Bool
same_as p q = (q.queue.0 == p.queue.0) && (q.cpu.0 == p.cpu.0)

abbrev level_as : Place → Level → Bool
level_as p l = same_as p l.place

filter_flat : {X Y : Type 0} (test : Y → Bool) (keep : X → Bool) (f : X → List Y)
    → ((x : X) → filter test (f x) ≡ (if keep x then f x else [])) → (xs : List X)
    → filter test (flat_map f xs) ≡ flat_map f (filter keep xs)
filter_flat test keep f each [] = refl
filter_flat test keep f each (x ∷ xs) =
    filter-append test (f x) (flat_map f xs) ∙ ap₂ (λ k l. k ++ l) (each x) (filter_flat test keep f each xs)
    ∙ by (keep x)
  where
    by : (b : Bool) → (if b then f x else []) ++ flat_map f (filter keep xs)
        ≡ flat_map f (cond b (x ∷ filter keep xs) (filter keep xs))
    by true = refl
    by false = refl

of_ended : (s : Layout) (past : List Entry) (a : Entry) (p : Place) (places : List Place)
    → filter (level_as p) (levels_ended_by s past a places) ≡ levels_ended_by s past a (filter (same_as p) places)
of_ended s past a p places =
    filter_flat (level_as p) (same_as p) (λ q. option_to_list (level_ended s past a q))
    (λ q. by q (changes_level s past a q)) places
  where
    by : (q : Place) (b : Bool)
        → filter (level_as p) (option_to_list (if b then Some (level_until s past (Some (length past - 1)) q)
        else None))
        ≡ (if same_as p q then option_to_list (if b then Some (level_until s past (Some (length past - 1)) q) else None)
        else [])
    by q true = refl
    by q false = sym (same_if (same_as p q) [])

levels_ended_of : (s : Layout) (past : List Entry) (p : Place) (places : List Place)
    → filter (level_as p) (levels_ended s past places) ≡ levels_ended s past (filter (same_as p) places)
unfolding levels_ended
levels_ended_of s [] p places = refl
levels_ended_of s (a ∷ past) p places =
    filter-append (level_as p) (levels_ended s past places) (levels_ended_by s past a places)
    ∙ ap₂ (λ k l. k ++ l) (levels_ended_of s past p places) (of_ended s past a p places)

levels_as : (s : Layout) (past : List Entry) (p : Place) (places : List Place)
    → filter (level_as p) (levels_of s past places) ≡ levels_of s past (filter (same_as p) places)
levels_as s past p places =
    filter-append (level_as p) (levels_ended s past places) (levels_left s past places)
    ∙ ap₂ (λ k l. k ++ l) (levels_ended_of s past p places)
    (filter_mapped (level_until s past None) (level_as p) (same_as p) places
    (All_each (λ q. level_as p (level_until s past None q) ≡ same_as p q) places (λ q. refl)))

-- ---- each place that is shown is so once

pub filter_of_flat : {X Y : Type 0} (test : Y → Bool) (f : X → List Y) (xs : List X)
    → filter test (flat_map f xs) ≡ flat_map (λ x. filter test (f x)) xs
filter_of_flat test f [] = refl
filter_of_flat test f (x ∷ xs) =
    filter-append test (f x) (flat_map f xs) ∙ ap (λ l. filter test (f x) ++ l) (filter_of_flat test f xs)

filter_of_map : {X Y : Type 0} (test : Y → Bool) (f : X → Y) (xs : List X)
    → filter test (map f xs) ≡ flat_map (λ x. if test (f x) then f x ∷ [] else []) xs
filter_of_map test f [] = refl
filter_of_map test f (x ∷ xs) = by (filter_of_map test f xs) (test (f x))
  where
    by : filter test (map f xs) ≡ flat_map (λ z. if test (f z) then f z ∷ [] else []) xs → (b : Bool)
        → cond b (f x ∷ filter test (map f xs)) (filter test (map f xs))
        ≡ (if b then f x ∷ [] else []) ++ flat_map (λ z. if test (f z) then f z ∷ [] else []) xs
    by rest true = ap (λ l. f x ∷ l) rest
    by rest false = rest

one_place : (s : Layout) (p : Place) → p.queue.0 < length s.queues → p.cpu.0 < s.cpus
    → filter (same_as p) (all_places s) ≡ p ∷ []
one_place s p queue cpu =
    filter_of_flat (same_as p) (places_of_queue s) (range_with_len 0 (length s.queues))
    ∙ same_flat (λ q. filter (same_as p) (places_of_queue s q)) (only p.queue.0 (λ q. place_on q p.cpu.0 ∷ []))
    (range_with_len 0 (length s.queues)) of_queue
    ∙ picked p.queue.0 (λ q. place_on q p.cpu.0 ∷ []) 0 (length s.queues) (omega arith) (omega arith)
  where
    in_queue : (q : ℕ) (b : Bool) → (q == p.queue.0) ≡ b
        → flat_map (λ c. if b && (c == p.cpu.0) then place_on q c ∷ [] else []) (range_with_len 0 s.cpus)
        ≡ (if b then place_on q p.cpu.0 ∷ [] else [])
    in_queue q true is = picked p.cpu.0 (λ c. place_on q c ∷ []) 0 s.cpus (omega arith) (omega arith)
    in_queue q false is = nothing (range_with_len 0 s.cpus)
      where
        nothing : (is : List ℕ) → flat_map (λ (c : ℕ). if false then place_on q c ∷ [] else []) is ≡ []
        nothing [] = refl
        nothing (c ∷ is) = nothing is

    of_queue : (q : ℕ) → filter (same_as p) (places_of_queue s q) ≡ only p.queue.0 (λ q. place_on q p.cpu.0 ∷ []) q
    of_queue q =
        filter_of_map (same_as p) (place_on q) (range_with_len 0 s.cpus) ∙ in_queue q (q == p.queue.0) refl

-- a place that is shown is one of the shape
place_there : (s : Layout) → AllByRecursion (λ (p : Place). (p.queue.0 < length s.queues) × (p.cpu.0 < s.cpus))
    (all_places s)
place_there s =
    All_flat_map (λ (p : Place). (p.queue.0 < length s.queues) × (p.cpu.0 < s.cpus)) (places_of_queue s)
    (range_with_len 0 (length s.queues))
    (All_map (λ i. (0 ≤ i) × (i < 0 + length s.queues))
    (λ q. AllByRecursion (λ (p : Place). (p.queue.0 < length s.queues) × (p.cpu.0 < s.cpus)) (places_of_queue s q))
    (range_with_len 0 (length s.queues))
    (λ q h. let less = h.1 in
    all_mapped (place_on q) (λ (p : Place). (p.queue.0 < length s.queues) × (p.cpu.0 < s.cpus))
    (range_with_len 0 s.cpus)
    (All_map (λ i. (0 ≤ i) × (i < 0 + s.cpus)) (λ i. (q < length s.queues) × (i < s.cpus)) (range_with_len 0 s.cpus)
    (λ i k. let under = k.1 in (omega arith, omega arith)) (range_in_it 0 s.cpus)))
    (range_in_it 0 (length s.queues)))

shown_once : (s : Layout) (entries : List Entry) (p : Place) → In p (places_in s entries)
    → filter (same_as p) (places_in s entries) ≡ p ∷ []
unfolding places_of
shown_once s entries p i =
    let k = in_filter (has_queueings (queueings (past_of entries))) (all_places s) p i in
    let there = of_in (λ (q : Place). (q.queue.0 < length s.queues) × (q.cpu.0 < s.cpus)) (all_places s) p
    (place_there s)
    k.0 in
    filters_commute (same_as p) (has_queueings (queueings (past_of entries))) (all_places s)
    ∙ ap (filter (has_queueings (queueings (past_of entries)))) (one_place s p there.0 there.1)
    ∙ ap (λ b. cond b (p ∷ []) []) k.1

-- so of all levels one is of the place and covers the entry
pub one_of_place : (s : Layout) (entries : List Entry) (p : Place) (at : ℕ) → In p (places_in s entries)
    → (l : Level) × (filter (level_as p) (filter (over at) (levels_of s (past_of entries) (places_in s entries)))
    ≡ l ∷ [])
one_of_place s entries p at i =
    let h : HasOne s (past_of entries) p at = one_level s (past_of entries) p at in (
      h.level,
      filters_commute (level_as p) (over at) (levels_of s (past_of entries) (places_in s entries))
          ∙ ap (filter (over at)) (levels_as s (past_of entries) p (places_in s entries)
          ∙ ap (levels_of s (past_of entries)) (shown_once s entries p i))
          ∙ h.covers,
    )

-- ---- what is drawn in the row of a place

same_place : (p q : Place) → same_as p q ≡ true → q ≡ p
same_place p q h =
    let k = and_parts (q.queue.0 == p.queue.0) (q.cpu.0 == p.cpu.0) h in
    ap₂ place_on (eqb-true q.queue.0 p.queue.0 k.0) (eqb-true q.cpu.0 p.cpu.0 k.1)

-- places of rows have one number where they are one
row_as : (p q : Place) → IsRow (row.Place p) → IsRow (row.Place q)
    → (row_number (row.Place q) == row_number (row.Place p)) ≡ same_as p q
row_as p q is other =
    let a : p.cpu.0 < 256 = is.1 in let b : q.cpu.0 < 256 = other.1 in
    same_bools (row_number (row.Place q) == row_number (row.Place p)) (same_as p q)
    (λ h. let same = eqb-true (row_number (row.Place q)) (row_number (row.Place p)) h in
    ap₂ (λ x y. x && y) (eq-eqb q.queue.0 p.queue.0 (omega arith)) (eq-eqb q.cpu.0 p.cpu.0 (omega arith)))
    (λ h. let k = and_parts (q.queue.0 == p.queue.0) (q.cpu.0 == p.cpu.0) h in
    let c = eqb-true q.queue.0 p.queue.0 k.0 in let d = eqb-true q.cpu.0 p.cpu.0 k.1 in
    eq-eqb (row_number (row.Place q)) (row_number (row.Place p)) (omega arith))

over_covers : (at : ℕ) (l : Level) → over at l ≡ true → Covers l at
over_covers at l h =
    let k = and_parts (nat_le l.from at) (option_map_or (λ last. nat_le at last) l.to true) h in
    record { begun = leb-true l.from at k.0; not_over = by l.to k.1 }
  where
    by : (o : Option ℕ) → option_map_or (λ last. nat_le at last) o true ≡ true → IfSome o (λ last. at ≤ last)
    by None k = tt
    by (Some last) k = leb-true at last k

covers_over : (at : ℕ) (l : Level) → l.from ≤ at → IfSome l.to (λ last. at ≤ last) → over at l ≡ true
covers_over at l begun not_over = ap₂ (λ x y. x && y) (le-leb l.from at begun) (by l.to not_over)
  where
    by : (o : Option ℕ) → IfSome o (λ last. at ≤ last) → option_map_or (λ last. nat_le at last) o true ≡ true
    by None k = refl
    by (Some last) k = le-leb at last k

module _ (w : Window) (s : Layout) (entries : List Entry) (is : IsTrue (is_layout s))
    (legal : IsLegal s (past_of entries))
    (p : Place) (here : In p (places_in s entries)) where
  abbrev page : Page
  page = chart_page w entries

  abbrev figures : List Figure
  figures = chart_figures s entries

  abbrev levels : List Level
  levels = levels_of s (past_of entries) (places_in s entries)

  rows : AreOfRows (chart_figures s entries)
  rows = charts_are_of_rows w s entries is legal

  of_row : IsRow (row.Place p)
  of_row = of_in (λ (q : Place). IsRow (row.Place q)) (places_in s entries) p (places_rows s (limits s is) entries) here

  -- the figures of the row that cover an entry
  row_over : (at : ℕ) → filter (is_of_row (row.Place p)) (filter (is_level_over at) (chart_figures s entries))
      ≡ figure.Level (one_of_place s entries p at here).0 ∷ []
  row_over at =
      ap (filter (is_of_row (row.Place p)))
      (only_levels (is_level_over at) (caller_waits_of (past_of entries) (callers_of s entries))
      (wait_signs_of (past_of entries) (callers_of s entries)) (bars_of (past_of entries))
      (sleeps_of (past_of entries) (lanes_of s entries)) (signs_of (past_of entries)) levels (λ y. refl) (λ y. refl)
      (λ y. refl) (λ y. refl) (λ y. refl))
      ∙ filter_mapped figure.Level (is_of_row (row.Place p)) (level_as p) (filter (over at) levels)
      (All_map (λ (l : Level). IsRow (row.Place l.place))
      (λ l. is_of_row (row.Place p) (figure.Level l) ≡ level_as p l) (filter (over at) levels)
      (λ l k. row_as p l.place of_row k)
      (all_kept (λ (l : Level). IsRow (row.Place l.place)) (over at) levels
      (levels_rows s (limits s is) (past_of entries) (places_in s entries) (places_rows s (limits s is) entries))))
      ∙ ap (map figure.Level) (one_of_place s entries p at here).1

  -- one that is drawn, and covers the entry, is this
  it_is : (at : ℕ) (f : Figure) → In f (chart_figures s entries) → is_of_row (row.Place p) f ≡ true
      → is_level_over at f ≡ true → figure.Level (one_of_place s entries p at here).0 ≡ f
  it_is at f i r o =
      ⊎_elim (λ same. same) (λ none. absurd none)
      (subst (λ l. In f l) (row_over at)
      (filter_in (is_of_row (row.Place p)) (filter (is_level_over at) (chart_figures s entries)) f
      (filter_in (is_level_over at) (chart_figures s entries) f i o) r))

  module _ (band : ℕ) (at : ℕ) (shown : IsShownIn (chart_page w entries) band at) where
    abbrev own : List Figure
    own = standing_in (chart_page w entries) (chart_figures s entries) band (row.Place p)

    over_own : (l : Level) → filter (is_of_row (row.Place p)) (filter (is_level_over at) (chart_figures s entries))
        ≡ figure.Level l ∷ []
        → filter (is_level_over at) own
        ≡ cond (stands_in (chart_page w entries) band (figure.Level l)) (figure.Level l ∷ []) []
    over_own l is_it =
        filters_commute (is_level_over at) (is_of_row (row.Place p))
        (filter (stands_in (chart_page w entries) band) (chart_figures s entries))
        ∙ ap (filter (is_of_row (row.Place p)))
        (filters_commute (is_level_over at) (stands_in (chart_page w entries) band) (chart_figures s entries))
        ∙ filters_commute (is_of_row (row.Place p)) (stands_in (chart_page w entries) band)
        (filter (is_level_over at) (chart_figures s entries))
        ∙ ap (filter (stands_in (chart_page w entries) band)) is_it

    module _ (l : Level) (is_it : filter (is_of_row (row.Place p)) (filter (is_level_over at) (chart_figures s entries))
        ≡ figure.Level l ∷ []) where
      its_tests : In (figure.Level l) (chart_figures s entries) × (is_of_row (row.Place p) (figure.Level l) ≡ true)
          × (is_level_over at (figure.Level l) ≡ true)
      its_tests =
          let a = in_filter (is_of_row (row.Place p)) (filter (is_level_over at) (chart_figures s entries))
          (figure.Level l) (subst (λ k. In (figure.Level l) k) (sym is_it) (inl refl)) in
          let b = in_filter (is_level_over at) (chart_figures s entries) (figure.Level l) a.0 in
          (b.0, a.1, b.1)

      its_place : l.place ≡ p
      its_place =
          let k : IsRow (row.Place l.place) = of_in (λ f. IsRow (figure_row f)) (chart_figures s entries)
          (figure.Level l)
          rows its_tests.0 in
          same_place p l.place (sym (row_as p l.place of_row k) ∙ its_tests.1)

      its_covers : Covers l at
      its_covers = over_covers at l its_tests.2

      its_entry : HasEntryIn (chart_page w entries) (figure.Level l) band
      its_entry =
          let c = its_covers in
          record { at = at; begun = c.begun; not_over = c.not_over; is_shown = shown }

      in_own : stands_in (chart_page w entries) band (figure.Level l) ≡ true → In (figure.Level l) own
      in_own stands =
          filter_in (is_of_row (row.Place p)) (filter (stands_in (chart_page w entries) band) (chart_figures s entries))
          (figure.Level l)
          (filter_in (stands_in (chart_page w entries) band) (chart_figures s entries) (figure.Level l) its_tests.0
          stands)
          its_tests.1

      -- a figure in the row of a place is a level
      over_of : (at : ℕ) (g : Figure) → is_of_row (row.Place p) g ≡ true → IsRow (figure_row g) → figure_from g ≤ at
          → IfSome (figure_to g) (λ last. at ≤ last) → is_level_over at g ≡ true
      over_of at (figure.Level m) r k begun not_over = covers_over at m begun not_over
      over_of at (figure.Wait x) r k begun not_over =
          let same : row.Caller x.caller ≡ row.Place p = rows_are_told_apart (row.Caller x.caller) (row.Place p) k
          of_row
          (eqb-true (row_number (row.Caller x.caller)) (row_number (row.Place p)) r) in
          cc
      over_of at (figure.WaitSign x) r k begun not_over =
          let same : row.Caller x.caller ≡ row.Place p = rows_are_told_apart (row.Caller x.caller) (row.Place p) k
          of_row
          (eqb-true (row_number (row.Caller x.caller)) (row_number (row.Place p)) r) in
          cc
      over_of at (figure.Bar x) r k begun not_over =
          let same : row.Worker x.worker ≡ row.Place p = rows_are_told_apart (row.Worker x.worker) (row.Place p) k
          of_row
          (eqb-true (row_number (row.Worker x.worker)) (row_number (row.Place p)) r) in
          cc
      over_of at (figure.Sleep x) r k begun not_over =
          let same : row.Worker x.worker ≡ row.Place p = rows_are_told_apart (row.Worker x.worker) (row.Place p) k
          of_row
          (eqb-true (row_number (row.Worker x.worker)) (row_number (row.Place p)) r) in
          cc
      over_of at (figure.Sign x) r k begun not_over = absurd (by x.who r k)
        where
          by : (who : Who) → (row_number (who_row who) == row_number (row.Place p)) ≡ true → IsRow (who_row who) → ⊥
          by (Caller c) r k =
              let same : row.Caller c ≡ row.Place p = rows_are_told_apart (row.Caller c) (row.Place p) k of_row
              (eqb-true (row_number (row.Caller c)) (row_number (row.Place p)) r) in
              cc
          by (Worker v) r k =
              let same : row.Worker v ≡ row.Place p = rows_are_told_apart (row.Worker v) (row.Place p) k of_row
              (eqb-true (row_number (row.Worker v)) (row_number (row.Place p)) r) in
              cc

      -- where a flat level has all entries of a band, its row shows nothing there
      no_other : is_flat (figure.Level l) ≡ true
          → stands_in (chart_page w entries) band (figure.Level l) ≡ false → shows own ≡ true → ⊥
      no_other flat stands some =
          let one = in_any (λ (f : Figure). not (is_flat f)) own some in
          let a = in_filter (is_of_row (row.Place p))
          (filter (stands_in (chart_page w entries) band) (chart_figures s entries)) one.0 one.1 in
          let b = in_filter (stands_in (chart_page w entries) band) (chart_figures s entries) one.0 a.0 in
          let h : HasEntryIn (chart_page w entries) one.0 band = entry_of (chart_page w entries) one.0 band b.1 in
          let ends = between_ends (chart_page w entries) (figure.Level l) band h.at flat stands its_entry h.is_shown in
          let k : IsRow (figure_row one.0) = of_in (λ f. IsRow (figure_row f)) (chart_figures s entries) one.0 rows b.0
          in
          let this = it_is h.at (figure.Level l) its_tests.0 its_tests.1 (covers_over h.at l ends.0 ends.1) in
          let that = it_is h.at one.0 b.0 a.1 (over_of h.at one.0 a.1 k h.begun h.not_over) in
          let clash : true ≡ false =
          sym one.2 ∙ ap (λ f. not (is_flat f)) (sym that ∙ this) ∙ ap not flat in
          cc

      drawn_is : drawn_in band (row.Place p) (chart_parts w s entries) ≡ (if shows own then own else [])
      drawn_is = figures_are_drawn (chart_page w entries) (chart_figures s entries) band (row.Place p) rows of_row

      stands_or_flat : is_flat (figure.Level l) ≡ false → stands_in (chart_page w entries) band (figure.Level l) ≡ true
      stands_or_flat solid = (figures_stand_with_entries (chart_page w entries) (figure.Level l) band solid).1 its_entry

      once_or_none : (filter (is_level_over at) (drawn_in band (row.Place p) (chart_parts w s entries))
          ≡ figure.Level l ∷ [])
          ⊎ ((drawn_in band (row.Place p) (chart_parts w s entries) ≡ []) × (l.height.open_count ≡ 0))
      once_or_none =
          by (shows own) refl (stands_in (chart_page w entries) band (figure.Level l)) refl (is_flat (figure.Level l))
          refl
        where
          by : (a : Bool) → shows own ≡ a → (b : Bool) → stands_in (chart_page w entries) band (figure.Level l) ≡ b
              → (c : Bool) → is_flat (figure.Level l) ≡ c
              → (filter (is_level_over at) (drawn_in band (row.Place p) (chart_parts w s entries))
              ≡ figure.Level l ∷ [])
              ⊎ ((drawn_in band (row.Place p) (chart_parts w s entries) ≡ []) × (l.height.open_count ≡ 0))
          by true some true stands c flat =
              inl (ap (filter (is_level_over at)) drawn_is
              ∙ ap (λ x. filter (is_level_over at) (if x then own else [])) some ∙ over_own l is_it
              ∙ ap (λ x. cond x (figure.Level l ∷ []) []) stands)
          by true some false stands true flat = absurd (no_other flat stands some)
          by true some false stands false flat =
              let clash : true ≡ false = sym (stands_or_flat flat) ∙ stands in cc
          by false none b stands true flat =
              inr (drawn_is ∙ ap (λ x. if x then own else []) none, eqb-true l.height.open_count 0 flat)
          by false none b stands false flat =
              let some : shows own ≡ true =
              any_in (λ f. not (is_flat f)) own (figure.Level l) (in_own (stands_or_flat flat)) (ap not flat) in
              let clash : true ≡ false = sym some ∙ none in cc

      in_levels : In l (levels_of s (past_of entries) (places_in s entries))
          → (e : Entry) (before : List Entry) → StandsIn (past_of entries) e before → length before ≡ at
          → HasOneLevelDrawn w s entries p band e before
      in_levels i e before stands place =
          let true_there : IsTrueAfter s (e ∷ before) l =
          of_in (IsTrueWhereItIs s (past_of entries)) (levels_of s (past_of entries) (places_in s entries)) l
          (levels_are_true s (past_of entries) (places_in s entries)) i e before stands
          (subst (Covers l) (sym place) its_covers) in
          record {
            level = l;
            of_place = its_place;
            covers = subst (Covers l) (sym place) its_covers;
            is_true = true_there;
            drawn = subst (λ (n : ℕ). (filter (is_level_over n) (drawn_in band (row.Place p) (chart_parts w s entries))
                ≡ figure.Level l ∷ [])
                ⊎ ((drawn_in band (row.Place p) (chart_parts w s entries) ≡ []) × (open_at (e ∷ before) p ≡ 0)))
                (sym place)
                (⊎_elim (λ once. inl once)
                (λ none. inr (none.0, sym (true_there.opens ∙ ap (open_at (e ∷ before)) its_place) ∙ none.1))
                once_or_none);
          }

pub levels_are_drawn : LevelsAreDrawn
levels_are_drawn w s entries is legal p band e before listed stands shown =
    let here : In p (places_in s entries) = contained_in (places_in s entries) p listed in
    let one = one_of_place s entries p (length before) here in
    let a = in_filter (level_as p) (filter (over (length before)) (levels_of s (past_of entries) (places_in s entries)))
    one.0 (subst (λ k. In one.0 k) (sym one.1) (inl refl)) in
    let b = in_filter (over (length before)) (levels_of s (past_of entries) (places_in s entries)) one.0 a.0 in
    in_levels w s entries is legal p here band (length before) shown one.0
    (row_over w s entries is legal p here (length before)) b.0 e before stands refl
