-- Levels above nodes of which one is written.
use Rattle.std.proofs.Common.{◌≡◌, ◌≢◌, ℕ, ◌+◌, ◌*◌, ◌/◌, ◌<◌, ◌≤◌, List, [], ◌∷◌, length, Option, None, ap, arith}
use Rattle.std.proofs.Common.{⊎_elim, set, replicate}
use Rattle.std.specs.Prelude.{option_map}
use Rattle.std.proofs.lemmas.Bool.{cases_eq, cases_lt}
use Rattle.std.proofs.lemmas.List.{set-get_or, get_or-set_same, get_or-set_other, get_or-replicate, get_or_past}
use Rattle.std.proofs.lemmas.List.{length-set, length-replicate}
use Rattle.cmwq_timer.specs.declared.timer.Timer.{Timer}
use Rattle.cmwq_timer.specs.declared.candidate.Candidate.{Candidate}
use Rattle.cmwq_timer.specs.Rows.{TimerRows}
use Rattle.cmwq_timer.specs.Tournament.{Nodes, node_at, candidate_at, IsSoonest, IsWritten, IsLevel, AreLevels}
use Rattle.cmwq_timer.proofs.Soonest.{soonest_same}

module _ (many : ℕ) (old new : Nodes) (level : List (Option Candidate)) (j : ℕ) (o : Option Candidate)
    (is : IsLevel many old level) (others : (k : ℕ) → k ≢ j → new k ≡ old k) (inside : j < many)
    (first : IsSoonest new (16 * (j / 16)) (16 * (j / 16) + 16) o) where
  within : j / 16 < length level
  within = let c = is.covers in omega arith

  each : (k : ℕ) → k < length level → IsSoonest new (16 * k) (16 * k + 16) (node_at (set level (j / 16) o) k)
  each k low = ⊎_elim
      (λ same. rw same (rw (get_or-set_same level (j / 16) o None within) first))
      (λ ne. rw (get_or-set_other level (j / 16) k o None ne)
      (soonest_same old new (16 * k) (16 * k + 16) (node_at level k) (λ i from below. others i (λ e. ne (omega arith)))
      (is.each k low)))
      (cases_eq k (j / 16))

  -- the node above what is written is found anew
  pub level_written : IsLevel many new (set level (j / 16) o)
  level_written = record {
    covers = rw (length-set level (j / 16) o) is.covers;
    each = λ k low. each k (rw (length-set level (j / 16) o) at low);
  }

-- what is known of the first below a node, of which one node below is written, is so
pub kept_first : (many : ℕ) (old new : Nodes) (level : List (Option Candidate)) (j k : ℕ)
    (o was now first : Option Candidate) → IsLevel many old level → j < many → k ≡ j / 16
    → ((i : ℕ) → i ≢ j → new i ≡ old i) → was ≡ old j → now ≡ new j → first ≡ node_at level k
    → ((before : Nodes) (at : ℕ) → IsWritten before new at was now → 16 * k ≤ at → at < 16 * k + 16
    → IsSoonest before (16 * k) (16 * k + 16) first → IsSoonest new (16 * k) (16 * k + 16) o)
    → IsSoonest new (16 * k) (16 * k + 16) o
kept_first many old new level j k o was now first is inside node others at_first at_last kept known = grind arith

-- the first below a node, where it is said to stay
pub stays_first : (many : ℕ) (old new : Nodes) (level : List (Option Candidate)) (j k : ℕ)
    (was now first : Option Candidate) → IsLevel many old level → j < many → k ≡ j / 16
    → ((i : ℕ) → i ≢ j → new i ≡ old i) → was ≡ old j → now ≡ new j → first ≡ node_at level k
    → ((before : Nodes) (at : ℕ) → IsWritten before new at was now → 16 * k ≤ at → at < 16 * k + 16
    → IsSoonest before (16 * k) (16 * k + 16) first → IsSoonest new (16 * k) (16 * k + 16) first)
    → IsSoonest new (16 * k) (16 * k + 16) (node_at level k)
stays_first many old new level j k was now first is inside node others at_first at_last kept known = grind arith

-- a level of which the node above what is written keeps its first
level_stays : (many : ℕ) (old new : Nodes) (level : List (Option Candidate)) (j : ℕ) → IsLevel many old level
    → ((k : ℕ) → k ≢ j → new k ≡ old k) → j < many
    → IsSoonest new (16 * (j / 16)) (16 * (j / 16) + 16) (node_at level (j / 16)) → IsLevel many new level
level_stays many old new level j is others inside first =
    rw (set-get_or level (j / 16) None) at
    (level_written many old new level j (node_at level (j / 16)) is others inside first)

-- the other nodes of a level that is written are as they were
pub others_at : (level : List (Option Candidate)) (j : ℕ) (o : Option Candidate) (k : ℕ) → k ≢ j
    → node_at (set level j o) k ≡ node_at level k
others_at level j o k ne = get_or-set_other level j k o None ne

pub others_booked : (rows : TimerRows) (i : ℕ) (t : Option Timer) (k : ℕ) → k ≢ i
    → candidate_at (set rows i t) k ≡ candidate_at rows k
others_booked rows i t k ne =
    ap (option_map (λ (u : Timer). record { item = record { 0 = k }; timer = u })) (get_or-set_other rows i k t None ne)

module _ (rows : TimerRows) (lows middles highs : List (Option Candidate)) (top : Option Candidate) (i : ℕ)
    (are : AreLevels rows lows middles highs top) (here : i < length rows) where
  pub low_inside : i / 16 < length lows
  low_inside = let c = are.low.covers in omega arith

  pub middle_inside : i / 16 / 16 < length middles
  middle_inside = let c = are.middle.covers in let l = low_inside in omega arith

  pub high_inside : i / 16 / 16 / 16 < length highs
  high_inside = let c = are.high.covers in let l = middle_inside in omega arith

  pub last_node : 0 ≡ i / 16 / 16 / 16 / 16
  last_node = let c = are.last.covers in let l = high_inside in omega arith

module _ (rows : TimerRows) (lows middles highs : List (Option Candidate)) (top : Option Candidate) (i : ℕ)
    (t : Option Timer) (are : AreLevels rows lows middles highs top) (here : i < length rows) where
  -- a row is written, and the nodes above it are found anew up to one of which the first stays
  pub low_stays : IsSoonest (candidate_at (set rows i t)) (16 * (i / 16)) (16 * (i / 16) + 16) (node_at lows (i / 16))
      → AreLevels (set rows i t) lows middles highs top
  low_stays low = grind (arith, length-set, level_stays, others_booked)

  module _ (o1 : Option Candidate)
      (low : IsSoonest (candidate_at (set rows i t)) (16 * (i / 16)) (16 * (i / 16) + 16) o1) where
    low_written : IsLevel (length (set rows i t)) (candidate_at (set rows i t)) (set lows (i / 16) o1)
    low_written =
        rw (length-set rows i t)
        (level_written (length rows) (candidate_at rows) (candidate_at (set rows i t)) lows i o1 are.low
        (others_booked rows i t) here low)

    pub middle_stays : IsSoonest (node_at (set lows (i / 16) o1)) (16 * (i / 16 / 16)) (16 * (i / 16 / 16) + 16)
        (node_at middles (i / 16 / 16)) → AreLevels (set rows i t) (set lows (i / 16) o1) middles highs top
    middle_stays middle = record {
      low = low_written;
      middle = rw (length-set lows (i / 16) o1)
          (level_stays (length lows) (node_at lows) (node_at (set lows (i / 16) o1)) middles (i / 16) are.middle
          (others_at lows (i / 16) o1) (low_inside rows lows middles highs top i are here) middle);
      high = are.high;
      last = are.last;
    }

    module _ (o2 : Option Candidate)
        (middle : IsSoonest (node_at (set lows (i / 16) o1)) (16 * (i / 16 / 16)) (16 * (i / 16 / 16) + 16) o2) where
      middle_written : IsLevel (length (set lows (i / 16) o1)) (node_at (set lows (i / 16) o1))
          (set middles (i / 16 / 16) o2)
      middle_written =
          rw (length-set lows (i / 16) o1)
          (level_written (length lows) (node_at lows) (node_at (set lows (i / 16) o1)) middles (i / 16) o2 are.middle
          (others_at lows (i / 16) o1) (low_inside rows lows middles highs top i are here) middle)

      pub high_stays : IsSoonest (node_at (set middles (i / 16 / 16) o2)) (16 * (i / 16 / 16 / 16))
          (16 * (i / 16 / 16 / 16) + 16) (node_at highs (i / 16 / 16 / 16))
          → AreLevels (set rows i t) (set lows (i / 16) o1) (set middles (i / 16 / 16) o2) highs top
      high_stays high = record {
        low = low_written;
        middle = middle_written;
        high = rw (length-set middles (i / 16 / 16) o2)
            (level_stays (length middles) (node_at middles) (node_at (set middles (i / 16 / 16) o2)) highs (i / 16 / 16)
            are.high (others_at middles (i / 16 / 16) o2) (middle_inside rows lows middles highs top i are here) high);
        last = are.last;
      }

      module _ (o3 o4 : Option Candidate)
          (high : IsSoonest (node_at (set middles (i / 16 / 16) o2)) (16 * (i / 16 / 16 / 16))
          (16 * (i / 16 / 16 / 16) + 16) o3) (last : IsSoonest (node_at (set highs (i / 16 / 16 / 16) o3)) 0 16 o4)
        where
          last_each : (k : ℕ) → k < 1
              → IsSoonest (node_at (set highs (i / 16 / 16 / 16) o3)) (16 * k) (16 * k + 16) (node_at (o4 ∷ []) k)
          last_each k only = let first : k ≡ 0 = omega arith in rw first last

          pub levels_written : AreLevels (set rows i t) (set lows (i / 16) o1) (set middles (i / 16 / 16) o2)
              (set highs (i / 16 / 16 / 16) o3) o4
          levels_written = record {
            low = low_written;
            middle = middle_written;
            high = rw (length-set middles (i / 16 / 16) o2)
                (level_written (length middles) (node_at middles) (node_at (set middles (i / 16 / 16) o2)) highs
                (i / 16 / 16) o3 are.high (others_at middles (i / 16 / 16) o2)
                (middle_inside rows lows middles highs top i are here) high);
            last = record { covers = rw (length-set highs (i / 16 / 16 / 16) o3) are.last.covers; each = last_each };
          }

none_at : (many k : ℕ) → node_at (replicate many None) k ≡ None
none_at many k =
    ⊎_elim (λ l. get_or-replicate {A = Option Candidate} many k None None l)
    (λ g. get_or_past (replicate many None) k None (omega (arith, length-replicate {A = Option Candidate} many None)))
    (cases_lt k many)

-- where nothing is booked, no node keeps anything
none_level : (many nodes : ℕ) (below : Nodes) → ((k : ℕ) → below k ≡ None) → many ≤ 16 * nodes
    → IsLevel many below (replicate nodes None)
none_level many nodes below none covers = grind (arith, length-replicate, none_at)

no_candidate : (items k : ℕ) → candidate_at (replicate items None) k ≡ None
no_candidate items k = grind (arith, get_or-replicate, get_or_past, length-replicate)

pub none_levels : (items lows middles highs : ℕ) → items ≤ 16 * lows → lows ≤ 16 * middles → middles ≤ 16 * highs
    → highs ≤ 16
    → AreLevels (replicate items None) (replicate lows None) (replicate middles None) (replicate highs None) None
none_levels items lows middles highs a b c d = grind (arith, length-replicate, none_level, no_candidate, none_at)
