-- Which timer is sooner, and the first of some nodes.
use Rattle.std.proofs.Common.{◌≢◌, List, length, ap, ◌≡◌, ℕ, ◌+◌, ◌<◌, ◌≤◌, Bool, true, false, Option, Some, None, cond}
use Rattle.std.proofs.Common.{refl, arith, ◌⊎◌, ⊎_elim}
use Rattle.std.specs.Option.{option_map_or}
use Rattle.std.proofs.lemmas.Bool.{cases_eq, false≢true}
use Rattle.std.proofs.lemmas.List.{get_or_past}
use Rattle.std.specs.Prelude.{option_map}
use Rattle.std.proofs.lemmas.Bool.Decides.{nat_tests}
use Rattle.cmwq_timer.specs.declared.timer.Timer.{Timer}
use Rattle.cmwq_timer.specs.declared.candidate.Candidate.{Candidate}
use Rattle.cmwq_timer.specs.Due.{is_sooner}
use Rattle.cmwq_timer.specs.Rows.{TimerRows}
use Rattle.cmwq_timer.specs.Tournament.{Nodes, sooner, node_at, candidate_at, IsSoonest, IsWritten}

pub sooner_chain : (a b c : Timer) → is_sooner a b ≡ false → is_sooner c b ≡ true → is_sooner a c ≡ false
sooner_chain a b c = grind (arith, nat_tests)

pub sooner_self : (a : Timer) → is_sooner a a ≡ false
sooner_self a = grind (arith, nat_tests)

pub sooner_on : (a b c : Timer) → is_sooner a c ≡ false → is_sooner c b ≡ false → is_sooner a b ≡ false
sooner_on a b c = grind (arith, nat_tests)

is_last : (i k : ℕ) → i < k + 1 → (i < k) ⊎ (i ≡ k)
is_last i k h = grind arith

pub not_both : {X : Type 0} (o : Option X) (x : X) → o ≡ None → o ≡ Some x → ⊥
not_both o x none some = cc

pub one_value : {X : Type 0} (o : Option X) (x y : X) → o ≡ Some x → o ≡ Some y → y ≡ x
one_value o x y p q = cc

module _ (nodes : Nodes) (lo k : ℕ) (up : lo ≤ k) where
  here : (c d e : Candidate) (j : ℕ) → nodes k ≡ Some d → is_sooner d.timer c.timer ≡ false → j ≡ k → nodes j ≡ Some e
      → is_sooner e.timer c.timer ≡ false
  here c d e j is not_sooner same stands = grind arith

  by : (o n : Option Candidate) → nodes k ≡ n → IsSoonest nodes lo k o → IsSoonest nodes lo (k + 1) (sooner o n)
  by None None is none = λ j from below. ⊎_elim (λ l. none j from l) (λ same. rw same is) (is_last j k below)
  by None (Some d) is none = record {
    at = k;
    from = up;
    below = omega arith;
    is = is;
    none_sooner =
        λ j e from below stands. ⊎_elim (λ l. absurd (not_both (nodes j) e (none j from l) stands))
        (λ same. here d d e j is (sooner_self d.timer) same stands) (is_last j k below);
  }
  by (Some c) None is first = record {
    at = first.at;
    from = first.from;
    below = (let b = first.below in omega arith);
    is = first.is;
    none_sooner =
        λ j e from below stands. ⊎_elim (λ l. first.none_sooner j e from l stands)
        (λ same. absurd (not_both (nodes k) e is (rw same at stands))) (is_last j k below);
  }
  by (Some c) (Some d) is first = with (is_sooner d.timer c.timer) refl
    where
      with : (b : Bool) → is_sooner d.timer c.timer ≡ b → IsSoonest nodes lo (k + 1) (cond b (Some d) (Some c))
      with true less = record {
        at = k;
        from = up;
        below = omega arith;
        is = is;
        none_sooner =
            λ j e from below stands. ⊎_elim
            (λ l. sooner_chain e.timer c.timer d.timer (first.none_sooner j e from l stands) less)
            (λ same. here d d e j is (sooner_self d.timer) same stands) (is_last j k below);
      }
      with false less = record {
        at = first.at;
        from = first.from;
        below = (let b = first.below in omega arith);
        is = first.is;
        none_sooner =
            λ j e from below stands. ⊎_elim (λ l. first.none_sooner j e from l stands)
            (λ same. here c d e j is less same stands) (is_last j k below);
      }

  -- one more node
  pub soonest_more : (o : Option Candidate) → IsSoonest nodes lo k o → IsSoonest nodes lo (k + 1) (sooner o (nodes k))
  soonest_more o first = by o (nodes k) refl first

-- nodes that agree have the same first
pub soonest_same : (old new : Nodes) (lo hi : ℕ) (o : Option Candidate) → ((k : ℕ) → lo ≤ k → k < hi → new k ≡ old k)
    → IsSoonest old lo hi o → IsSoonest new lo hi o
soonest_same old new lo hi o same none = grind arith

pub node_past : (level : List (Option Candidate)) (i : ℕ) → length level ≤ i → node_at level i ≡ None
node_past level i past = get_or_past level i None past

pub row_past : (rows : TimerRows) (i : ℕ) → length rows ≤ i → candidate_at rows i ≡ None
row_past rows i past =
    ap (option_map (λ (t : Timer). record { item = record { 0 = i }; timer = t })) (get_or_past rows i None past)

-- after the last of the nodes there is nothing
pub soonest_past : (nodes : Nodes) (lo k hi : ℕ) (o : Option Candidate) → k ≤ hi
    → ((i : ℕ) → k ≤ i → i < hi → nodes i ≡ None) → IsSoonest nodes lo k o → IsSoonest nodes lo hi o
soonest_past nodes lo k hi o up past none = grind arith

-- what is written and comes before the first of all is the first
pub written_first : (old new : Nodes) (lo hi at : ℕ) (was now : Option Candidate) (kept : Candidate)
    → IsWritten old new at was now → lo ≤ at → at < hi → IsSoonest old lo hi (Some kept)
    → option_map_or (λ (next : Candidate). is_sooner next.timer kept.timer) now false ≡ true → IsSoonest new lo hi now
written_first old new lo hi at was None kept w from below first less = absurd (false≢true less)
written_first old new lo hi at was (Some next) kept w from below first less = record {
  at = at;
  from = from;
  below = below;
  is = w.behind;
  none_sooner = λ k d lower upper stands. ⊎_elim
      (λ same. rw (one_value (new at) next d w.behind (rw same at stands)) (sooner_self next.timer))
      (λ ne. sooner_chain d.timer kept.timer next.timer
      (first.none_sooner k d lower upper (rw (w.others k ne) at stands)) less)
      (cases_eq k at);
}

-- what was the first stays so where another was written that doesn't come before it
pub first_stays : (old new : Nodes) (lo hi at : ℕ) (was now : Option Candidate) (kept : Candidate)
    → IsWritten old new at was now → IsSoonest old lo hi (Some kept) → was ≢ Some kept
    → option_map_or (λ (next : Candidate). is_sooner next.timer kept.timer) now false ≡ false
    → IsSoonest new lo hi (Some kept)
first_stays old new lo hi at was now kept w first other less = grind arith
