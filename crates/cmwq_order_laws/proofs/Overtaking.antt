-- Nothing overtakes a queueing while it waits to be started.
use Rattle.cmwq_theory_steps.specs.Common.{◌≡◌, ◌+◌, ◌≤◌, ℕ, Bool, true, false, cond, List, [], ◌∷◌}
use Rattle.cmwq_theory_steps.specs.Common.{◌++◌, filter, length, length-append, Option, Some, None, refl, ap}
use Rattle.cmwq_theory_steps.specs.Common.{◌∙◌, arith, eq-eqb, is_some, list_any, count_by-cons, PoolId}
use Rattle.cmwq_theory_steps.specs.Common.{Entry, Queueing, Layout, IsLegal, has_number, is_at, is_in_pool}
use Rattle.cmwq_theory_steps.specs.Common.{item_runs, number_started, starts}
use Rattle.std.proofs.lemmas.Bool.{and_parts}
use Rattle.cmwq_lemmas.proofs.Lists.{filter_shorter}
use Rattle.cmwq_lemmas.proofs.Members.{In, any_in, contained_in, in_contained, in_filter}
use Rattle.cmwq_theory_steps.specs.Activations.{is_left}
use Rattle.cmwq_theory_steps.specs.Histories.{OfEachEntry}
use Rattle.cmwq_theory_steps.proofs.Opens.{open_before}
use Rattle.cmwq_order_laws.specs.Overtaking.{FewStartBefore, ItemsStayFree, NoneOvertakes}
use Rattle.cmwq_order_laws.specs.Overtaking.{NothingComesBetween, StandsBehind}
use Rattle.cmwq_order_laws.specs.Overtaking.{WaitsThrough, is_start_in, starts_in}
use Rattle.cmwq_order_laws.proofs.Places.{one_less, stands_alone, stays_behind, stays_free, takes_ahead}

-- how a queueing stands after so many entries
pub record Stands (s : Layout) (past later : List Entry) (p : PoolId) (ahead : List Queueing)
    (x : Queueing) : Type 0 where
  pub left : List Queueing
  pub stands : StandsBehind s (later ++ past) p left x
  pub were_ahead : (y : Queueing) → In y left → In y ahead
  pub no_more : length left ≤ length ahead
  pub none : OfEachEntry (λ before e. (n : ℕ) → is_in_pool p e.who ≡ true → starts n e ≡ true
      → item_runs (before ++ past) x.item.0 ≡ false → list_any (has_number n) ahead ≡ true) later
  pub stays_free : item_runs past x.item.0 ≡ false → item_runs (later ++ past) x.item.0 ≡ false
  pub fewer : item_runs past x.item.0 ≡ false → length left + starts_in p later ≤ length ahead

-- one entry, after which it stands behind fewer if that is a start in the pool
less_left : (p : PoolId) (e : Entry) (left after : List Queueing) → length after ≤ length left
    → ((n : ℕ) → is_in_pool p e.who ≡ true → starts n e ≡ true → length after + 1 ≤ length left)
    → length after + cond (is_start_in p e) 1 0 ≤ length left
less_left p e left after less fewer = at (is_start_in p e) refl
  where
    at : (b : Bool) → is_start_in p e ≡ b → length after + cond b 1 0 ≤ length left
    at false none = omega (arith, less)
    at true start = told (number_started e.reply) refl
      where
        told : (o : Option ℕ) → number_started e.reply ≡ o → length after + 1 ≤ length left
        told None none = absurd (grind (arith, start, none))
        told (Some n) is =
            fewer n (and_parts (is_in_pool p e.who) (is_some (number_started e.reply)) start).0
            (ap (λ o. is_at o n) is ∙ eq-eqb n n refl)

goes_on : (s : Layout) (past : List Entry) (e : Entry) (later : List Entry) (p : PoolId) (ahead : List Queueing)
    (x : Queueing) → WaitsThrough s past (e ∷ later) p ahead x → Stands s past later p ahead x
    → Stands s past (e ∷ later) p ahead x
unfolding IsLegal
goes_on s past e later p ahead x waits k =
    let now : List Entry = later ++ past in
    let alone = stands_alone s now p k.left x waits.legal.2 k.stands in
    let taken = takes_ahead s now e waits.legal x alone waits.not_started p k.left k.stands in
    let less = one_less s now e waits.legal x alone waits.not_started p k.left k.stands in
    let shorter = filter_shorter (is_left now e) k.left in
    record {
      left = filter (is_left now e) k.left;
      stands = stays_behind s now e waits.legal x alone waits.not_started p k.left k.stands waits.is_open;
      were_ahead = λ y here. k.were_ahead y (in_filter (is_left now e) k.left y here).0;
      no_more = omega (arith, k.no_more, shorter);
      none = (
        (λ n here begins is_free.
            let t = taken is_free n here begins in
            any_in (has_number n) ahead t.queueing (k.were_ahead t.queueing t.there)
            (eq-eqb t.queueing.number n t.number)),
        k.none,
      );
      stays_free = λ is_free. stays_free s now e waits.legal x alone waits.not_started (k.stays_free is_free);
      fewer =
          λ is_free. omega (
            arith,
            k.fewer is_free,
            count_by-cons (is_start_in p) e later,
            less_left p e k.left (filter (is_left now e) k.left) shorter (less (k.stays_free is_free)),
          );
    }

-- it waited before the last entry too
waited : (s : Layout) (past : List Entry) (e : Entry) (later : List Entry) (p : PoolId) (ahead : List Queueing)
    (x : Queueing) → IsLegal s past → WaitsThrough s past (e ∷ later) p ahead x
    → WaitsThrough s past later p ahead x
unfolding IsLegal
waited s past e later p ahead x before waits =
    let older = (stands_alone s past p ahead x before waits.stands).known.older in
    let many = length-append later past in
    record {
      legal = waits.legal.2;
      stands = waits.stands;
      is_open = open_before e (later ++ past) x.item.0 x.number (omega arith) waits.is_open;
      not_started = grind (arith, waits.not_started);
    }

older_legal : (s : Layout) (later past : List Entry) → IsLegal s (later ++ past) → IsLegal s past
unfolding IsLegal
older_legal s [] past legal = legal
older_legal s (e ∷ later) past legal = older_legal s later past legal.2

stands_on : (s : Layout) (past later : List Entry) (p : PoolId) (ahead : List Queueing) (x : Queueing)
    → WaitsThrough s past later p ahead x → Stands s past later p ahead x
stands_on s past [] p ahead x waits = record {
  left = ahead;
  stands = waits.stands;
  were_ahead = λ y here. here;
  no_more = omega arith;
  none = tt;
  stays_free = λ is_free. is_free;
  fewer = λ is_free. omega arith;
}
stands_on s past (e ∷ later) p ahead x waits =
    goes_on s past e later p ahead x waits
    (stands_on s past later p ahead x
    (waited s past e later p ahead x (older_legal s (e ∷ later) past waits.legal) waits))

pub none_overtakes : NoneOvertakes
none_overtakes s past later p ahead x waits = (stands_on s past later p ahead x waits).none

pub items_stay_free : ItemsStayFree
items_stay_free s past later p ahead x waits = (stands_on s past later p ahead x waits).stays_free

pub few_start_before : FewStartBefore
few_start_before s past later p ahead x waits is_free =
    let k = stands_on s past later p ahead x waits in omega (arith, k.fewer is_free)

pub nothing_comes_between : NothingComesBetween
nothing_comes_between s past later p ahead x waits =
    let k = stands_on s past later p ahead x waits in
    record {
      left = k.left;
      stands = k.stands;
      were_ahead = λ y here. in_contained ahead y (k.were_ahead y (contained_in k.left y here));
      no_more = k.no_more;
    }
