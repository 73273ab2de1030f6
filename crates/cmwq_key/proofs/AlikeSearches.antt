-- What is known of the schedules of a stand is known of those of one that is alike.
use Rattle.std.proofs.Common.{◌≡◌, ◌∙◌, ℕ, zero, suc, Bool, true, false, List, [], ◌∷◌, sym, arith}
use Rattle.cmwq_key.specs.Alike.{AreAlike, EndsAlike, EndsLeaveNoneStuck, LoopsNeverEnd, MoreMoves, GetsStuckAlike}
use Rattle.cmwq_key.specs.Alike.{StuckAlike}
use Rattle.cmwq_play.specs.Searches.{GetsStuck, IsFine, IsSchedule, Rests, after}
unfoldable use Rattle.cmwq_play.specs.Searches.{AllEnd, NoneStuck}
use Rattle.cmwq_play.specs.Stands.{Stand, may, moved}
use Rattle.cmwq_key.proofs.AlikeMoves.{moves_go_on}
use Rattle.cmwq_key.proofs.AlikeStands.{done_alike, may_alike}

module _ (p q : Stand) (a : AreAlike p q) where
  may_back : (k : ℕ) → may q k ≡ true → may p k ≡ true
  may_back k is = sym (may_alike p q a k) ∙ is

  may_on : (k : ℕ) → may p k ≡ true → may q k ≡ true
  may_on k is = may_alike p q a k ∙ is

  rest_on : Rests p → Rests q
  rest_on rests k = may_alike p q a k ∙ rests k

  rest_back : Rests q → Rests p
  rest_back rests k = sym (may_alike p q a k) ∙ rests k

  fine_on : IsFine p → IsFine q
  fine_on fine rests = (done_alike p q a).0 (fine (rest_back rests))

  fine_back : IsFine q → IsFine p
  fine_back fine rests = (done_alike p q a).1 (fine (rest_on rests))

-- ---- bounds

ends_on : (n : ℕ) (p q : Stand) → AreAlike p q → AllEnd n p → AllEnd n q
unfolding AllEnd
ends_on zero p q a all = (fine_on p q a all.0, rest_on p q a all.1)
ends_on (suc n) p q a all = (
  fine_on p q a all.0,
  λ k is. let before = may_back p q a k is in
      ends_on n (moved p k) (moved q k) (moves_go_on p q a k before) (all.1 k before),
)

ends_back : (n : ℕ) (p q : Stand) → AreAlike p q → AllEnd n q → AllEnd n p
unfolding AllEnd
ends_back zero p q a all = (fine_back p q a all.0, rest_back p q a all.1)
ends_back (suc n) p q a all = (
  fine_back p q a all.0,
  λ k is. ends_back n (moved p k) (moved q k) (moves_go_on p q a k is) (all.1 k (may_on p q a k is)),
)

pub ends_alike : EndsAlike
ends_alike n p q a = (ends_on n p q a, ends_back n p q a)

none_on : (n : ℕ) (p q : Stand) → AreAlike p q → NoneStuck n p → NoneStuck n q
unfolding NoneStuck
none_on zero p q a none = tt
none_on (suc n) p q a none = (
  fine_on p q a none.0,
  λ k is. let before = may_back p q a k is in
      none_on n (moved p k) (moved q k) (moves_go_on p q a k before) (none.1 k before),
)

none_back : (n : ℕ) (p q : Stand) → AreAlike p q → NoneStuck n q → NoneStuck n p
unfolding NoneStuck
none_back zero p q a none = tt
none_back (suc n) p q a none = (
  fine_back p q a none.0,
  λ k is. none_back n (moved p k) (moved q k) (moves_go_on p q a k is) (none.1 k (may_on p q a k is)),
)

pub stuck_alike : StuckAlike
stuck_alike n p q a = (none_on n p q a, none_back n p q a)

-- ---- schedules

schedule_on : (p q : Stand) (schedule : List ℕ) → AreAlike p q → IsSchedule p schedule → IsSchedule q schedule
schedule_on p q [] a goes = tt
schedule_on p q (party ∷ more) a goes = (
  may_on p q a party goes.0,
  schedule_on (moved p party) (moved q party) more (moves_go_on p q a party goes.0) goes.1,
)

schedule_back : (p q : Stand) (schedule : List ℕ) → AreAlike p q → IsSchedule q schedule → IsSchedule p schedule
schedule_back p q [] a goes = tt
schedule_back p q (party ∷ more) a goes =
    let before = may_back p q a party goes.0 in
    (before, schedule_back (moved p party) (moved q party) more (moves_go_on p q a party before) goes.1)

pub after_alike : (p q : Stand) (schedule : List ℕ) → AreAlike p q → IsSchedule p schedule
    → AreAlike (after p schedule) (after q schedule)
after_alike p q [] a goes = a
after_alike p q (party ∷ more) a goes =
    after_alike (moved p party) (moved q party) more (moves_go_on p q a party goes.0) goes.1

gets_stuck_on : (p q : Stand) (schedule : List ℕ) → AreAlike p q → GetsStuck p schedule → GetsStuck q schedule
gets_stuck_on p q schedule a stuck =
    let then_alike = after_alike p q schedule a stuck.goes in
    record {
      goes = schedule_on p q schedule a stuck.goes;
      rests = rest_on (after p schedule) (after q schedule) then_alike stuck.rests;
      not_done = λ done. stuck.not_done ((done_alike (after p schedule) (after q schedule) then_alike).1 done);
    }

gets_stuck_back : (p q : Stand) (schedule : List ℕ) → AreAlike p q → GetsStuck q schedule → GetsStuck p schedule
gets_stuck_back p q schedule a stuck =
    let goes = schedule_back p q schedule a stuck.goes in
    let then_alike = after_alike p q schedule a goes in
    record {
      goes = goes;
      rests = rest_back (after p schedule) (after q schedule) then_alike stuck.rests;
      not_done = λ done. stuck.not_done ((done_alike (after p schedule) (after q schedule) then_alike).0 done);
    }

pub gets_stuck_alike : GetsStuckAlike
gets_stuck_alike p q schedule a = (gets_stuck_on p q schedule a, gets_stuck_back p q schedule a)

-- ---- more moves

not_both : (b : Bool) → b ≡ true → b ≡ false → ⊥
not_both b is not = grind arith

pub more_moves : MoreMoves
unfolding AllEnd
more_moves zero p all = (all.0, λ k is. absurd (not_both (may p k) is (all.1 k)))
more_moves (suc n) p all = (all.0, λ k is. more_moves n (moved p k) (all.1 k is))

pub ends_leave_none_stuck : EndsLeaveNoneStuck
unfolding AllEnd NoneStuck
ends_leave_none_stuck n zero p all = tt
ends_leave_none_stuck zero (suc m) p all = (all.0, λ k is. absurd (not_both (may p k) is (all.1 k)))
ends_leave_none_stuck (suc n) (suc m) p all = (all.0, λ k is. ends_leave_none_stuck n m (moved p k) (all.1 k is))

-- ---- loops

pub loops_never_end : LoopsNeverEnd
unfolding AllEnd
loops_never_end stands p zero loop here all =
    let r = loop p here in
    not_both (may p r.party) r.may_move (all.1 r.party)
loops_never_end stands p (suc n) loop here all =
    let r = loop p here in
    loops_never_end stands r.next n loop r.is_there
    (ends_on n (moved p r.party) r.next r.is_alike (all.1 r.party r.may_move))
