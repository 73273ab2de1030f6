-- Steps one after another, and what is known once all who may move were tried.
use Rattle.std.proofs.Common.{ℕ, zero, suc, ◌≡◌, ◌<◌, Bool, true, false, List, [], ◌∷◌, length, get_or}
use Rattle.std.proofs.Common.{refl, subst, ◌∙◌, arith, ◌-◌, ◌==◌, Result, Ok, Err}
use Rattle.std.proofs.lemmas.List.{get_or_default}
use Rattle.std.proofs.lemmas.List.Elements.{All-get_or}
use Rattle.std.proofs.lemmas.Bool.Decides.{nat_tests}
use Rattle.std.specs.Prelude.{All, Contains, IfOk}
use Rattle.cmwq_play.specs.Stands.{Stand, IsDone, may, moved}
use Rattle.cmwq_play.specs.Searches.{AllEnd, AllEndAfter, AllEndOrOneIsStuck, GetsStuck}
use Rattle.cmwq_play.specs.Searches.{NoneStuck, IsFine, NoneStuckAfter, StuckAreLong}

false_unless : (b : Bool) → (b ≡ true → ⊥) → b ≡ false
false_unless true never = absurd (never refl)
false_unless false never = refl

pub false_or : (b : Bool) → b ≡ true → b ≡ false → ⊥
false_or true is not = cc
false_or false is not = cc

-- none of no movers may move
pub none_of_none : (p : Stand) (movers : List ℕ) → ((k : ℕ) → may p k ≡ true → Contains movers k) → length movers ≡ 0
    → (k : ℕ) → may p k ≡ false
none_of_none p movers all none k = false_unless (may p k) (λ is. let at = all k is in absurd (none_at at.0 at.1))
  where
    none_at : (j : ℕ) → j < length movers → ⊥
    none_at j less = omega arith

-- nobody may move, and nothing is left to do
pub end_here : (n : ℕ) (p : Stand) (movers : List ℕ) → ((k : ℕ) → may p k ≡ true → Contains movers k)
    → length movers ≡ 0 → IsDone p → AllEnd n p
unfolding AllEnd
end_here zero p movers all none done = ((λ _. done), none_of_none p movers all none)
end_here (suc n) p movers all none done =
    ((λ _. done), (λ k is. absurd (false_or (may p k) is (none_of_none p movers all none k))))

-- all who may move were tried, and there is one
all_tried_more : (n : ℕ) (p : Stand) (movers : List ℕ) → ((k : ℕ) → may p k ≡ true → Contains movers k)
    → All (λ k. may p k ≡ true) movers → 0 < length movers
    → AllEndAfter n p movers (length movers) → AllEnd (suc n) p
unfolding AllEnd
all_tried_more n p movers all sound some tried = (
  (λ rests. absurd (false_or _ (All-get_or (λ k. may p k ≡ true) movers 0 0 some sound) (rests (get_or movers 0 0)))),
  (λ k is.
      let at = all k is in
      let same : get_or movers at.0 0 ≡ k = get_or_default movers at.0 0 k at.1 ∙ at.2 in
      subst (λ j. AllEnd n (moved p j)) same (tried at.0 at.1)),
)

pub all_tried : (depth : ℕ) (p : Stand) (movers : List ℕ) → 0 < depth
    → ((k : ℕ) → may p k ≡ true → Contains movers k)
    → All (λ k. may p k ≡ true) movers → 0 < length movers
    → AllEndAfter (depth - 1) p movers (length movers) → AllEnd depth p
all_tried zero p movers deep all sound some tried = absurd (omega arith)
all_tried (suc n) p movers deep all sound some tried =
    let less : suc n - 1 ≡ n = omega arith in
    all_tried_more n p movers all sound some (subst (λ m. AllEndAfter m p movers (length movers)) less tried)

-- nobody may move: where fewer moves were made than that, nothing is left to do
pub none_here : (n : ℕ) (p : Stand) (movers : List ℕ) → ((k : ℕ) → may p k ≡ true → Contains movers k)
    → length movers ≡ 0 → (0 < n → IsDone p) → NoneStuck n p
unfolding NoneStuck
none_here zero p movers all none done = tt
none_here (suc n) p movers all none done =
    ((λ _. done (omega arith)), (λ k is. absurd (false_or (may p k) is (none_of_none p movers all none k))))

-- of all who may move it is known, and there is one
all_known_more : (n : ℕ) (p : Stand) (movers : List ℕ) → ((k : ℕ) → may p k ≡ true → Contains movers k)
    → All (λ k. may p k ≡ true) movers → 0 < length movers
    → NoneStuckAfter n p movers (length movers) → NoneStuck (suc n) p
unfolding NoneStuck
all_known_more n p movers all sound some known = (
  (λ rests. absurd (false_or _ (All-get_or (λ k. may p k ≡ true) movers 0 0 some sound) (rests (get_or movers 0 0)))),
  (λ k is.
      let at = all k is in
      let same : get_or movers at.0 0 ≡ k = get_or_default movers at.0 0 k at.1 ∙ at.2 in
      subst (λ j. NoneStuck n (moved p j)) same (known at.0 at.1)),
)

pub all_known : (n : ℕ) (p : Stand) (movers : List ℕ) → ((k : ℕ) → may p k ≡ true → Contains movers k)
    → All (λ k. may p k ≡ true) movers → 0 < length movers
    → NoneStuckAfter (n - 1) p movers (length movers) → NoneStuck n p
unfolding NoneStuck
all_known zero p movers all sound some known = tt
all_known (suc n) p movers all sound some known =
    let less : suc n - 1 ≡ n = omega arith in
    all_known_more n p movers all sound some (subst (λ m. NoneStuckAfter m p movers (length movers)) less known)

pub nonzero : (n : ℕ) → (n ≡ 0 → ⊥) → 0 < n
nonzero zero not = absurd (not refl)
nonzero (suc n) not = omega arith

-- what is known of a number that is 0 or not
pub is_none : (n len : ℕ) (b : Bool) → n ≡ len → b ≡ (n == 0) → b ≡ true → len ≡ 0
is_none n len b same is holds = grind (arith, nat_tests)

pub is_some : (n len : ℕ) (b : Bool) → n ≡ len → b ≡ (n == 0) → b ≡ false → 0 < len
is_some n len b same is fails = grind (arith, nat_tests)

-- what holds in any case, and what follows, where a result is Ok
pub always : {T E P : Type 0} (r : Result T E) → P → IfOk r (λ _. P)
always (Ok x) holds = holds
always (Err e) holds = tt

pub then_so : {T E P Q : Type 0} (r : Result T E) → (P → Q) → IfOk r (λ _. P) → IfOk r (λ _. Q)
then_so (Ok x) so holds = so holds
then_so (Err e) so holds = tt

pub ok_so : {T E : Type 0} (P Q : T → Type 0) (r : Result T E) → ((x : T) → P x → Q x) → IfOk r P → IfOk r Q
ok_so P Q (Ok x) so holds = so x holds
ok_so P Q (Err e) so holds = tt

-- none of them
pub none_tried : (n : ℕ) (p : Stand) (movers : List ℕ) → AllEndAfter n p movers 0
none_tried n p movers j less = absurd (omega arith)

-- ---- what a search tells is never both

never_fine : (p : Stand) → IsFine p → GetsStuck p [] → ⊥
never_fine p fine stuck = stuck.not_done (fine stuck.rests)

-- the rest of a schedule that gets stuck does so after its first move
stuck_after : (p : Stand) (party : ℕ) (more : List ℕ) → GetsStuck p (party ∷ more) → GetsStuck (moved p party) more
stuck_after p party more stuck =
    record { goes = stuck.goes.1; rests = stuck.rests; not_done = stuck.not_done }

pub ends_or_stuck : AllEndOrOneIsStuck
unfolding AllEnd
ends_or_stuck zero p [] all stuck = never_fine p all.0 stuck
ends_or_stuck zero p (party ∷ more) all stuck = false_or (may p party) stuck.goes.0 (all.1 party)
ends_or_stuck (suc n) p [] all stuck = never_fine p all.0 stuck
ends_or_stuck (suc n) p (party ∷ more) all stuck =
    ends_or_stuck n (moved p party) more (all.1 party stuck.goes.0) (stuck_after p party more stuck)

pub stuck_long : StuckAreLong
unfolding NoneStuck
stuck_long zero p schedule none stuck = omega arith
stuck_long (suc n) p [] none stuck = absurd (never_fine p none.0 stuck)
stuck_long (suc n) p (party ∷ more) none stuck =
    let less = stuck_long n (moved p party) more (none.1 party stuck.goes.0) (stuck_after p party more stuck) in
    omega arith
