-- What is found of the stands after moves, and so of the stand before them.
use Rattle.std.proofs.Common.{ℕ, zero, suc, ◌≡◌, ◌<◌, ◌≤◌, ◌+◌, ◌-◌, Bool, true, false, List, [], ◌∷◌, ◌++◌}
use Rattle.std.proofs.Common.{length, Some, None, refl, subst, sym, ap, ◌∙◌, arith, nat_lt}
use Rattle.std.proofs.Common.{get_or, map, ◌||◌, below_more}
use Rattle.std.proofs.lemmas.Bool.{le-ltb, leb-false, leb-true, lt-ltb, ltb-false, ltb-true}
use Rattle.std.proofs.lemmas.List.{length-append, reverse-append}
use Rattle.std.specs.List.{list_any}
use Rattle.std.specs.Prelude.{All, Contains, IfSome, reverse}
use Rattle.cmwq_explore.specs.declared.finding.Finding.{Finding}
use Rattle.cmwq_play.specs.declared.play.Standing.{Standing}
use Rattle.cmwq_play.specs.declared.play.Standing.TheVariants as standings
use Rattle.cmwq_play.specs.Stands.{Stand, IsDone, may, moved}
use Rattle.cmwq_play.specs.Searches.{AllEnd, GetsStuck, NoneStuck, Rests}
use Rattle.cmwq_explore.specs.Findings.{HasAtLeast, HasEnded, HasStuck, JoinsMove, Tells, TellsAfter, TellsAll}
use Rattle.cmwq_explore.specs.Findings.{Way, is_shorter, longer_by, no_finding, shorter, sum, way_of}
use Rattle.cmwq_explore.proofs.Searching.{all_known, all_tried, false_or}

pub any_unmapped : {X Y : Type 0} (p : Y → Bool) (f : X → Y) (xs : List X)
    → list_any p (map f xs) ≡ list_any (λ x. p (f x)) xs
any_unmapped p f [] = refl
any_unmapped p f (x ∷ xs) = ap (λ b. p (f x) || b) (any_unmapped p f xs)

-- ---- sums and ways

sum_left : (a b : ℕ) → sum a b ≡ 0 → a ≡ 0
sum_left a b none = omega (arith, none)

sum_right : (a b : ℕ) → sum a b ≡ 0 → b ≡ 0
sum_right a b none = omega (arith, none)

-- what a shorter way has at least, both have
shorter_left : (n : ℕ) (w v : Way) → HasAtLeast n (shorter w v) → HasAtLeast n w
shorter_left n None v least = tt
shorter_left n (Some w) None least = least
shorter_left n (Some w) (Some v) least = here (nat_lt (length v) (length w)) refl
  where
    here : (b : Bool) → nat_lt (length v) (length w) ≡ b → n ≤ length w
    here true less =
        let short = rw less at least in
        let lt = ltb-true (length v) (length w) less in
        omega arith
    here false not = rw not at least

shorter_right : (n : ℕ) (w v : Way) → HasAtLeast n (shorter w v) → HasAtLeast n v
shorter_right n None v least = least
shorter_right n (Some w) None least = tt
shorter_right n (Some w) (Some v) least = here (nat_lt (length v) (length w)) refl
  where
    here : (b : Bool) → nat_lt (length v) (length w) ≡ b → n ≤ length v
    here true less = rw less at least
    here false not =
        let long = rw not at least in
        let le = ltb-false (length v) (length w) not in
        omega arith

-- it is one of the two
either_way : (P : List ℕ → Type 0) (w v : Way) → IfSome w P → IfSome v P → IfSome (shorter w v) P
either_way P None v one other = other
either_way P (Some w) None one other = one
either_way P (Some w) (Some v) one other = here (nat_lt (length v) (length w)) refl
  where
    here : (b : Bool) → nat_lt (length v) (length w) ≡ b → IfSome (shorter (Some w) (Some v)) P
    here true less = rw less other
    here false not = rw not one

-- and there is none only if there is neither
no_left : (w v : Way) → shorter w v ≡ None → w ≡ None
no_left None v none = refl
no_left (Some w) None none = cc
no_left (Some w) (Some v) none = here (nat_lt (length v) (length w)) refl
  where
    here : (b : Bool) → nat_lt (length v) (length w) ≡ b → Some w ≡ None
    here true less = let no = rw less at none in cc
    here false not = let no = rw not at none in cc

no_right : (w v : Way) → shorter w v ≡ None → v ≡ None
no_right None v none = none
no_right (Some w) None none = refl
no_right (Some w) (Some v) none = here (nat_lt (length v) (length w)) refl
  where
    here : (b : Bool) → nat_lt (length v) (length w) ≡ b → Some v ≡ None
    here true less = let no = rw less at none in cc
    here false not = let no = rw not at none in cc

-- no other way is shorter
pub shorter_none : (w : Way) → shorter w None ≡ w
shorter_none None = refl
shorter_none (Some w) = refl

-- one that has at most one move more than another stays, and else the other takes its place
pub kept_way : (w : Way) (v : List ℕ) (party : ℕ) → is_shorter w (length v) ≡ true
    → w ≡ shorter w (longer_by party (Some v))
kept_way None v party is = cc
kept_way (Some w) v party is =
    let long : length (v ++ party ∷ []) ≡ length v + 1 = length-append v (party ∷ []) in
    let most = leb-true (length w - 1) (length v) is in
    let not : nat_lt (length (v ++ party ∷ [])) (length w) ≡ false =
    le-ltb (length (v ++ party ∷ [])) (length w) (omega (arith, long, most)) in
    rw not refl

pub new_way : (w : Way) (v : List ℕ) (party : ℕ) → is_shorter w (length v) ≡ false
    → Some (v ++ party ∷ []) ≡ shorter w (longer_by party (Some v))
new_way None v party not = refl
new_way (Some w) v party not =
    let long : length (v ++ party ∷ []) ≡ length v + 1 = length-append v (party ∷ []) in
    let more = leb-false (length w - 1) (length v) not in
    let less : nat_lt (length (v ++ party ∷ [])) (length w) ≡ true =
    lt-ltb (length (v ++ party ∷ [])) (length w) (omega (arith, long, more)) in
    rw less refl

-- a way that is longer by a move
at_least_before : (n party : ℕ) (w : Way) → HasAtLeast n (longer_by party w) → HasAtLeast (n - 1) w
at_least_before n party None least = tt
at_least_before n party (Some w) least =
    let long : length (w ++ party ∷ []) ≡ length w + 1 = length-append w (party ∷ []) in
    omega (arith, long, least)

no_way_before : (party : ℕ) (w : Way) → longer_by party w ≡ None → w ≡ None
no_way_before party None none = refl
no_way_before party (Some w) none = cc

stuck_before : (p : Stand) (party : ℕ) (w : Way) → may p party ≡ true
    → IfSome w (λ s. GetsStuck (moved p party) (reverse s)) → IfSome (longer_by party w) (λ s. GetsStuck p (reverse s))
stuck_before p party None is stuck = tt
stuck_before p party (Some w) is stuck =
    subst (GetsStuck p) (sym (reverse-append w (party ∷ [])))
    (record { goes = (is, stuck.goes); rests = stuck.rests; not_done = stuck.not_done })

-- ---- more moves

end_more : (n : ℕ) (p : Stand) → AllEnd n p → AllEnd (suc n) p
unfolding AllEnd
end_more zero p all = (all.0, λ k is. absurd (false_or (may p k) is (all.1 k)))
end_more (suc n) p all = (all.0, λ k is. end_more n (moved p k) (all.1 k is))

end_later : (d n : ℕ) (p : Stand) → AllEnd n p → AllEnd (d + n) p
end_later zero n p all = let same : n ≡ zero + n = omega arith in subst (λ k. AllEnd k p) same all
end_later (suc d) n p all =
    let same : suc (d + n) ≡ suc d + n = omega arith in
    subst (λ k. AllEnd k p) same (end_more (d + n) p (end_later d n p all))

pub end_within : (n m : ℕ) (p : Stand) → n ≤ m → AllEnd n p → AllEnd m p
end_within n m p less all =
    let is : (m - n) + n ≡ m = omega (arith, less) in
    subst (λ k. AllEnd k p) is (end_later (m - n) n p all)

-- ---- ends

-- nothing is known of no schedule
pub none_found : (depth : ℕ) (p : Stand) (movers : List ℕ) → TellsAfter depth no_finding p movers 0
none_found depth p movers = record {
  within = omega arith;
  some = λ cut less. absurd (omega arith);
  ends = λ cut stuck j less. absurd (omega arith);
  stuck = tt;
  known = λ none. refl;
  shortest = λ cut n least j less. absurd (omega arith);
}

none_rests : (n : ℕ) (p : Stand) → Rests p → (0 < n → IsDone p) → NoneStuck n p
unfolding NoneStuck
none_rests zero p rests done = tt
none_rests (suc n) p rests done =
    ((λ _. done (omega arith)), (λ k is. absurd (false_or (may p k) is (rests k))))

-- nobody may move, and nothing is left
pub tells_end : (depth : ℕ) (f : Finding) (p : Stand) → HasEnded f → Rests p → IsDone p → Tells depth f p
unfolding AllEnd
tells_end depth f p ended rests done = record {
  within = omega (arith, ended.height);
  ends = λ cut stuck. subst (λ n. AllEnd n p) (sym ended.height) ((λ _. done), rests);
  stuck = subst (λ (w : Way). IfSome w (λ s. GetsStuck p (reverse s))) (sym ended.way) tt;
  known = λ none. ended.stuck;
  shortest = λ cut n least. none_rests n p rests (λ some. done);
}

-- nobody may move, and something is left
pub tells_stuck : (depth : ℕ) (f : Finding) (p : Stand) → HasStuck f → Rests p → (IsDone p → ⊥) → Tells depth f p
tells_stuck depth f p has rests not_done = record {
  within = omega (arith, has.height);
  ends = λ cut stuck. absurd (omega (arith, stuck, has.stuck));
  stuck =
      subst (λ (w : Way). IfSome w (λ s. GetsStuck p (reverse s))) (sym has.way)
      (record { goes = tt; rests = rests; not_done = not_done });
  known = λ none. absurd (let no = sym has.way ∙ none in cc);
  shortest = λ cut n least.
      let few = subst (HasAtLeast n) has.way least in
      none_rests n p rests (λ some. absurd (omega arith));
}

pub tells_at_end : (s : Standing) (f : Finding) (p : Stand) → (s ≡ standings.Ended → HasEnded f)
    → (s ≡ standings.Stuck → HasStuck f) → (s ≡ standings.Ended → IsDone p) → (s ≡ standings.Stuck → IsDone p → ⊥)
    → (s ≡ standings.Goes → ⊥) → Rests p → (depth : ℕ) → Tells depth f p
tells_at_end standings.Ended f p has_ended has_stuck done not_done never rests depth =
    tells_end depth f p (has_ended refl) rests (done refl)
tells_at_end standings.Stuck f p has_ended has_stuck done not_done never rests depth =
    tells_stuck depth f p (has_stuck refl) rests (not_done refl)
tells_at_end standings.Goes f p has_ended has_stuck done not_done never rests depth = absurd (never refl)

-- ---- moves

-- what was found after one move more is added
pub joined : (depth : ℕ) (old new : Finding) (p : Stand) (movers : List ℕ) (k : ℕ)
    → may p (get_or movers k 0) ≡ true → TellsAfter (depth + 1) old p movers k
    → JoinsMove depth p (get_or movers k 0) old new → TellsAfter (depth + 1) new p movers (k + 1)
joined depth old new p movers k is before joins =
    let party = get_or movers k 0 in
    let child = joins.0 in
    let tells = joins.2 in
    let adds = joins.3 in
    let within = tells.within in
    let was = before.within in
    let height = adds.height in
    let cuts = λ (cut : new.cut ≡ 0). sym adds.cut ∙ cut in
    let stucks = λ (stuck : new.stuck ≡ 0). sym adds.stuck ∙ stuck in
    record {
      within = omega (arith, height, was, within);
      some = λ cut less. omega (arith, height);
      ends = λ cut stuck.
          let old_cut = sum_left old.cut child.cut (cuts cut) in
          let old_stuck = sum_left old.stuck child.stuck (stucks stuck) in
          let cut_after = sum_right old.cut child.cut (cuts cut) in
          let stuck_after = sum_right old.stuck child.stuck (stucks stuck) in
          let more : old.height - 1 ≤ new.height - 1 = omega (arith, height) in
          let after : child.height ≤ new.height - 1 = omega (arith, height) in
          below_more (λ j. AllEnd (new.height - 1) (moved p (get_or movers j 0))) k
          (λ j less. end_within (old.height - 1) (new.height - 1) _ more (before.ends old_cut old_stuck j less))
          (end_within child.height (new.height - 1) _ after (tells.ends cut_after stuck_after));
      stuck =
          subst (λ (w : Way). IfSome w (λ s. GetsStuck p (reverse s))) (sym adds.nearest)
          (either_way (λ s. GetsStuck p (reverse s)) (way_of old.nearest) (longer_by party (way_of child.nearest))
          before.stuck (stuck_before p party (way_of child.nearest) is tells.stuck));
      known = λ none.
          let neither = sym adds.nearest ∙ none in
          let left = before.known (no_left (way_of old.nearest) (longer_by party (way_of child.nearest)) neither) in
          let right =
          tells.known (no_way_before party (way_of child.nearest)
          (no_right (way_of old.nearest) (longer_by party (way_of child.nearest)) neither)) in
          adds.stuck ∙ omega (arith, left, right);
      shortest = λ cut n least.
          let old_cut = sum_left old.cut child.cut (cuts cut) in
          let cut_after = sum_right old.cut child.cut (cuts cut) in
          let both = subst (HasAtLeast n) adds.nearest least in
          below_more (λ j. NoneStuck (n - 1) (moved p (get_or movers j 0))) k
          (before.shortest old_cut n
          (shorter_left n (way_of old.nearest) (longer_by party (way_of child.nearest)) both))
          (tells.shortest cut_after (n - 1)
          (at_least_before n party (way_of child.nearest)
          (shorter_right n (way_of old.nearest) (longer_by party (way_of child.nearest)) both)));
    }

-- the rest is cut off
pub cut_short : (depth : ℕ) (old new : Finding) (p : Stand) (movers : List ℕ) (k m : ℕ)
    → TellsAfter depth old p movers k → 0 < new.cut → new.height ≡ old.height → new.stuck ≡ old.stuck
    → new.nearest ≡ old.nearest → TellsAfter depth new p movers m
cut_short depth old new p movers k m tells is_cut height stuck nearest = record {
  within = omega (arith, height, tells.within);
  some = λ cut less. absurd (omega (arith, is_cut, cut));
  ends = λ cut same. absurd (omega (arith, is_cut, cut));
  stuck = subst (λ w. IfSome (way_of w) (λ s. GetsStuck p (reverse s))) (sym nearest) tells.stuck;
  known = λ none. stuck ∙ tells.known (ap way_of (sym nearest) ∙ none);
  shortest = λ cut. absurd (omega (arith, is_cut, cut));
}

-- the schedule without moves is cut off
pub cut_here : (depth : ℕ) (f : Finding) (p : Stand) → 0 < f.cut → f.height ≡ 0 → f.stuck ≡ 0 → f.nearest ≡ None
    → Tells depth f p
cut_here depth f p is_cut height stuck nearest = record {
  within = omega (arith, height);
  ends = λ cut same. absurd (omega (arith, is_cut, cut));
  stuck = subst (λ w. IfSome (way_of w) (λ s. GetsStuck p (reverse s))) (sym nearest) tt;
  known = λ none. stuck;
  shortest = λ cut. absurd (omega (arith, is_cut, cut));
}

-- all who may move have moved, and there is one
pub tells_all : (depth : ℕ) (f : Finding) (p : Stand) (movers : List ℕ)
    → ((k : ℕ) → may p k ≡ true → Contains movers k) → All (λ k. may p k ≡ true) movers → 0 < length movers
    → TellsAll depth f p movers → Tells depth f p
tells_all depth f p movers all sound some tells = record {
  within = tells.within;
  ends = λ cut stuck. all_tried f.height p movers (tells.some cut some) all sound some (tells.ends cut stuck);
  stuck = tells.stuck;
  known = tells.known;
  shortest = λ cut n least. all_known n p movers all sound some (tells.shortest cut n least);
}
