-- Why something is cut off, said of the stand before a move and of the search after it.
use Rattle.std.proofs.Common.{ℕ, zero, suc, ◌≡◌, ◌<◌, ◌+◌, ◌∷◌, [], true, List, length, refl, subst, sym, arith}
use Rattle.std.proofs.Common.{◌∙◌, inl, inr, ◌⊎◌}
use Rattle.std.proofs.lemmas.List.Elements.{All-get_or}
use Rattle.std.specs.Prelude.{All, get_or}
use Rattle.cmwq_explore.specs.Cuts.{HasGoneOn, HasLonger, IsLater, IsLimited, MayCut}
use Rattle.cmwq_explore.specs.Findings.{sum}
use Rattle.cmwq_explore.specs.declared.progress.Progress.{Progress}
use Rattle.cmwq_explore.specs.declared.search.Limits.{Limits}
use Rattle.cmwq_explore.specs.declared.search.Search.{Search}
use Rattle.cmwq_play.specs.Stands.{Stand, may, moved}

-- ---- how far a search is

pub gone_on_more : (a b c : Progress) → HasGoneOn a b → HasGoneOn b c → HasGoneOn a c
gone_on_more a b c one other =
    let one_moves = one.moves in
    let one_stuck = one.stuck in
    let moves = other.moves in
    let stuck = other.stuck in
    record { moves = omega arith; stuck = omega arith }

pub later_more : (a b c : Search) → IsLater a b → IsLater b c → IsLater a c
later_more a b c one other = record {
  limits = other.limits ∙ one.limits;
  progress = gone_on_more a.progress b.progress c.progress one.progress other.progress;
}

pub later_same : (s : Search) → IsLater s s
later_same s = record { limits = refl; progress = record { moves = omega arith; stuck = omega arith } }

limited_on : (limits : Limits) (a b : Progress) → HasGoneOn a b → IsLimited limits a → IsLimited limits b
limited_on limits a b on (inl moves) = let more = on.moves in inl (omega arith)
limited_on limits a b on (inr (first, stuck)) = let more = on.stuck in inr (first, omega arith)

-- what was a reason is one still
pub cut_later : (depth : ℕ) (p : Stand) (a b : Search) → IsLater a b → MayCut depth p a → MayCut depth p b
cut_later depth p a b later (inl is) =
    inl (limited_on b.limits a.progress b.progress later.progress
    (subst (λ limits. IsLimited limits a.progress) (sym later.limits) is))
cut_later depth p a b later (inr longer) = inr longer

-- ---- schedules

-- one that goes on after a move is longer by that
longer_before : (depth : ℕ) (p : Stand) (party : ℕ) → may p party ≡ true → HasLonger depth (moved p party)
    → HasLonger (depth + 1) p
longer_before depth p party is (schedule, goes, longer) = (party ∷ schedule, (is, goes), omega arith)

pub cut_before : (depth : ℕ) (p q : Stand) (party : ℕ) (s : Search) → may p party ≡ true → q ≡ moved p party
    → MayCut depth q s → MayCut (depth + 1) p s
cut_before depth p q party s is moves (inl limited) = inl limited
cut_before depth p q party s is moves (inr longer) =
    inr (longer_before depth p party is (subst (HasLonger depth) moves longer))

-- where somebody may move, a schedule has more moves than none
pub longer_than_none : (p : Stand) (movers : List ℕ) → All (λ k. may p k ≡ true) movers → 0 < length movers
    → HasLonger 0 p
longer_than_none p movers sound some =
    (get_or movers 0 0 ∷ [], (All-get_or (λ k. may p k ≡ true) movers 0 0 some sound, tt), omega arith)

-- ---- sums

-- after one move more of those that are tried
pub cut_of_next : (depth : ℕ) (p q : Stand) (a b : Search) (old new : ℕ) → q ≡ p → IsLater a b
    → (0 < old → MayCut depth p a) → (0 < new → (0 < old) ⊎ MayCut depth q b) → 0 < new → MayCut depth p b
cut_of_next depth p q a b old new same later was after some = here (after some)
  where
    here : (0 < old) ⊎ MayCut depth q b → MayCut depth p b
    here (inl before) = cut_later depth p a b later (was before)
    here (inr may) = subst (λ r. MayCut depth r b) same may

-- what was cut off in all was so before, or after the move
pub cut_of_sum : {P : Type 0} (old child new : ℕ) → new ≡ sum old child → (0 < child → P) → 0 < new → (0 < old) ⊎ P
cut_of_sum zero child new adds after some = inr (after (omega (arith, adds)))
cut_of_sum (suc old) child new adds after some = inl (omega arith)
