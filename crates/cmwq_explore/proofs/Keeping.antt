-- What was found of a state is true of each that is alike.
use Rattle.std.proofs.Common.{ℕ, ◌≡◌, ◌<◌, ◌≤◌, ◌∙◌, ◌++◌, ◌∷◌, [], Bool, true, false, List, Option, Some, None, refl}
use Rattle.std.proofs.Common.{subst, sym, arith, cond}
use Rattle.std.proofs.lemmas.Option.{same_Some}
use Rattle.std.proofs.lemmas.Slice.Eq.{bytes_eq-Decides}
use Rattle.std.specs.Bool.{Decides}
use Rattle.std.specs.Str.{bytes_eq}
use Rattle.std.specs.Prelude.{IfSome, reverse}
use Rattle.cmwq_explore.specs.declared.finding.Finding.{Finding}
use Rattle.cmwq_explore.specs.declared.finding.Marks.{Marks}
use Rattle.cmwq_explore.specs.declared.seen.Seen.{Seen}
use Rattle.cmwq_key.specs.Alike.{AreAlike, IsStand}
use Rattle.cmwq_explore.specs.declared.search.Search.{Search}
use Rattle.cmwq_explore.specs.Findings.{JoinsMove, Tells, Way, way_of}
use Rattle.cmwq_key.specs.Keys.{key_of}
use Rattle.cmwq_play.specs.Searches.{IsReached, GetsStuck}
use Rattle.cmwq_explore.specs.Seens.{IsSearch, JoinsSeen, Key, KnowsAll, KnowsOf, found_of, is_same_key}
use Rattle.cmwq_play.specs.Stands.{Stand, may, moved}
use Rattle.cmwq_key.proofs.AlikeSearches.{ends_alike, gets_stuck_alike, stuck_alike}
use Rattle.cmwq_key.proofs.SameKeys.{same_keys_are_alike}
use Rattle.cmwq_play.proofs.Paths.{path_push}

stuck_too : (p q : Stand) (way : Way) → AreAlike p q → IfSome way (λ w. GetsStuck p (reverse w))
    → IfSome way (λ w. GetsStuck q (reverse w))
stuck_too p q None a stuck = tt
stuck_too p q (Some w) a stuck = (gets_stuck_alike p q (reverse w) a).0 stuck

pub told_alike : (depth : ℕ) (f : Finding) (p q : Stand) → AreAlike p q → Tells depth f p → Tells f.height f q
told_alike depth f p q a tells = record {
  within = omega arith;
  ends = λ cut stuck. (ends_alike f.height p q a).0 (tells.ends cut stuck);
  stuck = stuck_too p q (way_of f.nearest) a tells.stuck;
  known = tells.known;
  shortest = λ cut n least. (stuck_alike n p q a).0 (tells.shortest cut n least);
}

-- ---- what is kept

pub put_known : (start : Stand) (old new : Seen) (key : Key) (f : Finding)
    → ((other : Key) → found_of new other ≡ cond (is_same_key key other) (Some f) (found_of old other))
    → KnowsAll start old → f.cut ≡ 0 → KnowsOf start key.items f → KnowsAll start new
put_known start old new key f puts known whole knows other g found =
    here (bytes_eq key.items other.items) refl (bytes_eq-Decides key.items other.items)
  where
    here : (b : Bool) → bytes_eq key.items other.items ≡ b → Decides b (key.items ≡ other.items)
        → (g.cut ≡ 0) × KnowsOf start other.items g
    here true is same =
        let one : Some f ≡ Some g = sym (rw is at (puts other)) ∙ found in
        subst (λ (h : Finding). (h.cut ≡ 0) × KnowsOf start other.items h) (same_Some f g one)
        (whole, subst (λ (k : List ℕ). KnowsOf start k f) (same.0 refl) knows)
    here false not same = known other g (sym (rw not at (puts other)) ∙ found)

-- ---- searches

pub same_search : (start : Stand) (old new : Search) → new.seen ≡ old.seen → new.merges ≡ old.merges
    → IsSearch start old → IsSearch start new
same_search start old new seen merges search = record {
  begins = λ is. search.begins (sym merges ∙ is);
  knows = subst (λ (s : Seen). KnowsAll start s) (sym seen) search.knows;
}

pub reached_move : (start p q : Stand) (party : ℕ) → IsReached start p → may p party ≡ true → q ≡ moved p party
    → IsReached start q
reached_move start p q party reached is moves =
    let longer = reached.0 ++ party ∷ [] in
    (longer, path_push start p q reached.0 longer party reached.1 is moves refl)

-- what was found of one stand is true of all with the same key
pub known_of : (start p : Stand) (key : List ℕ) (depth : ℕ) (f : Finding) → IsStand start → IsReached start p
    → key_of p ≡ key → Tells depth f p → KnowsOf start key f
known_of start p key depth f begins reached is tells = λ q there same.
    told_alike depth f p q (same_keys_are_alike start p q begins reached there (is ∙ sym same)) tells

within_more : (depth more : ℕ) (f : Finding) (p : Stand) → depth ≤ more → Tells depth f p → Tells more f p
within_more depth more f p less tells = record {
  within = let within = tells.within in omega arith;
  ends = tells.ends;
  stuck = tells.stuck;
  known = tells.known;
  shortest = tells.shortest;
}

-- what is known of a state that came again is added
pub joined_seen : (start p q : Stand) (seen : Seen) (depth party : ℕ) (marks : Marks) (old new : Finding)
    → KnowsAll start seen → IsReached start q → q ≡ moved p party → JoinsSeen seen q depth party marks old new
    → JoinsMove depth p party old new
joined_seen start p q seen depth party marks old new knows reached moves (key, child, keyed, found, within, joins) = (
  child,
  marks,
  subst (Tells depth child) moves
      (within_more child.height depth child q within ((knows key child found).1 q reached (sym keyed))),
  joins,
)

-- and nothing more is cut off
pub seen_is_whole : (start q : Stand) (seen : Seen) (depth party : ℕ) (marks : Marks) (old new : Finding)
    → KnowsAll start seen → JoinsSeen seen q depth party marks old new → 0 < new.cut → 0 < old.cut
seen_is_whole start q seen depth party marks old new knows (key, child, keyed, found, within, joins) some =
    let whole = (knows key child found).0 in
    omega (arith, joins.cut, whole)

-- where each key is one of which something is known
pub each_kept : {X : Type 0} {P : X → Type 0} (Q : X → Type 0) (key : Option X) → IfSome key P
    → ((k : X) → P k → Q k) → IfSome key Q
each_kept Q (Some k) told so = so k told
each_kept Q None told so = tt
