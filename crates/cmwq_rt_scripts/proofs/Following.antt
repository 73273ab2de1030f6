-- A caller follows one script and then another.
use Rattle.cmwq_rt_scripts.specs.Common.{◌≡◌, ◌+◌, ◌≤◌, ◌∷◌, ◌++◌, ℕ, List, [], length, subst, arith}
use Rattle.cmwq_rt_scripts.specs.Common.{Call, Entry, Layout, View, made_by, Follows, HasFollowed}
use Rattle.std.proofs.Common.{inl, inr, append_assoc}
use Rattle.cmwq_model.specs.declared.id.Who.{Who}
use Rattle.cmwq_monitor.proofs.Entries.{gains_more}
use Rattle.cmwq_rt.proofs.Following.{follows_later}

follows_both : (s : Layout) (who : Who) (h : List Entry) (xs ys : List Call) (made mid all : List Entry) (n k : ℕ)
    → Follows s who h made xs mid n → Follows s who h mid ys all k → Follows s who h made (xs ++ ys) all (n + k)
follows_both s who h [] ys made mid all n k (same, none) rest =
    let count : k ≡ n + k = omega (arith, none) in
    subst (λ (m : ℕ). Follows s who h made ys all m) count (subst (λ xs. Follows s who h xs ys all k) same rest)
follows_both s who h (c ∷ cs) ys made mid all n k (inl (r, es, makes, f)) rest =
    inl (r, es, makes, follows_both s who h cs ys (made ++ es) mid all n k f rest)
follows_both s who h (c ∷ cs) ys made mid all n k (inr (p, is, room, f)) rest =
    inr (p + k, omega (arith, is), room, follows_both s who h cs ys made mid all p k f rest)

pub followed_both : (s : Layout) (xs ys : List Call) (n k : ℕ) (v m w : View) → HasFollowed s xs n v m
    → HasFollowed s ys k m w → HasFollowed s (xs ++ ys) (n + k) v w
followed_both s xs ys n k v m w first next =
    let mine = made_by v.who v.seen in
    let between = mine ++ first.entries in
    let as_first : Follows s v.who w.seen (made_by v.who m.seen) ys (made_by v.who m.seen ++ next.entries) k =
    subst (λ who. Follows s who w.seen (made_by who m.seen) ys (made_by who m.seen ++ next.entries) k)
    first.gains.same next.follows in
    let after : Follows s v.who w.seen between ys (between ++ next.entries) k =
    subst (λ made. Follows s v.who w.seen made ys (made ++ next.entries) k) first.gains.made as_first in
    record {
      entries = first.entries ++ next.entries;
      gains = gains_more v m w first.entries next.entries first.gains next.gains;
      follows = follows_both s v.who w.seen xs ys mine between (mine ++ (first.entries ++ next.entries)) n k
          (follows_later s v.who m.seen w.seen next.gains.older xs mine between n first.follows)
          (subst (λ all. Follows s v.who w.seen between ys all k) (append_assoc mine first.entries next.entries) after);
    }

-- no more calls are left out than there are
follows_few : (s : Layout) (who : Who) (h : List Entry) (xs : List Call) (made all : List Entry) (n : ℕ)
    → Follows s who h made xs all n → n ≤ length xs
follows_few s who h [] made all n (same, none) = omega (arith, none)
follows_few s who h (c ∷ cs) made all n (inl (r, es, makes, f)) =
    let few = follows_few s who h cs (made ++ es) all n f in
    omega arith
follows_few s who h (c ∷ cs) made all n (inr (p, is, room, f)) =
    let few = follows_few s who h cs made all p f in
    omega (arith, is)

pub followed_few : (s : Layout) (xs : List Call) (n : ℕ) (v w : View) → HasFollowed s xs n v w → n ≤ length xs
followed_few s xs n v w has = follows_few s v.who w.seen xs _ _ n has.follows
