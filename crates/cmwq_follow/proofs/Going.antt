-- How a search for a schedule goes on.
use Rattle.std.proofs.Common.{ℕ, ◌≡◌, ◌+◌, ◌≤◌, ◌++◌, ◌∷◌, [], List, length, true, false, refl, sym, subst, ap}
use Rattle.std.proofs.Common.{◌<◌, ◌∙◌, arith, max, suc, take, zero, ⊎_elim, ◌⊎◌, inl, inr}
use Rattle.std.proofs.Common.{Bool, Option, Some, None, is_some}
use Rattle.std.specs.Prelude.{MatchOption, option_to_list}
use Rattle.std.proofs.lemmas.List.{length-append}
use Rattle.std.proofs.Math.Nat.{le-max_left, le-max_right}
use mathlib.Core.List.{IsPrefix}
use Rattle.cmwq_model.specs.declared.entry.Entry.{Entry}
use Rattle.cmwq_play.specs.Searches.{IsSchedule, after}
use Rattle.cmwq_play.specs.Stands.{Stand, may, moved}
use Rattle.cmwq_play.specs.declared.setup.Setup.{Setup}
unfoldable use Rattle.cmwq_play.specs.Starts.{start_of}
use Rattle.cmwq_play.proofs.Moving.{may_within}
use Rattle.cmwq_play.proofs.Paths.{after_more, path_push}
use Rattle.cmwq_key.proofs.Staying.{schedules_add}
use Rattle.cmwq_follow.proofs.Prefixes.{all_of, front_agrees, no_longer, prefixes, same_agree}
use Rattle.cmwq_follow.specs.Followed.{IfBreaks, LeaveAtMost, Leaves}
use Rattle.cmwq_follow.specs.Ways.{IsDeadEnd, IsTrying, IsUnderWay, Leads, NoneLeft}
use Rattle.cmwq_follow.specs.declared.search.Followed.{Followed}
use Rattle.cmwq_follow.specs.declared.search.Followed.TheVariants as followed
use Rattle.cmwq_follow.specs.declared.search.Way.{Way}
unfoldable use Rattle.cmwq_follow.specs.Ways.{NoneLeftAlong}
use Rattle.cmwq_follow.specs.declared.search.Tried.{Tried}
use Rattle.cmwq_follow.specs.declared.search.Tried.TheVariants as tried

pub false_or : (b : Bool) → b ≡ true → b ≡ false → ⊥
false_or true is not = cc
false_or false is not = cc

one_is_less : (k n : ℕ) → (k ≤ n) ⊎ (n ≤ k)
one_is_less zero n = inl (omega arith)
one_is_less (suc k) zero = inr (omega arith)
one_is_less (suc k) (suc n) =
    ⊎_elim (λ (less : k ≤ n). inl (omega arith)) (λ (less : n ≤ k). inr (omega arith)) (one_is_less k n)

-- one move only adds entries
pub move_adds : (p : Stand) (k : ℕ) → IsPrefix p.history.entries (moved p k).history.entries
move_adds p k = schedules_add p (k ∷ [])

-- a stand in which nobody is left adds nothing to what was left there
pub none_from : (history : List Entry) (q : Stand) (most : ℕ) → length q.history.entries ≤ most
    → (q.history.entries ≡ history → ⊥) → NoneLeft history most q tried.Nobody → LeaveAtMost q history most
none_from history q most few part none [] goes = (part, λ n within same. omega (arith, few, within))
none_from history q most few part none (k ∷ more) goes = none k tt goes.0 more goes.1

-- what is told of so many entries is true of more
pub higher : (history : List Entry) (q : Stand) (most more : ℕ) → most ≤ more → LeaveAtMost q history most
    → LeaveAtMost q history more
higher history q most more up none schedule goes =
    let here = none schedule goes in (here.0, λ n within same. let few = here.1 n within same in omega (arith, few, up))

-- a stand with an entry that is none of the history's leaves no more than those before it
pub none_beyond : (history : List Entry) (q : Stand) (agreeing : ℕ)
    → ((n : ℕ) → n ≤ length q.history.entries → IsPrefix (take n q.history.entries) history → n ≤ agreeing)
    → agreeing < length q.history.entries → LeaveAtMost q history agreeing
none_beyond history q agreeing most part schedule goes =
    let here = q.history.entries in
    let there = (after q schedule).history.entries in
    let adds : IsPrefix here there = schedules_add q schedule in
    let long : length here ≤ length there = no_longer here there adds in
    let not_all : (n : ℕ) → length here ≤ n → IsPrefix (take n there) history → ⊥ =
    λ n all agree. let few = most (length here) (omega arith)
    (front_agrees here there history (length here) n adds (omega arith) all agree) in absurd (omega (arith, few, part)) in (
      λ same. not_all (length there) long (same_agree there history same),
      λ n within agree. ⊎_elim (λ (all : length here ≤ n). absurd (not_all n all agree))
          (λ (less : n ≤ length here). most n less
          (front_agrees here there history n n adds less (omega arith) agree))
          (one_is_less (length here) n),
    )

-- ---- the stands of a way

-- those of all stands but the last, and those of the last
along_last : (history : List Entry) (m : ℕ) (p : Stand) (path : List ℕ) (front : List Tried) (t : Tried)
    → length front ≡ length path → NoneLeftAlong history m p path (front ++ t ∷ [])
    → NoneLeftAlong history m p path front × NoneLeft history m (after p path) t
unfolding NoneLeftAlong
along_last history m p [] [] t same none = (tt, none)
along_last history m p [] (s ∷ front) t same none = absurd (omega arith)
along_last history m p (k ∷ path) [] t same none = absurd (omega arith)
along_last history m p (k ∷ path) (s ∷ front) t same none =
    let more = along_last history m (moved p k) path front t (omega arith) none.1 in ((none.0, more.0), more.1)

along_join : (history : List Entry) (m : ℕ) (p : Stand) (path : List ℕ) (front : List Tried) (t : Tried)
    → length front ≡ length path → NoneLeftAlong history m p path front → NoneLeft history m (after p path) t
    → NoneLeftAlong history m p path (front ++ t ∷ [])
unfolding NoneLeftAlong
along_join history m p [] [] t same none last = last
along_join history m p [] (s ∷ front) t same none last = absurd (omega arith)
along_join history m p (k ∷ path) [] t same none last = absurd (omega arith)
along_join history m p (k ∷ path) (s ∷ front) t same none last =
    (none.0, along_join history m (moved p k) path front t (omega arith) none.1 last)

-- The last move of a way leads to a stand for which nobody is told.
along_move : (history : List Entry) (m : ℕ) (p : Stand) (path : List ℕ) (k : ℕ) (front : List Tried)
    → length front ≡ length path + 1 → NoneLeftAlong history m p (path ++ k ∷ []) front
    → NoneLeftAlong history m p path front
unfolding NoneLeftAlong
along_move history m p path k [] same none = absurd (omega arith)
along_move history m p [] k (s ∷ []) same none = none.0
along_move history m p [] k (s ∷ t ∷ front) same none = absurd (omega arith)
along_move history m p (j ∷ path) k (s ∷ front) same none =
    (none.0, along_move history m (moved p j) path k front (omega arith) none.1)

move_along : (history : List Entry) (m : ℕ) (p : Stand) (path : List ℕ) (k : ℕ) (front : List Tried)
    → length front ≡ length path + 1 → NoneLeftAlong history m p path front
    → NoneLeftAlong history m p (path ++ k ∷ []) front
unfolding NoneLeftAlong
move_along history m p path k [] same none = absurd (omega arith)
move_along history m p [] k (s ∷ []) same none = (none, tt)
move_along history m p [] k (s ∷ t ∷ front) same none = absurd (omega arith)
move_along history m p (j ∷ path) k (s ∷ front) same none =
    (none.0, move_along history m (moved p j) path k front (omega arith) none.1)

-- ---- who is left

same_or_later : (k j : ℕ) → k ≤ j → (k ≡ j) ⊎ (k + 1 ≤ j)
same_or_later zero zero from = inl refl
same_or_later zero (suc j) from = inr (omega arith)
same_or_later (suc k) zero from = absurd (omega arith)
same_or_later (suc k) (suc j) from =
    ⊎_elim (λ (same : k ≡ j). inl (ap suc same)) (λ (later : k + 1 ≤ j). inr (omega arith))
    (same_or_later k j (omega arith))

same_or_other : (k j : ℕ) → (k ≡ j) ⊎ (k ≡ j → ⊥)
same_or_other zero zero = inl refl
same_or_other zero (suc j) = inr (λ same. absurd (omega (arith, same)))
same_or_other (suc k) zero = inr (λ same. absurd (omega (arith, same)))
same_or_other (suc k) (suc j) =
    ⊎_elim (λ (same : k ≡ j). inl (ap suc same))
    (λ (other : k ≡ j → ⊥). inr (λ same. other (omega (arith, same)))) (same_or_other k j)

module _ (history : List Entry) (m : ℕ) (p : Stand) where
  by_another : (k j : ℕ) → (may p k ≡ true → LeaveAtMost (moved p k) history m) → k ≡ j → may p j ≡ true
      → LeaveAtMost (moved p j) history m
  by_another k j this same is =
      subst (λ i. LeaveAtMost (moved p i) history m) same (this (subst (λ i. may p i ≡ true) (sym same) is))

  -- all are left where the likely party was not tried
  likely_first : (likely : ℕ) → (may p likely ≡ true → LeaveAtMost (moved p likely) history m)
      → NoneLeft history m p (tried.Others likely 0) → NoneLeft history m p tried.Nobody
  likely_first likely this others j left is =
      ⊎_elim (λ (same : likely ≡ j). by_another likely j this same is)
      (λ (other : likely ≡ j → ⊥). others j (omega arith, λ same. other (sym same)) is) (same_or_other likely j)

  -- the others are left where this party was tried in its turn
  in_turn : (likely next : ℕ) → (may p next ≡ true → LeaveAtMost (moved p next) history m)
      → NoneLeft history m p (tried.Others likely (next + 1)) → NoneLeft history m p (tried.Others likely next)
  in_turn likely next this others j left is =
      ⊎_elim (λ (same : next ≡ j). by_another next j this same is)
      (λ (later : next + 1 ≤ j). others j (later, left.1) is) (same_or_later next j left.0)

  -- the likely one has no turn of its own
  no_turn : (likely next : ℕ) → next ≡ likely → NoneLeft history m p (tried.Others likely (next + 1))
      → NoneLeft history m p (tried.Others likely next)
  no_turn likely next here others j left is =
      ⊎_elim (λ (same : next ≡ j). absurd (left.1 (sym same ∙ here)))
      (λ (later : next + 1 ≤ j). others j (later, left.1) is) (same_or_later next j left.0)

  -- there is no party of a greater number
  pub nobody_left : (likely next : ℕ) → length p.callers + length p.workers ≤ next
      → NoneLeft history m p (tried.Others likely next)
  nobody_left likely next all j left is =
      absurd (let within = may_within p j is in let from = left.0 in omega arith)

-- ---- the search

-- the search begins
pub begun : (start : Stand) (history : List Entry) → start.history.entries ≡ [] → 0 < length history
    → Leads start history 0 [] (tried.Nobody ∷ []) start
unfolding NoneLeftAlong
begun start history fresh some =
    let part : start.history.entries ≡ history → ⊥ =
    λ same. let none : length history ≡ 0 = ap length (sym same ∙ fresh) in absurd (omega (arith, none, some)) in
    record {
      goes = (tt, refl);
      left = (history, ap (λ xs. xs ++ history) fresh);
      part = part;
      long = refl;
      rest = λ m less none.
          none_from history start m (subst (λ xs. length xs ≤ m) (sym fresh) (omega arith)) part none;
    }

front_long : (path : List ℕ) (front : List Tried) (t : Tried) → length (front ++ t ∷ []) ≡ length path + 1
    → length front ≡ length path
front_long path front t long = let both = length-append front (t ∷ []) in omega arith

schedule_front : (p : Stand) (path : List ℕ) (k : ℕ) → IsSchedule p (path ++ k ∷ []) → IsSchedule p path
schedule_front p [] k goes = tt
schedule_front p (j ∷ path) k goes = (goes.0, schedule_front (moved p j) path k goes.1)

module _ {start : Stand} {history : List Entry} {most : ℕ} where
  -- in the last stand others are left
  pub left_others : (path : List ℕ) (front : List Tried) (t u : Tried) (p : Stand)
      → Leads start history most path (front ++ t ∷ []) p
      → ((m : ℕ) → most ≤ m → NoneLeft history m p u → NoneLeft history m p t)
      → Leads start history most path (front ++ u ∷ []) p
  left_others path front t u p w others =
      let here = front_long path front t w.long in
      record {
        goes = w.goes;
        left = w.left;
        part = w.part;
        long = length-append front (u ∷ []) ∙ ap (λ n. n + 1) here;
        rest = λ m less none.
            let parts = along_last history m start path front u here none in
            w.rest m less (along_join history m start path front t here parts.0
            (subst (λ s. NoneLeft history m s t) w.goes.1
            (others m less (subst (λ s. NoneLeft history m s u) (sym w.goes.1) parts.1))));
      }

  -- more entries than before were found
  raised : (path : List ℕ) (tries : List Tried) (p : Stand) (more : ℕ) → Leads start history most path tries p
      → most ≤ more → Leads start history more path tries p
  raised path tries p more w up =
      record {
        goes = w.goes;
        left = w.left;
        part = w.part;
        long = w.long;
        rest = λ m less none. w.rest m (omega (arith, less, up)) none;
      }

  -- one of them moves
  pub goes_on : (path longer : List ℕ) (front : List Tried) (tries : List Tried) (t u : Tried) (p q : Stand)
      (k more : ℕ)
      → Leads start history most path (front ++ t ∷ []) p → may p k ≡ true → q ≡ moved p k
      → IsPrefix q.history.entries history → (q.history.entries ≡ history → ⊥)
      → ((m : ℕ) → LeaveAtMost (moved p k) history m → NoneLeft history m p u → NoneLeft history m p t)
      → longer ≡ path ++ k ∷ [] → tries ≡ front ++ u ∷ [] ++ tried.Nobody ∷ [] → most ≤ more
      → length q.history.entries ≤ more → Leads start history more longer tries q
  goes_on path longer front tries t u p q k more w is to left part others pushed tried_more higher few =
      let here = front_long path front t w.long in
      let goes = path_push start p q path longer k w.goes is to pushed in
      let last : length (front ++ u ∷ []) ≡ length path + 1 = length-append front (u ∷ []) ∙ ap (λ n. n + 1) here in
      let long : length longer ≡ length path + 1 = ap length pushed ∙ length-append path (k ∷ []) in
      record {
        goes = goes;
        left = left;
        part = part;
        long = ap length tried_more ∙ length-append (front ++ u ∷ []) (tried.Nobody ∷ [])
            ∙ ap (λ n. n + 1) (last ∙ sym long);
        rest = λ m less none.
            let parts = along_last history m start longer (front ++ u ∷ []) tried.Nobody (last ∙ sym long)
            (subst (λ ts. NoneLeftAlong history m start longer ts) tried_more none) in
            let before = along_move history m start path k (front ++ u ∷ []) last
            (subst (λ ks. NoneLeftAlong history m start ks (front ++ u ∷ [])) pushed parts.0) in
            let these = along_last history m start path front u here before in
            let child = none_from history q m (omega arith) part
            (subst (λ s. NoneLeft history m s tried.Nobody) (sym goes.1) parts.1) in
            w.rest m (omega arith) (along_join history m start path front t here these.0
            (subst (λ s. NoneLeft history m s t) w.goes.1
            (others m (subst (λ s. LeaveAtMost s history m) to child)
            (subst (λ s. NoneLeft history m s u) (sym w.goes.1) these.1))));
      }

  -- nobody is left in the last stand, and the search goes back
  pub goes_back : (path longer : List ℕ) (front : List Tried) (t : Tried) (p q : Stand) (k : ℕ)
      → Leads start history most longer (front ++ t ∷ []) p → ((m : ℕ) → NoneLeft history m p t)
      → longer ≡ path ++ k ∷ [] → q ≡ after start path → Leads start history most path front q
  goes_back path longer front t p q k w nobody pushed there =
      let here = front_long longer front t w.long in
      let long : length longer ≡ length path + 1 = ap length pushed ∙ length-append path (k ∷ []) in
      let adds : IsPrefix q.history.entries p.history.entries =
      subst (λ s. IsPrefix q.history.entries s.history.entries)
      (ap (λ s. moved s k) there ∙ sym (after_more start path k) ∙ ap (after start) (sym pushed) ∙ sym w.goes.1)
      (move_adds q k) in
      record {
        goes = (schedule_front start path k (subst (IsSchedule start) pushed w.goes.0), there);
        left = prefixes q.history.entries p.history.entries history adds w.left;
        part = λ same.
            let least = no_longer q.history.entries p.history.entries adds in
            let greatest = no_longer p.history.entries history w.left in
            let all = ap length same in
            w.part (all_of p.history.entries history w.left (omega (arith, least, greatest, all)));
        long = here ∙ long;
        rest = λ m less none.
            w.rest m less (along_join history m start longer front t here
            (subst (λ ks. NoneLeftAlong history m start ks front) (sym pushed)
            (move_along history m start path k front (here ∙ long) none))
            (subst (λ s. NoneLeft history m s t) w.goes.1 (nobody m)));
      }

  -- nobody is left in the first stand
  pub ends : (path : List ℕ) (front : List Tried) (t : Tried) (p : Stand)
      → Leads start history most path (front ++ t ∷ []) p → ((m : ℕ) → NoneLeft history m p t) → path ≡ []
      → LeaveAtMost start history most
  unfolding NoneLeftAlong
  ends path front t p w nobody none =
      let here = front_long path front t w.long in
      let empty : front ≡ [] = empty_is front (here ∙ ap length none) in
      w.rest most (omega arith) (along_join history most start path front t here
      (subst (λ ts. NoneLeftAlong history most start path ts) (sym empty) tt)
      (subst (λ s. NoneLeft history most s t) w.goes.1 (nobody most)))
    where
      empty_is : (xs : List Tried) → length xs ≡ 0 → xs ≡ []
      empty_is [] same = refl
      empty_is (x ∷ xs) same = absurd (omega arith)

-- no setup has entries yet
pub fresh : (s : Setup) → (start_of s).history.entries ≡ []
unfolding start_of
fresh s = refl

-- the search begins with no move
pub begun_as : (start : Stand) (history : List Entry) (path : List ℕ) (tries : List Tried)
    → start.history.entries ≡ [] → 0 < length history → path ≡ [] → tries ≡ tried.Nobody ∷ []
    → Leads start history 0 path tries start
begun_as start history path tries fresh some none one =
    subst (λ ks. Leads start history 0 ks tries start) (sym none)
    (subst (λ ts. Leads start history 0 [] ts start) (sym one) (begun start history fresh some))

-- ---- who is tried

-- the likely party
pub trying_likely : (start : Stand) (history : List Entry) (way : Way) (p : Stand) (likely : ℕ) (old front : List Tried)
    → Leads start history way.most way.path.items old p → old ≡ front ++ tried.Nobody ∷ []
    → way.tries.items ≡ front ++ tried.Others likely 0 ∷ [] → IsTrying start history way p likely
trying_likely start history way p likely old front w last now =
    record {
      front = front;
      before = tried.Nobody;
      noted = tried.Others likely 0;
      leads = subst (λ ts. Leads start history way.most way.path.items ts p) last w;
      tries = now;
      others = λ m this none. likely_first history m p likely this none;
    }

-- another one
pub trying_next : (start : Stand) (history : List Entry) (way : Way) (p : Stand) (likely next : ℕ)
    (old front : List Tried) → Leads start history way.most way.path.items old p
    → old ≡ front ++ tried.Others likely next ∷ [] → way.tries.items ≡ front ++ tried.Others likely (next + 1) ∷ []
    → IsTrying start history way p next
trying_next start history way p likely next old front w last now =
    record {
      front = front;
      before = tried.Others likely next;
      noted = tried.Others likely (next + 1);
      leads = subst (λ ts. Leads start history way.most way.path.items ts p) last w;
      tries = now;
      others = λ m this none. in_turn history m p likely next this none;
    }

-- nobody, as it would be the likely one's turn
pub passed_over : (start : Stand) (history : List Entry) (most : ℕ) (path : List ℕ) (p : Stand) (likely next : ℕ)
    (old new front : List Tried) → Leads start history most path old p
    → old ≡ front ++ tried.Others likely next ∷ [] → next ≡ likely
    → new ≡ front ++ tried.Others likely (next + 1) ∷ [] → Leads start history most path new p
passed_over start history most path p likely next old new front w last here now =
    subst (λ ts. Leads start history most path ts p) (sym now)
    (left_others path front (tried.Others likely next) (tried.Others likely (next + 1)) p
    (subst (λ ts. Leads start history most path ts p) last w)
    (λ m less none. no_turn history m p likely next here none))

-- ---- what a try comes to

-- the move was tried in vain
pub tried_in_vain : (start : Stand) (history : List Entry) (way : Way) (p : Stand) (party more : ℕ)
    → IsTrying start history way p party → way.most ≤ more
    → (may p party ≡ true → LeaveAtMost (moved p party) history more)
    → Leads start history more way.path.items way.tries.items p
tried_in_vain start history way p party more t up none =
    subst (λ ts. Leads start history more way.path.items ts p) (sym t.tries)
    (left_others way.path.items t.front t.before t.noted p
    (raised way.path.items (t.front ++ t.before ∷ []) p more t.leads up)
    (λ m less others. t.others m (λ is. higher history (moved p party) more m less (none is)) others))

-- it was taken
pub tried_on : (start : Stand) (history : List Entry) (way new : Way) (p q : Stand) (party left : ℕ)
    → IsTrying start history way p party → may p party ≡ true → q ≡ moved p party
    → IsPrefix q.history.entries history → (q.history.entries ≡ history → ⊥)
    → new.path.items ≡ way.path.items ++ party ∷ []
    → new.tries.items ≡ way.tries.items ++ tried.Nobody ∷ [] → new.most ≡ max way.most left
    → left ≡ length q.history.entries → IsUnderWay start history new q
tried_on start history way new p q party left t is to front part pushed tries most long =
    goes_on way.path.items new.path.items t.front new.tries.items t.before t.noted p q party new.most t.leads is to front
    part (λ m child none. t.others m (λ _. child) none) pushed
    (tries ∙ ap (λ ts. ts ++ tried.Nobody ∷ []) t.tries)
    (subst (λ n. way.most ≤ n) (sym most) (le-max_left way.most left))
    (subst (λ n. length q.history.entries ≤ n) (sym most)
    (subst (λ n. n ≤ max way.most left) long (le-max_right way.most left)))

-- and left the whole history
pub left_all : (start : Stand) (history : List Entry) (way new : Way) (p q : Stand) (party : ℕ)
    → IsTrying start history way p party → may p party ≡ true → q ≡ moved p party
    → IsPrefix q.history.entries history → new.path.items ≡ way.path.items ++ party ∷ []
    → length q.history.entries ≡ length history → Leaves start history new.path.items
left_all start history way new p q party t is to front pushed long =
    let goes = path_push start p q way.path.items new.path.items party t.leads.goes is to pushed in
    record {
      goes = goes.0;
      left = ap (λ (s : Stand). s.history.entries) (sym goes.1) ∙ all_of q.history.entries history front long;
    }

-- ---- what is taken from the end of a list

pub emptied : (old : List ℕ) (n m : ℕ) (r : Option ℕ) → n ≡ length old → is_some r ≡ false
    → MatchOption r ((n ≡ 0) × (m ≡ 0)) (λ _. m + 1 ≡ n) → old ≡ []
emptied [] n m r long none cases = refl
emptied (x ∷ old) n m None long none cases = absurd (let no = cases.0 in omega arith)
emptied (x ∷ old) n m (Some k) long none cases = cc

pub popped : (old new : List ℕ) (r : Option ℕ) → is_some r ≡ true → old ≡ new ++ option_to_list r
    → (k : ℕ) × (old ≡ new ++ k ∷ [])
popped old new None some is = cc
popped old new (Some k) some is = (k, is)

-- the schedule without moves leaves nothing
pub leaves_nothing : (start : Stand) (history : List Entry) (path : List ℕ) → start.history.entries ≡ []
    → length history ≡ 0 → path ≡ [] → Leaves start history path
leaves_nothing start [] path fresh long none =
    subst (λ ks. Leaves start [] ks) (sym none) (record { goes = tt; left = fresh })
leaves_nothing start (e ∷ history) path fresh long none = absurd (omega arith)

-- all were tried where the last one was the last party
pub dead_end : (start : Stand) (history : List Entry) (way back : Way) (p : Stand) (likely next : ℕ)
    → Leads start history back.most back.path.items way.tries.items p
    → way.tries.items ≡ back.tries.items ++ tried.Others likely next ∷ []
    → length p.callers + length p.workers ≤ next → IsDeadEnd start history back p
dead_end start history way back p likely next w last all =
    record {
      last = tried.Others likely next;
      leads = subst (λ ts. Leads start history back.most back.path.items ts p) last w;
      nobody = λ m. nobody_left history m p likely next all;
    }

-- what is told of a break follows from what is known of it
pub breaks_so : (f : Followed) {P Q : ℕ → Type 0} → ((most : ℕ) → P most → Q most) → IfBreaks f P → IfBreaks f Q
breaks_so (followed.Path path) so told = tt
breaks_so (followed.Breaks most) so told = so most told
breaks_so followed.Unknown so told = tt
