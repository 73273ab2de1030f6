-- The first line, found in the bytes read ahead, is that of the whole text.
use Rattle.cmwq_io.specs.Common.{◌≡◌, ℕ, ◌+◌, ◌<◌, ◌≤◌, Bool, true, false, cond, not, ◌&&◌, eqb, ltb, leb, List, []}
use Rattle.cmwq_io.specs.Common.{◌++◌, length, take, drop, Option, Some, None, refl, sym, ap, ◌∙◌, arith, append_assoc}
use Rattle.cmwq_io.specs.Common.{length-append, length-take, take-append-drop, is_some, position, position_or_len}
use Rattle.cmwq_io.specs.Common.{take_all, take-append-le, drop-append-le, length-take-le}
use Rattle.std.proofs.lemmas.Bool.Decides.{nat_tests}
use Rattle.std.proofs.lemmas.List.Sums.{prefix_len-le-length}
use Rattle.std.proofs.lemmas.List.Folds.{prefix_len-append}
use Rattle.cmwq_io.specs.declared.lines.Found.TheVariants.{Whole, Long}
use Rattle.cmwq_io.specs.Feeds.{is_feed, has_feed, near_feed}
use Rattle.cmwq_io.specs.FirstLine.{is_line_short, is_line_long, first_line, TakesLine}

-- where the first line of a text ends
abbrev stop : List ℕ → ℕ
stop text = position_or_len is_feed text

stop-within : (text : List ℕ) → stop text ≤ length text
stop-within text = prefix_len-le-length _ text

stop-append : (front rest : List ℕ)
    → stop (front ++ rest) ≡ cond (eqb (stop front) (length front)) (length front + stop rest) (stop front)
stop-append front rest = prefix_len-append _ front rest

stop-in : (front rest : List ℕ) → stop front < length front → stop (front ++ rest) ≡ stop front
stop-in front rest inside = grind (arith, nat_tests, stop-append front rest)

stop-past : (front rest : List ℕ) → length front ≤ stop front → length front ≤ stop (front ++ rest)
stop-past front rest past = let within = stop-within front in grind (arith, nat_tests, stop-append front rest)

found_place : (s n at : ℕ) → cond (ltb s n) (Some s) None ≡ Some at → (s ≡ at) × (s < n)
found_place s n at h = grind (arith, nat_tests)

no_place : (s n : ℕ) → cond (ltb s n) (Some s) None ≡ None → n ≤ s
no_place s n h = grind (arith, nat_tests)

-- a text whose first 121 bytes are known
parted : (ahead more : List ℕ) → ahead ++ more ≡ take 121 ahead ++ (drop 121 ahead ++ more)
parted ahead more = ap (λ l. l ++ more) (sym (take-append-drop 121 ahead))
    ∙ append_assoc (take 121 ahead) (drop 121 ahead) more

stop-near : (ahead more : List ℕ) (at : ℕ) → near_feed ahead ≡ Some at → stop (ahead ++ more) ≡ at
stop-near ahead more at near =
    let place = found_place (stop (take 121 ahead)) (length (take 121 ahead)) at near in
    ap stop (parted ahead more) ∙ stop-in (take 121 ahead) _ place.1 ∙ place.0

near-within : (ahead : List ℕ) (at : ℕ) → near_feed ahead ≡ Some at → (at < length ahead) × (at ≤ 120)
near-within ahead at near =
    let place = found_place (stop (take 121 ahead)) (length (take 121 ahead)) at near in
    (omega (arith, length-take 121 ahead), omega (arith, length-take 121 ahead))

stop-far : (ahead more : List ℕ) → near_feed ahead ≡ None → length (take 121 ahead) ≤ stop (ahead ++ more)
stop-far ahead more far =
    let past = no_place (stop (take 121 ahead)) (length (take 121 ahead)) far in
    rw (parted ahead more) (stop-past (take 121 ahead) _ past)

-- the words of the first line, by where it ends
length-first_line : (text : List ℕ) → length (first_line text) ≡ stop text
length-first_line text = length-take-le (stop text) text (stop-within text)

short_line : (text : List ℕ) → stop text ≤ 120 → is_line_long text ≡ false
short_line text h = grind (arith, nat_tests, length-first_line text)

long_line : (text : List ℕ) → 120 < stop text → is_line_long text ≡ true
long_line text h = grind (arith, nat_tests, length-first_line text)

feed_there : (text : List ℕ) → stop text < length text → has_feed text ≡ true
feed_there text h = grind (arith, nat_tests)

no_feed : (text : List ℕ) → length text ≤ stop text → has_feed text ≡ false
no_feed text h = grind (arith, nat_tests)

-- what take_near does, and take_first after it
pub takes_whole : (ahead more : List ℕ) (at : ℕ) → near_feed ahead ≡ Some at
    → TakesLine (ahead ++ more) (drop (at + 1) ahead ++ more) Whole (take at ahead)
takes_whole ahead more at near =
    let text = ahead ++ more in
    let ends = stop-near ahead more at near in
    let within = near-within ahead at near in
    let short = short_line text (omega arith) in
    let feed = feed_there text (omega (arith, length-append ahead more)) in
    record {
      kind = rw (short, feed) refl;
      bytes = rw (short, ends) (sym (take-append-le at ahead more (omega arith)));
      rest = rw (short, ends) (sym (drop-append-le (at + 1) ahead more (omega arith)));
    }

-- few bytes without a line feed near their front are short
few_are_short : (ahead : List ℕ) → length ahead ≤ 120 → near_feed ahead ≡ None → is_line_short ahead ≡ true
few_are_short ahead few far =
    let whole : take 121 ahead ≡ ahead = take_all 121 ahead (omega arith) in
    let past = no_place (stop ahead) (length ahead) (ap (position is_feed) (sym whole) ∙ far) in
    let none = no_feed ahead past in
    grind (arith, nat_tests)

many : (ahead : List ℕ) (b : Bool) → leb (length ahead) 120 ≡ b → near_feed ahead ≡ None → is_line_short ahead ≡ false
    → 120 < length ahead
many ahead true few far open_end = let short = few_are_short ahead (grind (arith, nat_tests)) far in cc
many ahead false few far open_end = grind (arith, nat_tests)

pub takes_long : (ahead more : List ℕ) → near_feed ahead ≡ None → is_line_short ahead ≡ false
    → TakesLine (ahead ++ more) (ahead ++ more) Long []
takes_long ahead more far open_end =
    let text = ahead ++ more in
    let past = stop-far ahead more far in
    let far_end = many ahead (leb (length ahead) 120) refl far open_end in
    let long = long_line text (omega (arith, length-take 121 ahead)) in
    record {
      kind = rw long refl;
      bytes = rw long refl;
      rest = rw long refl;
    }

-- what is_short does, where the bytes are few
few_tested : (few feed b : Bool) → few ≡ true → feed ≡ not b → b ≡ few && not feed
few_tested few feed true p q = cc
few_tested few feed false p q = cc

pub short_by_near : (ahead : List ℕ) (near : Option ℕ) (none : Bool) → length ahead ≤ 120 → near ≡ near_feed ahead
    → is_some near ≡ not none → none ≡ is_line_short ahead
short_by_near ahead near none few at b =
    let whole : take 121 ahead ≡ ahead = take_all 121 ahead (omega arith) in
    let feed = ap is_some (sym (at ∙ ap (position is_feed) whole)) ∙ b in
    few_tested (leb (length ahead) 120) (has_feed ahead) none (grind (arith, nat_tests)) feed
