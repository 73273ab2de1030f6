-- How a file goes on by a usual line that is read where it stands.
use Rattle.cmwq_base.specs.Common.{◌≡◌, ◌+◌, ◌<◌, ◌≤◌, ◌==◌, ℕ, Bool, true, false, List, [], ◌∷◌, ◌++◌, length, take, drop}
use Rattle.cmwq_base.specs.Common.{get_or, Option, Some, None, refl, sym, ap, ◌∙◌, arith, append_assoc, length-append}
use Rattle.cmwq_base.specs.Common.{nat_lt, le-ltb, All, Whole, TakesLine, TakesKnownLine, first_line, has_feed, is_feed}
use Rattle.cmwq_base.specs.Common.{position_or_len, prepend_known, Layout, line_limit}
use Rattle.cmwq_base.specs.Common.{Ok, IfSome, subst}
use Rattle.std.specs.Prelude.{◌-◌}
use Rattle.std.proofs.lemmas.Bool.{lt-ltb}
use Rattle.std.proofs.lemmas.List.{get_or_append_left, get_or_at, take_at, drop_at, length_push}
use Rattle.std.proofs.lemmas.List.Sums.{position_or_len_is}
use Rattle.cmwq_io.specs.FirstLine.{after_line, is_line_long}
use Rattle.cmwq_base.specs.Files.{Kind, Stage, body, as_front, after_whole_line}
use Rattle.cmwq_base.specs.Usual.{BeginsWhole, BeginsLine, GoesOn, MayGoOn}
use Rattle.cmwq_base.proofs.Texts.{has_feed_is}
use Rattle.cmwq_base.proofs.Progress.{Progress, body_goes, cut_goes, line_alike, line_grows, whole_goes}

-- ---- the first line of a text that begins with it

first_feed : (line rest : List ℕ) → All (λ byte. (byte == 10) ≡ false) line
    → position_or_len is_feed (line ++ 10 ∷ rest) ≡ length line
first_feed line rest one =
    let size : length (line ++ 10 ∷ rest) ≡ length line + length (10 ∷ rest) = length-append line (10 ∷ rest) in
    position_or_len_is is_feed (line ++ 10 ∷ rest) (length line) 0 (omega (arith, size))
    (λ k lt. ap is_feed (get_or_append_left line (10 ∷ rest) 0 k lt) ∙ one k 0 lt)
    (λ lt. ap is_feed (get_or_at line 10 rest 0 (length line) refl))

line_taken : (line rest : List ℕ) → All (λ byte. (byte == 10) ≡ false) line → length line ≤ 120
    → TakesLine (line ++ 10 ∷ rest) rest Whole line
line_taken line rest one short =
    let text : List ℕ = line ++ 10 ∷ rest in
    let size : length text ≡ length line + length (10 ∷ rest) = length-append line (10 ∷ rest) in
    let ends : position_or_len is_feed text ≡ length line = first_feed line rest one in
    let first : first_line text ≡ line =
    ap (λ n. take n text) ends ∙ take_at line (10 ∷ rest) (length line) refl in
    let behind : after_line text ≡ rest =
    ap (λ n. drop (n + 1) text) ends ∙ ap (drop (length line + 1)) (sym (append_assoc line (10 ∷ []) rest))
    ∙ drop_at (line ++ 10 ∷ []) rest (length line + 1) (length_push line 10) in
    let fits : is_line_long text ≡ false =
    ap (λ (l : List ℕ). nat_lt 120 (length l)) first ∙ le-ltb 120 (length line) short in
    let feed : has_feed text ≡ true =
    has_feed_is text ∙ lt-ltb (position_or_len is_feed text) (length text) (omega (arith, ends, size)) in
    record {
      kind = rw (fits, feed) refl;
      bytes = rw fits (sym first);
      rest = rw fits (sym behind);
    }

takes_known : (bytes line left : List ℕ) (known : Option (List ℕ)) → BeginsWhole bytes line left
    → TakesKnownLine (prepend_known bytes known) (prepend_known left known) Whole line
takes_known bytes line left None b = tt
takes_known bytes line left (Some more) b =
    let is : bytes ++ more ≡ line ++ 10 ∷ (left ++ more) =
    ap (λ (t : List ℕ). t ++ more) b.text ∙ append_assoc line (10 ∷ left) more in
    rw is (line_taken line (left ++ more) b.one b.short)

-- ---- one usual line more

left_is : (bytes line left : List ℕ) (count : ℕ) → bytes ≡ line ++ 10 ∷ left → count ≡ length bytes - length left
    → drop count bytes ≡ left
left_is bytes line left count is so =
    let whole : bytes ≡ (line ++ 10 ∷ []) ++ left = is ∙ sym (append_assoc line (10 ∷ []) left) in
    let size : length bytes ≡ length (line ++ 10 ∷ []) + length left =
    ap length whole ∙ length-append (line ++ 10 ∷ []) left in
    ap (drop count) whole ∙ drop_at (line ++ 10 ∷ []) left count (omega (arith, size, so))

pub usual_adds : {X : Type 0} (k : Kind X) (v : ℕ) (s t : Layout) (xs ys : List X) (bytes left : List ℕ) (x : X)
    (count : ℕ) → BeginsLine k v bytes x left → k.fits_in s x ≡ true → length xs < line_limit v → t ≡ s
    → ys ≡ xs ++ x ∷ [] → count ≡ length bytes - length left → GoesOn k (body v s xs) (body v t ys) bytes count
usual_adds k v s t xs ys bytes left x count b fits room shape items so =
    let rest : drop count bytes ≡ left = left_is bytes b.line left count b.whole.text so in
    record {
      line = b.line;
      whole = rw rest b.whole;
      within = omega (arith, so);
      goes = λ n. rw (shape, items) (body_goes k n v s xs x b.line b.read b.no_end fits (omega (arith, room)));
    }

pub usual_goes_on : {X : Type 0} (front : Bool) (k : Kind X) (old known : Option (List ℕ)) (bytes : List ℕ)
    (n count : ℕ) (stage next : Stage X) → GoesOn k stage next bytes count
    → Progress (as_front front k) old (prepend_known bytes known) n stage
    → Progress (as_front front k) old (prepend_known (drop count bytes) known) (n + 1) next
usual_goes_on front k old known bytes n count stage next u p =
    let taken : after_whole_line (as_front front k) n stage u.line ≡ Ok next =
    line_alike front k n stage u.line ∙ u.goes n in
    let line = takes_known bytes u.line (drop count bytes) known u.whole in
    let grows = line_grows (as_front front k) n stage next u.line taken in
    record {
      same = whole_goes (as_front front k) n stage old (prepend_known bytes known)
          (prepend_known (drop count bytes) known) u.line next p.same line taken;
      cut = cut_goes old (prepend_known bytes known) (prepend_known (drop count bytes) known) u.line p.cut line;
      count = omega (arith, grows.count, p.count);
      within = grows.within p.within;
    }

-- a stage that may have gone on has, or is as it was
pub went_on : {X : Type 0} (k : Kind X) (old new : Stage X) (bytes : List ℕ) (o : Option ℕ) (count : ℕ) → o ≡ Some count
    → MayGoOn k old new bytes o → GoesOn k old new bytes count
went_on k old new bytes o count is h = subst (MayGoOn k old new bytes) is h

pub unchanged : {X : Type 0} (k j : Kind X) (old now : Option (List ℕ)) (bytes : List ℕ) (n : ℕ) (stage next : Stage X)
    (o : Option ℕ) → ((count : ℕ) → o ≡ Some count → ⊥) → MayGoOn k stage next bytes o → Progress j old now n stage
    → Progress j old now n next
unchanged k j old now bytes n stage next None none h p = subst (Progress j old now n) (sym h) p
unchanged k j old now bytes n stage next (Some count) none h p = absurd (none count refl)
