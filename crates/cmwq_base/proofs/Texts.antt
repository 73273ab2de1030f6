-- What a text gives, by how its first line is found.
use Rattle.cmwq_base.specs.Common.{◌≡◌, ◌+◌, ◌≤◌, ◌==◌, ℕ, Bool, true, false, cond, List, [], ◌∷◌, length, Err, nat_lt}
use Rattle.cmwq_base.specs.Common.{Some, None, refl, sym, ap, ◌∙◌, arith, if◌then◌else◌, is_some, position_or_len}
use Rattle.cmwq_base.specs.Common.{eqb-true, ltb-true, take_all, slice_split_first, slice_split_none}
use Rattle.cmwq_base.specs.Common.{fails_before_first, is_feed}
use Rattle.cmwq_base.specs.Common.{has_feed, Whole, Cut, Long, End, first_line, TakesLine}
use Rattle.cmwq_io.specs.FirstLine.{after_line as rest_of, is_line_long as is_text_long}
use Rattle.cmwq_base.specs.declared.refusal.Refusal.TheVariants as refusal
use Rattle.cmwq_base.specs.Pieces.{pieces, last_in, cut_line}
use Rattle.cmwq_base.specs.Files.{Stage, Kind, is_long, and_then, after_whole_line, at_end, at_cut, after_last}
use Rattle.cmwq_base.specs.Files.{after_pieces, after_text}

-- ---- pieces

feed_within : (text : List ℕ) (b : Bool) → nat_lt (position_or_len is_feed text) (length text) ≡ b
    → is_some (cond b (Some (position_or_len is_feed text)) None) ≡ b
feed_within text b h = grind arith

pub has_feed_is : (text : List ℕ) → has_feed text ≡ nat_lt (position_or_len is_feed text) (length text)
has_feed_is text = feed_within text (nat_lt (position_or_len is_feed text) (length text)) refl

-- the pieces of a text are its first line and those of the rest, where it has a line feed, and else the text alone
pub pieces_fed : (text : List ℕ) → has_feed text ≡ true → pieces text ≡ first_line text ∷ pieces (rest_of text)
pieces_fed text h = slice_split_first is_feed text 0 (ltb-true _ _ (sym (has_feed_is text) ∙ h))

none_within : (text : List ℕ) → has_feed text ≡ false → length text ≤ position_or_len is_feed text
none_within text h = grind arith

pub first_is_all : (text : List ℕ) → has_feed text ≡ false → first_line text ≡ text
first_is_all text h = take_all (position_or_len is_feed text) text (none_within text h)

pub pieces_last : (text : List ℕ) → has_feed text ≡ false → pieces text ≡ text ∷ []
pieces_last text h = grind (arith, none_within, slice_split_none, fails_before_first)

-- there is always a piece: what stands after the last line feed
pub pieces_some : (text : List ℕ) → (p : List ℕ) × (ps : List (List ℕ)) × (pieces text ≡ p ∷ ps)
pieces_some text = by_feed (has_feed text) refl
  where
    by_feed : (b : Bool) → has_feed text ≡ b → (p : List ℕ) × (ps : List (List ℕ)) × (pieces text ≡ p ∷ ps)
    by_feed true h = (first_line text, pieces (rest_of text), pieces_fed text h)
    by_feed false h = (text, [], pieces_last text h)

-- ---- how the first line was found

pub whole_found : (a b c : Bool) → Whole ≡ (if a then Long else if b then Whole else if c then End else Cut)
    → (a ≡ false) × (b ≡ true)
whole_found a b c h = grind arith

pub cut_found : (a b c : Bool) → Cut ≡ (if a then Long else if b then Whole else if c then End else Cut)
    → (a ≡ false) × (b ≡ false) × (c ≡ false)
cut_found a b c h = grind arith

pub end_found : (a b c : Bool) → End ≡ (if a then Long else if b then Whole else if c then End else Cut)
    → (b ≡ false) × (c ≡ true)
end_found a b c h = grind arith

pub long_found : (a b c : Bool) → Long ≡ (if a then Long else if b then Whole else if c then End else Cut) → a ≡ true
long_found a b c h = grind arith

-- ---- what stands after the last line feed: the same after a whole line, and else the rest

fed_last : (line : List ℕ) (rest : List (List ℕ)) (p : List ℕ) (ps : List (List ℕ)) → rest ≡ p ∷ ps
    → last_in (line ∷ rest) ≡ last_in rest
unfolding last_in
fed_last line rest p ps h = rw h refl

one_last : (line : List ℕ) → last_in (line ∷ []) ≡ line
unfolding last_in
one_last line = refl

pub cut_stays : (old new line : List ℕ) → TakesLine old new Whole line → cut_line old ≡ cut_line new
cut_stays old new line t =
    let f = whole_found (is_text_long old) (has_feed old) (length old == 0) t.kind in
    let is_rest : new ≡ rest_of old = t.rest ∙ ap (λ b. if b then old else rest_of old) f.0 in
    let some = pieces_some (rest_of old) in
    ap last_in (pieces_fed old f.1)
    ∙ fed_last (first_line old) (pieces (rest_of old)) some.0 some.1 some.2
    ∙ ap cut_line (sym is_rest)

pub cut_is : (old new line : List ℕ) → TakesLine old new Cut line → cut_line old ≡ line
cut_is old new line t = let f = cut_found (is_text_long old) (has_feed old) (length old == 0) t.kind in
    let is_line : line ≡ first_line old = t.bytes ∙ ap (λ b. if b then [] else first_line old) f.0 in
    ap last_in (pieces_last old f.1) ∙ (one_last old ∙ (sym (first_is_all old f.1) ∙ sym is_line))

pub cut_none : (old new line : List ℕ) → TakesLine old new End line → length (cut_line old) ≡ 0
cut_none old new line t = let f = end_found (is_text_long old) (has_feed old) (length old == 0) t.kind in
    ap length (ap last_in (pieces_last old f.0) ∙ one_last old) ∙ eqb-true (length old) 0 f.1

-- ---- what each gives

module _ {X : Type 0} (k : Kind X) (n : ℕ) (stage : Stage X) where
  pub after_first_piece : (line : List ℕ) (rest : List (List ℕ)) (p : List ℕ) (ps : List (List ℕ)) → rest ≡ p ∷ ps
      → is_long line ≡ false
      → after_pieces k n stage (line ∷ rest)
      ≡ and_then (λ next. after_pieces k (n + 1) next rest) (after_whole_line k n stage line)
  unfolding after_pieces
  after_first_piece line rest p ps h short =
      rw h (ap (λ b. if b then Err refusal.TooLong
      else and_then (λ next. after_pieces k (n + 1) next (p ∷ ps)) (after_whole_line k n stage line)) short)

  pub text_whole : (old new line : List ℕ) → TakesLine old new Whole line
      → after_text k n stage old ≡ and_then (λ next. after_text k (n + 1) next new) (after_whole_line k n stage line)
  text_whole old new line t =
      let f = whole_found (is_text_long old) (has_feed old) (length old == 0) t.kind in
      let is_line : line ≡ first_line old = t.bytes ∙ ap (λ b. if b then [] else first_line old) f.0 in
      let is_rest : new ≡ rest_of old = t.rest ∙ ap (λ b. if b then old else rest_of old) f.0 in
      let some = pieces_some (rest_of old) in
      ap (after_pieces k n stage) (pieces_fed old f.1)
      ∙ after_first_piece (first_line old) (pieces (rest_of old)) some.0 some.1 some.2 f.0
      ∙ ap (λ l. and_then (λ next. after_text k (n + 1) next (rest_of old)) (after_whole_line k n stage l))
      (sym is_line)
      ∙ ap (λ r. and_then (λ next. after_text k (n + 1) next r) (after_whole_line k n stage line)) (sym is_rest)

  pub long_piece : (line : List ℕ) (rest : List (List ℕ)) → is_long line ≡ true → after_pieces k n stage (line ∷ rest)
      ≡ Err refusal.TooLong
  unfolding after_pieces
  long_piece line rest h = grind arith

  pub text_long : (old new line : List ℕ) → TakesLine old new Long line → after_text k n stage old ≡ Err refusal.TooLong
  text_long old new line t = grind (arith, long_found, pieces_fed, long_piece, pieces_last, first_is_all)

  cut_last : (text : List ℕ) → is_long text ≡ false → (length text == 0) ≡ false
      → after_last k n stage text ≡ at_cut k n stage
  cut_last text h some = grind arith

  pub last_piece : (text : List ℕ) → has_feed text ≡ false → after_text k n stage text ≡ after_last k n stage text
  unfolding after_pieces
  last_piece text h = ap (after_pieces k n stage) (pieces_last text h)

  pub text_cut : (old new line : List ℕ) → TakesLine old new Cut line → after_text k n stage old ≡ at_cut k n stage
  text_cut old new line t = grind (arith, cut_found, last_piece, cut_last, first_is_all)

  none_last : (text : List ℕ) → (length text == 0) ≡ true → after_last k n stage text ≡ at_end k n stage
  none_last text h = grind arith

  pub text_end : (old new line : List ℕ) → TakesLine old new End line → after_text k n stage old ≡ at_end k n stage
  text_end old new line t = grind (arith, end_found, last_piece, none_last)
