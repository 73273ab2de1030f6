-- A front is read as its whole lines are, with the last line that they lack.
use Rattle.cmwq_base.specs.Common.{◌≡◌, ◌⊎◌, inl, inr, ◌+◌, ◌<◌, ◌≤◌, ℕ, zero, suc, Bool, true, false, not, List, []}
use Rattle.cmwq_base.specs.Common.{◌∷◌, ◌++◌, length, Result, Ok, Err, Some, None, refl, sym, ap, ◌∙◌, append_assoc}
use Rattle.cmwq_base.specs.Common.{append-nil, arith, subst, if◌then◌else◌, All, position_or_len, ltb-true, le-ltb}
use Rattle.cmwq_base.specs.Common.{get_or-take, length-drop, length-take, slice_split_at, fails_before_first, is_feed}
use Rattle.cmwq_base.specs.Common.{has_feed, first_line, Entry, Counts, QueueShape, Layout, layout_of, is_layout}
use Rattle.cmwq_base.specs.Common.{greatest_number, join_words, end_words, end_text, line_limit, needs_end}
use Rattle.cmwq_base.specs.Common.{counts_of_format, last_text, whole_end, end_is_no_shape, end_is_no_entry}
use Rattle.cmwq_io.specs.FirstLine.{after_line as rest_of}
use Rattle.cmwq_base.specs.declared.refusal.Refusal.{Refusal}
use Rattle.cmwq_base.specs.declared.refusal.Refusal.TheVariants as refusal
use Rattle.cmwq_base.specs.Pieces.{pieces, lines_in, last_in, whole_lines, cut_line}
use Rattle.cmwq_base.specs.Files.{File, Stage, Kind, begin, opened, head, body, ended, as_front, is_long, and_then}
use Rattle.cmwq_base.specs.Files.{after_shape_line, with_body_item, item_line, body_line, first_body_line, after_head}
use Rattle.cmwq_base.specs.Files.{after_whole_line, after_cut, is_file_ended, at_end, without_end, without_items}
use Rattle.cmwq_base.specs.Files.{after_last, after_pieces, after_text, file_of}
use Rattle.cmwq_base.specs.Kinds.{history_kind, front_file_of}
use Rattle.cmwq_base.specs.Stages.{IsStageWithin}
use Rattle.cmwq_base.specs.FileLaws.{IsFrontOf, FrontsAreWholeLines}
use Rattle.cmwq_base.proofs.Limits.{none_passes}
use Rattle.cmwq_base.proofs.Texts.{has_feed_is, pieces_fed, pieces_last, pieces_some, last_piece, long_piece}
use Rattle.cmwq_base.proofs.Texts.{after_first_piece}
use Rattle.cmwq_base.proofs.Progress.{line_alike, line_grows, ends_with}
use Rattle.cmwq_base.proofs.Sound.{no_cut, next_goes, history_is_read, front_is_read}
use Rattle.cmwq_base.proofs.Again.{pieces_behind, history_ends}

lines_more : (line : List ℕ) (ps : List (List ℕ)) (p : List ℕ) (rest : List (List ℕ)) → ps ≡ p ∷ rest
    → (lines_in (line ∷ ps) ≡ (line ++ 10 ∷ []) ++ lines_in ps) × (last_in (line ∷ ps) ≡ last_in ps)
unfolding lines_in last_in
lines_more line ps p rest is = rw is (refl, refl)

none_in_first : (text : List ℕ) → All (λ x. is_feed x ≡ false) (first_line text)
none_in_first text i d less =
    let size = length-take (position_or_len is_feed text) text in
    let before : i < position_or_len is_feed text = omega (arith, less, size) in
    ap is_feed (get_or-take (position_or_len is_feed text) text i d before) ∙ fails_before_first is_feed text i d before

feed_inside : (text : List ℕ) → has_feed text ≡ true → position_or_len is_feed text < length text
feed_inside text h = ltb-true _ _ (sym (has_feed_is text) ∙ h)

whole_is : (text : List ℕ) → has_feed text ≡ true
    → (whole_lines text ≡ (first_line text ++ 10 ∷ []) ++ whole_lines (rest_of text))
    × (cut_line text ≡ cut_line (rest_of text))
whole_is text h =
    let some = pieces_some (rest_of text) in
    let more = lines_more (first_line text) (pieces (rest_of text)) some.0 some.1 some.2 in
    (ap lines_in (pieces_fed text h) ∙ more.0, ap last_in (pieces_fed text h) ∙ more.1)

pieces_of_whole : (text behind : List ℕ) → has_feed text ≡ true → pieces (whole_lines text ++ behind) ≡ first_line text
    ∷ pieces (whole_lines (rest_of text) ++ behind)
pieces_of_whole text behind h = grind (arith, append_assoc, whole_is, slice_split_at, none_in_first)

last_alone : (text : List ℕ) → has_feed text ≡ false → (whole_lines text ≡ []) × (cut_line text ≡ text)
unfolding lines_in last_in
last_alone text h = (ap lines_in (pieces_last text h), ap last_in (pieces_last text h))

-- ---- a whole text is a front

abbrev front_kind : Kind Entry
front_kind = as_front true history_kind

-- a text that may end without its last line
without : (n : ℕ) (f : File Entry) → without_end front_kind n f ≡ Ok f
without n f = grind arith

end_alike : (n : ℕ) (stage : Stage Entry) (f : File Entry) → at_end history_kind n stage ≡ Ok f
    → at_end front_kind n stage ≡ Ok f
unfolding at_end
end_alike n stage f h = grind arith

last_alike : (n : ℕ) (stage : Stage Entry) (last : List ℕ) (f : File Entry) → after_last history_kind n stage last
    ≡ Ok f → after_last front_kind n stage last ≡ Ok f
last_alike n stage last f h = grind (arith, end_alike, no_cut)

whole_line : (n : ℕ) (stage : Stage Entry) (line : List ℕ) (f : File Entry) (goes goes_on : Stage Entry
    → Result (File Entry) Refusal) (b : Bool) → ((next : Stage Entry) → goes next ≡ Ok f → goes_on next ≡ Ok f)
    → (if b then Err refusal.TooLong else and_then goes (after_whole_line history_kind n stage line)) ≡ Ok f
    → (if b then Err refusal.TooLong else and_then goes_on (after_whole_line front_kind n stage line)) ≡ Ok f
whole_line n stage line f goes goes_on true on h = cc
whole_line n stage line f goes goes_on false on h =
    let step = next_goes goes (after_whole_line history_kind n stage line) f h in
    ap (and_then goes_on) (line_alike true history_kind n stage line ∙ step.1) ∙ on step.0 step.2

whole_goes : (ps : List (List ℕ)) (n : ℕ) (stage : Stage Entry) (f : File Entry) → after_pieces history_kind n stage ps
    ≡ Ok f → after_pieces front_kind n stage ps ≡ Ok f
unfolding after_pieces
whole_goes [] n stage f h = end_alike n stage f h
whole_goes (last ∷ []) n stage f h = last_alike n stage last f h
whole_goes (line ∷ more ∷ rest) n stage f h = grind (arith, whole_line, whole_goes (more ∷ rest) (n + 1))

-- ---- the last line of a history that is known

module _ (f : File Entry) (few : length f.items ≤ line_limit f.version) where
  abbrev closing : List ℕ
  closing = last_text f.version (length f.items)

  -- what is left of a text is a front of the history from the n-th line on
  abbrev Closes : ℕ → Stage Entry → List ℕ → Type 0
  Closes n stage text = after_text history_kind n stage (whole_lines text ++ closing) ≡ Ok f

  abbrev IsFrontFrom : ℕ → Stage Entry → List ℕ → Type 0
  IsFrontFrom n stage text = (after_text history_kind n stage text ≡ Ok f)
      ⊎ (Closes n stage text × (is_long (cut_line text) ≡ false))

  small : length f.items ≤ greatest_number
  small = grind (arith, none_passes)

  -- ---- what is read of a front has the last line after it

  shape_closes : (n v : ℕ) (c : Counts) (qs : List QueueShape) (b : Bool) → is_layout (layout_of c qs) ≡ b
      → without_items front_kind n v (if b then Some (layout_of c qs) else None) ≡ Ok f
      → after_text history_kind n (head v c qs) closing ≡ Ok f
  shape_closes n v c qs true inside h =
      let made : File Entry = record { version = v; layout = layout_of c qs; items = [] } in
      let is : made ≡ f = ends_with front_kind n made f h in
      subst (λ g. after_text history_kind n (head v c qs) (last_text g.version (length g.items)) ≡ Ok g) is
      ((history_ends v).alone n c qs inside)
  shape_closes n v c qs false inside h = cc

  end_closes : (n : ℕ) (stage : Stage Entry) → is_file_ended stage ≡ false → at_end front_kind n stage ≡ Ok f
      → after_text history_kind n stage closing ≡ Ok f
  unfolding at_end
  end_closes n begin goes h = cc
  end_closes n (opened v) goes h = cc
  end_closes n (head v c qs) goes h = shape_closes n v c qs (is_layout (layout_of c qs)) refl h
  end_closes n (body v s xs) goes h =
      let made : File Entry = record { version = v; layout = s; items = xs } in
      let is : made ≡ f = ends_with front_kind n made f h in
      let room : length xs ≤ line_limit v =
      subst (λ (g : File Entry). length g.items ≤ line_limit g.version) (sym is) few in
      subst (λ g. after_text history_kind n (body v s xs) (last_text g.version (length g.items)) ≡ Ok g) is
      ((history_ends v).behind n s xs room)
  end_closes n (ended v s xs) goes h = cc

  nothing_left : (n : ℕ) (stage : Stage Entry) → after_text history_kind n stage [] ≡ at_end history_kind n stage
  unfolding after_pieces
  nothing_left n stage = refl

  over : (n : ℕ) (stage : Stage Entry) → is_file_ended stage ≡ true
      → at_end front_kind n stage ≡ at_end history_kind n stage
  unfolding at_end
  over n stage h = grind arith

  -- nothing stands after the last line feed
  end_is_front : (n : ℕ) (stage : Stage Entry) (b : Bool) → is_file_ended stage ≡ b → at_end front_kind n stage ≡ Ok f
      → (after_text history_kind n stage [] ≡ Ok f) ⊎ (after_text history_kind n stage closing ≡ Ok f)
  end_is_front n stage true is h = inl (nothing_left n stage ∙ sym (over n stage is) ∙ h)
  end_is_front n stage false is h = inr (end_closes n stage is h)

  cut_closes : (n : ℕ) (stage : Stage Entry) (long over : Bool) → is_file_ended stage ≡ over
      → (if long then Err refusal.TooLong else if not over then at_end front_kind n stage else Err (after_cut n stage))
      ≡ Ok f
      → (long ≡ false) × (after_text history_kind n stage closing ≡ Ok f)
  cut_closes n stage long over is h = grind (arith, end_closes)

  last_is_front : (n : ℕ) (stage : Stage Entry) (text : List ℕ) → has_feed text ≡ false
      → after_last front_kind n stage text ≡ Ok f → IsFrontFrom n stage text
  unfolding lines_in last_in
  last_is_front n stage [] fed h =
      elim (end_is_front n stage (is_file_ended stage) refl h) [
        | inl whole ↦ inl whole
        | inr closes ↦ inr (closes, refl)
      ]
  last_is_front n stage (b ∷ bs) fed h =
      let alone = last_alone (b ∷ bs) fed in
      let cut = cut_closes n stage (is_long (b ∷ bs)) (is_file_ended stage) refl h in
      inr (ap (λ t. after_text history_kind n stage (t ++ closing)) alone.0 ∙ cut.1, ap is_long alone.1 ∙ cut.0)

  -- one line more
  line_goes : (n : ℕ) (stage next : Stage Entry) (text : List ℕ) → has_feed text ≡ true
      → is_long (first_line text) ≡ false → after_whole_line history_kind n stage (first_line text) ≡ Ok next
      → (after_text history_kind n stage text ≡ after_text history_kind (n + 1) next (rest_of text))
      × (after_text history_kind n stage (whole_lines text ++ closing)
      ≡ after_text history_kind (n + 1) next (whole_lines (rest_of text) ++ closing))
  line_goes n stage next text fed short is =
      let rest : List ℕ = rest_of text in
      let goes : List ℕ → Stage Entry → Result (File Entry) Refusal =
      λ left next. after_text history_kind (n + 1) next left in
      let some = pieces_some rest in
      let others = pieces_some (whole_lines rest ++ closing) in (
        ap (after_pieces history_kind n stage) (pieces_fed text fed)
            ∙ after_first_piece history_kind n stage (first_line text) (pieces rest) some.0 some.1 some.2 short
            ∙ ap (and_then (goes rest)) is,
        ap (after_pieces history_kind n stage) (pieces_of_whole text closing fed)
            ∙ after_first_piece history_kind n stage (first_line text) (pieces (whole_lines rest ++ closing)) others.0
            others.1 others.2 short
            ∙ ap (and_then (goes (whole_lines rest ++ closing))) is,
      )

  front_line : (n : ℕ) (stage : Stage Entry) (text : List ℕ) (b : Bool) → is_long (first_line text) ≡ b
      → has_feed text ≡ true → after_text front_kind n stage text ≡ Ok f
      → ((next : Stage Entry) → after_text front_kind (n + 1) next (rest_of text) ≡ Ok f
      → IsFrontFrom (n + 1) next (rest_of text)) → IsFrontFrom n stage text
  front_line n stage text true long fed h on =
      let refused = sym h ∙ ap (after_pieces front_kind n stage) (pieces_fed text fed)
      ∙ long_piece front_kind n stage (first_line text) (pieces (rest_of text)) long in
      absurd (never refused)
    where
      never : Ok f ≡ Err refusal.TooLong → ⊥
      never h = cc
  front_line n stage text false short fed h on =
      let rest : List ℕ = rest_of text in
      let some = pieces_some rest in
      let goes : Stage Entry → Result (File Entry) Refusal = λ next. after_text front_kind (n + 1) next rest in
      let read =
      sym (ap (after_pieces front_kind n stage) (pieces_fed text fed)
      ∙ after_first_piece front_kind n stage (first_line text) (pieces rest) some.0 some.1 some.2 short) ∙ h in
      let step = next_goes goes (after_whole_line front_kind n stage (first_line text)) f read in
      let more =
      line_goes n stage step.0 text fed short (sym (line_alike true history_kind n stage (first_line text))
      ∙ step.1) in
      elim (on step.0 step.2) [
        | inl whole ↦ inl (more.0 ∙ whole)
        | inr closes ↦ inr (more.1 ∙ closes.0, ap is_long (whole_is text fed).1 ∙ closes.1)
      ]

  front_goes : (fuel n : ℕ) (stage : Stage Entry) (text : List ℕ) (b : Bool) → has_feed text ≡ b → length text ≤ fuel
      → after_text front_kind n stage text ≡ Ok f → IsFrontFrom n stage text
  front_goes fuel n stage text false fed enough h = grind (arith, last_is_front, last_piece)
  front_goes zero n stage text true fed enough h = grind (arith, feed_inside)
  front_goes (suc fuel) n stage text true fed enough h =
      grind (arith, feed_inside, length-drop, front_line, front_goes fuel (n + 1))

  -- ---- a text whose whole lines are the history, but for its last line, is read as a front

  abbrev last_line : List ℕ
  last_line = join_words (end_words (length f.items))

  never : (e : Refusal) (r : Result (File Entry) Refusal) → r ≡ Ok f → r ≡ Err e → ⊥
  never e r is other = let both : Ok f ≡ Err e = sym is ∙ other in cc

  -- a body that the last line ends is that of the history
  ended_is : (n v : ℕ) (s : Layout) (xs : List Entry) (b : Bool) (next : Stage Entry)
      → (if b then Ok (ended v s xs) else Err (refusal.BadLine n)) ≡ Ok next → at_end history_kind (n + 1) next ≡ Ok f
      → record { version = v; layout = s; items = xs } ≡ f
  unfolding at_end
  ended_is n v s xs b next taken h = grind arith

  no_item : (n v : ℕ) (s : Layout) (xs : List Entry) (b : Bool) (next : Stage Entry)
      → (if b then Err refusal.TooLong else with_body_item history_kind n v s xs None) ≡ Ok next → ⊥
  no_item n v s xs b next h = grind arith

  no_item_line : (n v : ℕ) (s : Layout) (xs : List Entry) (next : Stage Entry)
      → item_line history_kind n v s xs last_line ≡ Ok next → ⊥
  unfolding item_line
  no_item_line n v s xs next h = grind (arith, end_is_no_entry, small)

  body_is : (n v : ℕ) (s : Layout) (xs : List Entry) (next : Stage Entry) → body_line history_kind n v s xs last_line
      ≡ Ok next → at_end history_kind (n + 1) next ≡ Ok f → record { version = v; layout = s; items = xs } ≡ f
  unfolding body_line
  body_is n v s xs next taken h = grind (arith, small, whole_end, ended_is, no_item_line)

  shape_is : (n v : ℕ) (c : Counts) (qs : List QueueShape) (b : Bool) (next : Stage Entry)
      → first_body_line history_kind n v (if b then Some (layout_of c qs) else None) last_line ≡ Ok next
      → at_end history_kind (n + 1) next ≡ Ok f
      → without_items front_kind n v (if b then Some (layout_of c qs) else None) ≡ Ok f
  shape_is n v c qs b next taken h = grind (arith, body_is)

  no_shape : (n v : ℕ) (next : Stage Entry) → after_shape_line n v (counts_of_format v last_line) ≡ Ok next → ⊥
  no_shape n v next h = let refused : Err (refusal.BadShape n) ≡ Ok next =
      sym (ap (after_shape_line n v) (end_is_no_shape v (length f.items) small)) ∙ h in cc

  -- after what is read so far nothing but the last line is missing
  abbrev Lacks : ℕ → Stage Entry → Type 0
  Lacks n stage = (is_file_ended stage ≡ false) × (at_end front_kind n stage ≡ Ok f)

  line_lacks : (n : ℕ) (stage next : Stage Entry) → after_whole_line history_kind n stage last_line ≡ Ok next
      → at_end history_kind (n + 1) next ≡ Ok f → Lacks n stage
  unfolding after_whole_line after_head at_end
  line_lacks n stage next taken h = grind (arith, no_shape, shape_is, body_is)

  older_lacks : (n : ℕ) (stage : Stage Entry) → needs_end f.version ≡ false → IsStageWithin history_kind stage
      → at_end history_kind n stage ≡ Ok f → is_file_ended stage ≡ false
  unfolding at_end
  older_lacks n stage none w h = grind arith

  text_lacks : (n : ℕ) (stage : Stage Entry) → IsStageWithin history_kind stage
      → after_text history_kind n stage closing ≡ Ok f → Lacks n stage
  text_lacks n stage w h = by_need (needs_end f.version) refl h
    where
      by_need : (b : Bool) → needs_end f.version ≡ b
          → after_text history_kind n stage (if b then end_text (length f.items) else []) ≡ Ok f → Lacks n stage
      by_need false none h =
          let ends = sym (nothing_left n stage) ∙ h in
          (older_lacks n stage none w ends, end_alike n stage f ends)
      by_need true needed h =
          let whole = whole_end (length f.items) small in
          let goes : Stage Entry → Result (File Entry) Refusal = λ next. after_text history_kind (n + 1) next [] in
          let parts : pieces (end_text (length f.items)) ≡ last_line ∷ pieces [] =
          ap pieces (sym (append-nil (end_text (length f.items))))
          ∙ pieces_behind (end_text (length f.items)) last_line [] whole in
          let some = pieces_some [] in
          let read =
          sym (ap (after_pieces history_kind n stage) parts
          ∙ after_first_piece history_kind n stage last_line (pieces []) some.0 some.1 some.2
          (le-ltb 120 (length last_line) whole.short)) ∙ h in
          let step = next_goes goes (after_whole_line history_kind n stage last_line) f read in
          line_lacks n stage step.0 step.1 (sym (nothing_left (n + 1) step.0) ∙ step.2)

  rest_lacks : (n : ℕ) (stage : Stage Entry) (text : List ℕ) → is_long text ≡ false → Lacks n stage
      → after_last front_kind n stage text ≡ Ok f
  rest_lacks n stage text short lacks = grind arith

  lacking_line : (n : ℕ) (stage : Stage Entry) (text : List ℕ) (b : Bool) → is_long (first_line text) ≡ b
      → has_feed text ≡ true → Closes n stage text
      → ((next : Stage Entry) → after_whole_line history_kind n stage (first_line text) ≡ Ok next
      → Closes (n + 1) next (rest_of text) → after_text front_kind (n + 1) next (rest_of text) ≡ Ok f)
      → after_text front_kind n stage text ≡ Ok f
  lacking_line n stage text true long fed h on =
      absurd (never refusal.TooLong _ h (ap (after_pieces history_kind n stage) (pieces_of_whole text closing fed)
      ∙ long_piece history_kind n stage (first_line text) (pieces (whole_lines (rest_of text) ++ closing)) long))
  lacking_line n stage text false short fed h on =
      let rest : List ℕ = rest_of text in
      let others = pieces_some (whole_lines rest ++ closing) in
      let goes : Stage Entry → Result (File Entry) Refusal =
      λ next. after_text history_kind (n + 1) next (whole_lines rest ++ closing) in
      let front_goes : Stage Entry → Result (File Entry) Refusal = λ next. after_text front_kind (n + 1) next rest in
      let read =
      sym (ap (after_pieces history_kind n stage) (pieces_of_whole text closing fed)
      ∙ after_first_piece history_kind n stage (first_line text) (pieces (whole_lines rest ++ closing)) others.0
      others.1 others.2 short) ∙ h in
      let step = next_goes goes (after_whole_line history_kind n stage (first_line text)) f read in
      let some = pieces_some rest in
      ap (after_pieces front_kind n stage) (pieces_fed text fed)
      ∙ after_first_piece front_kind n stage (first_line text) (pieces rest) some.0 some.1 some.2 short
      ∙ ap (and_then front_goes) (line_alike true history_kind n stage (first_line text) ∙ step.1)
      ∙ on step.0 step.1 step.2

  lacking_goes : (fuel n : ℕ) (stage : Stage Entry) (text : List ℕ) (b : Bool) → has_feed text ≡ b → length text ≤ fuel
      → IsStageWithin history_kind stage → is_long (cut_line text) ≡ false → Closes n stage text
      → after_text front_kind n stage text ≡ Ok f
  lacking_goes fuel n stage text false fed enough w short h =
      let alone = last_alone text fed in
      last_piece front_kind n stage text fed
      ∙ rest_lacks n stage text (subst (λ l. is_long l ≡ false) alone.1 short)
      (text_lacks n stage w (sym (ap (λ t. after_text history_kind n stage (t ++ closing)) alone.0) ∙ h))
  lacking_goes zero n stage text true fed enough w short h = let inside = feed_inside text fed in
      absurd (omega (arith, inside, enough))
  lacking_goes (suc fuel) n stage text true fed enough w short h =
      let rest : List ℕ = rest_of text in
      let inside = feed_inside text fed in
      let size = length-drop (position_or_len is_feed text + 1) text in
      let less : length rest ≤ fuel = omega (arith, inside, size, enough) in
      let cut : is_long (cut_line rest) ≡ false = subst (λ l. is_long l ≡ false) (whole_is text fed).1 short in
      lacking_line n stage text (is_long (first_line text)) refl fed h
      (λ next taken more. lacking_goes fuel (n + 1) next rest (has_feed rest) refl less
      ((line_grows history_kind n stage next (first_line text) taken).within w) cut more)

-- ---- both

fronts_are : (text : List ℕ) (f : File Entry) → front_file_of true text ≡ Ok f → IsFrontOf f text
unfolding file_of
fronts_are text f h =
    front_goes f (front_is_read text f h).sound.few (length text) 1 begin text (has_feed text) refl (omega arith) h

are_fronts : (text : List ℕ) (f : File Entry) → IsFrontOf f text → front_file_of true text ≡ Ok f
unfolding file_of
are_fronts text f (inl whole) = whole_goes (pieces text) 1 begin f whole
are_fronts text f (inr closes) =
    lacking_goes f (history_is_read (whole_lines text ++ last_text f.version (length f.items)) f closes.0).sound.few
    (length text) 1 begin text (has_feed text) refl (omega arith) tt closes.1 closes.0

pub fronts_are_whole_lines : FrontsAreWholeLines
fronts_are_whole_lines text f = (fronts_are text f, are_fronts text f)
