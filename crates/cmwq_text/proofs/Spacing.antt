-- Words after others, each after a space.
use Rattle.cmwq_text.specs.Common.{◌≡◌, ℕ, ◌+◌, ◌<◌, List, [], ◌∷◌, ◌++◌, length, take, get_or, map, refl, ap, sym, ◌∙◌}
use Rattle.cmwq_text.specs.Common.{append_assoc, decimal, take_more, map_push, append-nil}
use Rattle.cmwq_text.specs.Words.{join_words, line_text, space_words}

pub spaced_append : (a b : List (List ℕ)) → space_words (a ++ b) ≡ space_words a ++ space_words b
unfolding space_words
spaced_append [] b = refl
spaced_append (w ∷ ws) b = ap (λ (t : List ℕ). (32 ∷ w) ++ t) (spaced_append ws b)
    ∙ sym (append_assoc (32 ∷ w) (space_words ws) (space_words b))

pub spaced_one : (w : List ℕ) → space_words (w ∷ []) ≡ 32 ∷ w
unfolding space_words
spaced_one w = append-nil (32 ∷ w)

pub joined_spaced : (w : List ℕ) (ws : List (List ℕ)) → join_words (w ∷ ws) ≡ w ++ space_words ws
unfolding space_words
joined_spaced w [] = sym (append-nil w)
joined_spaced w (v ∷ ws) = ap (λ (t : List ℕ). w ++ (32 ∷ t)) (joined_spaced v ws)

pub nothing_yet : (old : List ℕ) → old ≡ old ++ space_words []
unfolding space_words
nothing_yet old = sym (append-nil old)

-- one more number is spelled
pub one_more : (old now : List ℕ) (ns : List ℕ) (i : ℕ) → i < length ns
    → now ≡ old ++ space_words (map decimal (take i ns)) → (now ++ 32 ∷ []) ++ decimal (get_or ns i 0) ≡ old
    ++ space_words (map decimal (take (i + 1) ns))
one_more old now ns i lt e =
    let numbers : take (i + 1) ns ≡ take i ns ++ get_or ns i 0 ∷ [] = take_more ns i 0 lt in
    let words : map decimal (take (i + 1) ns) ≡ map decimal (take i ns) ++ decimal (get_or ns i 0) ∷ [] =
    rw numbers (map_push decimal (take i ns) (get_or ns i 0)) in
    let text : space_words (map decimal (take (i + 1) ns)) ≡ space_words (map decimal (take i ns)) ++ 32
    ∷ decimal (get_or ns i 0) =
    rw words (spaced_append (map decimal (take i ns)) (decimal (get_or ns i 0) ∷ [])
    ∙ ap (λ (t : List ℕ). space_words (map decimal (take i ns)) ++ t) (spaced_one (decimal (get_or ns i 0)))) in
    rw (text, e) (simp append_assoc)

pub in_a_row : (old : List ℕ) (a b : List (List ℕ)) → (old ++ space_words a) ++ space_words b ≡ old
    ++ space_words (a ++ b)
in_a_row old a b = append_assoc old (space_words a) (space_words b)
    ∙ ap (λ (t : List ℕ). old ++ t) (sym (spaced_append a b))

pub line_is : (w : List ℕ) (ws : List (List ℕ)) → (w ++ space_words ws) ++ 10 ∷ [] ≡ line_text (w ∷ ws)
line_is w ws = ap (λ (t : List ℕ). t ++ 10 ∷ []) (sym (joined_spaced w ws))

-- a word after a space
pub behind : (w : List ℕ) (ws : List (List ℕ)) (v : List ℕ) → ((w ++ space_words ws) ++ 32 ∷ []) ++ v ≡ w
    ++ space_words (ws ++ v ∷ [])
behind w ws v =
    let one : (w ++ space_words ws) ++ space_words (v ∷ []) ≡ w ++ space_words (ws ++ v ∷ []) =
    in_a_row w ws (v ∷ []) in
    append_assoc (w ++ space_words ws) (32 ∷ []) v
    ∙ ap (λ (t : List ℕ). (w ++ space_words ws) ++ t) (sym (spaced_one v)) ∙ one

equals : space_words ((61 ∷ []) ∷ []) ≡ 32 ∷ 61 ∷ []
unfolding space_words
equals = refl

-- the words of an entry, one after the other
pub entry_is : (who serial : List ℕ) (call reply : List (List ℕ))
    → ((((who ++ space_words (serial ∷ [])) ++ space_words call) ++ 32 ∷ 61 ∷ []) ++ space_words reply) ++ 10 ∷ []
    ≡ line_text (who ∷ serial ∷ call ++ (61 ∷ []) ∷ reply)
entry_is who serial call reply =
    let front : List (List ℕ) = serial ∷ call in
    let one : (who ++ space_words (serial ∷ [])) ++ space_words call ≡ who ++ space_words front =
    in_a_row who (serial ∷ []) call in
    let two : (who ++ space_words front) ++ 32 ∷ 61 ∷ [] ≡ who ++ space_words (front ++ (61 ∷ []) ∷ []) =
    ap (λ (t : List ℕ). (who ++ space_words front) ++ t) (sym equals) ∙ in_a_row who front ((61 ∷ []) ∷ []) in
    let three : (who ++ space_words (front ++ (61 ∷ []) ∷ [])) ++ space_words reply ≡ who
    ++ space_words (front ++ (61 ∷ []) ∷ reply) = in_a_row who (front ++ (61 ∷ []) ∷ []) reply
    ∙ ap (λ (ws : List (List ℕ)). who ++ space_words ws) (append_assoc front ((61 ∷ []) ∷ []) reply) in
    ap (λ (t : List ℕ). ((t ++ 32 ∷ 61 ∷ []) ++ space_words reply) ++ 10 ∷ []) one
    ∙ ap (λ (t : List ℕ). (t ++ space_words reply) ++ 10 ∷ []) two
    ∙ ap (λ (t : List ℕ). t ++ 10 ∷ []) three
    ∙ line_is who (front ++ (61 ∷ []) ∷ reply)
