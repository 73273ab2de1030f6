-- Those who are named, told one after another.
use Rattle.std.proofs.Common.{arith, sym, ap, ◌∙◌, ◌++◌, None, Some, Option, take, get_or, append-nil}
use Rattle.std.specs.Prelude.{◌≡◌, ◌<◌, ◌≤◌, ◌+◌, ◌-◌, ℕ, suc, List, [], ◌∷◌, length, replicate, set}
use Rattle.std.specs.Prelude.{filter_map, option_map}
use Rattle.std.proofs.Common.{ap₂, append_assoc, length-append}
use Rattle.std.proofs.Math.Seq.{set-append_seam}
use Rattle.std.proofs.lemmas.List.{take_more}
use Rattle.std.proofs.lemmas.List.Elements.{filter_map-append}
use Rattle.cmwq_c.specs.Wakes.{filled_up}

-- one place less is left to nobody
one_less : {Y : Type 0} (nobody y : Y) (places : ℕ) (ys : List Y) → length ys < places
    → replicate (places - length ys) nobody ≡ nobody ∷ replicate (places - length (ys ++ y ∷ [])) nobody
one_less nobody y places ys less =
    let more : length (ys ++ y ∷ []) ≡ length ys + 1 = length-append ys (y ∷ []) in
    let e : places - length ys ≡ suc (places - length (ys ++ y ∷ [])) = omega (arith, more, less) in
    ap (λ n. replicate n nobody) e

-- one more stands where nobody stood first
filled_more : {Y : Type 0} (nobody y : Y) (places : ℕ) (ys : List Y) → length ys < places
    → set (filled_up nobody places ys) (length ys) y ≡ filled_up nobody places (ys ++ y ∷ [])
filled_more nobody y places ys less =
    let rest = replicate (places - length (ys ++ y ∷ [])) nobody in
    ap (λ zs. set (ys ++ zs) (length ys) y) (one_less nobody y places ys less)
    ∙ set-append_seam ys nobody rest y
    ∙ sym (append_assoc ys (y ∷ []) rest)

module _ {X Y : Type 0} (tell : X → Y) (nobody : Y) (places : ℕ) (named : List (Option X)) where
  -- the first of those who are named are told
  abbrev pub AreTold : ℕ → ℕ → List Y → Type 0
  AreTold i place told =
      (place ≡ length (filter_map (option_map tell) (take i named))) × (place ≤ i)
      × (told ≡ filled_up nobody places (filter_map (option_map tell) (take i named)))

  pub told_some : (i place : ℕ) (told : List Y) (x : X) → AreTold i place told → i < length named → i < places
      → get_or named i None ≡ Some x → AreTold (i + 1) (place + 1) (set told place (tell x))
  told_some i place told x are there few is =
      let ys = filter_map (option_map tell) (take i named) in
      let more : filter_map (option_map tell) (take (i + 1) named) ≡ ys ++ tell x ∷ [] =
      ap (filter_map (option_map tell)) (take_more named i None there)
      ∙ filter_map-append (option_map tell) (take i named) (get_or named i None ∷ [])
      ∙ ap (λ o. ys ++ filter_map (option_map tell) (o ∷ [])) is in
      let less : length ys < places = omega (arith, are.0, are.1, few) in (
        ap (λ n. n + 1) are.0 ∙ sym (length-append ys (tell x ∷ [])) ∙ sym (ap length more),
        (let at = are.1 in omega (arith, at)),
        ap₂ (λ ts n. set ts n (tell x)) are.2 are.0 ∙ filled_more nobody (tell x) places ys less
            ∙ sym (ap (filled_up nobody places) more),
      )

  pub told_none : (i place : ℕ) (told : List Y) → AreTold i place told → i < length named
      → get_or named i None ≡ None → AreTold (i + 1) place told
  told_none i place told are there is =
      let ys = filter_map (option_map tell) (take i named) in
      let same : filter_map (option_map tell) (take (i + 1) named) ≡ ys =
      ap (filter_map (option_map tell)) (take_more named i None there)
      ∙ filter_map-append (option_map tell) (take i named) (get_or named i None ∷ [])
      ∙ ap (λ o. ys ++ filter_map (option_map tell) (o ∷ [])) is ∙ append-nil ys in (
        are.0 ∙ sym (ap length same),
        (let at = are.1 in omega (arith, at)),
        are.2 ∙ sym (ap (filled_up nobody places) same),
      )
