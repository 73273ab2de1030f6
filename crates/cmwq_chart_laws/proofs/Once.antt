-- A figure that is the only one to pass a test is drawn once, where it stands.
use Rattle.std.proofs.Common.{◌≡◌, ℕ, Bool, true, false, not, List, [], ◌∷◌, ◌++◌}
use Rattle.std.proofs.Common.{map, filter, cond, refl, sym}
use Rattle.std.proofs.Common.{ap, ap₂, ◌∙◌, subst, arith, eq-eqb, inl}
use Rattle.std.specs.Prelude.{if◌then◌else◌}
use Rattle.std.proofs.lemmas.List.Elements.{filter-append}
use Rattle.cmwq_lemmas.proofs.Filters.{filter_none}
use Rattle.cmwq_lemmas.proofs.Lists.{All_each, all_mapped}
use Rattle.cmwq_lemmas.proofs.Members.{In, any_in, filter_in, in_filter, of_in}
use Rattle.cmwq_lemmas.proofs.Passing.{filter_mapped}
use Rattle.cmwq_chart.specs.declared.bars.Bar.{Bar}
use Rattle.cmwq_chart.specs.declared.levels.Level.{Level}
use Rattle.cmwq_chart.specs.declared.signs.Sign.{Sign}
use Rattle.cmwq_chart.specs.declared.sleeps.Sleep.{Sleep}
use Rattle.cmwq_chart.specs.declared.waits.CallerWait.{CallerWait}
use Rattle.cmwq_chart.specs.declared.waits.WaitSign.{WaitSign}
use Rattle.cmwq_chart_text.specs.declared.figures.Figure.{Figure}
use Rattle.cmwq_chart_text.specs.declared.figures.Figure.TheVariants as figure
use Rattle.cmwq_chart_text.specs.declared.page.Page.{Page}
use Rattle.cmwq_chart_text.specs.Bands.{stands_in}
use Rattle.cmwq_chart_text.specs.Drawings.{shows}
use Rattle.cmwq_chart_text.specs.Figures.{figure_row, figures_of, is_flat, row_number}
use Rattle.cmwq_chart_laws.specs.Charts.{IsDrawnOnce}
use Rattle.cmwq_chart_laws.specs.Drawn.{AreOfRows, IsRow, drawn_in, is_of_row, parts_of, standing_in}
use Rattle.cmwq_chart_laws.specs.Standing.{HasEntryIn}
use Rattle.cmwq_chart_laws.proofs.Shown.{figures_are_drawn}
use Rattle.cmwq_chart_laws.proofs.StandIn.{entry_of, figures_stand_with_entries}

pub filters_commute : {X : Type 0} (p q : X → Bool) (xs : List X) → filter p (filter q xs) ≡ filter q (filter p xs)
filters_commute p q [] = refl
filters_commute p q (x ∷ xs) = grind (arith, filters_commute p q xs)

-- of the figures of a page, one alone passes the test
module _ (p : Page) (figures : List Figure) (rows : AreOfRows figures) (test : Figure → Bool) (f : Figure)
    (only : filter test figures ≡ f ∷ []) (flat : is_flat f ≡ false) where
  abbrev own : ℕ → List Figure
  own band = standing_in p figures band (figure_row f)

  listed : In f figures
  listed = (in_filter test figures f (subst (λ l. In f l) (sym only) (inl refl))).0

  of_row : IsRow (figure_row f)
  of_row = of_in (λ g. IsRow (figure_row g)) figures f rows listed

  own_passing : (band : ℕ) → filter test (own band) ≡ (if stands_in p band f then f ∷ [] else [])
  own_passing band =
      filters_commute test (is_of_row (figure_row f)) (filter (stands_in p band) figures)
      ∙ ap (filter (is_of_row (figure_row f)))
      (filters_commute test (stands_in p band) figures ∙ ap (filter (stands_in p band)) only)
      ∙ by (stands_in p band f)
    where
      by : (b : Bool) → filter (is_of_row (figure_row f)) (cond b (f ∷ []) []) ≡ (if b then f ∷ [] else [])
      by true = ap (λ b. cond b (f ∷ []) []) (eq-eqb (row_number (figure_row f)) (row_number (figure_row f)) refl)
      by false = refl

  -- a figure that stands there shows something
  shown_if : (band : ℕ) → stands_in p band f ≡ true → shows (own band) ≡ true
  shown_if band stands =
      any_in (λ g. not (is_flat g)) (own band) f
      (filter_in (is_of_row (figure_row f)) (filter (stands_in p band) figures) f
      (filter_in (stands_in p band) figures f listed stands)
      (eq-eqb (row_number (figure_row f)) (row_number (figure_row f)) refl))
      (ap not flat)

  passing : (band : ℕ) → filter test (drawn_in band (figure_row f) (parts_of p figures))
      ≡ (if stands_in p band f then f ∷ [] else [])
  passing band =
      ap (filter test) (figures_are_drawn p figures band (figure_row f) rows of_row)
      ∙ by (shows (own band)) refl (stands_in p band f) refl
    where
      by : (b : Bool) → shows (own band) ≡ b → (c : Bool) → stands_in p band f ≡ c
          → filter test (if b then own band else []) ≡ (if stands_in p band f then f ∷ [] else [])
      by true is c h = own_passing band
      by false is true h = let clash : true ≡ false = sym (shown_if band h) ∙ is in cc
      by false is false h = sym (ap (λ b. if b then f ∷ [] else []) h)

  pub is_drawn_once : IsDrawnOnce p (parts_of p figures) test f
  is_drawn_once = record {
    there = λ band h.
        passing band
        ∙ ap (λ b. if b then f ∷ [] else []) ((figures_stand_with_entries p f band flat).1 h);
    nowhere_else = λ band none. passing band ∙ ap (λ b. if b then f ∷ [] else [])
        (fails band none (stands_in p band f) refl);
  }
    where
      fails : (band : ℕ) → (HasEntryIn p f band → ⊥) → (b : Bool) → stands_in p band f ≡ b → b ≡ false
      fails band none true h = absurd (none (entry_of p f band h))
      fails band none false h = refl

-- ---- a test that passes shapes of one kind alone

none_mapped : {X : Type 0} (con : X → Figure) (test : Figure → Bool) (xs : List X)
    → ((x : X) → test (con x) ≡ false) → filter test (map con xs) ≡ []
none_mapped con test xs fails =
    filter_none test (map con xs) (all_mapped con (λ f. test f ≡ false) xs
    (All_each (λ x. test (con x) ≡ false) xs fails))

kind_mapped : {X : Type 0} (con : X → Figure) (test : Figure → Bool) (xs : List X)
    → filter test (map con xs) ≡ map con (filter (λ x. test (con x)) xs)
kind_mapped con test xs = filter_mapped con test (λ x. test (con x)) xs (All_each (λ x. test (con x) ≡ test (con x)) xs
    (λ x. refl))

module _ (test : Figure → Bool) (ws : List CallerWait) (wss : List WaitSign) (bs : List Bar) (ss : List Sleep)
    (gs : List Sign) (ls : List Level) where
  pub each_kind : filter test (figures_of ws wss bs ss gs ls)
      ≡ map figure.Wait (filter (λ x. test (figure.Wait x)) ws)
      ++ map figure.WaitSign (filter (λ x. test (figure.WaitSign x)) wss)
      ++ map figure.Bar (filter (λ x. test (figure.Bar x)) bs)
      ++ map figure.Sleep (filter (λ x. test (figure.Sleep x)) ss)
      ++ map figure.Sign (filter (λ x. test (figure.Sign x)) gs)
      ++ map figure.Level (filter (λ x. test (figure.Level x)) ls)
  each_kind =
      filter-append test (map figure.Wait ws ++ map figure.WaitSign wss ++ map figure.Bar bs ++ map figure.Sleep ss
      ++ map figure.Sign gs) (map figure.Level ls)
      ∙ ap₂ (λ k l. k ++ l)
      (filter-append test (map figure.Wait ws ++ map figure.WaitSign wss ++ map figure.Bar bs ++ map figure.Sleep ss)
      (map figure.Sign gs)
      ∙ ap₂ (λ k l. k ++ l)
      (filter-append test (map figure.Wait ws ++ map figure.WaitSign wss ++ map figure.Bar bs) (map figure.Sleep ss)
      ∙ ap₂ (λ k l. k ++ l)
      (filter-append test (map figure.Wait ws ++ map figure.WaitSign wss) (map figure.Bar bs)
      ∙ ap₂ (λ k l. k ++ l)
      (filter-append test (map figure.Wait ws) (map figure.WaitSign wss)
      ∙ ap₂ (λ k l. k ++ l) (kind_mapped figure.Wait test ws) (kind_mapped figure.WaitSign test wss))
      (kind_mapped figure.Bar test bs)) (kind_mapped figure.Sleep test ss)) (kind_mapped figure.Sign test gs))
      (kind_mapped figure.Level test ls)

  no_waits : ((x : CallerWait) → test (figure.Wait x) ≡ false) → filter (λ x. test (figure.Wait x)) ws ≡ []
  no_waits h = filter_none (λ x. test (figure.Wait x)) ws (All_each (λ x. test (figure.Wait x) ≡ false) ws h)

  no_wait_signs : ((x : WaitSign) → test (figure.WaitSign x) ≡ false)
      → filter (λ x. test (figure.WaitSign x)) wss ≡ []
  no_wait_signs h =
      filter_none (λ x. test (figure.WaitSign x)) wss (All_each (λ x. test (figure.WaitSign x) ≡ false) wss h)

  no_bars : ((x : Bar) → test (figure.Bar x) ≡ false) → filter (λ x. test (figure.Bar x)) bs ≡ []
  no_bars h = filter_none (λ x. test (figure.Bar x)) bs (All_each (λ x. test (figure.Bar x) ≡ false) bs h)

  no_sleeps : ((x : Sleep) → test (figure.Sleep x) ≡ false) → filter (λ x. test (figure.Sleep x)) ss ≡ []
  no_sleeps h = filter_none (λ x. test (figure.Sleep x)) ss (All_each (λ x. test (figure.Sleep x) ≡ false) ss h)

  no_signs : ((x : Sign) → test (figure.Sign x) ≡ false) → filter (λ x. test (figure.Sign x)) gs ≡ []
  no_signs h = filter_none (λ x. test (figure.Sign x)) gs (All_each (λ x. test (figure.Sign x) ≡ false) gs h)

  no_levels : ((x : Level) → test (figure.Level x) ≡ false) → filter (λ x. test (figure.Level x)) ls ≡ []
  no_levels h = filter_none (λ x. test (figure.Level x)) ls (All_each (λ x. test (figure.Level x) ≡ false) ls h)

  -- which of them pass, kind by kind
  kinds : (a : List CallerWait) (b : List WaitSign) (c : List Bar) (d : List Sleep) (e : List Sign) (f : List Level)
      → filter (λ x. test (figure.Wait x)) ws ≡ a → filter (λ x. test (figure.WaitSign x)) wss ≡ b
      → filter (λ x. test (figure.Bar x)) bs ≡ c → filter (λ x. test (figure.Sleep x)) ss ≡ d
      → filter (λ x. test (figure.Sign x)) gs ≡ e → filter (λ x. test (figure.Level x)) ls ≡ f
      → filter test (figures_of ws wss bs ss gs ls) ≡ figures_of a b c d e f
  kinds a b c d e f ha hb hc hd he hf =
      each_kind
      ∙ ap₂ (λ k l. k ++ l) (ap₂ (λ k l. k ++ l) (ap₂ (λ k l. k ++ l) (ap₂ (λ k l. k ++ l)
      (ap₂ (λ k l. k ++ l) (ap (map figure.Wait) ha) (ap (map figure.WaitSign) hb))
      (ap (map figure.Bar) hc)) (ap (map figure.Sleep) hd)) (ap (map figure.Sign) he)) (ap (map figure.Level) hf)

  pub one_bar : (x : Bar) → filter (λ y. test (figure.Bar y)) bs ≡ x ∷ []
      → ((y : CallerWait) → test (figure.Wait y) ≡ false) → ((y : WaitSign) → test (figure.WaitSign y) ≡ false)
      → ((y : Sleep) → test (figure.Sleep y) ≡ false) → ((y : Sign) → test (figure.Sign y) ≡ false)
      → ((y : Level) → test (figure.Level y) ≡ false)
      → filter test (figures_of ws wss bs ss gs ls) ≡ figure.Bar x ∷ []
  one_bar x is a b d e f =
      kinds [] [] (x ∷ []) [] [] [] (no_waits a) (no_wait_signs b) is (no_sleeps d) (no_signs e) (no_levels f)

  pub one_sign : (x : Sign) → filter (λ y. test (figure.Sign y)) gs ≡ x ∷ []
      → ((y : CallerWait) → test (figure.Wait y) ≡ false) → ((y : WaitSign) → test (figure.WaitSign y) ≡ false)
      → ((y : Bar) → test (figure.Bar y) ≡ false) → ((y : Sleep) → test (figure.Sleep y) ≡ false)
      → ((y : Level) → test (figure.Level y) ≡ false)
      → filter test (figures_of ws wss bs ss gs ls) ≡ figure.Sign x ∷ []
  one_sign x is a b c d f =
      kinds [] [] [] [] (x ∷ []) [] (no_waits a) (no_wait_signs b) (no_bars c) (no_sleeps d) is (no_levels f)

  pub one_wait : (x : CallerWait) → filter (λ y. test (figure.Wait y)) ws ≡ x ∷ []
      → ((y : WaitSign) → test (figure.WaitSign y) ≡ false) → ((y : Bar) → test (figure.Bar y) ≡ false)
      → ((y : Sleep) → test (figure.Sleep y) ≡ false) → ((y : Sign) → test (figure.Sign y) ≡ false)
      → ((y : Level) → test (figure.Level y) ≡ false)
      → filter test (figures_of ws wss bs ss gs ls) ≡ figure.Wait x ∷ []
  one_wait x is b c d e f =
      kinds (x ∷ []) [] [] [] [] [] is (no_wait_signs b) (no_bars c) (no_sleeps d) (no_signs e) (no_levels f)

  pub one_sleep : (x : Sleep) → filter (λ y. test (figure.Sleep y)) ss ≡ x ∷ []
      → ((y : CallerWait) → test (figure.Wait y) ≡ false) → ((y : WaitSign) → test (figure.WaitSign y) ≡ false)
      → ((y : Bar) → test (figure.Bar y) ≡ false) → ((y : Sign) → test (figure.Sign y) ≡ false)
      → ((y : Level) → test (figure.Level y) ≡ false)
      → filter test (figures_of ws wss bs ss gs ls) ≡ figure.Sleep x ∷ []
  one_sleep x is a b c e f =
      kinds [] [] [] (x ∷ []) [] [] (no_waits a) (no_wait_signs b) (no_bars c) is (no_signs e) (no_levels f)

  pub only_levels : ((y : CallerWait) → test (figure.Wait y) ≡ false)
      → ((y : WaitSign) → test (figure.WaitSign y) ≡ false) → ((y : Bar) → test (figure.Bar y) ≡ false)
      → ((y : Sleep) → test (figure.Sleep y) ≡ false) → ((y : Sign) → test (figure.Sign y) ≡ false)
      → filter test (figures_of ws wss bs ss gs ls) ≡ map figure.Level (filter (λ y. test (figure.Level y)) ls)
  only_levels a b c d e =
      kinds [] [] [] [] [] (filter (λ y. test (figure.Level y)) ls) (no_waits a) (no_wait_signs b) (no_bars c)
      (no_sleeps d) (no_signs e) refl

  pub one_wait_sign : (x : WaitSign) → filter (λ y. test (figure.WaitSign y)) wss ≡ x ∷ []
      → ((y : CallerWait) → test (figure.Wait y) ≡ false) → ((y : Bar) → test (figure.Bar y) ≡ false)
      → ((y : Sleep) → test (figure.Sleep y) ≡ false) → ((y : Sign) → test (figure.Sign y) ≡ false)
      → ((y : Level) → test (figure.Level y) ≡ false)
      → filter test (figures_of ws wss bs ss gs ls) ≡ figure.WaitSign x ∷ []
  one_wait_sign x is a c d e f =
      kinds [] (x ∷ []) [] [] [] [] (no_waits a) is (no_bars c) (no_sleeps d) (no_signs e) (no_levels f)
