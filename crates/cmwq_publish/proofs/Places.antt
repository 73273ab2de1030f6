-- Each step of a place keeps the rule of the versions.
use Rattle.cmwq_publish.specs.Common.{◌≡◌, ◌≢◌, ℕ, List, [], ◌∷◌, ◌++◌, set, Option, refl, ◌∙◌, subst, ⊎_elim, some}
use Rattle.cmwq_publish.specs.Common.{get_elem?, Admits, TurnsAt, Forks, Merges}
use Rattle.atomic_table.proofs.Lists.{at_set, at_snoc}
use Rattle.cmwq_publish.specs.declared.versions.Versions.{Versions}
use Rattle.cmwq_publish.specs.declared.versions.Known.{Known}
use Rattle.cmwq_publish.specs.Published.{HoldVersions, AreVersions, Fits, Sees, knows, no_version}

-- who knows no hub fits each version
pub newcomer_fits : (x : Versions) → Fits x no_version
newcomer_fits x layout book ours = absurd ours

pub knowing_fits : (x : Versions) → Fits x (knows x)
knowing_fits x layout book ours = ours

module _ (x : Versions) (views : List (Option Known)) (w : Option Known) (others : (place : ℕ) (v : Option Known)
    → get_elem? views place ≡ some v → Fits x v) (mine : Fits x w) where
  -- one place's view becomes one that fits
  pub fits_set : (place : ℕ) → (j : ℕ) (u : Option Known) → get_elem? (set views place w) j ≡ some u → Fits x u
  fits_set place j u e =
      ⊎_elim
      (λ (t : (j ≡ place) × (w ≡ u)). subst (Fits x) t.1 mine)
      (λ (t : (j ≢ place) × (get_elem? views j ≡ some u)). others j u t.1)
      (at_set views place j w u e)

  -- a place that fits is added
  pub fits_snoc : (j : ℕ) (u : Option Known) → get_elem? (views ++ w ∷ []) j ≡ some u → Fits x u
  fits_snoc j u e = ⊎_elim (others j u) (λ (same : w ≡ u). subst (Fits x) same mine) (at_snoc views w u j e)

pub admits : Admits HoldVersions no_version
admits x views h = (h.0, fits_snoc x views no_version h.1 (newcomer_fits x))

-- a publish, or an enter where y is x
pub turns : (place : ℕ) (v : Option Known) (x y : Versions) → (AreVersions x → AreVersions y) → y.shape ≡ x.shape
    → y.seen.book ≡ x.seen.book → TurnsAt HoldVersions place v x y Sees
turns place v x y is shape book views h at =
    let later : (j : ℕ) (u : Option Known) → get_elem? views j ≡ some u → Fits y u =
    λ j u e l b ours. (shape ∙ (h.1 j u e l b ours).0, book ∙ (h.1 j u e l b ours).1) in
    (knows y, (is h.0, fits_set y views (knows y) later (knowing_fits y) place), (is h.0, refl, later place v at))

pub looks : (place : ℕ) (v : Option Known) (x : Versions) → TurnsAt HoldVersions place v x x Sees
looks place v x = turns place v x x (λ i. i) refl refl

pub forks : (place : ℕ) (v : Option Known) → Forks HoldVersions place v v v
forks place v x views h at =
    (h.0, fits_snoc x (set views place v) v (fits_set x views v h.1 (h.1 place v at) place) (h.1 place v at))

pub merges : (place : ℕ) (v : Option Known) (other : ℕ) (w : Option Known)
    → Merges HoldVersions place v other w w no_version
merges place v other w x views h at apart there =
    let told : Fits x w =
    ⊎_elim (λ (t : (other ≡ place) × (w ≡ w)). absurd (apart t.0))
    (λ (t : (other ≢ place) × (get_elem? views other ≡ some w)). h.1 other w t.1)
    (at_set views place other w w there) in
    (h.0, fits_set x (set views place w) no_version (fits_set x views w h.1 told place) (newcomer_fits x) other)
