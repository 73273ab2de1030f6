-- What readers read, and the rule over it.
use Rattle.std.specs.Prelude.{◌≡◌, ◌<◌}
use Rattle.cmwq_publish.specs.Common.{ℕ, List, [], length, slice_index, Option, Some, None, MatchOption, some}
use Rattle.cmwq_publish.specs.Common.{get_elem?, Book, Entry, CallerId, ItemId, Caller, serial_of, Layout, IsLegal}
use Rattle.cmwq_publish.specs.Common.{past_of, bits}
use Rattle.cmwq_publish.specs.declared.versions.Versions.{Versions}
use Rattle.cmwq_publish.specs.declared.versions.Known.{Known}
use Rattle.cmwq_publish.specs.declared.versions.Publish.{Publish}
use Rattle.cmwq_publish.specs.Marked.{bits_with_mark, counts_with_entry}

-- the entries are a legal history of this shape, and these are their number, the bits of all items after them, and how
-- many each caller has
pub record AreVersions (x : Versions) : Type 0 where
  pub legal : IsLegal x.shape (past_of x.seen.log)
  pub len_is : x.len ≡ length x.seen.log
  pub items : length x.bits.items ≡ x.shape.items
  pub bits_are : (i : ℕ) → i < x.shape.items → slice_index x.bits.items i ≡ bits (past_of x.seen.log) i
  pub callers : length x.serials.items ≡ x.shape.callers
  pub serials_are : (c : ℕ) → c < x.shape.callers
      → slice_index x.serials.items c ≡ serial_of (past_of x.seen.log) (Caller (record { 0 = c }))

-- the version is of this hub
abbrev pub AreVersionsOf : Layout → Book → Versions → Type 0
AreVersionsOf layout book x = (x.shape ≡ layout) × (x.seen.book ≡ book)

-- the place knows that it is of this hub
abbrev pub IsOurs : Layout → Book → Option Known → Type 0
IsOurs layout book v = MatchOption v ⊥ (λ k. (k.shape ≡ layout) × (k.token.book ≡ book))

-- the hub that the place knows, if any, is the version's
abbrev pub Fits : Versions → Option Known → Type 0
Fits x v = (layout : Layout) (book : Book) → IsOurs layout book v → AreVersionsOf layout book x

-- the rule: the version is right, and of the hub that the places know
abbrev pub HoldVersions : Versions → List (Option Known) → Type 0
HoldVersions x views = AreVersions x × ((place : ℕ) (v : Option Known) → get_elem? views place ≡ some v → Fits x v)

abbrev pub no_version : Option Known
no_version = None

abbrev pub knows : Versions → Option Known
knows x = Some (record { shape = x.shape; token = x.seen })

-- the place now knows the hub of the published version, which is right and of the hub that it knew
abbrev pub Sees : Option Known → Versions → Versions → Option Known → Type 0
Sees v x y w = AreVersions y × (w ≡ knows y) × Fits y v

-- the version that the mark makes
pub record IsMadeBy (x : Versions) (op : Publish) (y : Versions) : Type 0 where
  pub shape : y.shape ≡ x.shape
  pub bits : y.bits.items ≡ bits_with_mark x.bits.items op.item op.bits
  pub serials : y.serials.items ≡ counts_with_entry x.serials.items op.caller op.serial
  pub len : y.len ≡ op.len
  pub seen : y.seen ≡ op.seen

-- the mark makes a right version of the same hub
abbrev pub FollowsVersions : Versions → Publish → Type 0
FollowsVersions x op = (op.seen.book ≡ x.seen.book) × ((y : Versions) → IsMadeBy x op y → AreVersions x → AreVersions y)

-- it has made it, and the writer's place knows the hub
abbrev pub ShowsVersion : Versions → Publish → Versions → Option Known → Type 0
ShowsVersion x op y w = IsMadeBy x op y × (w ≡ knows y)

-- the version shows these entries of this hub, and no mark waits
abbrev pub IsOut : Layout → Book → List Entry → Versions → List Publish → Type 0
IsOut layout book log x waiting = AreVersionsOf layout book x × (x.seen.log ≡ log) × (waiting ≡ [])

-- the bits of an item after these entries, and how many of them a caller has made
abbrev pub IsReading : Layout → ItemId → CallerId → List Entry → ℕ → ℕ → Type 0
IsReading s item caller log b n = (item.0 < s.items → b ≡ bits (past_of log) item.0)
    × (caller.0 < s.callers → n ≡ serial_of (past_of log) (Caller caller))
