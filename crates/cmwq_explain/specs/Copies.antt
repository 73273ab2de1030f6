-- What a source that keeps a copy has kept.
use Rattle.std.specs.Prelude.{◌≡◌, ℕ, Bool, true, List, ◌++◌}
use Rattle.cmwq_explain.specs.declared.kept.Kept.{Kept}

-- the source that it passes on
abbrev pub kept_inner : {S : Type 0} → Kept S → S
kept_inner k = k.inner

-- whether all that it gave is kept
abbrev pub is_copied : {S : Type 0} → Kept S → Bool
is_copied k = k.is_whole

-- what is kept
abbrev pub bytes_copied : {S : Type 0} → Kept S → List ℕ
bytes_copied k = k.bytes.items

-- where all is kept after a read that gave these bytes, all was kept before it, and these are kept after that
abbrev pub KeepsToo : {S : Type 0} → Kept S → Kept S → List ℕ → Type 0
KeepsToo old new bytes = is_copied new ≡ true → (is_copied old ≡ true) × (bytes_copied new ≡ bytes_copied old ++ bytes)
