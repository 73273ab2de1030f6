-- The bytes that were read ahead of the lines given out.
use Rattle.std.specs.Prelude.{◌≡◌, ℕ, ◌≤◌, List, slice_range, vec_len}
use Rattle.cmwq_io.specs.declared.lines.Lines.TheInside.{Inside}

abbrev pub ahead_in : Inside → List ℕ
ahead_in a = slice_range a.bytes.items a.start a.end

pub record IsReadAhead (a : Inside) : Type 0 where
  pub ordered : a.start ≤ a.end
  pub within : a.end ≤ vec_len a.bytes
  pub size : vec_len a.bytes ≡ 65536
