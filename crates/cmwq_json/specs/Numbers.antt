-- Numbers, widths and flags.
use Rattle.std.specs.Prelude.{if◌then◌else◌, ◌==◌}
use Rattle.cmwq_json.specs.Common.{ℕ, Option, Some, None, option_map, option_and_then, min, Data, as_number, as_u64}
use Rattle.cmwq_json.specs.Names.{is_in_range}

-- a whole number from low to high
abbrev pub number_between : ℕ → ℕ → Data → Option ℕ
number_between low high d =
    option_and_then (λ n. if is_in_range low high n then Some n else None) (option_and_then as_u64 (as_number d))

-- max_active, where 0 stands for 256, and more than 512 for 512
abbrev pub width_for : ℕ → ℕ
width_for n = if n == 0 then 256 else min n 512

abbrev pub width_said : Data → Option ℕ
width_said d = option_map width_for (number_between 0 4294967295 d)
