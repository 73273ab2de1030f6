-- Whether calls may be scripts, as a test.
use Rattle.cmwq_model.specs.Prelude.{most_callers}
use Rattle.std.specs.Prelude.{◌&&◌, ◌^◌}
use Rattle.cmwq_rt_scripts.specs.Common.{Bool, List, length, nat_le, nat_lt, Vec, Global, Call, Layout, has_numbers}
use Rattle.cmwq_rt_scripts.specs.Common.{is_whole}
use Rattle.std.specs.List.{list_all}

abbrev pub is_scripted : Layout → Call → Bool
is_scripted s c = is_whole c && has_numbers s c

abbrev pub is_script : Layout → List Call → Bool
is_script s calls = nat_lt (length calls) (2 ^ 32) && list_all (is_scripted s) calls

abbrev pub are_scripts : Layout → List (Vec Call Global) → Bool
are_scripts s scripts = nat_le (length scripts) most_callers && list_all (λ x. is_script s x.items) scripts
