-- What a caller of a script has done so far.
use Rattle.std.specs.Prelude.{◌≡◌, ◌++◌}
use Rattle.cmwq_cmd_run.specs.Common.{List, Call, Layout, View, HasFollowed}
use Rattle.cmwq_cmd_run.specs.declared.caller.Way.{Way}

-- It has followed the first ones of these calls, of which it left out so many, and the others are those that it makes
-- next.
abbrev pub IsOnWay : Layout → View → List Call → Way → View → Type 0
IsOnWay s v calls way w = (made : List Call) × HasFollowed s made way.full v w × (calls ≡ made ++ way.next)
