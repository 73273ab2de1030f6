-- What the reader's members are as plain values.
use Rattle.std.specs.Prelude.{map, string_bytes}
use Rattle.cmwq_json.specs.declared.names.Members.{Members}
use Rattle.cmwq_json.specs.Names.{Named}

abbrev pub named_of : {X : Type 0} → Members X → Named X
named_of m = record { names = map string_bytes m.names.keys; values = m.values.items }
