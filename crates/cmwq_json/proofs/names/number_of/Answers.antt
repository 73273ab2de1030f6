use Rattle.cmwq_json.specs.Common.{sym, ◌∙◌, string_bytes, bytes_eq}
use Rattle.cmwq_json.proofs.Arrays.{position-map}
use Rattle.cmwq_json.proofs.names.number_of.Goals as goal

pub returns-clause-number : goal.returns-clause-number
returns-clause-number c =
    c.get_index_of.ensures.index ∙ sym (position-map (bytes_eq c.args.name.now) string_bytes c.args.names.now.keys)
