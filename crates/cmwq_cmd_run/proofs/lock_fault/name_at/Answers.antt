use Rattle.std.proofs.Common.{string_bytes, sym, ap, refl, length, ◌∙◌, Some, option_map}
use Rattle.std.proofs.lemmas.Option.{slice_get-map, slice_get_read}
use Rattle.cmwq_cmd_run.proofs.lock_fault.name_at.Goals as goal

pub returns-in-Ok : goal.returns-in-Ok
returns-in-Ok c =
    let names = c.args.names.now in
    let found = c.in_ok-get.ensures.lookup in (
      c.args.number,
      slice_get-map string_bytes names c.args.number
          ∙ ap (option_map string_bytes)
          (slice_get_read names (length names) c.args.number c.in_ok-get.field-0.now refl found.3.0 found.1)
          ∙ ap Some (sym (c.in-Ok.ensures.ok ∙ c.as_str.ensures.value)),
    )
