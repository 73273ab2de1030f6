use Rattle.std.proofs.Common.{length, sym, subst}
use Rattle.std.proofs.Math.Seq.{take-length}
use Rattle.std.proofs.KnownBytes.{Appends-kept}
use Rattle.std.proofs.lemmas.Result.{err_from_is_err_and}
use Rattle.std.specs.Io.KnownBytes.{Appends}
use Rattle.cmwq_json.proofs.output.write_text.Goals as goal

pub returns-in_err-flush_all-clause-err : goal.returns-in_err-flush_all-clause-err
returns-in_err-flush_all-clause-err g c =
    let p = err_from_is_err_and c.from_residual-in_err-flush_all.result c.from_residual-in_err-flush_all.ensures.1 in
    let text = c.args.text.now in
    let whole = rw c.as_bytes.ensures.value at c.in_ok-write_all.ensures.ok in
    rw (p.1) (
      length text,
      subst (Appends _ _) (sym (take-length text)) (Appends-kept _ _ _ text whole c.in_err-flush_all.ensures.bytes),
    )
