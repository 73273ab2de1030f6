use Rattle.std.proofs.Common.{sym, ◌∙◌, ap, length}
use Rattle.cmwq_publish.proofs.Adding.{adds_moves}
use Rattle.cmwq_publish.proofs.prefix.Prefix.extended.Goals as goal

pub compare_exchange-found-requires : goal.compare_exchange-found-requires
compare_exchange-found-requires g c =
    let h = c.args.head.now.length_is in
    let offer = c.plain-offer.ensures in
    let pen = c.no_pen-pen.ensures in
    let seen = c.again-seen.ensures in
    let book = ap (λ s. s.book) seen ∙ c.self.invariant.1 ∙ sym (ap (λ w. w.book) h) in (
      ap (λ w. w.tracked) h,
      book,
      pen.0 ∙ book,
      offer.0,
      rw (ap (λ w. w.key) h, pen.1, offer.1, offer.3)
          (adds_moves c.again-seen.result.log c.args.entry c.self.inside.len
          (ap (λ s. length s.log) seen ∙ sym c.self.invariant.0)),
    )
