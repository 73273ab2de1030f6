use Rattle.cmwq_publish.specs.Common.{◌≡◌, ◌∙◌, ap, sym, refl, replicate, Layout}
use Rattle.cmwq_publish.specs.declared.versions.Versions.{Versions}
use Rattle.cmwq_publish.proofs.Marking.{none_is_version}
use Rattle.cmwq_publish.proofs.opening.empty.Goals as goal

pub returns : goal.returns
returns c =
    let x : Versions =
    record {
      shape = c.in_ok-copy.field-0;
      bits = c.in_ok-bits.bits;
      serials = c.in_ok-serials.serials;
      len = 0;
      seen = c.args.seen;
    } in
    let shape : x.shape ≡ c.args.shape.now = c.in_ok-copy.ensures in
    let zeros : x.bits.items ≡ replicate c.args.shape.now.items 0 =
    c.in_ok-bits.ensures.items_if_clones_equal (λ x e. e)
    ∙ ap (λ n. replicate n 0) (c.from.ensures ∙ ap (λ (l : Layout). l.items) c.counts.ensures.counts) in
    let counts : x.serials.items ≡ replicate c.args.shape.now.callers 0 =
    c.in_ok-serials.ensures.items_if_clones_equal (λ x e. e)
    ∙ ap (λ n. replicate n 0) (c.from-2.ensures ∙ ap (λ (l : Layout). l.callers) c.counts-2.ensures.counts) in (
      none_is_version x c.requires refl (zeros ∙ ap (λ (l : Layout). replicate l.items 0) (sym shape))
          (counts ∙ ap (λ (l : Layout). replicate l.callers 0) (sym shape)),
      shape,
      refl,
      refl,
      zeros,
      counts,
    )
