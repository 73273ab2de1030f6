use Rattle.std.proofs.Common.{◌≡◌, ◌∙◌, ap, ap₂, replicate, false}
use Rattle.cmwq_pool.specs.Notes.{notes_of}
use Rattle.cmwq_pool.proofs.Noting.{none_noted}
use Rattle.cmwq_pool.proofs.notes.Notes.new.Goals as goal

pub returns : goal.returns
returns c =
    let numbers : c.in_ok-vec.field-0.items ≡ replicate c.args.items 0 =
    c.in_ok-vec.ensures.items_if_clones_equal (λ a h. h) ∙ ap (λ n. replicate n 0) c.from-items.ensures in
    let intensive : c.in_ok-vec-2.field-0.items ≡ replicate c.args.items false =
    c.in_ok-vec-2.ensures.items_if_clones_equal (λ a h. h) ∙ ap (λ n. replicate n false) c.from-items.ensures in
    ap₂ notes_of numbers intensive ∙ none_noted c.args.items
