use Rattle.std.proofs.Common.{◌≡◌, ◌∙◌, ap, length, replicate, []}
use Rattle.std.proofs.lemmas.List.{length-replicate}
use Rattle.cmwq_list.specs.Links.{lists_of, lists_from, link_at}
use Rattle.cmwq_list.proofs.Reading.{all_empty}
use Rattle.cmwq_list.proofs.lists.Lists.new.Goals as goal

pub returns : goal.returns
returns c =
    let owners = c.in_ok-vec.field-0.items in
    let lens = c.in_ok-vec-2.field-0.items in
    let next = c.loop-sentinel.next.items in
    let e : owners ≡ replicate c.args.items 65535 = c.in_ok-vec.ensures.items_if_clones_equal (λ a h. h) in
    let d : lens ≡ replicate c.args.lists 0 = c.in_ok-vec-2.ensures.items_if_clones_equal (λ a h. h)
    ∙ ap (λ n. replicate n 0) c.from-2.ensures in
    let count : length owners ≡ c.args.items = ap length e ∙ length-replicate c.args.items 65535 in
    let lists : lists_of next owners lens ≡ replicate c.args.lists [] =
    ap (λ ns. lists_from (link_at next) (length owners) ns) d
    ∙ all_empty (link_at next) (length owners) c.args.lists in
    ap (λ n. record { items = n; lists = lists_of next owners lens }) count
    ∙ ap (λ ls. record { items = c.args.items; lists = ls }) lists
