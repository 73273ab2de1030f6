use Rattle.std.proofs.Common.{◌<◌, ◌/◌, ◌∷◌, [], length, set, rules, refl}
use Rattle.cmwq_timer.specs.Tournament.{candidate_at, node_at}
use Rattle.cmwq_timer.proofs.Levels.{kept_first, stays_first, low_stays, middle_stays, high_stays, levels_written}
use Rattle.cmwq_timer.proofs.Levels.{others_at, others_booked, low_inside, middle_inside, high_inside, last_node}
use Rattle.cmwq_timer.proofs.tournament.Tournament.set.Goals as goal

pub invariant_of-self : goal.invariant_of-self
invariant_of-self c =
    let t = c.self.inside in
    let are = c.self.invariant.1 in
    let i = c.args.item.0 in
    let here : i < length t.rows.items = rw (← c.self.view_is) at c.requires in
    let rows = t.rows.items in let lows = t.low.items in let middles = t.middle.items in let highs = t.high.items in (
      c.self.invariant.0,
      rw c.from-row.ensures (low_stays rows lows middles highs t.last i c.args.timer are here (
          stays_first (length rows) (candidate_at rows) (candidate_at (set rows i c.args.timer)) lows i (i / 16)
          c.candidate_at-was_row.result c.candidate_at-now_row.result c.node_at-was_low.result
          are.low here refl (others_booked rows i c.args.timer) (search rules) (search rules) (search rules)
          (rw (c.deref-4.ensures.value, c.from-row.ensures) at c.in_default.ensures))),
    )

pub invariant_of-self-in_default-updated_first_of_nodes : goal.invariant_of-self-in_default-updated_first_of_nodes
invariant_of-self-in_default-updated_first_of_nodes c =
    let t = c.self.inside in
    let are = c.self.invariant.1 in
    let i = c.args.item.0 in
    let here : i < length t.rows.items = rw (← c.self.view_is) at c.requires in
    let rows = t.rows.items in let lows = t.low.items in let middles = t.middle.items in let highs = t.high.items in
    let o1 = c.in-Becomes.now_low in
    let low =
    kept_first (length rows) (candidate_at rows) (candidate_at (set rows i c.args.timer)) lows i (i / 16) o1
    c.candidate_at-was_row.result c.candidate_at-now_row.result c.node_at-was_low.result
    are.low here refl (others_booked rows i c.args.timer) (search rules) (search rules) (search rules)
    (rw (c.deref-4.ensures.value, c.from-row.ensures) at c.in-Becomes.ensures) in (
      c.self.invariant.0,
      rw c.from-row.ensures (middle_stays rows lows middles highs t.last i c.args.timer are here o1 low (
          stays_first (length lows) (node_at lows) (node_at (set lows (i / 16) o1)) middles (i / 16) (i / 16 / 16)
          c.node_at-was_low.result o1 c.node_at-was_middle.result
          are.middle (low_inside rows lows middles highs t.last i are here) refl (others_at lows (i / 16) o1)
          (search rules) (search rules) (search rules)
          (rw (c.deref-6.ensures.value, c.from-row.ensures) at c.in_default-updated_first_of_nodes.ensures))),
    )

pub invariant_of-self-in_default-updated_first_of_nodes-2 : goal.invariant_of-self-in_default-updated_first_of_nodes-2
invariant_of-self-in_default-updated_first_of_nodes-2 c =
    let t = c.self.inside in
    let are = c.self.invariant.1 in
    let i = c.args.item.0 in
    let here : i < length t.rows.items = rw (← c.self.view_is) at c.requires in
    let rows = t.rows.items in let lows = t.low.items in let middles = t.middle.items in let highs = t.high.items in
    let o1 = c.in-Becomes.now_low in
    let low =
    kept_first (length rows) (candidate_at rows) (candidate_at (set rows i c.args.timer)) lows i (i / 16) o1
    c.candidate_at-was_row.result c.candidate_at-now_row.result c.node_at-was_low.result
    are.low here refl (others_booked rows i c.args.timer) (search rules) (search rules) (search rules)
    (rw (c.deref-4.ensures.value, c.from-row.ensures) at c.in-Becomes.ensures) in
    let o2 = c.in-Becomes-updated_first_of_nodes.now_middle in
    let middle =
    kept_first (length lows) (node_at lows) (node_at (set lows (i / 16) o1)) middles (i / 16) (i / 16 / 16) o2
    c.node_at-was_low.result o1 c.node_at-was_middle.result
    are.middle (low_inside rows lows middles highs t.last i are here) refl (others_at lows (i / 16) o1) (search rules)
    (search rules) (search rules)
    (rw (c.deref-6.ensures.value, c.from-row.ensures) at c.in-Becomes-updated_first_of_nodes.ensures) in (
      c.self.invariant.0,
      rw c.from-row.ensures (high_stays rows lows middles highs t.last i c.args.timer are here o1 low o2 middle (
          stays_first (length middles) (node_at middles) (node_at (set middles (i / 16 / 16) o2)) highs (i / 16 / 16)
          (i / 16 / 16 / 16) c.node_at-was_middle.result o2 c.node_at-was_high.result
          are.high (middle_inside rows lows middles highs t.last i are here) refl (others_at middles (i / 16 / 16) o2)
          (search rules) (search rules) (search rules)
          (rw (c.deref-8.ensures.value, c.from-row.ensures) at c.in_default-updated_first_of_nodes-2.ensures))),
    )

pub invariant_of-self-in-Becomes-updated_first_of_nodes-3 : goal.invariant_of-self-in-Becomes-updated_first_of_nodes-3
invariant_of-self-in-Becomes-updated_first_of_nodes-3 c =
    let t = c.self.inside in
    let are = c.self.invariant.1 in
    let i = c.args.item.0 in
    let here : i < length t.rows.items = rw (← c.self.view_is) at c.requires in
    let rows = t.rows.items in let lows = t.low.items in let middles = t.middle.items in let highs = t.high.items in
    let o1 = c.in-Becomes.now_low in
    let low =
    kept_first (length rows) (candidate_at rows) (candidate_at (set rows i c.args.timer)) lows i (i / 16) o1
    c.candidate_at-was_row.result c.candidate_at-now_row.result c.node_at-was_low.result
    are.low here refl (others_booked rows i c.args.timer) (search rules) (search rules) (search rules)
    (rw (c.deref-4.ensures.value, c.from-row.ensures) at c.in-Becomes.ensures) in
    let o2 = c.in-Becomes-updated_first_of_nodes.now_middle in
    let middle =
    kept_first (length lows) (node_at lows) (node_at (set lows (i / 16) o1)) middles (i / 16) (i / 16 / 16) o2
    c.node_at-was_low.result o1 c.node_at-was_middle.result
    are.middle (low_inside rows lows middles highs t.last i are here) refl (others_at lows (i / 16) o1) (search rules)
    (search rules) (search rules)
    (rw (c.deref-6.ensures.value, c.from-row.ensures) at c.in-Becomes-updated_first_of_nodes.ensures) in
    let o3 = c.in-Becomes-updated_first_of_nodes-2.now_high in
    let high =
    kept_first (length middles) (node_at middles) (node_at (set middles (i / 16 / 16) o2)) highs (i / 16 / 16)
    (i / 16 / 16 / 16) o3 c.node_at-was_middle.result o2 c.node_at-was_high.result
    are.high (middle_inside rows lows middles highs t.last i are here) refl (others_at middles (i / 16 / 16) o2)
    (search rules) (search rules) (search rules)
    (rw (c.deref-8.ensures.value, c.from-row.ensures) at c.in-Becomes-updated_first_of_nodes-2.ensures) in
    let o4 = c.in-Becomes-updated_first_of_nodes-3.now_last in (
      c.self.invariant.0,
      rw c.from-row.ensures
          (levels_written rows lows middles highs t.last i c.args.timer are here o1 low o2 middle o3 o4 high (
          kept_first (length highs) (node_at highs) (node_at (set highs (i / 16 / 16 / 16) o3)) (t.last ∷ [])
          (i / 16 / 16 / 16) 0 o4 c.node_at-was_high.result o3 t.last
          are.last (high_inside rows lows middles highs t.last i are here)
          (last_node rows lows middles highs t.last i are here) (others_at highs (i / 16 / 16 / 16) o3)
          (search rules) (search rules) refl
          (rw (c.deref-9.ensures.value, c.from-row.ensures) at c.in-Becomes-updated_first_of_nodes-3.ensures))),
    )

pub invariant_of-self-in_default-updated_first_of_nodes-3 : goal.invariant_of-self-in_default-updated_first_of_nodes-3
invariant_of-self-in_default-updated_first_of_nodes-3 c =
    let t = c.self.inside in
    let are = c.self.invariant.1 in
    let i = c.args.item.0 in
    let here : i < length t.rows.items = rw (← c.self.view_is) at c.requires in
    let rows = t.rows.items in let lows = t.low.items in let middles = t.middle.items in let highs = t.high.items in
    let o1 = c.in-Becomes.now_low in
    let low =
    kept_first (length rows) (candidate_at rows) (candidate_at (set rows i c.args.timer)) lows i (i / 16) o1
    c.candidate_at-was_row.result c.candidate_at-now_row.result c.node_at-was_low.result
    are.low here refl (others_booked rows i c.args.timer) (search rules) (search rules) (search rules)
    (rw (c.deref-4.ensures.value, c.from-row.ensures) at c.in-Becomes.ensures) in
    let o2 = c.in-Becomes-updated_first_of_nodes.now_middle in
    let middle =
    kept_first (length lows) (node_at lows) (node_at (set lows (i / 16) o1)) middles (i / 16) (i / 16 / 16) o2
    c.node_at-was_low.result o1 c.node_at-was_middle.result
    are.middle (low_inside rows lows middles highs t.last i are here) refl (others_at lows (i / 16) o1) (search rules)
    (search rules) (search rules)
    (rw (c.deref-6.ensures.value, c.from-row.ensures) at c.in-Becomes-updated_first_of_nodes.ensures) in
    let o3 = c.in-Becomes-updated_first_of_nodes-2.now_high in
    let high =
    kept_first (length middles) (node_at middles) (node_at (set middles (i / 16 / 16) o2)) highs (i / 16 / 16)
    (i / 16 / 16 / 16) o3 c.node_at-was_middle.result o2 c.node_at-was_high.result
    are.high (middle_inside rows lows middles highs t.last i are here) refl (others_at middles (i / 16 / 16) o2)
    (search rules) (search rules) (search rules)
    (rw (c.deref-8.ensures.value, c.from-row.ensures) at c.in-Becomes-updated_first_of_nodes-2.ensures) in (
      c.self.invariant.0,
      rw c.from-row.ensures
          (levels_written rows lows middles highs t.last i c.args.timer are here o1 low o2 middle o3 t.last high (
          stays_first (length highs) (node_at highs) (node_at (set highs (i / 16 / 16 / 16) o3)) (t.last ∷ [])
          (i / 16 / 16 / 16) 0 c.node_at-was_high.result o3 t.last
          are.last (high_inside rows lows middles highs t.last i are here)
          (last_node rows lows middles highs t.last i are here) (others_at highs (i / 16 / 16 / 16) o3)
          (search rules) (search rules) refl
          (rw (c.deref-9.ensures.value, c.from-row.ensures) at c.in_default-updated_first_of_nodes-3.ensures))),
    )
