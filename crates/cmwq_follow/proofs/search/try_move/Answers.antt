use Rattle.std.proofs.Common.{◌≡◌, ◌∙◌, ◌<◌, ◌≤◌, ℕ, ap, arith, length, sym, subst, take}
use Rattle.std.proofs.Math.Nat.{le-max_left, le-max_right}
use mathlib.Core.List.{IsPrefix}
use Rattle.cmwq_play.specs.Stands.{Stand, may, moved}
use Rattle.cmwq_follow.specs.Followed.{LeaveAtMost}
use Rattle.cmwq_follow.proofs.Going.{false_or, higher, left_all, move_adds, none_beyond, tried_in_vain, tried_on}
use Rattle.cmwq_follow.proofs.Prefixes.{all_agree, front_of, no_longer, same_front}
use Rattle.cmwq_follow.proofs.search.try_move.Goals as goal

pub returns-then-not-may_move-clause-goes : goal.returns-then-not-may_move-clause-goes
returns-then-not-may_move-clause-goes c =
    let stays = sym c.may_move.ensures ∙ c.if-not-may_move.true in
    λ start t same. tried_in_vain start c.args.history.now c.args.way.now c.args.play.now c.args.party
    c.args.way.now.most t (omega arith)
    (λ is. absurd (false_or (may c.args.play.now c.args.party) is stays))

pub copy_after-requires-clause-same : goal.copy_after-requires-clause-same
copy_after-requires-clause-same c =
    let least = c.min.ensures in
    let made = ap length c.history.ensures.entries in
    same_front c.args.trial.now.play.history.entries c.args.play.now.history.entries c.args.history.now _
    c.args.trial.now.kept (omega arith) c.requires.kept.within (omega arith) c.requires.kept.same c.requires.left

pub returns-then-same-made-clause-kept : goal.returns-then-same-made-clause-kept
returns-then-same-made-clause-kept c =
    let p = c.args.play.now in
    let next = c.make_move.new.self in
    let to : next ≡ moved p c.args.party =
    c.in_ok-make_move.ensures ∙ ap (λ (s : Stand). moved s c.args.party) c.in_ok-copy_after.ensures in
    let more = subst (λ (s : Stand). IsPrefix p.history.entries s.history.entries) (sym to) (move_adds p c.args.party) in
    let made : length p.history.entries ≡ _ = ap length (sym c.history-2.ensures.entries) in
    record {
      within = subst (λ n. n ≤ length next.history.entries) made (no_longer p.history.entries next.history.entries more);
      same = subst (λ n. IsPrefix (take n next.history.entries) c.args.history.now) made
          (front_of p.history.entries c.args.history.now next.history.entries c.requires.left more);
    }

pub returns-then-same-made-clause-goes : goal.returns-then-same-made-clause-goes
returns-then-same-made-clause-goes c =
    let p = c.args.play.now in
    let next = c.make_move.new.self in
    let to : next ≡ moved p c.args.party =
    c.in_ok-make_move.ensures ∙ ap (λ (s : Stand). moved s c.args.party) c.in_ok-copy_after.ensures in
    let less : c.agreeing-same.result < length next.history.entries =
    subst (λ (n : ℕ). c.agreeing-same.result < n) (ap length c.history-made.ensures.entries) c.if-same-made.true in
    let most = c.max-way.result in
    let before : c.args.way.now.most ≤ most =
    subst (λ n. c.args.way.now.most ≤ n) (sym c.max-way.ensures)
    (le-max_left c.args.way.now.most c.agreeing-same.result) in
    let here : c.agreeing-same.result ≤ most =
    subst (λ n. c.agreeing-same.result ≤ n) (sym c.max-way.ensures)
    (le-max_right c.args.way.now.most c.agreeing-same.result) in
    λ start t goes. tried_in_vain start c.args.history.now c.args.way.now p c.args.party most t before
    (λ is. higher c.args.history.now (moved p c.args.party) c.agreeing-same.result most here
    (subst (λ (s : Stand). LeaveAtMost s c.args.history.now c.agreeing-same.result) to
    (none_beyond c.args.history.now next c.agreeing-same.result c.agreeing-same.ensures.most less)))

pub returns-else-same-history-clause-goes : goal.returns-else-same-history-clause-goes
returns-else-same-history-clause-goes c =
    let p = c.args.play.now in
    let next = c.make_move.new.self in
    let to : next ≡ moved p c.args.party =
    c.in_ok-make_move.ensures ∙ ap (λ (s : Stand). moved s c.args.party) c.in_ok-copy_after.ensures in
    let more = subst (λ (s : Stand). IsPrefix p.history.entries s.history.entries) (sym to) (move_adds p c.args.party) in
    let all : c.agreeing-same.result ≡ length next.history.entries =
    let least : length next.history.entries ≤ c.agreeing-same.result =
    subst (λ (n : ℕ). n ≤ c.agreeing-same.result) (ap length c.history-made.ensures.entries) c.if-same-made.false in
    let greatest = c.agreeing-same.ensures.within more in omega arith in
    let there : c.swap.new.x ≡ next = c.swap.ensures.x_after in
    let front = λ (t : IsPrefix p.history.entries c.args.history.now). all_agree next.history.entries c.args.history.now
    c.agreeing-same.result all (c.agreeing-same.ensures.same t more) in
    λ start t goes. tried_on start c.args.history.now c.args.way.now c.note.new.way p c.swap.new.x c.args.party
    c.agreeing-same.result t (sym c.may_move.ensures ∙ c.if-not-may_move.false) (there ∙ to)
    (subst (λ (s : Stand). IsPrefix s.history.entries c.args.history.now) (sym there) (front t.leads.left))
    (λ whole. c.if-same-history.false (all ∙ ap (λ (s : Stand). length s.history.entries) (sym there) ∙ ap length whole))
    c.in_ok-note.ensures.path c.in_ok-note.ensures.tries (c.in_ok-note.ensures.most ∙ c.max-way.ensures)
    (all ∙ ap (λ (s : Stand). length s.history.entries) (sym there))

pub returns-then-same-history-clause-whole : goal.returns-then-same-history-clause-whole
returns-then-same-history-clause-whole c =
    let p = c.args.play.now in
    let next = c.make_move.new.self in
    let to : next ≡ moved p c.args.party =
    c.in_ok-make_move.ensures ∙ ap (λ (s : Stand). moved s c.args.party) c.in_ok-copy_after.ensures in
    let more = subst (λ (s : Stand). IsPrefix p.history.entries s.history.entries) (sym to) (move_adds p c.args.party) in
    let all : c.agreeing-same.result ≡ length next.history.entries =
    let least : length next.history.entries ≤ c.agreeing-same.result =
    subst (λ (n : ℕ). n ≤ c.agreeing-same.result) (ap length c.history-made.ensures.entries) c.if-same-made.false in
    let greatest = c.agreeing-same.ensures.within more in omega arith in
    let there : c.swap.new.x ≡ next = c.swap.ensures.x_after in
    λ start t goes. left_all start c.args.history.now c.args.way.now c.note.new.way p c.swap.new.x c.args.party t
    (sym c.may_move.ensures ∙ c.if-not-may_move.false) (there ∙ to)
    (subst (λ (s : Stand). IsPrefix s.history.entries c.args.history.now) (sym there)
    (all_agree next.history.entries c.args.history.now c.agreeing-same.result all
    (c.agreeing-same.ensures.same t.leads.left more))) c.in_ok-note.ensures.path
    (ap (λ (s : Stand). length s.history.entries) there ∙ sym all ∙ c.if-same-history.true)
