use Rattle.std.proofs.Common.{◌≡◌, ◌∙◌, ◌++◌, ◌∷◌, [], Some, ap, arith, length, sym}
use Rattle.cmwq_explore.specs.Findings.{is_shorter, way_of}
use Rattle.cmwq_explore.proofs.Joining.{kept_way, new_way, shorter_none}
use Rattle.cmwq_explore.proofs.finding.keep_shorter.Goals as goal

pub returns-in_default : goal.returns-in_default
returns-in_default c = rw c.in_default.is (sym (shorter_none (way_of c.args.way.now)))

pub returns-then-is_shorter : goal.returns-then-is_shorter
returns-then-is_shorter c =
    let v = c.in-Some.other in
    let long : c.len.result ≡ length v.items = c.len.ensures ∙ omega (arith, v.ok.0) in
    let is = ap (is_shorter (way_of c.args.way.now)) (sym long) ∙ sym c.is_shorter.ensures ∙ c.if-is_shorter.true in
    rw c.in-Some.is (kept_way (way_of c.args.way.now) v.items c.args.party is)

pub returns : goal.returns
returns c =
    let way = way_of c.args.way.now in
    let v = c.in-Some.other in
    let longer : c.push.new.self.items ≡ v.items ++ c.args.party ∷ [] =
    c.in_ok-push.ensures.items ∙ ap (λ xs. xs ++ c.args.party ∷ []) (c.in_ok-longer.ensures ∙ c.deref.ensures.value) in
    let long : c.len.result ≡ length v.items = c.len.ensures ∙ omega (arith, v.ok.0) in
    let not = ap (is_shorter way) (sym long) ∙ sym c.is_shorter.ensures ∙ c.if-is_shorter.false in
    rw c.in-Some.is (ap Some longer ∙ new_way way v.items c.args.party not)
