-- What is active, told by few looks: whether it was below max_active before each entry that changed a width, or is now.
use Rattle.cmwq_theory_steps.specs.Common.{◌≡◌, ◌<◌, Bool, true, false, not, ◌&&◌, ◌||◌, List, [], ◌∷◌, length, nat_lt}
use Rattle.cmwq_theory_steps.specs.Common.{count_by, refl, sym, ap, ◌∙◌, arith, ltb-true, lt-ltb, nat_tests, Entry}
use Rattle.cmwq_theory_steps.specs.Common.{Queueing, Layout, width, is_live, still_open, is_ahead, is_below_max_active}
use Rattle.cmwq_theory_steps.specs.Common.{is_active}
use Rattle.cmwq_model.specs.Widths.{keeps_widths}
use Rattle.cmwq_theory_steps.specs.Looks.{was_below_max_active}
use Rattle.cmwq_theory_steps.proofs.Opens.{open_before}
use Rattle.cmwq_theory_steps.proofs.Joined.{active_go_on, not_live}
use Rattle.cmwq_theory_steps.proofs.Ahead.{fewer_ahead}
use Rattle.cmwq_theory_steps.proofs.Widths.{width_same}

-- what was below max_active and is open is below max_active, where no width changed
stays_below_max_active : (s : Layout) (past : List Entry) (e : Entry) (x : Queueing) → x.number < length past
    → keeps_widths e.reply ≡ true → is_below_max_active s past x ≡ true → is_below_max_active s (e ∷ past) x ≡ true
stays_below_max_active s past e x older keeps way =
    let less : count_by (is_ahead x) (still_open past) < width s past x.place.queue.0 = ltb-true _ _ way in
    let fewer = fewer_ahead past e x older in
    let same = width_same s past e x.place.queue.0 keeps in
    lt-ltb _ _ (omega arith)

-- l: open now, o: open before, h: was below max_active before a width changed, w: was below max_active before, n: is
-- below max_active now, k: the entry changes no width
step : (l o h w n k : Bool) → (l ≡ true → w ≡ true → o ≡ true → k ≡ true → n ≡ true) → (l ≡ true → h ≡ true → o ≡ true)
    → (l && ((o && (h || w)) || n)) ≡ (l && ((h || (not k && (o && w))) || n))
step false o h w n k f g = refl
step true true true w n k f g = refl
step true false true w n k f g = let bad : false ≡ true = g refl refl in cc
step true true false w n false f g = refl
step true true false true n true f g = let now : n ≡ true = f refl refl refl refl in sym now
step true true false false n true f g = refl
step true false false w n true f g = refl
step true false false w n false f g = refl

had_older : (s : Layout) (past : List Entry) (x : Queueing) → was_below_max_active s past x ≡ true
    → x.number < length past
unfolding was_below_max_active
had_older s [] x h = cc
had_older s (e ∷ past) x h = at (was_below_max_active s past x) refl h (had_older s past x)
  where
    live_older : (k w : Bool) → (k && (is_live past x && w)) ≡ true → x.number < length past
    live_older true w h = ltb-true x.number (length past) (grind arith)
    live_older false w h = cc

    at : (b : Bool) → was_below_max_active s past x ≡ b
        → (b || (not (keeps_widths e.reply) && (is_live past x && is_below_max_active s past x))) ≡ true
        → (was_below_max_active s past x ≡ true → x.number < length past) → x.number < length (e ∷ past)
    at true is h rest = let less : x.number < length past = rest is in omega arith
    at false is h rest = let less : x.number < length past =
        live_older (not (keeps_widths e.reply)) (is_below_max_active s past x) h in omega arith

pub active_by_looks : (s : Layout) (past : List Entry) (x : Queueing)
    → is_active s past x ≡ (is_live past x && (was_below_max_active s past x || is_below_max_active s past x))
unfolding was_below_max_active
active_by_looks s [] x = none (nat_lt x.number 0) (grind (arith, nat_tests))
  where
    none : (b : Bool) → b ≡ false → is_active s [] x ≡ (is_live [] x && (false || is_below_max_active s [] x))
    none b h = let dead : is_live [] x ≡ false = let no : nat_lt x.number 0 ≡ false = grind (arith, nat_tests) in
        grind arith in not_live s [] x dead ∙ sym (ap (λ b. b && (false || is_below_max_active s [] x)) dead)
active_by_looks s (e ∷ past) x =
    active_go_on s past e x ∙ ap (λ b. is_live (e ∷ past) x && (b || is_below_max_active s (e ∷ past) x))
    (active_by_looks s past x)
    ∙ step (is_live (e ∷ past) x) (is_live past x) (was_below_max_active s past x) (is_below_max_active s past x)
    (is_below_max_active s (e ∷ past) x) (keeps_widths e.reply) now was
  where
    now : is_live (e ∷ past) x ≡ true → is_below_max_active s past x ≡ true → is_live past x ≡ true
        → keeps_widths e.reply ≡ true → is_below_max_active s (e ∷ past) x ≡ true
    now live way before keeps =
        stays_below_max_active s past e x (ltb-true x.number (length past) (grind arith)) keeps way

    was : is_live (e ∷ past) x ≡ true → was_below_max_active s past x ≡ true → is_live past x ≡ true
    was live had = open_before e past x.item.0 x.number (had_older s past x had) live
