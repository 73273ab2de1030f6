-- Beginnings of one list.
use Rattle.cmwq_monitor.specs.Common.{List, [], ◌++◌, refl, ap, sym, ◌∙◌, append_assoc, append-nil, IsPrefix}

pub prefix_self : {A : Type 0} (xs : List A) → IsPrefix xs xs
prefix_self xs = ([], append-nil xs)

pub prefix_trans : {A : Type 0} (xs ys zs : List A) → IsPrefix xs ys → IsPrefix ys zs → IsPrefix xs zs
prefix_trans xs ys zs p q = (p.0 ++ q.0, sym (append_assoc xs p.0 q.0) ∙ (ap (λ w. w ++ q.0) p.1 ∙ q.1))

pub prefix_of_prefix : {A : Type 0} (xs ys : List A) → IsPrefix xs (xs ++ ys)
prefix_of_prefix xs ys = (ys, refl)
