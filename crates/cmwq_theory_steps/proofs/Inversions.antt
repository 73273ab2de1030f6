-- A legal entry's reply is the answer to its call.
use Rattle.cmwq_theory_steps.specs.Common.{◌≡◌, List, ap, ◌∷◌, Entry, Layout, answer, IsLegal}

pub answer_is : (s : Layout) (past : List Entry) (e : Entry) → IsLegal s (e ∷ past)
    → e.reply ≡ answer s past e.who e.call
unfolding IsLegal
answer_is s past e legal = ap (λ (x : Entry). x.reply) legal.1
