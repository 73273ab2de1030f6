-- Calls that are spelled are read again, and what is read as a call is spelled so.
use Rattle.cmwq_text.specs.Common.{◌≡◌, ℕ, ◌<◌, ◌≤◌, true, List, [], ◌∷◌, ◌++◌, Some, refl, ◌∙◌, arith, decimal, Call}
use Rattle.cmwq_text.specs.Common.{greatest_byte, greatest_short, IsCall}
use Rattle.cmwq_model.specs.declared.call.Call.TheVariants as call
use Rattle.cmwq_text.specs.declared.keyword.Keyword.{Keyword}
use Rattle.cmwq_text.specs.declared.keyword.Keyword.TheVariants as word
use Rattle.cmwq_text.specs.Numbers.{greatest_number}
use Rattle.cmwq_text.specs.Keywords.{keyword_text, keyword_in}
use Rattle.cmwq_text.specs.CallText.{call_words, call_read_after, call_in}
use Rattle.cmwq_text.proofs.Steps.{bind_some}
use Rattle.cmwq_text.proofs.WordLaws.{are_plain}
use Rattle.cmwq_text.proofs.KeywordLaws.{keyword_again, keyword_takes}
use Rattle.cmwq_text.proofs.IdLaws.{item_again, queue_again, cpu_again, number_in_again, wide_in_again}
use Rattle.cmwq_text.proofs.RowLaws.{an_item, a_queue, a_cpu, a_number, a_wide, none_takes, one_takes, two_takes}
use Rattle.cmwq_text.proofs.RowLaws.{three_takes, four_takes}
use Rattle.cmwq_text.proofs.PhraseLaws.{phrase_is_plain, size, byte_len, short_len, number_len, wide_len}

pub call_again : (c : Call) (ws : List (List ℕ)) → (IsCall greatest_number) c
    → call_in (call_words c ++ ws) ≡ Some (c, ws)
unfolding call_words call_read_after
call_again (call.Queue i q c) ws h =
    rw (
      keyword_again word.Queue,
      item_again i (decimal q.0 ∷ decimal c.0 ∷ ws) h.0,
      queue_again q (decimal c.0 ∷ ws) h.1,
      cpu_again c ws h.2,
    ) refl
call_again (call.Delay i q c n) ws h =
    rw (
      keyword_again word.Delay,
      item_again i (decimal q.0 ∷ decimal c.0 ∷ decimal n ∷ ws) h.0.0,
      queue_again q (decimal c.0 ∷ decimal n ∷ ws) h.0.1,
      cpu_again c (decimal n ∷ ws) h.0.2,
      number_in_again n ws h.1,
    )
    refl
call_again (call.Modify i q c n) ws h =
    rw (
      keyword_again word.Modify,
      item_again i (decimal q.0 ∷ decimal c.0 ∷ decimal n ∷ ws) h.0.0,
      queue_again q (decimal c.0 ∷ decimal n ∷ ws) h.0.1,
      cpu_again c (decimal n ∷ ws) h.0.2,
      number_in_again n ws h.1,
    )
    refl
call_again (call.Cancel i) ws h = rw (keyword_again word.Cancel, item_again i ws h) refl
call_again (call.Tick n) ws h = rw (keyword_again word.Tick, number_in_again n ws h) refl
call_again call.Fire ws h = rw (keyword_again word.Fire) refl
call_again (call.Flush q) ws h = rw (keyword_again word.Flush, queue_again q ws h) refl
call_again (call.Drain q) ws h = rw (keyword_again word.Drain, queue_again q ws h) refl
call_again (call.FlushItem i) ws h = rw (keyword_again word.FlushItem, item_again i ws h) refl
call_again (call.FlushDelayed i) ws h = rw (keyword_again word.FlushDelayed, item_again i ws h) refl
call_again (call.CancelSync i) ws h = rw (keyword_again word.CancelSync, item_again i ws h) refl
call_again (call.End n) ws h = rw (keyword_again word.End, wide_in_again n ws h) refl
call_again call.Take ws h = rw (keyword_again word.Take) refl
call_again call.Finish ws h = rw (keyword_again word.Finish) refl
call_again call.Sleep ws h = rw (keyword_again word.Sleep) refl
call_again call.Wake ws h = rw (keyword_again word.Wake) refl
call_again call.Retire ws h = rw (keyword_again word.Retire) refl
call_again (call.SetMax q n) ws h =
    rw (keyword_again word.SetMax, queue_again q (decimal n ∷ ws) h.0, number_in_again n ws h.1) refl
call_again call.Freeze ws h = rw (keyword_again word.Freeze) refl
call_again call.Thaw ws h = rw (keyword_again word.Thaw) refl
call_again (call.Destroy q) ws h = rw (keyword_again word.Destroy, queue_again q ws h) refl

-- no id is the greatest of its type
abbrev pub IsKnownCall : Call → Type 0
IsKnownCall (call.Queue i q c) = (i.0 < greatest_short) × (q.0 < greatest_byte) × (c.0 < greatest_byte)
IsKnownCall (call.Delay i q c n) = (i.0 < greatest_short) × (q.0 < greatest_byte) × (c.0 < greatest_byte)
IsKnownCall (call.Modify i q c n) = (i.0 < greatest_short) × (q.0 < greatest_byte) × (c.0 < greatest_byte)
IsKnownCall (call.Cancel i) = i.0 < greatest_short
IsKnownCall (call.Tick n) = Unit {0}
IsKnownCall call.Fire = Unit {0}
IsKnownCall (call.Flush q) = q.0 < greatest_byte
IsKnownCall (call.Drain q) = q.0 < greatest_byte
IsKnownCall (call.FlushItem i) = i.0 < greatest_short
IsKnownCall (call.FlushDelayed i) = i.0 < greatest_short
IsKnownCall (call.CancelSync i) = i.0 < greatest_short
IsKnownCall (call.End n) = Unit {0}
IsKnownCall call.Take = Unit {0}
IsKnownCall call.Finish = Unit {0}
IsKnownCall call.Sleep = Unit {0}
IsKnownCall call.Wake = Unit {0}
IsKnownCall call.Retire = Unit {0}
IsKnownCall (call.SetMax q n) = q.0 < greatest_byte
IsKnownCall call.Freeze = Unit {0}
IsKnownCall call.Thaw = Unit {0}
IsKnownCall (call.Destroy q) = q.0 < greatest_byte

call_after_is : (k : Keyword) (ws : List (List ℕ)) (x : Call × List (List ℕ)) → call_read_after k ws ≡ Some x
    → IsKnownCall x.0 → keyword_text k ∷ ws ≡ call_words x.0 ++ x.1
unfolding call_words call_read_after
call_after_is word.Queue ws x e h =
    three_takes an_item a_queue a_cpu call.Queue (keyword_text word.Queue ∷ []) IsKnownCall call_words (λ i q c. refl)
    (λ i q c h. h) ws x e h
call_after_is word.Delay ws x e h =
    four_takes an_item a_queue a_cpu a_number call.Delay (keyword_text word.Delay ∷ []) IsKnownCall call_words
    (λ i q c n. refl) (λ i q c n h. (h.0, h.1, h.2, tt)) ws x e h
call_after_is word.Modify ws x e h =
    four_takes an_item a_queue a_cpu a_number call.Modify (keyword_text word.Modify ∷ []) IsKnownCall call_words
    (λ i q c n. refl) (λ i q c n h. (h.0, h.1, h.2, tt)) ws x e h
call_after_is word.Cancel ws x e h =
    one_takes an_item call.Cancel (keyword_text word.Cancel ∷ []) IsKnownCall call_words (λ i. refl) (λ i h. h) ws x e h
call_after_is word.Tick ws x e h =
    one_takes a_number call.Tick (keyword_text word.Tick ∷ []) IsKnownCall call_words (λ n. refl) (λ n h. tt) ws x e h
call_after_is word.Fire ws x e h = none_takes call.Fire (keyword_text word.Fire ∷ []) call_words refl ws x e
call_after_is word.Flush ws x e h =
    one_takes a_queue call.Flush (keyword_text word.Flush ∷ []) IsKnownCall call_words (λ q. refl) (λ q h. h) ws x e h
call_after_is word.Drain ws x e h =
    one_takes a_queue call.Drain (keyword_text word.Drain ∷ []) IsKnownCall call_words (λ q. refl) (λ q h. h) ws x e h
call_after_is word.FlushItem ws x e h =
    one_takes an_item call.FlushItem (keyword_text word.FlushItem ∷ []) IsKnownCall call_words (λ i. refl) (λ i h. h) ws
    x e h
call_after_is word.FlushDelayed ws x e h =
    one_takes an_item call.FlushDelayed (keyword_text word.FlushDelayed ∷ []) IsKnownCall call_words (λ i. refl)
    (λ i h. h) ws x e h
call_after_is word.CancelSync ws x e h =
    one_takes an_item call.CancelSync (keyword_text word.CancelSync ∷ []) IsKnownCall call_words (λ i. refl) (λ i h. h)
    ws x e h
call_after_is word.End ws x e h =
    one_takes a_wide call.End (keyword_text word.End ∷ []) IsKnownCall call_words (λ n. refl) (λ n h. tt) ws x e h
call_after_is word.Take ws x e h = none_takes call.Take (keyword_text word.Take ∷ []) call_words refl ws x e
call_after_is word.Finish ws x e h = none_takes call.Finish (keyword_text word.Finish ∷ []) call_words refl ws x e
call_after_is word.Sleep ws x e h = none_takes call.Sleep (keyword_text word.Sleep ∷ []) call_words refl ws x e
call_after_is word.Wake ws x e h = none_takes call.Wake (keyword_text word.Wake ∷ []) call_words refl ws x e
call_after_is word.Retire ws x e h = none_takes call.Retire (keyword_text word.Retire ∷ []) call_words refl ws x e
call_after_is word.SetMax ws x e h =
    two_takes a_queue a_number call.SetMax (keyword_text word.SetMax ∷ []) IsKnownCall call_words (λ q n. refl)
    (λ q n h. (h, tt)) ws x e h
call_after_is word.Freeze ws x e h = none_takes call.Freeze (keyword_text word.Freeze ∷ []) call_words refl ws x e
call_after_is word.Thaw ws x e h = none_takes call.Thaw (keyword_text word.Thaw ∷ []) call_words refl ws x e
call_after_is word.Destroy ws x e h =
    one_takes a_queue call.Destroy (keyword_text word.Destroy ∷ []) IsKnownCall call_words (λ q. refl) (λ q h. h) ws x e
    h
call_after_is k ws x e h = absurd cc

pub call_takes : (ws : List (List ℕ)) (x : Call × List (List ℕ)) → call_in ws ≡ Some x → IsKnownCall x.0
    → ws ≡ call_words x.0 ++ x.1
call_takes ws x e h =
    let k = bind_some (keyword_in ws) (λ (k : Keyword × List (List ℕ)). call_read_after k.0 k.1) x e in
    keyword_takes ws k.0 k.1 ∙ call_after_is k.0.0 k.0.1 x k.2 h

pub call_is_plain : (c : Call) → (IsCall greatest_number) c → are_plain (call_words c) ≡ true
unfolding call_words
call_is_plain (call.Queue i q c) h =
    phrase_is_plain word.Queue (i.0 ∷ q.0 ∷ c.0 ∷ []) (omega arith, (omega arith, (omega arith, tt)))
call_is_plain (call.Delay i q c n) h =
    phrase_is_plain word.Delay (i.0 ∷ q.0 ∷ c.0 ∷ n ∷ []) (omega arith, (omega arith, (omega arith, (omega arith, tt))))
call_is_plain (call.Modify i q c n) h =
    phrase_is_plain word.Modify (i.0 ∷ q.0 ∷ c.0 ∷ n ∷ [])
    (omega arith, (omega arith, (omega arith, (omega arith, tt))))
call_is_plain (call.Cancel i) h = phrase_is_plain word.Cancel (i.0 ∷ []) (omega arith, tt)
call_is_plain (call.Tick n) h = phrase_is_plain word.Tick (n ∷ []) (omega arith, tt)
call_is_plain call.Fire h = phrase_is_plain word.Fire [] tt
call_is_plain (call.Flush q) h = phrase_is_plain word.Flush (q.0 ∷ []) (omega arith, tt)
call_is_plain (call.Drain q) h = phrase_is_plain word.Drain (q.0 ∷ []) (omega arith, tt)
call_is_plain (call.FlushItem i) h = phrase_is_plain word.FlushItem (i.0 ∷ []) (omega arith, tt)
call_is_plain (call.FlushDelayed i) h = phrase_is_plain word.FlushDelayed (i.0 ∷ []) (omega arith, tt)
call_is_plain (call.CancelSync i) h = phrase_is_plain word.CancelSync (i.0 ∷ []) (omega arith, tt)
call_is_plain (call.End n) h = phrase_is_plain word.End (n ∷ []) (omega arith, tt)
call_is_plain call.Take h = phrase_is_plain word.Take [] tt
call_is_plain call.Finish h = phrase_is_plain word.Finish [] tt
call_is_plain call.Sleep h = phrase_is_plain word.Sleep [] tt
call_is_plain call.Wake h = phrase_is_plain word.Wake [] tt
call_is_plain call.Retire h = phrase_is_plain word.Retire [] tt
call_is_plain (call.SetMax q n) h = phrase_is_plain word.SetMax (q.0 ∷ n ∷ []) (omega arith, (omega arith, tt))
call_is_plain call.Freeze h = phrase_is_plain word.Freeze [] tt
call_is_plain call.Thaw h = phrase_is_plain word.Thaw [] tt
call_is_plain (call.Destroy q) h = phrase_is_plain word.Destroy (q.0 ∷ []) (omega arith, tt)

pub call_is_short : (c : Call) → (IsCall greatest_number) c → size (call_words c) ≤ 32
unfolding call_words keyword_text
call_is_short c h = grind (arith, short_len, byte_len, number_len, wide_len)
