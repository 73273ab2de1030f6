-- Replies that are spelled are read again, and what is read as a reply is spelled so.
use Rattle.cmwq_text.specs.Common.{◌≡◌, ℕ, ◌<◌, ◌≤◌, true, List, [], ◌∷◌, ◌++◌, Some, refl, ap, ◌∙◌, arith, Reply}
use Rattle.cmwq_text.specs.Common.{greatest_byte, greatest_short, IsReply}
use Rattle.cmwq_model.specs.declared.reply.Reply.TheVariants as reply
use Rattle.cmwq_text.specs.declared.keyword.Keyword.{Keyword}
use Rattle.cmwq_text.specs.declared.keyword.Keyword.TheVariants as word
use Rattle.cmwq_text.specs.Numbers.{greatest_number}
use Rattle.cmwq_text.specs.Words.{wide_in}
use Rattle.cmwq_text.specs.Keywords.{keyword_text, keyword_in}
use Rattle.cmwq_text.specs.CallText.{phrase}
use Rattle.cmwq_text.specs.ReplyText.{reply_words, ticket_with, ticket_after, started_with, started_after, reply_after}
use Rattle.cmwq_text.specs.ReplyText.{reply_in}
use Rattle.cmwq_text.proofs.Steps.{bind_some}
use Rattle.cmwq_text.proofs.WordLaws.{are_plain, are_plain-append}
use Rattle.cmwq_text.proofs.KeywordLaws.{keyword_again, keyword_takes}
use Rattle.cmwq_text.proofs.IdLaws.{item_again, number_in_again, wide_in_again, long_in_again, byte_in_again}
use Rattle.cmwq_text.proofs.IdLaws.{wide_in_takes}
use Rattle.cmwq_text.proofs.RowLaws.{an_item, a_number, a_wide, a_long, an_index, none_takes, one_takes, two_takes}
use Rattle.cmwq_text.proofs.PhraseLaws.{phrase_is_plain, size, byte_len, short_len, number_len, wide_len, long_len}

-- a reply stands at the end of its line
pub reply_again : (r : Reply) → (IsReply greatest_number) r → reply_in (reply_words r) ≡ Some (r, [])
unfolding reply_words reply_after ticket_after ticket_with started_after started_with
reply_again r h = grind (arith, keyword_again, wide_in_again, long_in_again, item_again, byte_in_again, number_in_again)

-- no id is the greatest of its type
abbrev pub IsKnownReply : Reply → Type 0
IsKnownReply (reply.Fired i n) = i.0 < greatest_short
IsKnownReply (reply.StartedEnlist n x) = x < greatest_byte
IsKnownReply r = Unit {0}

ticket_with_is : (n : ℕ) (k : Keyword) (ws : List (List ℕ)) (x : Reply × List (List ℕ)) → ticket_with n k ws ≡ Some x
    → IsKnownReply x.0 → phrase word.Ticket (n ∷ []) ++ keyword_text k ∷ ws ≡ reply_words x.0 ++ x.1
unfolding reply_words ticket_with
ticket_with_is n word.Queued ws x e h =
    none_takes (reply.TicketQueued n) (phrase word.Ticket (n ∷ []) ++ keyword_text word.Queued ∷ []) reply_words refl ws
    x e
ticket_with_is n word.Cancelled ws x e h =
    one_takes a_wide (reply.TicketCancelled n) (phrase word.Ticket (n ∷ []) ++ keyword_text word.Cancelled ∷ [])
    IsKnownReply reply_words (λ m. refl) (λ m h. tt) ws x e h
ticket_with_is n word.Unbooked ws x e h =
    none_takes (reply.TicketUnbooked n) (phrase word.Ticket (n ∷ []) ++ keyword_text word.Unbooked ∷ []) reply_words
    refl ws x e
ticket_with_is n word.No ws x e h =
    none_takes (reply.TicketNo n) (phrase word.Ticket (n ∷ []) ++ keyword_text word.No ∷ []) reply_words refl ws x e
ticket_with_is n k ws x e h = absurd cc

ticket_after_is : (n : ℕ) (ws : List (List ℕ)) (x : Reply × List (List ℕ)) → ticket_after n ws ≡ Some x
    → IsKnownReply x.0 → phrase word.Ticket (n ∷ []) ++ ws ≡ reply_words x.0 ++ x.1
unfolding reply_words ticket_after
ticket_after_is n [] x e h = none_takes (reply.Ticket n) (phrase word.Ticket (n ∷ [])) reply_words refl [] x e
ticket_after_is n (w ∷ ws) x e h =
    let k = bind_some (keyword_in (w ∷ ws)) (λ (k : Keyword × List (List ℕ)). ticket_with n k.0 k.1) x e in
    ap (λ (t : List (List ℕ)). phrase word.Ticket (n ∷ []) ++ t) (keyword_takes (w ∷ ws) k.0 k.1)
    ∙ ticket_with_is n k.0.0 k.0.1 x k.2 h

started_with_is : (n : ℕ) (k : Keyword) (ws : List (List ℕ)) (x : Reply × List (List ℕ)) → started_with n k ws ≡ Some x
    → IsKnownReply x.0 → phrase word.Started (n ∷ []) ++ keyword_text k ∷ ws ≡ reply_words x.0 ++ x.1
unfolding reply_words started_with
started_with_is n word.Enlist ws x e h =
    one_takes an_index (reply.StartedEnlist n) (phrase word.Started (n ∷ []) ++ keyword_text word.Enlist ∷ [])
    IsKnownReply reply_words (λ x. refl) (λ x h. h) ws x e h
started_with_is n k ws x e h = absurd cc

started_after_is : (n : ℕ) (ws : List (List ℕ)) (x : Reply × List (List ℕ)) → started_after n ws ≡ Some x
    → IsKnownReply x.0 → phrase word.Started (n ∷ []) ++ ws ≡ reply_words x.0 ++ x.1
unfolding reply_words started_after
started_after_is n [] x e h = none_takes (reply.Started n) (phrase word.Started (n ∷ [])) reply_words refl [] x e
started_after_is n (w ∷ ws) x e h =
    let k = bind_some (keyword_in (w ∷ ws)) (λ (k : Keyword × List (List ℕ)). started_with n k.0 k.1) x e in
    ap (λ (t : List (List ℕ)). phrase word.Started (n ∷ []) ++ t) (keyword_takes (w ∷ ws) k.0 k.1)
    ∙ started_with_is n k.0.0 k.0.1 x k.2 h

reply_after_is : (k : Keyword) (ws : List (List ℕ)) (x : Reply × List (List ℕ)) → reply_after k ws ≡ Some x
    → IsKnownReply x.0 → keyword_text k ∷ ws ≡ reply_words x.0 ++ x.1
unfolding reply_words reply_after
reply_after_is word.Yes ws x e h =
    one_takes a_wide reply.Yes (keyword_text word.Yes ∷ []) IsKnownReply reply_words (λ n. refl) (λ n h. tt) ws x e h
reply_after_is word.Booked ws x e h =
    one_takes a_long reply.Booked (keyword_text word.Booked ∷ []) IsKnownReply reply_words (λ t. refl) (λ t h. tt) ws x
    e h
reply_after_is word.Again ws x e h =
    one_takes a_wide reply.Again (keyword_text word.Again ∷ []) IsKnownReply reply_words (λ n. refl) (λ n h. tt) ws x e
    h
reply_after_is word.Rebooked ws x e h =
    one_takes a_long reply.Rebooked (keyword_text word.Rebooked ∷ []) IsKnownReply reply_words (λ t. refl) (λ t h. tt)
    ws x e h
reply_after_is word.No ws x e h = none_takes reply.No (keyword_text word.No ∷ []) reply_words refl ws x e
reply_after_is word.Foreign ws x e h = none_takes reply.Foreign (keyword_text word.Foreign ∷ []) reply_words refl ws x e
reply_after_is word.Draining ws x e h =
    none_takes reply.Draining (keyword_text word.Draining ∷ []) reply_words refl ws x e
reply_after_is word.Misuse ws x e h = none_takes reply.Misuse (keyword_text word.Misuse ∷ []) reply_words refl ws x e
reply_after_is word.Cancelled ws x e h =
    one_takes a_wide reply.Cancelled (keyword_text word.Cancelled ∷ []) IsKnownReply reply_words (λ n. refl) (λ n h. tt)
    ws x e h
reply_after_is word.Unbooked ws x e h =
    none_takes reply.Unbooked (keyword_text word.Unbooked ∷ []) reply_words refl ws x e
reply_after_is word.Now ws x e h =
    one_takes a_long reply.Now (keyword_text word.Now ∷ []) IsKnownReply reply_words (λ t. refl) (λ t h. tt) ws x e h
reply_after_is word.Fired ws x e h =
    two_takes an_item a_wide reply.Fired (keyword_text word.Fired ∷ []) IsKnownReply reply_words (λ i n. refl)
    (λ i n h. (h, tt)) ws x e h
reply_after_is word.Nothing ws x e h = none_takes reply.Nothing (keyword_text word.Nothing ∷ []) reply_words refl ws x e
reply_after_is word.Ticket ws x e h =
    let n = bind_some (wide_in ws) (λ (n : ℕ × List (List ℕ)). ticket_after n.0 n.1) x e in
    ap (λ (t : List (List ℕ)). keyword_text word.Ticket ∷ t) (wide_in_takes ws n.0 n.1)
    ∙ ticket_after_is n.0.0 n.0.1 x n.2 h
reply_after_is word.Idle ws x e h = none_takes reply.Idle (keyword_text word.Idle ∷ []) reply_words refl ws x e
reply_after_is word.Crowded ws x e h = none_takes reply.Crowded (keyword_text word.Crowded ∷ []) reply_words refl ws x e
reply_after_is word.Done ws x e h = none_takes reply.Done (keyword_text word.Done ∷ []) reply_words refl ws x e
reply_after_is word.Waiting ws x e h =
    one_takes a_wide reply.Waiting (keyword_text word.Waiting ∷ []) IsKnownReply reply_words (λ n. refl) (λ n h. tt) ws
    x e h
reply_after_is word.Started ws x e h =
    let n = bind_some (wide_in ws) (λ (n : ℕ × List (List ℕ)). started_after n.0 n.1) x e in
    ap (λ (t : List (List ℕ)). keyword_text word.Started ∷ t) (wide_in_takes ws n.0 n.1)
    ∙ started_after_is n.0.0 n.0.1 x n.2 h
reply_after_is word.Held ws x e h = none_takes reply.Held (keyword_text word.Held ∷ []) reply_words refl ws x e
reply_after_is word.Finished ws x e h =
    one_takes a_wide reply.Finished (keyword_text word.Finished ∷ []) IsKnownReply reply_words (λ n. refl) (λ n h. tt)
    ws x e h
reply_after_is word.Slept ws x e h = none_takes reply.Slept (keyword_text word.Slept ∷ []) reply_words refl ws x e
reply_after_is word.Woke ws x e h = none_takes reply.Woke (keyword_text word.Woke ∷ []) reply_words refl ws x e
reply_after_is word.Retired ws x e h = none_takes reply.Retired (keyword_text word.Retired ∷ []) reply_words refl ws x e
reply_after_is word.Kept ws x e h = none_takes reply.Kept (keyword_text word.Kept ∷ []) reply_words refl ws x e
reply_after_is word.Width ws x e h =
    one_takes a_number reply.Width (keyword_text word.Width ∷ []) IsKnownReply reply_words (λ n. refl) (λ n h. tt) ws x
    e h
reply_after_is word.Frozen ws x e h = none_takes reply.Frozen (keyword_text word.Frozen ∷ []) reply_words refl ws x e
reply_after_is word.Thawed ws x e h = none_takes reply.Thawed (keyword_text word.Thawed ∷ []) reply_words refl ws x e
reply_after_is word.Gone ws x e h = none_takes reply.Gone (keyword_text word.Gone ∷ []) reply_words refl ws x e
reply_after_is word.Timers ws x e h = none_takes reply.Timers (keyword_text word.Timers ∷ []) reply_words refl ws x e
reply_after_is k ws x e h = absurd cc

pub reply_takes : (ws : List (List ℕ)) (x : Reply × List (List ℕ)) → reply_in ws ≡ Some x → IsKnownReply x.0
    → ws ≡ reply_words x.0 ++ x.1
reply_takes ws x e h =
    let k = bind_some (keyword_in ws) (λ (k : Keyword × List (List ℕ)). reply_after k.0 k.1) x e in
    keyword_takes ws k.0 k.1 ∙ reply_after_is k.0.0 k.0.1 x k.2 h

pub reply_is_plain : (r : Reply) → (IsReply greatest_number) r → are_plain (reply_words r) ≡ true
unfolding reply_words
reply_is_plain (reply.Yes n) h = phrase_is_plain word.Yes (n ∷ []) (omega arith, tt)
reply_is_plain (reply.Booked t) h = phrase_is_plain word.Booked (t ∷ []) (omega arith, tt)
reply_is_plain (reply.Again n) h = phrase_is_plain word.Again (n ∷ []) (omega arith, tt)
reply_is_plain (reply.Rebooked t) h = phrase_is_plain word.Rebooked (t ∷ []) (omega arith, tt)
reply_is_plain reply.No h = phrase_is_plain word.No [] tt
reply_is_plain reply.Foreign h = phrase_is_plain word.Foreign [] tt
reply_is_plain reply.Draining h = phrase_is_plain word.Draining [] tt
reply_is_plain reply.Misuse h = phrase_is_plain word.Misuse [] tt
reply_is_plain (reply.Cancelled n) h = phrase_is_plain word.Cancelled (n ∷ []) (omega arith, tt)
reply_is_plain reply.Unbooked h = phrase_is_plain word.Unbooked [] tt
reply_is_plain (reply.Now t) h = phrase_is_plain word.Now (t ∷ []) (omega arith, tt)
reply_is_plain (reply.Fired i n) h = phrase_is_plain word.Fired (i.0 ∷ n ∷ []) (omega arith, (omega arith, tt))
reply_is_plain reply.Nothing h = phrase_is_plain word.Nothing [] tt
reply_is_plain (reply.Ticket n) h = phrase_is_plain word.Ticket (n ∷ []) (omega arith, tt)
reply_is_plain (reply.TicketQueued n) h =
    are_plain-append (phrase word.Ticket (n ∷ [])) (phrase word.Queued [])
    (phrase_is_plain word.Ticket (n ∷ []) (omega arith, tt)) (phrase_is_plain word.Queued [] tt)
reply_is_plain (reply.TicketCancelled n m) h =
    are_plain-append (phrase word.Ticket (n ∷ [])) (phrase word.Cancelled (m ∷ []))
    (phrase_is_plain word.Ticket (n ∷ []) (omega arith, tt)) (phrase_is_plain word.Cancelled (m ∷ []) (omega arith, tt))
reply_is_plain (reply.TicketUnbooked n) h =
    are_plain-append (phrase word.Ticket (n ∷ [])) (phrase word.Unbooked [])
    (phrase_is_plain word.Ticket (n ∷ []) (omega arith, tt)) (phrase_is_plain word.Unbooked [] tt)
reply_is_plain (reply.TicketNo n) h =
    are_plain-append (phrase word.Ticket (n ∷ [])) (phrase word.No [])
    (phrase_is_plain word.Ticket (n ∷ []) (omega arith, tt)) (phrase_is_plain word.No [] tt)
reply_is_plain reply.Idle h = phrase_is_plain word.Idle [] tt
reply_is_plain reply.Crowded h = phrase_is_plain word.Crowded [] tt
reply_is_plain reply.Done h = phrase_is_plain word.Done [] tt
reply_is_plain (reply.Waiting n) h = phrase_is_plain word.Waiting (n ∷ []) (omega arith, tt)
reply_is_plain (reply.Started n) h = phrase_is_plain word.Started (n ∷ []) (omega arith, tt)
reply_is_plain (reply.StartedEnlist n x) h =
    are_plain-append (phrase word.Started (n ∷ [])) (phrase word.Enlist (x ∷ []))
    (phrase_is_plain word.Started (n ∷ []) (omega arith, tt)) (phrase_is_plain word.Enlist (x ∷ []) (omega arith, tt))
reply_is_plain reply.Held h = phrase_is_plain word.Held [] tt
reply_is_plain (reply.Finished n) h = phrase_is_plain word.Finished (n ∷ []) (omega arith, tt)
reply_is_plain reply.Slept h = phrase_is_plain word.Slept [] tt
reply_is_plain reply.Woke h = phrase_is_plain word.Woke [] tt
reply_is_plain reply.Retired h = phrase_is_plain word.Retired [] tt
reply_is_plain reply.Kept h = phrase_is_plain word.Kept [] tt
reply_is_plain (reply.Width n) h = phrase_is_plain word.Width (n ∷ []) (omega arith, tt)
reply_is_plain reply.Frozen h = phrase_is_plain word.Frozen [] tt
reply_is_plain reply.Thawed h = phrase_is_plain word.Thawed [] tt
reply_is_plain reply.Gone h = phrase_is_plain word.Gone [] tt
reply_is_plain reply.Timers h = phrase_is_plain word.Timers [] tt

pub reply_is_short : (r : Reply) → (IsReply greatest_number) r → size (reply_words r) ≤ 57
unfolding reply_words keyword_text
reply_is_short r h = grind (arith, wide_len, long_len, short_len, byte_len, number_len)
