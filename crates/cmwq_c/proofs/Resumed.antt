-- What is known of a text that was read.
use Rattle.std.proofs.Common.{◌≡◌, ◌≤◌, ◌+◌, ◌∷◌, ◌∙◌, ◌<◌, ℕ, true, List, Ok, ap, arith, length}
use Rattle.std.proofs.Common.{length-append, map, refl, subst}
use Rattle.cmwq_base.proofs.Limits.{none_passes}
use Rattle.cmwq_base.specs.Files.{File}
use Rattle.cmwq_base.specs.Gives.{Fails}
use Rattle.cmwq_base.specs.Kinds.{front_file_of}
use Rattle.cmwq_base.specs.declared.refusal.Refusal.{Refusal}
use Rattle.cmwq_base.specs.declared.refusal.Refusal.TheVariants as refusal
use Rattle.cmwq_model.proofs.Limits.{limits_of}
use Rattle.cmwq_model.specs.Prelude.{IsFirstWrong, IsLegal, Layout, is_layout, layout_of, past_of}
use Rattle.cmwq_model.specs.declared.call.Call.{Call}
use Rattle.cmwq_model.specs.declared.id.CallerId.{CallerId}
use Rattle.cmwq_model.specs.declared.shape.Counts.{Counts}
use Rattle.cmwq_model.specs.declared.entry.Entry.{Entry}
use Rattle.cmwq_model.specs.declared.verdict.Illegal.{Illegal}
use Rattle.cmwq_cmd_resume.specs.Resumed.{first_caller}
use Rattle.cmwq_resume.specs.Plays.{IsTakenOver}
use Rattle.cmwq_text.specs.Formats.{line_limit, most_lines, old_lines}
use Rattle.cmwq_text.specs.HistoryText.{counts_in}
use Rattle.cmwq_c.specs.Numbers.{counts_of_numbers}
use Rattle.cmwq_c.specs.Resumed.{IsResumed, IsWhy, again_of, calls_left, entry_line_number, first_calls_numbers, why_of}
use Rattle.cmwq_c.specs.declared.numbers.CallNumbers.{CallNumbers}
use Rattle.cmwq_c.specs.declared.numbers.ShapeNumbers.{ShapeNumbers}
use Rattle.cmwq_c.specs.declared.resume.Why.TheVariants as why

-- why it was refused
pub is_refused : (text : List ℕ) (e : Refusal) → Fails e (front_file_of true text) → IsWhy text (why_of e)
is_refused text refusal.NoMemory is = tt
is_refused text refusal.ReadFault is = tt
is_refused text refusal.WriteFault is = tt
is_refused text refusal.TooLong is = record { refusal_is = refusal.TooLong; read = is; line_is = refl }
is_refused text (refusal.BadLine n) is = record { refusal_is = refusal.BadLine n; read = is; line_is = refl }
is_refused text (refusal.BadShape n) is = record { refusal_is = refusal.BadShape n; read = is; line_is = refl }
is_refused text (refusal.NoSuchId n) is = record { refusal_is = refusal.NoSuchId n; read = is; line_is = refl }

-- its first wrong entry
pub is_wrong : (text : List ℕ) (f : File Entry) (i : Illegal) (line : ℕ) → front_file_of true text ≡ Ok f
    → IsFirstWrong f.layout f.items i → line ≡ entry_line_number f i.at → IsWhy text (why.Illegal line)
is_wrong text f i line read first is = record { file = f; read = read; illegal = i; first = first; line_is = is }

-- there are no more entries before it than a file may have
pub few_before : (s : Layout) (entries : List Entry) (i : Illegal) (version : ℕ) → IsFirstWrong s entries i
    → length entries ≤ line_limit version → i.at ≤ most_lines
few_before s entries i version first few =
    let all : length entries ≡ length first.before + length (first.entry ∷ first.rest) =
    ap length first.parts ∙ length-append first.before (first.entry ∷ first.rest) in
    let most = none_passes old_lines most_lines version (omega arith) in
    let at = first.place in
    omega (arith, all, most, at, few)

-- the calls that resume it, with its shape, as numbers
pub is_resumed : (text flags : List ℕ) (f : File Entry) (counts : Counts) (shape : ShapeNumbers) (queues : ℕ)
    (made : List Call) (numbers : List CallNumbers) → front_file_of true text ≡ Ok f → is_layout f.layout ≡ true
    → IsLegal f.layout (past_of f.items) → layout_of counts f.layout.queues ≡ f.layout
    → counts_of_numbers shape ≡ counts → shape.keep ≡ 0 → queues ≡ length f.layout.queues → made ≡ calls_left flags f
    → ((c : CallerId) → c.0 < f.layout.callers
    → IsTakenOver f.layout c (again_of flags) (past_of f.items) made)
    → numbers ≡ map first_calls_numbers made → IsResumed text flags shape queues numbers
is_resumed text flags f counts shape queues made numbers read inside legal is_shape told keeps many calls over are =
    let some = (limits_of f.layout inside).callers in
    record {
      file = f;
      read = read;
      legal = legal;
      told = record { counts = told ∙ ap counts_in is_shape; keeps = keeps; many = many };
      made = are ∙ ap (map first_calls_numbers) calls;
      taken_over = subst (IsTakenOver f.layout first_caller (again_of flags) (past_of f.items)) calls
          (over first_caller (omega (arith, some)));
    }
