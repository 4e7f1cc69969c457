-- What a command says: bytes for the output, others for standard error, and whether its answer is no.
use Rattle.std.specs.Prelude.{◌≡◌, ℕ, List, [], Bool, false, Result, Ok, Err, IfOk, if◌then◌else◌}
use Rattle.worktree_report.specs.declared.refusal.Refusal.{Refusal}
use Rattle.tizhagor.specs.declared.refusal.CommandRefusal.{CommandRefusal}
use Rattle.tizhagor.specs.declared.refusal.CommandRefusal.TheVariants as errors
use Rattle.tizhagor.specs.declared.reply.Reply.{Reply}

-- a text alone, which is no answer of no
abbrev pub plain_reply : List ℕ → Reply
plain_reply text = record { out = text; err = []; is_no = false }

-- a text becomes output with nothing on standard error and the status 0; a refusal stays
abbrev pub plain_reply_or_here_refusal : Result (List ℕ) CommandRefusal → Result Reply CommandRefusal
plain_reply_or_here_refusal (Ok text) = Ok (plain_reply text)
plain_reply_or_here_refusal (Err e) = Err e

-- the same of a text by a setup
abbrev pub plain_reply_or_program_refusal : Result (List ℕ) Refusal → Result Reply Refusal
plain_reply_or_program_refusal (Ok text) = Ok (plain_reply text)
plain_reply_or_program_refusal (Err e) = Err e

-- a reply stays, and a refusal by a setup is told among those of the program
abbrev pub reply_result_with_here_refusal : Result Reply Refusal → Result Reply CommandRefusal
reply_result_with_here_refusal (Ok reply) = Ok reply
reply_result_with_here_refusal (Err e) = Err (errors.Program e)

-- git's number for a command whose answer is no
abbrev pub status_of_yes_or_no : Bool → ℕ
status_of_yes_or_no is_no = if is_no then 1 else 0

-- 0, or 1 where the answer is no
abbrev pub status_of_reply : Reply → ℕ
status_of_reply reply = status_of_yes_or_no reply.is_no

-- ---- of an answer that is a text

-- the bytes for the output, or the refusal; standard error and the status are left out
abbrev pub output_text_of_reply_result : Result Reply CommandRefusal → Result (List ℕ) CommandRefusal
output_text_of_reply_result (Ok reply) = Ok reply.out
output_text_of_reply_result (Err e) = Err e

-- nothing is told on standard error, and the answer is not no
abbrev pub IsPlainReply : Reply → Type 0
IsPlainReply reply = reply ≡ plain_reply reply.out

-- something is said of the text or the refusal, and a text stands alone
abbrev pub HoldsOfOutputOfPlainReply : (Result (List ℕ) CommandRefusal → Type 0) → Result Reply CommandRefusal → Type 0
HoldsOfOutputOfPlainReply Says answer = Says (output_text_of_reply_result answer) × IfOk answer IsPlainReply
