-- The parts of an answer, put together.
use Rattle.std.proofs.Common.{◌≡◌, inl, inr, ℕ, List, Some, Result, Ok, Err, IfOk, IfErr, ap, sym, subst, refl}
use Rattle.worktree_fs.specs.declared.interrupt.Interrupt.{Ghosts as InterruptOf}
use Rattle.worktree_fs.specs.declared.owners.Owners.{Ghosts as OwnersOf}
use Rattle.worktree_fs.specs.declared.worktree.Worktree.{Ghosts as WorktreeOf}
use Rattle.worktree_fs.specs.Owners.{OwnershipByPath}
use Rattle.worktree_fs.specs.Tree.{Names}
use Rattle.worktree_report.specs.declared.refusal.Refusal.{Refusal}
use Rattle.command_line.specs.Requests.{parse_request_words, IsMisuseOfRequestOrOutOfMemory}
use Rattle.command_line.specs.declared.misuse.Misuse.{Misuse}
use Rattle.command_line.specs.declared.misuse.Misuse.TheVariants as misuses
use Rattle.git_setup.specs.declared.found.Found.{Found}
use Rattle.tizhagor.specs.declared.call.Call.{Call}
use Rattle.tizhagor.specs.declared.refusal.CommandRefusal.{CommandRefusal}
use Rattle.tizhagor.specs.declared.written.Writing.{Writing}
use Rattle.ls_files.specs.declared.listed.Listed.{Listed}
use Rattle.tizhagor.specs.declared.reply.Reply.{Reply}
use Rattle.tizhagor.specs.Answers.{AnswersCallText, AnswersCallBytes, AnswersWordsWithoutStats, AnswersWorkTreeCommand, HoldsAfterFindingWorkTree, AnswersFixedText, CallEnvironment, MakesCallTextAfterFound, AnswersCommandAfterFound}
use Rattle.tizhagor.specs.Listings.{reply_of_ls_files_answer, reply_of_listed_files}
use Rattle.tizhagor.specs.TreeWords.{WorkTreeCommand, HoldsOfReplyByMaking}
use Rattle.tizhagor.specs.Replies.{HoldsOfOutputOfPlainReply, plain_reply_or_program_refusal, plain_reply, plain_reply_or_here_refusal, reply_result_with_here_refusal}
use Rattle.tizhagor.specs.Refusals.{program_result_with_here_refusal, memory, here_refusal_of_misuse}
use Rattle.tizhagor.specs.Texts.{MakesTextOfCall}
use Rattle.tizhagor.specs.Writing.{text_formatted_for_output}
use Rattle.tizhagor.specs.Written.{IsFormattedOrOutOfMemory}

same_bytes : (a b : List ℕ) → ◌≡◌ {A = Result (List ℕ) CommandRefusal} (Ok a) (Ok b) → a ≡ b
same_bytes a b e = cc

same_error : (a b : CommandRefusal) → ◌≡◌ {A = Result (List ℕ) CommandRefusal} (Err a) (Err b) → a ≡ b
same_error a b e = cc

no_bytes : (a : List ℕ) (b : CommandRefusal) → ◌≡◌ {A = Result (List ℕ) CommandRefusal} (Ok a) (Err b) → ⊥
no_bytes a b e = absurd cc

-- a text alone
pub says_plainly : (Says : Result (List ℕ) CommandRefusal → Type 0) (answer : Result (List ℕ) CommandRefusal) → Says answer → HoldsOfOutputOfPlainReply Says (plain_reply_or_here_refusal answer)
says_plainly Says (Ok text) says = (says, refl)
says_plainly Says (Err e) says = (says, tt)

-- what is said of making a listing, or a text, of its reply
pub replies_listed : (Makes : Result Listed Refusal → Type 0) (answer : Result Listed Refusal) → Makes answer → HoldsOfReplyByMaking reply_of_listed_files Makes (reply_of_ls_files_answer answer)
replies_listed Makes (Ok made) makes = record { made = made; reply_is = refl; makes = makes }
replies_listed Makes (Err e) makes = makes

pub replies_text : (Makes : Result (List ℕ) Refusal → Type 0) (answer : Result (List ℕ) Refusal) → Makes answer → HoldsOfReplyByMaking plain_reply Makes (plain_reply_or_program_refusal answer)
replies_text Makes (Ok text) makes = record { made = text; reply_is = refl; makes = makes }
replies_text Makes (Err e) makes = makes

-- one that is always the same
pub offers_plainly : {W I O : Type 0} (w0 : W) (i0 : I) (o0 : O) (text : List ℕ) (answer : Result Reply CommandRefusal) → IfOk answer (λ reply. reply ≡ plain_reply text) → IfErr answer (λ e. e ≡ memory)
    → HoldsOfOutputOfPlainReply (AnswersFixedText w0 w0 i0 i0 o0 o0 text) answer
offers_plainly w0 i0 o0 text (Ok reply) gives refused =
    (record { gives = ap (λ (r : Reply). r.out) gives; refused = tt; worktree = refl; interrupt = refl; owners = refl }, rw gives refl)
offers_plainly w0 i0 o0 text (Err e) gives refused = (record { gives = tt; refused = refused; worktree = refl; interrupt = refl; owners = refl }, tt)

module _ {W I O : Type 0} (w : WorktreeOf W) (i : InterruptOf I) (o : OwnersOf O) (w0 w1 : W) (i0 i1 : I) (o0 o1 : O) where
  -- a reply or a refusal of one by what was found
  pub by_word : (found : Names → OwnershipByPath → Result Found CommandRefusal) (word : WorkTreeCommand) (answer : Result Reply Refusal) (here_answer : Result Reply CommandRefusal) → here_answer ≡ reply_result_with_here_refusal answer
      → HoldsAfterFindingWorkTree w o w0 o0 o1 found (AnswersCommandAfterFound w i w1 i0 i1 word answer) → AnswersWorkTreeCommand w i o w0 w1 i0 i1 o0 o1 found word here_answer
  by_word found word (Ok reply) here_answer is by = rw is by
  by_word found word (Err refusal) here_answer is by = rw is (inr (record { refusal = refusal; e_is = refl; by = by }))

  -- a text or a refusal by what was found
  pub by_found : (found : Names → OwnershipByPath → Result Found CommandRefusal) (call : Call) (answer : Result (List ℕ) Refusal) (here_answer : Result (List ℕ) CommandRefusal) → here_answer ≡ program_result_with_here_refusal answer
      → HoldsAfterFindingWorkTree w o w0 o0 o1 found (MakesCallTextAfterFound w i w1 i0 i1 call answer) → AnswersCallText w i o w0 w1 i0 i1 o0 o1 found call here_answer
  by_found found call (Ok text) here_answer is by = rw is by
  by_found found call (Err refusal) here_answer is by = rw is (inr (record { refusal = refusal; e_is = refl; by = by }))

  -- the root as it was handed in
  pub by_root : (call : Call) (answer : Result (List ℕ) Refusal) (here : Found) (loaded : W) (root : List ℕ) → root ≡ here.root
      → MakesTextOfCall w i loaded w1 i0 i1 root here.setup answer call → MakesCallTextAfterFound w i w1 i0 i1 call answer here loaded
  by_root call answer here loaded root is made = subst (λ (r : List ℕ). MakesTextOfCall w i loaded w1 i0 i1 r here.setup answer call) is made

  -- the bytes of a text
  pub by_writing : (found : Names → OwnershipByPath → Result Found CommandRefusal) (call : Call) (writing : Writing) (answer result : Result (List ℕ) CommandRefusal) → IsFormattedOrOutOfMemory writing answer result
      → AnswersCallText w i o w0 w1 i0 i1 o0 o1 found call answer → AnswersCallBytes w i o w0 w1 i0 i1 o0 o1 found call writing result
  by_writing found call writing (Ok text) (Ok bytes) is by =
      elim is [ inl same ↦ record { text = text; bytes_is = same_bytes _ _ same; by = by } | inr wants ↦ absurd (no_bytes _ _ wants) ]
  by_writing found call writing (Ok text) (Err e) is by =
      elim is [ inl same ↦ absurd (no_bytes _ _ (sym same)) | inr wants ↦ inr (record { text = text; e_is = same_error _ _ wants; by = by }) ]
  by_writing found call writing (Err e) (Ok bytes) is by = absurd (no_bytes _ _ is)
  by_writing found call writing (Err e) (Err other) is by =
      inl (subst (λ (x : CommandRefusal). AnswersCallText w i o w0 w1 i0 i1 o0 o1 found call (Err x)) (sym (same_error _ _ is)) by)

module _ {W I O : Type 0} (w : WorktreeOf W) (i : InterruptOf I) (o : OwnersOf O) (w0 : W) (i0 : I) (o0 : O) where
  -- the words are none, or are not read
  pub by_words : (place : CallEnvironment) (words : List (List ℕ)) (misuse : Misuse) → IsMisuseOfRequestOrOutOfMemory misuse (parse_request_words words) → AnswersWordsWithoutStats w i o w0 w0 i0 i0 o0 o0 place words (Err (here_refusal_of_misuse misuse))
  by_words place words (misuses.Word topic wrong word) is =
      inr (inl (record { misuse = record { topic = topic; wrong = wrong; word = word; is = is }; answer_is = refl; worktree = refl; interrupt = refl; owners = refl }))
  by_words place words misuses.OutOfMemory is = inr (inr (record { answer_is = refl; worktree = refl; interrupt = refl; owners = refl }))
