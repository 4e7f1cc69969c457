-- One write after another.
use Rattle.std.proofs.Common.{◌≡◌, inl, inr, ℕ, List, ◌++◌, Option, Some, None, Result, Ok, Err, OnOk, OnErr, option_map, append_assoc, take, drop, ap, ◌∙◌}
use Rattle.std.proofs.lemmas.List.{take-append-drop}
use Rattle.worktree_fs.specs.Causes.{CountIncrementedOrSaturated}
use Rattle.worktree_report.specs.Refusals.{WritesLineOrRefusedFront}
use Rattle.worktree_report.specs.Written.{AppendsWholeBytes, AppendsFrontOfBytes}

pub Appends-more : (before now after : Option (List ℕ)) (front more : List ℕ) → AppendsWholeBytes before now front → AppendsWholeBytes now after more → AppendsWholeBytes before after (front ++ more)
Appends-more None now after front more first second = second ∙ ap (option_map (λ (w : List ℕ). w ++ more)) first
Appends-more (Some w) now after front more first second = second ∙ ap (option_map (λ (v : List ℕ). v ++ more)) first ∙ ap Some (append_assoc w front more)

pub parts_more : (bytes front rest after : List ℕ) (n : ℕ) → bytes ≡ front ++ rest → after ≡ drop n rest → bytes ≡ (front ++ take n rest) ++ after
parts_more bytes front rest after n parts is = rw (is, append_assoc, take-append-drop) parts

-- a line is said whole, or a front of it
pub Says-either : {T E : Type 0} (result : Result T E) (before after : Option (List ℕ)) (refusals0 refusals1 : ℕ) (line : List ℕ)
    → OnOk result (AppendsWholeBytes before after line) → OnErr result (AppendsFrontOfBytes before after line) → OnErr result (CountIncrementedOrSaturated refusals0 refusals1) → OnOk result (refusals1 ≡ refusals0)
    → WritesLineOrRefusedFront before after refusals0 refusals1 line
Says-either (Ok answer) before after refusals0 refusals1 line whole part cause unrefused = inl (whole, unrefused)
Says-either (Err e) before after refusals0 refusals1 line whole part cause unrefused = inr (part, cause)
