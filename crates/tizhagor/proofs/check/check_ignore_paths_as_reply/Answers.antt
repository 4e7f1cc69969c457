use Rattle.std.proofs.Common.{subst, sym, Result, IfErr}
use Rattle.check_ignore.specs.Finds.{FindsInTree}
use Rattle.check_ignore.specs.Input.{answer_of_paths_or_stdin}
use Rattle.check_ignore.specs.declared.options.Checking.{Checking}
use Rattle.tizhagor.specs.declared.refusal.CommandRefusal.{CommandRefusal}
use Rattle.tizhagor.specs.declared.reply.Reply.{Reply}
use Rattle.tizhagor.specs.Checking.{check_options_with_configuration, outer_rules_of_files, check_ignore_reply_of_paths}
use Rattle.tizhagor.specs.Checks.{FindsReplyOverTree}
use Rattle.tizhagor.specs.Refusals.{MayComeBeforeSetupIsFound}
use Rattle.tizhagor.proofs.Checked.{as_reply-is, of_answer}
use Rattle.tizhagor.proofs.check.check_ignore_paths_as_reply.Goals as goal

pub returns-clause-looks : goal.returns-clause-looks
returns-clause-looks g c =
    subst (λ (r : Result Reply CommandRefusal). FindsReplyOverTree g.W.Worktree c.args.worktree.now c.check_paths_or_stdin-answer.new.worktree (λ t. check_ignore_reply_of_paths t c.args.wants.now c.args.paths.now c.args.input.now c.args.here) r)
    (sym c.reply_of_check_ignore_answer.ensures)
    (of_answer g.W.Worktree _ _ c.args.here.root
    (λ t. answer_of_paths_or_stdin t c.args.here.root c.args.here.prefix c.args.here.index (outer_rules_of_files c.args.here.outer) (check_options_with_configuration c.args.wants.now.checking c.args.here) c.args.paths.now c.args.input.now) c.check_paths_or_stdin-answer.result
    (subst (λ (checking : Checking). FindsInTree g.W.Worktree c.args.worktree.now c.check_paths_or_stdin-answer.new.worktree (λ t. answer_of_paths_or_stdin t c.args.here.root c.args.here.prefix c.args.here.index (outer_rules_of_files c.args.here.outer) checking c.args.paths.now c.args.input.now) c.check_paths_or_stdin-answer.result)
    c.check_options_with_configuration-checking.ensures
    (rw (← c.outer_rules_of_files-outer.ensures, ← c.as_bytes-top.ensures, ← c.as_bytes-place.ensures) c.check_paths_or_stdin-answer.ensures)))

pub returns-clause-of : goal.returns-clause-of
returns-clause-of g c = subst (λ (r : Result Reply CommandRefusal). IfErr r MayComeBeforeSetupIsFound) (sym c.reply_of_check_ignore_answer.ensures) (as_reply-is c.args.here.root c.check_paths_or_stdin-answer.result)
