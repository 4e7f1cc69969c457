use Rattle.std.proofs.Common.{◌∙◌, sym, rules}
use Rattle.std.proofs.lemmas.Result.{err_from_is_err_and}
use Rattle.dir_classify.specs.Layers.{setting_of_shared}
use Rattle.dir_classify.proofs.Judging.{at-dot_git, at-dot_git-refused, at-unmatched, at-kind, at-kind-refused}
use Rattle.dir_classify.proofs.steps.classify_name_in_directory.Goals as goal

pub returns-then-is_dot_git_by_options : goal.returns-then-is_dot_git_by_options
returns-then-is_dot_git_by_options g c =
    at-dot_git g.W.Worktree g.F.Find c.args.worktree.now c.classify_dot_git.new.worktree c.args.objects.now c.classify_dot_git.new.objects c.args.excludes.now c.classify_dot_git.new.excludes
    (setting_of_shared g.M.Matcher c.args.shared.now) c.args.rela_path.now c.args.disk_kind c.args.ask_disk
    (sym c.is_dot_git_by_options.ensures ∙ c.if-is_dot_git_by_options.true) c.in_ok-class.class (c.in_ok-class.ensures c.args.ask_disk)

pub returns-then-not-can_match_relative_path : goal.returns-then-not-can_match_relative_path
returns-then-not-can_match_relative_path g c =
    at-unmatched g.W.Worktree g.F.Find c.args.worktree.now c.args.objects.now c.args.excludes.now (setting_of_shared g.M.Matcher c.args.shared.now) c.args.rela_path.now c.args.disk_kind c.args.ask_disk c.outcome_without_possible_match.result
    (sym c.is_dot_git_by_options.ensures ∙ c.if-is_dot_git_by_options.false) (search rules) c.outcome_without_possible_match.ensures

pub returns : goal.returns
returns g c =
    at-kind g.W.Worktree g.F.Find c.args.worktree.now c.kind_by_index_caller_or_disk.new.worktree c.classify_path_of_known_kind.new.worktree c.args.objects.now c.classify_path_of_known_kind.new.objects c.args.excludes.now c.classify_path_of_known_kind.new.excludes
    (setting_of_shared g.M.Matcher c.args.shared.now) c.args.rela_path.now c.args.full.now c.args.disk_kind c.args.ask_disk c.index_kinds_by_options-entry.result c.in_ok-kind.kind
    c.requires.full c.index_kinds_by_options-entry.ensures (sym c.is_dot_git_by_options.ensures ∙ c.if-is_dot_git_by_options.false) (search rules)
    c.in_ok-kind.ensures.keeps c.in_ok-kind.ensures.reads c.in_ok-kind.ensures.kind c.in_ok-kind.ensures.swallowed c.in_ok-kind.ensures.untouched c.in_ok-class-2.class (c.in_ok-class-2.ensures c.args.ask_disk)

pub returns-in_err-class : goal.returns-in_err-class
returns-in_err-class g c =
    let p = err_from_is_err_and c.from_residual.result c.from_residual.ensures.1 in
    rw (p.1, p.2)
    (at-dot_git-refused g.W.Worktree g.F.Find c.args.worktree.now c.classify_dot_git.new.worktree c.args.objects.now c.classify_dot_git.new.objects c.args.excludes.now c.classify_dot_git.new.excludes
    (setting_of_shared g.M.Matcher c.args.shared.now) c.args.rela_path.now c.args.disk_kind c.args.ask_disk
    (sym c.is_dot_git_by_options.ensures ∙ c.if-is_dot_git_by_options.true) c.in_err-class.field-0.0 (c.in_err-class.ensures c.args.ask_disk))

pub returns-in_err-class-2 : goal.returns-in_err-class-2
returns-in_err-class-2 g c =
    let p = err_from_is_err_and c.from_residual-in_err-class-2.result c.from_residual-in_err-class-2.ensures.1 in
    rw (p.1, p.2)
    (at-kind-refused g.W.Worktree g.F.Find c.args.worktree.now c.kind_by_index_caller_or_disk.new.worktree c.classify_path_of_known_kind.new.worktree c.args.objects.now c.classify_path_of_known_kind.new.objects c.args.excludes.now c.classify_path_of_known_kind.new.excludes
    (setting_of_shared g.M.Matcher c.args.shared.now) c.args.rela_path.now c.args.full.now c.args.disk_kind c.args.ask_disk c.index_kinds_by_options-entry.result c.in_ok-kind.kind
    c.requires.full c.index_kinds_by_options-entry.ensures (sym c.is_dot_git_by_options.ensures ∙ c.if-is_dot_git_by_options.false) (search rules)
    c.in_ok-kind.ensures.keeps c.in_ok-kind.ensures.reads c.in_ok-kind.ensures.kind c.in_ok-kind.ensures.swallowed c.in_ok-kind.ensures.untouched c.in_err-class-2.field-0.0 (c.in_err-class-2.ensures c.args.ask_disk))
