use Rattle.std.proofs.Common.{◌≡◌, Bool, ap, ◌∙◌, subst, IfOk}
use Rattle.std.specs.Prelude.{is_some}
use Rattle.dir_classify.specs.Chosen.{walk_options_of}
use Rattle.dir_classify.specs.Excludes.{setup_of_optional_stack}
use Rattle.dir_classify.specs.Layers.{WalkSetting}
use Rattle.dir_walk.specs.Reports.{IsReportOverAnyWorktree, IsSafeReport}
use Rattle.worktree_report.specs.Asked.{walk_setting_of_setup}
use Rattle.worktree_report.proofs.Walks.{asked_is, walks-asked}
use Rattle.worktree_report.proofs.walk_by_setup.walk_with_rules_and_lookup.Goals as goal

pub returns-clause-gives : goal.returns-clause-gives
returns-clause-gives g c = λ s tells quiet.
    subst (λ (x : WalkSetting). IfOk c.walk_sorted_by_path.result (IsSafeReport x (setup_of_optional_stack c.args.excludes.now) s c.args.setup.now.root c.args.setup.now.depth))
    (asked_is c.precomposes.result c.args.root.now c.args.setup.now (walk_options_of c.walk_options_of_setup-options.result) (is_some c.args.prepared.now.lookup.now) c.args.prepared.now.git_dir.now c.current_dir_of_setup_or_root.result.now
    c.walk_options_of_setup-options.ensures c.requires.given c.requires.git_dir c.current_dir_of_setup_or_root.ensures
    ∙ ap (λ (b : Bool). walk_setting_of_setup b c.args.root.now c.args.setup.now) c.precomposes.ensures)
    (c.walk_sorted_by_path.ensures.gives s tells quiet)

pub returns-clause-any_worktree : goal.returns-clause-any_worktree
returns-clause-any_worktree g c =
    subst (λ (x : WalkSetting). IfOk c.walk_sorted_by_path.result (IsReportOverAnyWorktree x c.args.setup.now.root))
    (asked_is c.precomposes.result c.args.root.now c.args.setup.now (walk_options_of c.walk_options_of_setup-options.result) (is_some c.args.prepared.now.lookup.now) c.args.prepared.now.git_dir.now c.current_dir_of_setup_or_root.result.now
    c.walk_options_of_setup-options.ensures c.requires.given c.requires.git_dir c.current_dir_of_setup_or_root.ensures
    ∙ ap (λ (b : Bool). walk_setting_of_setup b c.args.root.now c.args.setup.now) c.precomposes.ensures)
    c.walk_sorted_by_path.ensures.any_worktree

pub returns-clause-walks_worktree : goal.returns-clause-walks_worktree
returns-clause-walks_worktree g c =
    walks-asked
    (asked_is c.precomposes.result c.args.root.now c.args.setup.now (walk_options_of c.walk_options_of_setup-options.result) (is_some c.args.prepared.now.lookup.now) c.args.prepared.now.git_dir.now c.current_dir_of_setup_or_root.result.now
    c.walk_options_of_setup-options.ensures c.requires.given c.requires.git_dir c.current_dir_of_setup_or_root.ensures
    ∙ ap (λ (b : Bool). walk_setting_of_setup b c.args.root.now c.args.setup.now) c.precomposes.ensures)
    c.walk_sorted_by_path.ensures.walks_worktree
