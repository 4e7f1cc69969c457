use Rattle.std.proofs.Common.{[], codes, ap, ◌∙◌}
use Rattle.std.specs.FinMap.{empty}
use Rattle.worktree_report.specs.SetupFiles.{objects_with_blobs_added}
use Rattle.worktree_report.specs.SetupMeant.{depth_limit_from_options, setup_options_from_lines, insert_paths_in_order, value_of_named_option}
use Rattle.worktree_report.specs.SetupSaid.{SetupDraft}
use Rattle.worktree_report.specs.SetupSpecs.{parse_valid_specs}
use Rattle.worktree_report.proofs.Meanings.{meant-is}
use Rattle.worktree_report.proofs.setup.meant.setup_from_draft.Goals as goal

pub returns : goal.returns
returns c =
    let same = c.draft.view_is in
    let options = ap (λ (s : SetupDraft). s.options) same in
    meant-is c.args.draft _ _ _ _ _ _ _ _ _ _ _ _
    (c.in_ok-git_dir.ensures ∙ ap (value_of_named_option (codes "git_dir")) (c.deref.ensures.value ∙ options))
    (c.in_ok-current_dir.ensures ∙ ap (value_of_named_option (codes "current_dir")) (c.deref-2.ensures.value ∙ options))
    (c.in_ok-root.ensures ∙ ap (value_of_named_option (codes "root")) (c.deref-3.ensures.value ∙ options))
    (c.depth_limit_from_options-depth.ensures ∙ ap depth_limit_from_options (c.deref-4.ensures.value ∙ options))
    (ap (λ (s : SetupDraft). s.index) same)
    (c.in_ok-blobs.ensures ∙ ap (objects_with_blobs_added empty) (c.deref-8.ensures.value ∙ ap (λ (s : SetupDraft). s.blobs) same))
    (c.from_vec.ensures ∙ ap (λ (s : SetupDraft). s.overrides) same)
    (c.from_vec-2.ensures ∙ ap (λ (s : SetupDraft). s.globals) same)
    (c.setup_options_from_lines-options.ensures ∙ ap setup_options_from_lines (c.deref-5.ensures.value ∙ options))
    (c.in_ok-specs.ensures ∙ ap (parse_valid_specs c.setup_options_from_lines-options.result.ignore_case) (c.deref-6.ensures.value ∙ ap (λ (s : SetupDraft). s.specs) same))
    (c.in_ok-worktrees.ensures ∙ ap (insert_paths_in_order []) (c.deref-7.ensures.value ∙ ap (λ (s : SetupDraft). s.worktrees) same))
    (c.from_vec-3.ensures ∙ ap (λ (s : SetupDraft). s.configs) same)
