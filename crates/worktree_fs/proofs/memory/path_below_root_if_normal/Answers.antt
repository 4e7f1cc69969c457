use Rattle.std.proofs.Common.{◌≡◌, ◌∙◌, true, drop, ap, sym}
use Rattle.std.specs.List.{list_all}
use Rattle.gitbase_core.specs.Path.{pieces_between_slashes}
use Rattle.worktree_fs.specs.Naming.{is_valid_entry_name}
use Rattle.worktree_fs.proofs.Paths.Parts.{all_names, pieces-normal}
use Rattle.worktree_fs.proofs.memory.path_below_root_if_normal.Goals as goal

pub returns-then-has_only_valid_names-clause-names : goal.returns-then-has_only_valid_names-clause-names
returns-then-has_only_valid_names-clause-names c =
    all_names (pieces_between_slashes c.split_at.result.1.now) (sym c.has_only_valid_names.ensures ∙ c.if-has_only_valid_names.true)

pub returns-then-has_only_valid_names-clause-pieces : goal.returns-then-has_only_valid_names-clause-pieces
returns-then-has_only_valid_names-clause-pieces c =
    let all : list_all is_valid_entry_name (pieces_between_slashes (drop 1 c.args.path.now)) ≡ true = ap (λ l. list_all is_valid_entry_name (pieces_between_slashes l)) (sym c.split_at.ensures.back) ∙ sym c.has_only_valid_names.ensures ∙ c.if-has_only_valid_names.true in
    pieces-normal c.args.path.now (sym c.is_absolute.ensures ∙ c.if-not-is_absolute.false) all ∙ ap pieces_between_slashes (sym c.split_at.ensures.back)
