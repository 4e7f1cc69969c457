use Rattle.std.proofs.Common.{rules, arith, ◌≡◌, ◌-◌, Some, true}
use Rattle.worktree_fs.specs.Tree.{Names}
use Rattle.git_config_files.specs.Includes.{read_keys_expanding_includes_to_depth, read_optional_file_text}
use Rattle.git_config_files.specs.declared.error.FilesError.TheVariants as errors
use Rattle.git_config_files.proofs.Deeper.{refused, stepped}
use Rattle.git_places.proofs.Passes.{passes}
use Rattle.git_config_files.proofs.includes.+expand.Goals as goal

pub read_keys_expanding_includes_to_depth-returns : goal.read_keys_expanding_includes_to_depth-returns
read_keys_expanding_includes_to_depth-returns g t c = stepped _ _ _ _ _ _ (c.args.levels - 1) _ _ (omega (arith, c.if-levels-eq0.false)) (search rules)

pub read_keys_expanding_includes_to_depth-returns-in_err-bytes : goal.read_keys_expanding_includes_to_depth-returns-in_err-bytes
read_keys_expanding_includes_to_depth-returns-in_err-bytes g t c =
    let e = c.in_err-bytes.field-0.0 in
    let a = c.args in
    let carry = λ (tree : Names) (told : g.W.Worktree.told a.worktree.now ≡ Some tree).
    passes errors.Fault errors.OutOfMemory e (read_optional_file_text tree a.path.now) (read_keys_expanding_includes_to_depth tree a.known.now a.source a.levels a.path.now)
    (c.in_err-bytes.ensures.gives tree told) (refused tree a.known.now a.source a.levels a.path.now e)
    in
    search rules
