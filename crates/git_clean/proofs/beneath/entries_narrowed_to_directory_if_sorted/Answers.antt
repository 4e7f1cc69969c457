use Rattle.std.proofs.Common.{rules, ◌≡◌, ◌++◌, ◌∷◌, [], filter, sym, ◌∙◌}
use Rattle.git_clean.specs.Beneath.{path_starts_with}
use Rattle.git_clean.proofs.Near.{beneath-run}
use Rattle.git_clean.proofs.beneath.entries_narrowed_to_directory_if_sorted.Goals as goal

pub returns : goal.returns
returns c =
    let is : c.entries_with_path_prefix.result.now ≡ filter (path_starts_with (c.args.directory.now ++ 47 ∷ [])) c.args.found.now = search rules in
    beneath-run c.args.directory.now c.args.found.now c.entries_with_path_prefix.result.now (sym c.is_empty_or_root_path.ensures ∙ c.if-is_empty_or_root_path.false) is
