-- The help text of `diff-files`.
use Rattle.std.specs.Prelude.{ℕ, List, [], ◌∷◌, ◌++◌, codes}
use Rattle.std.specs.List.{flat_map}

-- the help text of `diff-files`
unfoldable pub diff_files_help_text : List ℕ
diff_files_help_text =
    flat_map (λ (line : List ℕ). line ++ 10 ∷ [])
    (codes "usage: tizhagor [-C DIR] diff-files [OPTION..] [-- PATH..]"
    ∷ codes ""
    ∷ codes "Writes how the paths of the index changed in the work tree, as git diff-files does, from"
    ∷ codes "the top of the work tree: modes, ids, a letter and the path. A PATH is a path spec from"
    ∷ codes "the current directory, and stands behind --; none means all."
    ∷ codes ""
    ∷ codes "  --raw                 modes, ids, a letter and the path; so it is where no form is said"
    ∷ codes "  --name-status         a letter and the path"
    ∷ codes "  --name-only           the path"
    ∷ codes "  -z                    a NUL behind each field, and paths as they are"
    ∷ codes "  -q                    taken, and changes nothing"
    ∷ codes "  --exit-code           the status is 1 where something changed"
    ∷ codes "  --quiet               the same, and nothing is written"
    ∷ codes "  --ignore-submodules[=WHEN]"
    ∷ codes "                        nothing of submodules; with none, dirty or untracked as WHEN"
    ∷ codes "                        that which the configuration would leave out, too"
    ∷ codes "  -h, --help            this text"
    ∷ codes ""
    ∷ codes "Of options that say the same the last counts; --no-exit-code and --no-quiet take back what"
    ∷ codes "they name. For example: tizhagor diff-files --name-only -- src"
    ∷ []
    )
