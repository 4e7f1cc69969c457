-- The help text of `check-ignore`.
use Rattle.std.specs.Prelude.{ℕ, List, [], ◌∷◌, ◌++◌, codes}
use Rattle.std.specs.List.{flat_map}

-- the help text of `check-ignore`
unfoldable pub check : List ℕ
check =
    flat_map (λ (line : List ℕ). line ++ 10 ∷ [])
    (codes "usage: tizhagor [-C DIR] check-ignore [OPTION..] [--] [PATH..]"
    ∷ codes ""
    ∷ codes "Writes each PATH that an ignore rule excludes, as git check-ignore does, in the form in"
    ∷ codes "which it is written. A PATH is from the current directory, and need not be there. The"
    ∷ codes "status is 0 where a path is excluded, and 1 where none is."
    ∷ codes ""
    ∷ codes "  -v, --verbose         the rule that decides before each path: its file, its line and its"
    ∷ codes "                        pattern; of a rule with ! in front too"
    ∷ codes "  -n, --non-matching    with -v: the paths too that no rule decides about"
    ∷ codes "  -q, --quiet           of one path, or with --stdin: nothing is written"
    ∷ codes "  --stdin               the paths of the standard input, one a line, and no PATH; git's"
    ∷ codes "                        way of quoting paths is understood there"
    ∷ codes "  -z                    with --stdin: NULs end its lines, and part and end what is written;"
    ∷ codes "                        nothing is quoted"
    ∷ codes "  --no-index            paths of the index too: else no rule excludes these"
    ∷ codes "  -h, --help            this text"
    ∷ codes ""
    ∷ codes "Of options that say the same the last counts; --no- before a name takes it back, and"
    ∷ codes "--index takes back --no-index. For example: tizhagor check-ignore -v -n build/main.o"
    ∷ []
    )
