-- The setup at a path of the tree.
use Rattle.std.specs.Prelude.{ℕ, Result, Err}
use Rattle.worktree_fs.specs.Tree.{LookupResult, found, absent, too_many_links, file, link, directory, other}
use Rattle.worktree_report.specs.declared.setup.Setup.{Setup}
use Rattle.worktree_report.specs.SetupText.{parse_setup_text}

-- the setup that a file means, or its first line outside the grammar; line 0 where there is no file
abbrev pub setup_of_file_looked_at : LookupResult → Result Setup ℕ
setup_of_file_looked_at (found (file bytes)) = parse_setup_text bytes
setup_of_file_looked_at (found (link target)) = Err 0
setup_of_file_looked_at (found (directory names)) = Err 0
setup_of_file_looked_at (found other) = Err 0
setup_of_file_looked_at absent = Err 0
setup_of_file_looked_at too_many_links = Err 0
