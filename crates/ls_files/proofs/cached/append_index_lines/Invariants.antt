use Rattle.std.specs.Prelude.{◌≡◌, ◌++◌, drop, option_copied}
use Rattle.ls_files.specs.Cached.{text_of_listed_index, lines_of_matched_entries}
use Rattle.ls_files.specs.Choices.{listed_entries_after_path}
use Rattle.ls_files.proofs.cached.append_index_lines.Given as goal

abbrev pub invariant-loop-entry : goal.invariant-loop-entry
invariant-loop-entry l =
    l.text.items ++ lines_of_matched_entries l.listing l.prefix l.specs (listed_entries_after_path l.listing (option_copied l.last) (drop l.entry-index l.entries))
    ≡ l.fn.text.items ++ text_of_listed_index l.listing l.prefix l.specs l.entries
