-- What a path leads to in a stored tree.
use Rattle.worktree_fs.specs.Tree.{LookupResult, found, absent, too_many_links, file, link, directory, other}
use Rattle.worktree_fs.specs.Stored.{named_nodes_of_entries, AreSortedValidEntries}
use Rattle.worktree_fs.specs.declared.memory.found.Found.{Found}
use Rattle.worktree_fs.specs.declared.memory.found.Found.TheVariants as ends

-- the node, or that there is none
abbrev pub lookup_of_found : Found → LookupResult
lookup_of_found (ends.File bytes) = found (file bytes.now)
lookup_of_found (ends.Link target) = found (link target.now)
lookup_of_found (ends.Directory entries) = found (directory (named_nodes_of_entries entries.now))
lookup_of_found ends.Other = found other
lookup_of_found ends.Absent = absent
lookup_of_found ends.TooManyLinks = too_many_links

-- the entries of a directory are sorted
abbrev pub HasSortedEntriesIfDirectory : Found → Type 0
HasSortedEntriesIfDirectory (ends.File bytes) = Unit {0}
HasSortedEntriesIfDirectory (ends.Link target) = Unit {0}
HasSortedEntriesIfDirectory (ends.Directory entries) = AreSortedValidEntries entries.now
HasSortedEntriesIfDirectory ends.Other = Unit {0}
HasSortedEntriesIfDirectory ends.Absent = Unit {0}
HasSortedEntriesIfDirectory ends.TooManyLinks = Unit {0}
