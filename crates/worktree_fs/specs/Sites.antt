-- What a path offers to the making of a directory.
use Rattle.std.specs.Prelude.{Bool, if◌then◌else◌}
use Rattle.worktree_fs.specs.Tree.{PathResolution, reached, missing, nowhere, endless, is_nil}
use Rattle.worktree_fs.specs.Changes.{slash_before_each_reversed_name, reversed_names_last_one_composed}
use Rattle.worktree_fs.specs.declared.memory.site.Site.{Site}
use Rattle.worktree_fs.specs.declared.memory.site.Site.TheVariants as sites

abbrev pub site_of_resolution : Bool → PathResolution → Site
site_of_resolution composes (reached names node) = sites.Taken
site_of_resolution composes (missing names rest) = if is_nil rest then sites.Free (slash_before_each_reversed_name (reversed_names_last_one_composed composes names)) else sites.Nowhere
site_of_resolution composes nowhere = sites.Nowhere
site_of_resolution composes endless = sites.Nowhere
