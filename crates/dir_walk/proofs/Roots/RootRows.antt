-- Traversal roots, of which the definition says what it should, by computing.
use Rattle.std.proofs.Common.{◌≡◌, true, false, [], Option, Some, None, refl, ap, ◌∙◌}
use Rattle.std.specs.Prelude.{codes, if◌then◌else◌}
use Rattle.gitbase_core.specs.Path.{normalized}
use Rattle.glob_rules.specs.declared.pathspec.MatchKind.TheVariants as found
use Rattle.worktree_fs.specs.Tree.{Names}
use Rattle.dir_classify.specs.declared.entry.Kind.{Kind}
use Rattle.dir_classify.specs.declared.entry.Kind.TheVariants.{File, Symlink, Directory}
use Rattle.dir_classify.specs.declared.options.EmissionMode.TheVariants.{Matching}
use Rattle.dir_classify.specs.Chosen.{WalkOptions}
use Rattle.dir_classify.specs.Kinds.{is_plain_directory_kind}
use Rattle.dir_classify.specs.Layers.{WalkSetting, kind_of_node_at}
use Rattle.dir_walk.specs.Root.{missing, outside, continue_past_component, traversal_root_unless_outside, rooted, through_link, find_traversal_root}

abbrev usual : WalkOptions
usual =
    record {
      precompose_unicode = false;
      ignore_case = false;
      recurse_repositories = false;
      emit_pruned = false;
      emit_ignored = None;
      for_deletion = None;
      classify_untracked_bare_repositories = false;
      emit_tracked = false;
      emit_untracked = Matching;
      emit_empty_directories = false;
      emit_collapsed = None;
      symlinks_to_directories_are_ignored_like_directories = false;
      worktrees = [];
    }

-- the worktree root `/w`, an index that is empty, and no specs
abbrev given : WalkSetting
given =
    record {
      root = codes "/w";
      options = usual;
      index = [];
      has_lookup = false;
      can_match = λ path is_dir. true;
      matched = λ path is_dir. Some (record { kind = found.Always; excluded = false; sequence_number = 0 });
      covers = λ path. true;
      common = None;
      git_dir = codes "/w/.git";
      current_dir = codes "/";
    }

-- ---- the traversal root

module _ (t : Names) where
  -- a link on the way
  through : kind_of_node_at t (codes "/w/l") false ≡ Some Symlink → find_traversal_root given t (Some (codes "l/x")) ≡ through_link 0
  unfolding find_traversal_root
  through is = ap (λ (kind : Option Kind). continue_past_component (codes "/w/l") 0 kind (continue_past_component (codes "/w/l/x") 1 (kind_of_node_at t (codes "/w/l/x") false) (rooted (codes "l/x")))) is

  -- a link at its end
  ends_in_link : kind_of_node_at t (codes "/w/d") false ≡ Some Directory → kind_of_node_at t (codes "/w/d/l") false ≡ Some Symlink → find_traversal_root given t (Some (codes "d//l")) ≡ through_link 1
  unfolding find_traversal_root
  ends_in_link first second =
      ap (λ (kind : Option Kind). continue_past_component (codes "/w/d") 0 kind (continue_past_component (codes "/w/d/l") 1 (kind_of_node_at t (codes "/w/d/l") false) (rooted (codes "d/l")))) first
      ∙ ap (λ (kind : Option Kind). continue_past_component (codes "/w/d/l") 1 kind (rooted (codes "d/l"))) second

  -- nothing there
  gone : kind_of_node_at t (codes "/w/gone") false ≡ None → find_traversal_root given t (Some (codes "gone")) ≡ missing (codes "/w/gone")
  unfolding find_traversal_root
  gone is = ap (λ (kind : Option Kind). continue_past_component (codes "/w/gone") 0 kind (rooted (codes "gone"))) is

  -- a file, and what leads back from it
  file_there : kind_of_node_at t (codes "/w/a") false ≡ Some File → find_traversal_root given t (Some (codes "./a")) ≡ rooted (codes "a")
  unfolding find_traversal_root
  file_there is = ap (λ (kind : Option Kind). continue_past_component (codes "/w/a") 0 kind (rooted (codes "a"))) is

  leads_back : find_traversal_root given t (Some (codes "a/..")) ≡ rooted []
  unfolding find_traversal_root
  leads_back = refl

  -- out of the worktree
  leads_out : find_traversal_root given t (Some (codes "../w")) ≡ outside (codes "../w")
  unfolding find_traversal_root
  leads_out = refl

  is_absolute : find_traversal_root given t (Some (codes "/w")) ≡ outside (codes "/w")
  unfolding find_traversal_root
  is_absolute = refl

  -- none handed in
  no_root : find_traversal_root given t None ≡ rooted []
  unfolding find_traversal_root
  no_root = refl

  -- the common directory of the path specs, where it is a directory
  specs_root : kind_of_node_at t (codes "/w/d") true ≡ None → find_traversal_root (record given { common = Some (codes "d") }) t None ≡ rooted []
  unfolding find_traversal_root
  specs_root is = ap (λ (kind : Option Kind). let asked = if is_plain_directory_kind kind then codes "d" else [] in traversal_root_unless_outside given t asked (normalized asked)) is
