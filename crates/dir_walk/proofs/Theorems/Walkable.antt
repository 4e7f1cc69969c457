-- What can be walked is walked, unless something fails, is raised, or wants memory.
use Rattle.std.proofs.Common.{◌≡◌, ◌⊎◌, inl, inr, ℕ, ◌≤◌, List, [], ◌∷◌, ◌++◌, ◌&&◌, Bool, true, false, Option, Some, None, Result, Ok, Err, refl, sym, ap, subst, ◌∙◌, arith}
use Rattle.std.specs.Prelude.{IsSomeAnd, IfSome, option_map}
use Rattle.std.specs.List.{list_all}
use Rattle.gitbase_core.specs.Objects.{Object, object_by_id, blob, other as other_object}
use Rattle.gitbase_core.specs.Path.{components, is_empty}
use Rattle.worktree_fs.specs.declared.answers.ListError.{ListError}
use Rattle.worktree_fs.specs.declared.answers.ListError.TheVariants as lists
use Rattle.worktree_fs.specs.declared.answers.NodeKind.{NodeKind}
use Rattle.worktree_fs.specs.declared.answers.NodeKind.TheVariants as nodes
use Rattle.worktree_fs.specs.Answers.{kind_of_lookup, list_of}
use Rattle.worktree_fs.specs.Causes.{CountNotIncreased, CountIncreasedOrSaturated}
use Rattle.worktree_fs.specs.Paths.{root_joined_with_relative, slash_joined_components}
use Rattle.worktree_fs.specs.Tree.{Names, LookupResult, look, found, absent, too_many_links, file, link, directory, other}
use Rattle.worktree_fs.proofs.Routes.Follow.{look-follow}
use Rattle.worktree_stack.specs.declared.error.AtPathError.{AtPathError}
use Rattle.worktree_stack.specs.declared.error.AtPathError.TheVariants as inner
use Rattle.worktree_stack.specs.declared.error.RulesWhy.TheVariants as whys
use Rattle.worktree_stack.specs.declared.error.BlobWhy.TheVariants as blob_whys
use Rattle.worktree_stack.specs.Reading.{RulesReading, RulesPlace, RulesRefusal, TreeAndObjects, RulesText, RulesTextsOrRefusal, list_bytes_of_blob, list_bytes_of_file_lookup, first_rules_text_of_places, in_store, in_tree, is_read_without_refusal, list_bytes_at_place, of_blob, of_file, text_or_next_place, path_of_rules_place, places_of_readings, places_of_directory, rules_texts_of_directory, readings_of_directory, rules_text_of_list_bytes, rules_texts_of_readings, prepend_text_unless_refused}
use Rattle.worktree_stack.specs.Refused as lookups
use Rattle.worktree_stack.specs.Setup.{StackSetup}
use Rattle.dir_classify.specs.declared.error.Error.{Error}
use Rattle.dir_classify.specs.declared.error.Error.TheVariants as errors
use Rattle.dir_classify.specs.declared.error.MetadataWhy.TheVariants as metadata
use Rattle.dir_classify.specs.declared.error.ReadWhy.TheVariants as reads
use Rattle.dir_classify.specs.Evidence.{PathEvidence}
use Rattle.dir_classify.specs.Kinds.{from_node_kind, is_some_directory_kind}
use Rattle.dir_classify.specs.Layers.{WalkSetting, evidence_from_setting_and_sources}
use Rattle.dir_classify.specs.Refused.{HoldsIfFaultError}
use Rattle.dir_classify.specs.Rooted.{IsPathOnWayToRoot, end_of_way_to_root}
use Rattle.dir_walk.specs.Kept.{HoldsIfInterrupted}
use Rattle.dir_walk.specs.Refused.{IsIndexedDirectoryUnlistable, IsLookupErrorOfAskedPath, is_text_in_list}
use Rattle.dir_walk.specs.Root.{find_traversal_root}
use Rattle.dir_walk.specs.Rooting.{IsErrorOfRootResult}
use Rattle.dir_walk.specs.Walked.{WalkResult}
use Rattle.dir_walk.specs.WalkRefused.{IsEnteredRootUnlistable, IsClassedAsDirectoryWithoutDisk, IsRulesErrorOnWayToRoot, IsErrorFromRootBySources, IsWholeWalkErrorBySources}
use Rattle.dir_walk.specs.Walkable.{AreRulesReadableAbove, IsDirectory, HasReportOrIsWalkable, IsWalkableInput, is_readable_rules_place, is_readable_rules_file, is_blob_object, walk_result_from_root_or_empty}
use Rattle.dir_walk.proofs.Order.Lists.{and_left}
use Rattle.dir_walk.proofs.Theorems.Complete.{not-failed, only-memory}
use Rattle.dir_walk.proofs.Order.Counts.{or-right}
use Rattle.dir_walk.proofs.Roots.HeldRoots.{named-directory}
use Rattle.dir_walk.proofs.Roots.Starting.{and-split}
use Rattle.dir_walk.proofs.Refused.Unread.{told-so}
use Rattle.dir_walk.proofs.Walked.WalkedAt.{same_root}

-- ---- rules that are fit to be read are read

fit-file : (s : TreeAndObjects) (path : List ℕ) (at : LookupResult) → is_readable_rules_file at ≡ true → (l : Option (List ℕ)) × (list_bytes_of_file_lookup path at ≡ Ok l)
fit-file s path absent e = (None, refl)
fit-file s path (found (directory names)) e = (None, refl)
fit-file s path (found (file bytes)) e = (Some bytes, refl)
fit-file s path (found (link target)) e = absurd (cc e)
fit-file s path (found other) e = absurd (cc e)
fit-file s path too_many_links e = absurd (cc e)

fit-object : (id : List ℕ) (object : Option Object) → is_blob_object object ≡ true → (l : Option (List ℕ)) × (list_bytes_of_blob id object ≡ Ok l)
fit-object id (Some (blob bytes)) e = (Some bytes, refl)
fit-object id (Some other_object) e = absurd (cc e)
fit-object id None e = absurd (cc e)

fit-list : (s : TreeAndObjects) (place : RulesPlace) → is_readable_rules_place s place ≡ true → (l : Option (List ℕ)) × (list_bytes_at_place s place ≡ Ok l)
fit-list s (in_tree path follow) e = fit-file s path (look s.tree path follow) e
fit-list s (in_store path id) e = fit-object id (object_by_id s.objects id) e

-- the text of the first place that has one
fit-first : (path : List ℕ) (l : Option (List ℕ)) (rest : Option RulesText) → (t : Option RulesText) × (text_or_next_place (rules_text_of_list_bytes path (Ok l)) (Ok rest) ≡ Ok t)
fit-first path None rest = (rest, refl)
fit-first path (Some bytes) rest = (Some (record { source = path; bytes = bytes }), refl)

fit-text : (s : TreeAndObjects) (places : List RulesPlace) → list_all (is_readable_rules_place s) places ≡ true → (t : Option RulesText) × (first_rules_text_of_places s places ≡ Ok t)
fit-text s [] e = (None, refl)
fit-text s (place ∷ places) e =
    let parts = and-split (is_readable_rules_place s place) (list_all (is_readable_rules_place s) places) e in
    let fit = fit-list s place parts.0 in
    let rest = fit-text s places parts.1 in
    let first = fit-first (path_of_rules_place place) fit.0 rest.0 in (
      first.0,
      ap (λ (l : Result (Option (List ℕ)) RulesRefusal). text_or_next_place (rules_text_of_list_bytes (path_of_rules_place place) l) (first_rules_text_of_places s places)) fit.1
          ∙ ap (λ (r : Result (Option RulesText) RulesRefusal). text_or_next_place (rules_text_of_list_bytes (path_of_rules_place place) (Ok fit.0)) r) rest.1
          ∙ first.1,
    )

fit-split : (s : TreeAndObjects) (a b : List RulesPlace) → list_all (is_readable_rules_place s) (a ++ b) ≡ true → (list_all (is_readable_rules_place s) a ≡ true) × (list_all (is_readable_rules_place s) b ≡ true)
fit-split s [] b e = (refl, e)
fit-split s (place ∷ a) b e =
    let parts = and-split (is_readable_rules_place s place) (list_all (is_readable_rules_place s) (a ++ b)) e in
    let rest = fit-split s a b parts.1 in
    (ap (λ c. c && list_all (is_readable_rules_place s) a) parts.0 ∙ rest.0, rest.1)

fit-texts : (s : TreeAndObjects) (readings : List RulesReading) → list_all (is_readable_rules_place s) (places_of_readings readings) ≡ true → (ts : List (Option RulesText)) × (rules_texts_of_readings s readings ≡ Ok ts)
fit-texts s [] e = ([], refl)
fit-texts s (r ∷ readings) e =
    let parts = fit-split s r.places (places_of_readings readings) e in
    let text = fit-text s r.places parts.0 in
    let rest = fit-texts s readings parts.1 in (
      text.0 ∷ rest.0,
      ap (λ (t : Result (Option RulesText) RulesRefusal). prepend_text_unless_refused t (rules_texts_of_readings s readings)) text.1 ∙ ap (λ (ts : RulesTextsOrRefusal). prepend_text_unless_refused (Ok text.0) ts) rest.1,
    )

fit-read : (s : TreeAndObjects) (rules : StackSetup) (d : List ℕ) → list_all (is_readable_rules_place s) (places_of_directory rules d) ≡ true → is_read_without_refusal (rules_texts_of_directory rules s d) ≡ true
unfolding rules_texts_of_directory
fit-read s rules d e = let read = fit-texts s (readings_of_directory rules d) e in ap is_read_without_refusal read.1

module _ (s : TreeAndObjects) (rules : StackSetup) (path : List ℕ) (fits : AreRulesReadableAbove s rules path) where
  no-ancestor : {X : Type 0} (Holds : List ℕ → Type 0) (refusal : RulesRefusal) → lookups.HoldsOfSomeAncestor (components path) Holds → ((d : List ℕ) → Holds d → rules_texts_of_directory rules s d ≡ Err refusal) → X
  no-ancestor Holds refusal h is =
      absurd
      (let f : true ≡ false = sym (fit-read s rules (slash_joined_components h.ancestor) (fits h.ancestor h.rest h.above)) ∙ ap is_read_without_refusal (is (slash_joined_components h.ancestor) h.holds) in cc f)

  -- the lookup of a path above which they are fit is not refused
  no-refusal : {X : Type 0} (before now store_before store_now : ℕ) (e : AtPathError) → CountNotIncreased before now → CountNotIncreased store_before store_now
      → lookups.HoldsOnFaultError (CountIncreasedOrSaturated before now) (CountIncreasedOrSaturated store_before store_now) e → ((e ≡ inner.OutOfMemory) → ⊥) → lookups.ExplainsLookupErrorInTree s rules (components path) e → X
  no-refusal before now store_before store_now inner.NotNormal quiet store_quiet cause some h = absurd h
  no-refusal before now store_before store_now (inner.Component why) quiet store_quiet cause some h = absurd h
  no-refusal before now store_before store_now (inner.Collision at) quiet store_quiet cause some h = absurd h
  no-refusal before now store_before store_now (inner.Directory at why) quiet store_quiet cause some h = absurd h
  no-refusal before now store_before store_now (inner.RulesFile at whys.Link) quiet store_quiet cause some h = no-ancestor _ (of_file at whys.Link) h (λ d r. r.why_is.1 s (told-so s))
  no-refusal before now store_before store_now (inner.RulesFile at whys.LinkLimit) quiet store_quiet cause some h = no-ancestor _ (of_file at whys.LinkLimit) h (λ d r. r.why_is s (told-so s))
  no-refusal before now store_before store_now (inner.RulesFile at whys.Special) quiet store_quiet cause some h = no-ancestor _ (of_file at whys.Special) h (λ d r. r.why_is s (told-so s))
  no-refusal before now store_before store_now (inner.RulesFile at whys.Fault) quiet store_quiet cause some h = absurd (omega (arith, cause, quiet))
  no-refusal before now store_before store_now (inner.Blob id blob_whys.Missing) quiet store_quiet cause some h = no-ancestor _ (of_blob id blob_whys.Missing) h (λ d r. r.why_is s (told-so s))
  no-refusal before now store_before store_now (inner.Blob id blob_whys.NotABlob) quiet store_quiet cause some h = no-ancestor _ (of_blob id blob_whys.NotABlob) h (λ d r. r.why_is s (told-so s))
  no-refusal before now store_before store_now (inner.Blob id blob_whys.Fault) quiet store_quiet cause some h = absurd (omega (arith, cause, store_quiet))
  no-refusal before now store_before store_now inner.OutOfMemory quiet store_quiet cause some h = absurd (some refl)

-- ---- a directory can be listed

directory-names : (at : LookupResult) → kind_of_lookup at ≡ Some nodes.Directory → (names : Names) × (at ≡ found (directory names))
directory-names at is = named-directory at (ap (λ (n : Option NodeKind). is_some_directory_kind (option_map from_node_kind n)) is)

is-listed : {X : Type 0} (t : Names) (full : List ℕ) (follow : Bool) (why : ListError) → IsDirectory t full → list_of (look t full follow) ≡ Err why → X
is-listed t full false why is e =
    let at = directory-names (look t full false) is in absurd (let f : list_of (found (directory at.0)) ≡ Err why = ap list_of (sym at.1) ∙ e in cc f)
is-listed t full true why is e =
    let at = directory-names (look t full false) is in
    absurd (let f : list_of (found (directory at.0)) ≡ Err why = ap list_of (sym (look-follow at.0 t full at.1)) ∙ e in cc f)

some-rules : {X : Type 0} (made : Option StackSetup) {P Q : StackSetup → Type 0} → IfSome made P → IsSomeAnd made Q → ((rules : StackSetup) → P rules → Q rules → X) → X
some-rules None all h so = absurd h
some-rules (Some rules) all h so = so rules all h

-- ---- the walk

module _ (s : TreeAndObjects) (made : Option StackSetup) (given : WalkSetting) (explicit : Option (List ℕ)) (limit before now store_before store_now raised_before raised_now : ℕ)
    (quiet : CountNotIncreased before now) (store_quiet : CountNotIncreased store_before store_now) (calm : CountNotIncreased raised_before raised_now) (v : IsWalkableInput given made s explicit limit) where
  abbrev Cause : Error → Type 0
  Cause e = HoldsIfFaultError (CountIncreasedOrSaturated before now) (CountIncreasedOrSaturated store_before store_now) e

  abbrev w : WalkResult
  w = walk_result_from_root_or_empty given made s v.start

  abbrev all : PathEvidence
  all = evidence_from_setting_and_sources given made s

  not-broken : {X : Type 0} (why : ListError) (path : List ℕ) → IsIndexedDirectoryUnlistable s.tree all given.root w ⊥ why path → X
  not-broken why path h =
      is-listed s.tree (root_joined_with_relative given.root h.below) false why
      (v.held h.below (inr (or-right (is_text_in_list h.below w.entered) (is_text_in_list h.below w.broken) (not-failed h.broken))) (inl h.indexed))
      (subst (λ (p : List ℕ). list_of (look s.tree p false) ≡ Err why) h.path_is h.node)

  start-directory : (end_of_way_to_root given made s v.start).whole ≡ true → IsClassedAsDirectoryWithoutDisk given.options all v.start (end_of_way_to_root given made s v.start).class → IsDirectory s.tree (root_joined_with_relative given.root v.start)
  start-directory whole (inl up) = v.held v.start (inl (refl, whole)) (inl up)
  start-directory whole (inr (inl up)) = v.held v.start (inl (refl, whole)) (inr (inl up))
  start-directory whole (inr (inr (inl set))) = v.held v.start (inl (refl, whole)) (inr (inr set))
  start-directory whole (inr (inr (inr h))) = v.start_repository whole h.1

  not-broken-start : {X : Type 0} (why : ListError) (path : List ℕ) → IsEnteredRootUnlistable given made s v.start why path → X
  not-broken-start why path h = is-listed s.tree (root_joined_with_relative given.root v.start) (is_empty v.start) why (start-directory (and_left (end_of_way_to_root given made s v.start).whole _ h.entered) h.held) h.node

  not-refused : {X : Type 0} (e : AtPathError) → lookups.HoldsOnFaultError (CountIncreasedOrSaturated before now) (CountIncreasedOrSaturated store_before store_now) e
      → IsSomeAnd made (λ rules. IsRulesErrorOnWayToRoot given made s v.start rules (CountIncreasedOrSaturated store_before store_now) e ⊎ IsLookupErrorOfAskedPath s rules w ⊥ e) → X
  not-refused e cause h = some-rules made v.rules h go
    where
      go : {X : Type 0} (rules : StackSetup) → ((path : List ℕ) → IsPathOnWayToRoot v.start path ⊎ (is_text_in_list path w.asked ≡ true) → AreRulesReadableAbove s rules path) → IsRulesErrorOnWayToRoot given made s v.start rules (CountIncreasedOrSaturated store_before store_now) e ⊎ IsLookupErrorOfAskedPath s rules w ⊥ e → X
      go rules fits (inl k) = no-refusal s rules k.path (fits k.path (inl k.leads)) before now store_before store_now e quiet store_quiet cause k.access.some_memory k.refused
      go rules fits (inr k) = no-refusal s rules k.path (fits k.path (inr (not-failed k.asked))) before now store_before store_now e quiet store_quiet cause k.access.some_memory k.refused

  start-memory : (e : Error) → Cause e → HoldsIfInterrupted (CountIncreasedOrSaturated raised_before raised_now) e → IsErrorFromRootBySources given made s v.start limit (CountIncreasedOrSaturated store_before store_now) e → e ≡ errors.OutOfMemory
  start-memory errors.Interrupted cause raised h = absurd (omega (arith, raised, calm))
  start-memory (errors.WorktreeRootIsFile path) cause raised h = absurd (h.node v.top)
  start-memory (errors.NormalizeRoot path) cause raised h = absurd h
  start-memory (errors.SymlinkInRoot path top index) cause raised h = absurd h
  start-memory (errors.SymlinkMetadata path why) cause raised h = absurd h
  start-memory (errors.ExcludesAccess e) cause raised h = not-refused e cause h
  start-memory (errors.TooDeep path) cause raised h =
      absurd (let within : _ ≤ limit = v.depth h.below (not-failed h.to_enter) in omega (arith, h.deep, within))
  start-memory (errors.ReadDir path reads.Absent) cause raised (inl h) = not-broken-start lists.Absent path h
  start-memory (errors.ReadDir path reads.NotADirectory) cause raised (inl h) = not-broken-start lists.NotADirectory path h
  start-memory (errors.ReadDir path reads.Absent) cause raised (inr h) = not-broken lists.Absent path h
  start-memory (errors.ReadDir path reads.NotADirectory) cause raised (inr h) = not-broken lists.NotADirectory path h
  start-memory (errors.ReadDir path reads.Fault) cause raised h = absurd (omega (arith, cause, quiet))
  start-memory (errors.DirEntry path) cause raised h = absurd (omega (arith, cause, quiet))
  start-memory errors.OutOfMemory cause raised h = refl

  no-end : (e : Error) → Cause e → IsErrorOfRootResult (find_traversal_root given s.tree explicit) e → e ≡ errors.OutOfMemory
  no-end errors.Interrupted cause h = absurd h
  no-end (errors.WorktreeRootIsFile path) cause h = absurd h
  no-end (errors.NormalizeRoot path) cause h = absurd (let f = sym h ∙ v.start_is in cc f)
  no-end (errors.SymlinkInRoot path top index) cause h = absurd (let f = sym h ∙ v.start_is in cc f)
  no-end (errors.SymlinkMetadata path metadata.Absent) cause h = absurd (let f = sym h ∙ v.start_is in cc f)
  no-end (errors.SymlinkMetadata path metadata.Fault) cause h = absurd (omega (arith, cause, quiet))
  no-end (errors.ExcludesAccess e) cause h = absurd h
  no-end (errors.TooDeep path) cause h = absurd h
  no-end (errors.ReadDir path why) cause h = absurd h
  no-end (errors.DirEntry path) cause h = absurd h
  no-end errors.OutOfMemory cause h = refl

  -- where nothing failed and nothing was raised, want of memory alone is left
  pub walkable-memory : (e : Error) → Cause e → HoldsIfInterrupted (CountIncreasedOrSaturated raised_before raised_now) e → IsWholeWalkErrorBySources given made s explicit limit (CountIncreasedOrSaturated store_before store_now) e → e ≡ errors.OutOfMemory
  walkable-memory e cause raised (inl h) = no-end e cause h
  walkable-memory e cause raised (inr h) = start-memory e cause raised (subst (λ (p : List ℕ). IsErrorFromRootBySources given made s p limit (CountIncreasedOrSaturated store_before store_now) e) (same_root (sym h.1 ∙ v.start_is)) h.2)

module _ (s : TreeAndObjects) (made : Option StackSetup) (given : WalkSetting) (explicit : Option (List ℕ)) (limit before now store_before store_now raised_before raised_now : ℕ) where
  pub valid-memory : (e : Error) → HoldsIfFaultError (CountIncreasedOrSaturated before now) (CountIncreasedOrSaturated store_before store_now) e → HoldsIfInterrupted (CountIncreasedOrSaturated raised_before raised_now) e → IsWholeWalkErrorBySources given made s explicit limit (CountIncreasedOrSaturated store_before store_now) e
      → CountNotIncreased before now → CountNotIncreased store_before store_now → CountNotIncreased raised_before raised_now → HasReportOrIsWalkable given made s explicit limit → e ≡ errors.OutOfMemory
  valid-memory e cause raised h quiet store_quiet calm (inl is) =
      only-memory s made given explicit limit before now store_before store_now raised_before raised_now e cause raised h quiet store_quiet calm is
  valid-memory e cause raised h quiet store_quiet calm (inr v) =
      walkable-memory s made given explicit limit before now store_before store_now raised_before raised_now quiet store_quiet calm v e cause raised h
