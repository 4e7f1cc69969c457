-- What the readings of a directory ask, by what a stack was made with.
use Rattle.std.specs.Prelude.{◌≡◌, ◌≤◌, ◌||◌, ℕ, Bool, true, false, List, [], ◌∷◌, ◌++◌, Option, Some, None, is_some}
use Rattle.std.proofs.Common.{refl, ap, ◌∙◌, arith}
use Rattle.std.proofs.lemmas.List.{append-nil}
use Rattle.gitbase_core.specs.Path.{path_joined_with_slash}
use Rattle.worktree_fs.specs.Paths.{root_joined_with_relative}
use Rattle.worktree_stack.specs.declared.attributes_source.Source.{Source as AttributesSource}
use Rattle.worktree_stack.specs.declared.attributes_source.Source.TheVariants as attributes_sources
use Rattle.worktree_stack.specs.declared.ignore_source.Source.{Source}
use Rattle.worktree_stack.specs.declared.ignore_source.Source.TheVariants.{IdMapping, WorktreeThenIdMappingIfNotSkipped}
use Rattle.worktree_stack.specs.Counted.{number_of_worktree_places, number_of_store_places}
use Rattle.worktree_stack.specs.Lookups.{ignore_source_reads_worktree, ignore_setup_reads_worktree, attributes_source_reads_worktree, attributes_setup_reads_worktree, stack_setup_reads_worktree}
use Rattle.worktree_stack.specs.Reading.{RulesReading, places_of_readings, ignore_places_by_source, attribute_places_by_source, ignore_places_of_directory, attribute_places_of_directory, ignore_readings_of_directory, gitattributes_readings_of_directory, info_file_readings_at_root, info_file_readings_of_setup, attribute_readings_of_directory, readings_of_directory, rules_texts_of_readings, rules_texts_of_directory}
use Rattle.worktree_stack.specs.Setup.{AttributesSetup, Setup, StackSetup, RulesFileMapping, gitattributes_file_name, has_attributes, blob_id_mapped_to_path}
use Rattle.gitbase_core.specs.Objects.{ObjectsById}
use Rattle.worktree_fs.specs.Tree.{Names}
use Rattle.worktree_stack.specs.declared.error.AtPathError.{AtPathError}
use Rattle.worktree_stack.specs.Refused.{IsReadingRefused, IsDirectoryReadingRefused}
use Rattle.worktree_stack.proofs.Rules.Readings.{files-both, blobs-both}

neither : (a b : Bool) → (a || b) ≡ false → (a ≡ false) × (b ≡ false)
neither false false e = (refl, refl)
neither false true e = absurd (cc e)
neither true b e = absurd (cc e)

-- ---- the places of one reading

ignore-files : (source : Source) (whole path : List ℕ) (mapped : Option (List ℕ)) → ignore_source_reads_worktree source ≡ false → number_of_worktree_places (ignore_places_by_source source whole path mapped) ≡ 0
ignore-files IdMapping whole path None e = refl
ignore-files IdMapping whole path (Some id) e = refl
ignore-files WorktreeThenIdMappingIfNotSkipped whole path mapped e = absurd (cc e)

ignore-one : (source : Source) (whole path : List ℕ) (mapped : Option (List ℕ)) → number_of_worktree_places (ignore_places_by_source source whole path mapped) ≤ 1
ignore-one IdMapping whole path None = omega arith
ignore-one IdMapping whole path (Some id) = omega arith
ignore-one WorktreeThenIdMappingIfNotSkipped whole path None = omega arith
ignore-one WorktreeThenIdMappingIfNotSkipped whole path (Some id) = omega arith

ignore-blobs : (source : Source) (whole path : List ℕ) (mapped : Option (List ℕ)) → mapped ≡ None → number_of_store_places (ignore_places_by_source source whole path mapped) ≡ 0
ignore-blobs IdMapping whole path None e = refl
ignore-blobs WorktreeThenIdMappingIfNotSkipped whole path None e = refl
ignore-blobs source whole path (Some id) e = absurd (cc e)

attribute-files : (source : AttributesSource) (whole path : List ℕ) (mapped : Option (List ℕ)) → attributes_source_reads_worktree source ≡ false → number_of_worktree_places (attribute_places_by_source source whole path mapped) ≡ 0
attribute-files attributes_sources.IdMapping whole path None e = refl
attribute-files attributes_sources.IdMapping whole path (Some id) e = refl
attribute-files attributes_sources.IdMappingThenWorktree whole path mapped e = absurd (cc e)
attribute-files attributes_sources.WorktreeThenIdMapping whole path mapped e = absurd (cc e)

attribute-blobs : (source : AttributesSource) (whole path : List ℕ) (mapped : Option (List ℕ)) → mapped ≡ None → number_of_store_places (attribute_places_by_source source whole path mapped) ≡ 0
attribute-blobs attributes_sources.IdMapping whole path None e = refl
attribute-blobs attributes_sources.IdMappingThenWorktree whole path None e = refl
attribute-blobs attributes_sources.WorktreeThenIdMapping whole path None e = refl
attribute-blobs source whole path (Some id) e = absurd (cc e)

-- ---- the readings of a directory

module _ (made : StackSetup) (d : List ℕ) where
  ignore-unasked : (setup : Option Setup) → ignore_setup_reads_worktree setup ≡ false → number_of_worktree_places (places_of_readings (ignore_readings_of_directory made setup d)) ≡ 0
  ignore-unasked None e = refl
  ignore-unasked (Some setup) e = ap number_of_worktree_places (append-nil (ignore_places_of_directory made setup d)) ∙ ignore-files setup.source _ _ _ e

  ignore-least : (setup : Option Setup) → number_of_worktree_places (places_of_readings (ignore_readings_of_directory made setup d)) ≤ 1
  ignore-least None = omega arith
  ignore-least (Some setup) = omega (arith, ap number_of_worktree_places (append-nil (ignore_places_of_directory made setup d)), ignore-one setup.source (root_joined_with_relative made.root (path_joined_with_slash d setup.file_name)) (path_joined_with_slash d setup.file_name) (blob_id_mapped_to_path made.mappings (path_joined_with_slash d setup.file_name)))

  ignore-unmapped : (setup : Option Setup) → made.mappings ≡ [] → number_of_store_places (places_of_readings (ignore_readings_of_directory made setup d)) ≡ 0
  ignore-unmapped None e = refl
  ignore-unmapped (Some setup) e = ap number_of_store_places (append-nil (ignore_places_of_directory made setup d)) ∙ ignore-blobs setup.source (root_joined_with_relative made.root (path_joined_with_slash d setup.file_name)) (path_joined_with_slash d setup.file_name) (blob_id_mapped_to_path made.mappings (path_joined_with_slash d setup.file_name)) (ap (λ (m : List RulesFileMapping). blob_id_mapped_to_path m (path_joined_with_slash d setup.file_name)) e)

  own-unasked : (setup : Option AttributesSetup) → attributes_setup_reads_worktree setup ≡ false → number_of_worktree_places (places_of_readings (gitattributes_readings_of_directory made setup d)) ≡ 0
  own-unasked None e = refl
  own-unasked (Some setup) e = ap number_of_worktree_places (append-nil (attribute_places_of_directory made setup d)) ∙ attribute-files setup.source _ _ _ (neither _ _ e).1

  own-unmapped : (setup : Option AttributesSetup) → made.mappings ≡ [] → number_of_store_places (places_of_readings (gitattributes_readings_of_directory made setup d)) ≡ 0
  own-unmapped None e = refl
  own-unmapped (Some setup) e = ap number_of_store_places (append-nil (attribute_places_of_directory made setup d)) ∙ attribute-blobs setup.source (root_joined_with_relative made.root (path_joined_with_slash d gitattributes_file_name)) (path_joined_with_slash d gitattributes_file_name) (blob_id_mapped_to_path made.mappings (path_joined_with_slash d gitattributes_file_name)) (ap (λ (m : List RulesFileMapping). blob_id_mapped_to_path m (path_joined_with_slash d gitattributes_file_name)) e)

  info-none : (info : Option (List ℕ)) (d : List ℕ) → is_some info ≡ false → number_of_worktree_places (places_of_readings (info_file_readings_at_root info d)) ≡ 0
  info-none None d e = refl
  info-none (Some path) d e = absurd (cc e)

  info-unasked : (setup : Option AttributesSetup) → attributes_setup_reads_worktree setup ≡ false → number_of_worktree_places (places_of_readings (info_file_readings_of_setup setup d)) ≡ 0
  info-unasked None e = refl
  info-unasked (Some setup) e = info-none setup.info d (neither _ _ e).0

  info-blobs : (info : Option (List ℕ)) (d : List ℕ) → number_of_store_places (places_of_readings (info_file_readings_at_root info d)) ≡ 0
  info-blobs None d = refl
  info-blobs (Some path) [] = refl
  info-blobs (Some path) (b ∷ bs) = refl

  info-unmapped : (setup : Option AttributesSetup) → number_of_store_places (places_of_readings (info_file_readings_of_setup setup d)) ≡ 0
  info-unmapped None = refl
  info-unmapped (Some setup) = info-blobs setup.info d

  -- no file is looked for in the worktree, where it is not asked
  pub files-unasked : stack_setup_reads_worktree made ≡ false → number_of_worktree_places (places_of_readings (readings_of_directory made d)) ≡ 0
  files-unasked none =
      let apart = neither (attributes_setup_reads_worktree made.attributes) (ignore_setup_reads_worktree made.ignore) none in
      let own : List RulesReading = gitattributes_readings_of_directory made made.attributes d in
      let info : List RulesReading = info_file_readings_of_setup made.attributes d in
      omega (arith, files-both (own ++ info) (ignore_readings_of_directory made made.ignore d), files-both own info, own-unasked made.attributes apart.0, info-unasked made.attributes apart.0, ignore-unasked made.ignore apart.1)

  -- no blob is asked for, where nothing is mapped
  pub blobs-unmapped : made.mappings ≡ [] → number_of_store_places (places_of_readings (readings_of_directory made d)) ≡ 0
  blobs-unmapped none =
      let own : List RulesReading = gitattributes_readings_of_directory made made.attributes d in
      let info : List RulesReading = info_file_readings_of_setup made.attributes d in
      omega (arith, blobs-both (own ++ info) (ignore_readings_of_directory made made.ignore d), blobs-both own info, own-unmapped made.attributes none, info-unmapped made.attributes, ignore-unmapped made.ignore none)

  no-attributes : (setup : Option AttributesSetup) → is_some setup ≡ false → number_of_worktree_places (places_of_readings (attribute_readings_of_directory made setup d)) ≡ 0
  no-attributes None e = refl
  no-attributes (Some setup) e = absurd (cc e)

  -- one file at most, where there are ignore rules alone
  pub files-alone : has_attributes made ≡ false → number_of_worktree_places (places_of_readings (readings_of_directory made d)) ≤ 1
  files-alone alone =
      omega (arith, files-both (attribute_readings_of_directory made made.attributes d) (ignore_readings_of_directory made made.ignore d), no-attributes made.attributes alone, ignore-least made.ignore)

-- the readings of a directory are refused as a list
pub refuses-at : (told : Option Names) (holds : Option ObjectsById) (TF SF : Type 0) (made : StackSetup) (d : List ℕ) (e : AtPathError)
    → IsReadingRefused told holds TF SF (places_of_readings (readings_of_directory made d)) (λ s. rules_texts_of_readings s (readings_of_directory made d)) e → IsDirectoryReadingRefused told holds TF SF made d e
unfolding rules_texts_of_directory
refuses-at told holds TF SF made d e said = said
