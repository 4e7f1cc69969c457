-- The rules file of a directory that is new.
use Rattle.std.specs.Prelude.{◌≡◌, ◌&&◌, ℕ, zero, suc, Bool, true, false, List, [], ◌∷◌, ◌++◌, reverse, Option, Some, None, Ok}
use Rattle.std.proofs.Common.{inl, inr, refl, sym, ap, ◌∙◌, subst}
use Rattle.std.proofs.lemmas.List.{append-nil}
use Rattle.std.proofs.lemmas.Str.{is_utf8-from_IsUtf8}
use Rattle.std.proofs.lemmas.Str.{IsUtf8-from_ascii}
use Rattle.std.specs.Prelude.{IsAscii}
use Rattle.std.proofs.Common.{lit<}
use Rattle.gitbase_core.specs.Path.{components, path_joined_with_slash}
use Rattle.gitbase_core.proofs.Names as gitbase
use Rattle.worktree_fs.specs.ByNames.{descendant_by_names, ResolutionAgreesWithNames}
use Rattle.worktree_fs.specs.Naming.{IsValidEntryName}
use Rattle.worktree_fs.specs.Paths.{root_joined_with_relative, slash_joined_components}
use Rattle.worktree_fs.specs.Last.{last_name_of_resolution}
use Rattle.worktree_fs.specs.Tree.{Names, Node, PathResolution, reached, missing, nowhere, endless, directory, none, child_by_name, look, lookup_result_of_resolution, resolution_of_path, found, is_utf8_without_nul}
use Rattle.worktree_fs.proofs.Routes.ByNames.{node_at-last, spot-by_names}
use Rattle.worktree_fs.proofs.Routes.Follow.{look-follow}
use Rattle.worktree_fs.proofs.Routes.FullPaths.{closed, full_path-joined}
use Rattle.worktree_fs.proofs.Routes.Join.{last-joined}
use Rattle.worktree_fs.proofs.Paths.Spelled.{AreNames-reverse, components-spelled, name_from}
use Rattle.worktree_stack.specs.declared.attributes_source.Source.{Source as AttributesSource}
use Rattle.worktree_stack.specs.declared.attributes_source.Source.TheVariants as attributes_sources
use Rattle.worktree_stack.specs.ChecksOut.{ReadSameAtPlaces}
use Rattle.worktree_stack.specs.GoesOn.{IsDeepestDirectoryEmpty, KeepsDirectoriesAndNewNodesAreDirectories}
use Rattle.worktree_stack.specs.Reading.{RulesPlace, in_tree, in_store, RulesReading, list_bytes_of_file_lookup, places_of_readings, places_of_directory, attribute_places_by_source, attribute_places_of_directory, info_file_readings_at_root, attribute_readings_of_directory, gitattributes_readings_of_directory, ignore_readings_of_directory}
use Rattle.worktree_stack.specs.Refused.{IsPlaceAmong}
use Rattle.worktree_stack.specs.Setup.{AttributesSetup, StackSetup, Setup, gitattributes_file_name, blob_id_mapped_to_path}
use Rattle.worktree_stack.proofs.CheckOut.LaterTrees.{later-refl, node_of_last, nothing-last}
use Rattle.worktree_stack.proofs.Rules.SameRead.{places-both}

module _ (a b : Names) (whole : List ℕ) where
  abbrev AtWhole : List RulesPlace → Type 0
  AtWhole places = (path : List ℕ) (follow : Bool) → IsPlaceAmong places (in_tree path follow) → (path ≡ whole) × (follow ≡ false)

  among-none : AtWhole []
  among-none path follow x = absurd (clash x.before x.after x.among)
    where
      clash : (before after : List RulesPlace) → [] ≡ before ++ in_tree path follow ∷ after → ⊥
      clash [] after e = cc e
      clash (p ∷ before) after e = cc e

  among-next : (place : RulesPlace) (places : List RulesPlace) → ((path : List ℕ) (follow : Bool) → place ≡ in_tree path follow → (path ≡ whole) × (follow ≡ false)) → AtWhole places → AtWhole (place ∷ places)
  among-next place places first rest path follow x = go x.before x.after x.among
    where
      go : (before after : List RulesPlace) → place ∷ places ≡ before ++ in_tree path follow ∷ after → (path ≡ whole) × (follow ≡ false)
      go [] after e = first path follow (ap head-place e)
        where
          head-place : List RulesPlace → RulesPlace
          head-place [] = place
          head-place (p ∷ ps) = p
      go (p ∷ before) after e = rest path follow (record { before = before; after = after; among = ap tail-places e })
        where
          tail-places : List RulesPlace → List RulesPlace
          tail-places [] = []
          tail-places (p ∷ ps) = ps

  of-tree : (path : List ℕ) (follow : Bool) → in_tree whole false ≡ in_tree path follow → (path ≡ whole) × (follow ≡ false)
  of-tree path follow e = (cc, cc)

  of-store : (p id path : List ℕ) (follow : Bool) → in_store p id ≡ in_tree path follow → (path ≡ whole) × (follow ≡ false)
  of-store p id path follow e = absurd (cc e)

  at-whole : (source : AttributesSource) (p : List ℕ) (mapped : Option (List ℕ)) → AtWhole (attribute_places_by_source source whole p mapped)
  at-whole attributes_sources.IdMapping p None = among-none
  at-whole attributes_sources.IdMapping p (Some id) = among-next (in_store p id) [] (of-store p id) among-none
  at-whole attributes_sources.IdMappingThenWorktree p None = among-next (in_tree whole false) [] of-tree among-none
  at-whole attributes_sources.IdMappingThenWorktree p (Some id) = among-next (in_store p id) [] (of-store p id) among-none
  at-whole attributes_sources.WorktreeThenIdMapping p None = among-next (in_tree whole false) [] of-tree among-none
  at-whole attributes_sources.WorktreeThenIdMapping p (Some id) = among-next (in_tree whole false) (in_store p id ∷ []) of-tree (among-next (in_store p id) [] (of-store p id) among-none)

-- its rules file is not there, or is a directory that was made, and so later too
nothing-read : (t : Names) (whole : List ℕ) (trail : List (List ℕ)) (name : List ℕ) → last_name_of_resolution (resolution_of_path t whole false) ≡ Some (record { name = name; node = None }) → list_bytes_of_file_lookup whole (look t whole false) ≡ Ok None
nothing-read t whole trail name e = ap (λ (at : PathResolution). list_bytes_of_file_lookup whole (lookup_result_of_resolution at)) (nothing-last (resolution_of_path t whole false) name e).1

directory-last : (at : PathResolution) (name : List ℕ) (inner : Names) → last_name_of_resolution at ≡ Some (record { name = name; node = Some (directory inner) }) → lookup_result_of_resolution at ≡ found (directory inner)
directory-last (reached [] node) name inner e = absurd (cc e)
directory-last (reached (n ∷ below) node) name inner e = ap found (some-node (ap node_of_last e))
  where
    some-node : Some node ≡ Some (directory inner) → node ≡ directory inner
    some-node e = cc e
directory-last (missing [] rest) name inner e = absurd (cc e)
directory-last (missing (n ∷ below) []) name inner e = absurd (cc (ap node_of_last e))
directory-last (missing (n ∷ below) (piece ∷ rest)) name inner e = absurd (cc e)
directory-last nowhere name inner e = absurd (cc e)
directory-last endless name inner e = absurd (cc e)

rules-ascii : IsAscii gitattributes_file_name
rules-ascii zero = lit< tt
rules-ascii (suc zero) = lit< tt
rules-ascii (suc (suc zero)) = lit< tt
rules-ascii (suc (suc (suc zero))) = lit< tt
rules-ascii (suc (suc (suc (suc zero)))) = lit< tt
rules-ascii (suc (suc (suc (suc (suc zero))))) = lit< tt
rules-ascii (suc (suc (suc (suc (suc (suc zero)))))) = lit< tt
rules-ascii (suc (suc (suc (suc (suc (suc (suc zero))))))) = lit< tt
rules-ascii (suc (suc (suc (suc (suc (suc (suc (suc zero)))))))) = lit< tt
rules-ascii (suc (suc (suc (suc (suc (suc (suc (suc (suc zero))))))))) = lit< tt
rules-ascii (suc (suc (suc (suc (suc (suc (suc (suc (suc (suc zero)))))))))) = lit< tt
rules-ascii (suc (suc (suc (suc (suc (suc (suc (suc (suc (suc (suc zero))))))))))) = lit< tt
rules-ascii (suc (suc (suc (suc (suc (suc (suc (suc (suc (suc (suc (suc zero)))))))))))) = lit< tt
rules-ascii (suc (suc (suc (suc (suc (suc (suc (suc (suc (suc (suc (suc (suc zero))))))))))))) = lit< tt
rules-ascii (suc (suc (suc (suc (suc (suc (suc (suc (suc (suc (suc (suc (suc (suc i)))))))))))))) = lit< tt

rules-name : IsValidEntryName gitattributes_file_name
unfolding is_utf8_without_nul
rules-name = ap (λ b. (b && true) && true && true && true && true) (is_utf8-from_IsUtf8 gitattributes_file_name (IsUtf8-from_ascii gitattributes_file_name rules-ascii))

module _ (t end : Names) (later : KeepsDirectoriesAndNewNodesAreDirectories t end) (above : List ℕ) (trail : List (List ℕ)) (fresh : resolution_of_path t above false ≡ reached trail (directory none)) where
  named-rules : IsValidEntryName gitattributes_file_name
  named-rules = rules-name

  fresh-then : list_bytes_of_file_lookup (path_joined_with_slash above gitattributes_file_name) (look end (path_joined_with_slash above gitattributes_file_name) false) ≡ Ok None
  fresh-then =
      let x = later.stays above trail none fresh in
      let there : look end above true ≡ found (directory x.0) = look-follow x.0 end above (ap lookup_result_of_resolution x.1) in
      let last = last-joined x.0 gitattributes_file_name named-rules end above there in
      let here : descendant_by_names (reverse trail) (Some (directory t)) ≡ Some (directory none) = subst (ResolutionAgreesWithNames t) fresh (spot-by_names t above false) in
      let now : descendant_by_names (reverse trail) (Some (directory end)) ≡ Some (directory x.0) = subst (ResolutionAgreesWithNames end) x.1 (spot-by_names end above false) in
      let was : descendant_by_names (reverse (gitattributes_file_name ∷ trail)) (Some (directory t)) ≡ None = node_at-last trail gitattributes_file_name t none here in
      let is : descendant_by_names (reverse (gitattributes_file_name ∷ trail)) (Some (directory end)) ≡ child_by_name x.0 gitattributes_file_name = node_at-last trail gitattributes_file_name end x.0 now in
      elim (later.grows (gitattributes_file_name ∷ trail) was) [
        | inl still ↦ nothing-read end (path_joined_with_slash above gitattributes_file_name) trail gitattributes_file_name (last ∙ ap (λ (o : Option Node). Some (record { name = gitattributes_file_name; node = o })) (sym is ∙ still))
        | inr (more, e) ↦ ap (list_bytes_of_file_lookup (path_joined_with_slash above gitattributes_file_name)) (directory-last (resolution_of_path end (path_joined_with_slash above gitattributes_file_name) false) gitattributes_file_name more (last ∙ ap (λ (o : Option Node). Some (record { name = gitattributes_file_name; node = o })) (sym is ∙ e)))
      ]

fresh-now : (t : Names) (above : List ℕ) (trail : List (List ℕ)) → resolution_of_path t above false ≡ reached trail (directory none) → list_bytes_of_file_lookup (path_joined_with_slash above gitattributes_file_name) (look t (path_joined_with_slash above gitattributes_file_name) false) ≡ Ok None
fresh-now t above trail fresh = fresh-then t t (later-refl t) above trail fresh

spelled-some : (name : List ℕ) (names : List (List ℕ)) → gitbase.AreNames (name ∷ names) → slash_joined_components (name ∷ names) ≡ [] → ⊥
spelled-some name names are e = clash (sym (components-spelled (name ∷ names) are) ∙ ap components e)
  where
    clash : name ∷ names ≡ [] → ⊥
    clash e = cc e

no-info : (info : Option (List ℕ)) (d : List ℕ) → (d ≡ [] → ⊥) → places_of_readings (info_file_readings_at_root info d) ≡ []
no-info None d some = refl
no-info (Some path) [] some = absurd (some refl)
no-info (Some path) (b ∷ bs) some = refl

-- the readings of a directory that is new are the same later
pub fresh-same : (made : StackSetup) (t end : Names) (name : List ℕ) (names : List (List ℕ)) → made.ignore ≡ None → gitbase.AreNames (name ∷ names) → KeepsDirectoriesAndNewNodesAreDirectories t end → IsDeepestDirectoryEmpty made.root t (Some (name ∷ names))
    → ReadSameAtPlaces t end (places_of_directory made (slash_joined_components (name ∷ names)))
fresh-same made t end name names alone are later fresh = all made.attributes made.ignore alone
  where
    d : List ℕ
    d = slash_joined_components (name ∷ names)

    above : List ℕ
    above = root_joined_with_relative made.root d

    whole : List ℕ
    whole = root_joined_with_relative made.root (path_joined_with_slash d gitattributes_file_name)

    whole-is : whole ≡ path_joined_with_slash above gitattributes_file_name
    whole-is = sym (full_path-joined made.root d gitattributes_file_name (closed (reverse (name ∷ names)) (AreNames-reverse (name ∷ names) are)) (name_from gitattributes_file_name refl))

    both : list_bytes_of_file_lookup whole (look t whole false) ≡ list_bytes_of_file_lookup whole (look end whole false)
    both = subst (λ p. list_bytes_of_file_lookup p (look t p false) ≡ list_bytes_of_file_lookup p (look end p false)) (sym whole-is) (fresh-now t above fresh.0 fresh.1 ∙ sym (fresh-then t end later above fresh.0 fresh.1))

    at : (places : List RulesPlace) → AtWhole t end whole places → ReadSameAtPlaces t end places
    at places within path follow among =
        let w = within path follow among in
        subst (λ p. list_bytes_of_file_lookup p (look t p follow) ≡ list_bytes_of_file_lookup p (look end p follow)) (sym w.0) (subst (λ b. list_bytes_of_file_lookup whole (look t whole b) ≡ list_bytes_of_file_lookup whole (look end whole b)) (sym w.1) both)

    all : (setup : Option AttributesSetup) (ignore : Option Setup) → ignore ≡ None → ReadSameAtPlaces t end (places_of_readings (attribute_readings_of_directory made setup d ++ ignore_readings_of_directory made ignore d))
    all setup (Some ignore) e = absurd (cc e)
    all None None e = at [] (among-none t end whole)
    all (Some setup) None e =
        let own : List RulesReading = gitattributes_readings_of_directory made (Some setup) d in
        let info : List RulesReading = info_file_readings_at_root setup.info d in
        let places : List RulesPlace = attribute_places_of_directory made setup d in
        let are_places : places_of_readings ((own ++ info) ++ []) ≡ places =
        ap places_of_readings (append-nil (own ++ info)) ∙ places-both own info ∙ ap (λ (l : List RulesPlace). places_of_readings own ++ l) (no-info setup.info d (spelled-some name names are)) ∙ append-nil (places_of_readings own) ∙ append-nil places in
        subst (ReadSameAtPlaces t end) (sym are_places) (at places (at-whole t end whole setup.source (path_joined_with_slash d gitattributes_file_name) (blob_id_mapped_to_path made.mappings (path_joined_with_slash d gitattributes_file_name))))
