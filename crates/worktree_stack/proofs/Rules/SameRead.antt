-- What is read alike in two trees.
use Rattle.std.specs.Prelude.{◌≡◌, ◌&&◌, ℕ, Bool, true, false, List, [], ◌∷◌, ◌++◌, Option, Some, None}
use Rattle.std.specs.List.{list_all, flat_map}
use Rattle.std.proofs.Common.{refl, sym, ap, ◌∙◌, subst, append_assoc}
use Rattle.gitbase_core.specs.Objects.{ObjectsById}
use Rattle.gitbase_core.specs.Path.{is_empty}
use Rattle.glob_rules.specs.Attributes.{AttributeList}
use Rattle.worktree_fs.specs.Paths.{slash_joined_components}
use Rattle.worktree_fs.specs.Tree.{Names, look}
use Rattle.worktree_stack.specs.ChecksOut.{ReadSameInDirectories, ReadSameAtPlaces}
use Rattle.worktree_stack.specs.Reading.{TreeAndObjects, RulesPlace, in_tree, in_store, RulesReading, list_bytes_of_file_lookup, list_bytes_at_place, path_of_rules_place, rules_text_of_list_bytes, text_or_next_place, first_rules_text_of_places, prepend_text_unless_refused, rules_texts_of_readings, places_of_readings, places_of_directory, readings_of_directory, rules_texts_of_directory, is_read_without_refusal, attribute_lists_of_directory, gitattributes_lists_of_setup, info_file_lists_at_root, info_file_lists_of_setup, attribute_places_of_directory, places_of_info_file, info_file_readings_at_root, rules_text_or_none, attribute_list_of_text, gitattributes_readings_of_directory, info_file_readings_of_setup, ignore_readings_of_directory}
use Rattle.worktree_stack.specs.Setup.{AttributesSetup, HeldAttributeLists, HeldIgnoreRules, StackSetup, setup_of_held_ignore_rules}
use Rattle.worktree_stack.specs.Stacked.{HoldsRulesOfTree}
use Rattle.worktree_stack.proofs.Lookup.InStep.{rules-none}

pub places-both : (a b : List RulesReading) → places_of_readings (a ++ b) ≡ places_of_readings a ++ places_of_readings b
places-both [] b = refl
places-both (r ∷ a) b = ap (λ (l : List RulesPlace). r.places ++ l) (places-both a b) ∙ sym (append_assoc r.places (places_of_readings a) (places_of_readings b))

both-true : (a a' b b' : Bool) → a ≡ a' → (b ≡ true → b' ≡ true) → (a && b) ≡ true → (a' && b') ≡ true
both-true true a' b b' same more e = ap (λ x. x && b') (sym same) ∙ more e
both-true false a' b b' same more e = absurd (cc e)

same-front : (a b : Names) (x y : List RulesPlace) → ReadSameAtPlaces a b (x ++ y) → ReadSameAtPlaces a b x
same-front a b x y same path follow among =
    same path follow (record { before = among.before; after = among.after ++ y; among = ap (λ (l : List RulesPlace). l ++ y) among.among ∙ append_assoc among.before (in_tree path follow ∷ among.after) y })

same-back : (a b : Names) (x y : List RulesPlace) → ReadSameAtPlaces a b (x ++ y) → ReadSameAtPlaces a b y
same-back a b x y same path follow among =
    same path follow (record { before = x ++ among.before; after = among.after; among = ap (λ (l : List RulesPlace). x ++ l) among.among ∙ sym (append_assoc x among.before (in_tree path follow ∷ among.after)) })

module _ (s s1 : TreeAndObjects) (objects : s1.objects ≡ s.objects) where
  list-same : (place : RulesPlace) → ((path : List ℕ) (follow : Bool) → place ≡ in_tree path follow → list_bytes_of_file_lookup path (look s.tree path follow) ≡ list_bytes_of_file_lookup path (look s1.tree path follow)) → list_bytes_at_place s place ≡ list_bytes_at_place s1 place
  list-same (in_tree path follow) same = same path follow refl
  list-same (in_store path id) same = ap (λ (o : ObjectsById). list_bytes_at_place (record { tree = s.tree; objects = o }) (in_store path id)) (sym objects)

  first-same : (places : List RulesPlace) → ReadSameAtPlaces s.tree s1.tree places → first_rules_text_of_places s places ≡ first_rules_text_of_places s1 places
  first-same [] same = refl
  first-same (place ∷ places) same =
      ap (λ l. text_or_next_place (rules_text_of_list_bytes (path_of_rules_place place) l) (first_rules_text_of_places s places)) (list-same place (λ path follow is. same path follow (record { before = []; after = places; among = ap (λ (p : RulesPlace). p ∷ places) is })))
      ∙ ap (text_or_next_place (rules_text_of_list_bytes (path_of_rules_place place) (list_bytes_at_place s1 place))) (first-same places (same-back s.tree s1.tree (place ∷ []) places same))

  texts-same : (readings : List RulesReading) → ReadSameAtPlaces s.tree s1.tree (places_of_readings readings) → rules_texts_of_readings s readings ≡ rules_texts_of_readings s1 readings
  texts-same [] same = refl
  texts-same (r ∷ readings) same =
      ap (λ t. prepend_text_unless_refused t (rules_texts_of_readings s readings)) (first-same r.places (same-front s.tree s1.tree r.places (places_of_readings readings) same))
      ∙ ap (prepend_text_unless_refused (first_rules_text_of_places s1 r.places)) (texts-same readings (same-back s.tree s1.tree r.places (places_of_readings readings) same))

  pub reading-same : (made : StackSetup) (d : List ℕ) → ReadSameAtPlaces s.tree s1.tree (places_of_directory made d) → rules_texts_of_directory made s d ≡ rules_texts_of_directory made s1 d
  unfolding rules_texts_of_directory
  reading-same made d same = texts-same (readings_of_directory made d) same

  own-same : (made : StackSetup) (setup : Option AttributesSetup) (d : List ℕ) → ReadSameAtPlaces s.tree s1.tree (places_of_readings (gitattributes_readings_of_directory made setup d)) → gitattributes_lists_of_setup made setup s d ≡ gitattributes_lists_of_setup made setup s1 d
  own-same made None d same = refl
  own-same made (Some setup) d same =
      ap (λ t. attribute_list_of_text (is_empty d) d (rules_text_or_none t) ∷ []) (first-same (attribute_places_of_directory made setup d) (same-front s.tree s1.tree (attribute_places_of_directory made setup d) [] same))

  info-same : (setup : Option AttributesSetup) (d : List ℕ) → ReadSameAtPlaces s.tree s1.tree (places_of_readings (info_file_readings_of_setup setup d)) → info_file_lists_of_setup setup s d ≡ info_file_lists_of_setup setup s1 d
  info-same None d same = refl
  info-same (Some setup) d same = go setup.info d same
    where
      go : (info : Option (List ℕ)) (d : List ℕ) → ReadSameAtPlaces s.tree s1.tree (places_of_readings (info_file_readings_at_root info d)) → info_file_lists_at_root info s d ≡ info_file_lists_at_root info s1 d
      go None d same = refl
      go (Some path) [] same = ap (λ t. attribute_list_of_text true [] (rules_text_or_none t) ∷ []) (first-same (places_of_info_file path) (same-front s.tree s1.tree (places_of_info_file path) [] same))
      go (Some path) (b ∷ bs) same = refl

  pub lists-same : (made : StackSetup) (names : List (List ℕ)) → ReadSameAtPlaces s.tree s1.tree (places_of_directory made (slash_joined_components names)) → attribute_lists_of_directory made s names ≡ attribute_lists_of_directory made s1 names
  lists-same made names same =
      let d : List ℕ = slash_joined_components names in
      let own : List RulesReading = gitattributes_readings_of_directory made made.attributes d in
      let info : List RulesReading = info_file_readings_of_setup made.attributes d in
      let of_both : ReadSameAtPlaces s.tree s1.tree (places_of_readings (own ++ info)) =
      same-front s.tree s1.tree (places_of_readings (own ++ info)) (places_of_readings (ignore_readings_of_directory made made.ignore d)) (subst (ReadSameAtPlaces s.tree s1.tree) (places-both (own ++ info) (ignore_readings_of_directory made made.ignore d)) same) in
      let apart : ReadSameAtPlaces s.tree s1.tree (places_of_readings own ++ places_of_readings info) = subst (ReadSameAtPlaces s.tree s1.tree) (places-both own info) of_both in
      ap (λ (l : List AttributeList). l ++ info_file_lists_of_setup made.attributes s d) (own-same made made.attributes d (same-front s.tree s1.tree (places_of_readings own) (places_of_readings info) apart))
      ∙ ap (λ (l : List AttributeList). gitattributes_lists_of_setup made made.attributes s1 d ++ l) (info-same made.attributes d (same-back s.tree s1.tree (places_of_readings own) (places_of_readings info) apart))

  -- what is held for some directories is what is read of them in both
  pub holds-same : (made : StackSetup) (directories : List (List (List ℕ))) (attributes : Option HeldAttributeLists) (ignore : Option HeldIgnoreRules) → setup_of_held_ignore_rules ignore ≡ None → ReadSameInDirectories made s.tree s1.tree directories
      → HoldsRulesOfTree made s directories attributes ignore → HoldsRulesOfTree made s1 directories attributes ignore
  holds-same made directories attributes ignore alone same holds =
      record { are_read = all-read directories same holds.are_read; lists = holds.lists ∙ all-lists directories same; rules = rules-none made s1 directories ignore alone }
    where
      all-read : (directories : List (List (List ℕ))) → ReadSameInDirectories made s.tree s1.tree directories
          → list_all (λ names. is_read_without_refusal (rules_texts_of_directory made s (slash_joined_components names))) directories ≡ true → list_all (λ names. is_read_without_refusal (rules_texts_of_directory made s1 (slash_joined_components names))) directories ≡ true
      all-read [] same read = refl
      all-read (names ∷ directories) same read =
          both-true (is_read_without_refusal (rules_texts_of_directory made s (slash_joined_components names))) (is_read_without_refusal (rules_texts_of_directory made s1 (slash_joined_components names))) (list_all (λ n. is_read_without_refusal (rules_texts_of_directory made s (slash_joined_components n))) directories) (list_all (λ n. is_read_without_refusal (rules_texts_of_directory made s1 (slash_joined_components n))) directories)
          (ap is_read_without_refusal (reading-same made (slash_joined_components names) same.0)) (all-read directories same.1) read

      all-lists : (directories : List (List (List ℕ))) → ReadSameInDirectories made s.tree s1.tree directories → flat_map (attribute_lists_of_directory made s) directories ≡ flat_map (attribute_lists_of_directory made s1) directories
      all-lists [] same = refl
      all-lists (names ∷ directories) same =
          ap (λ (l : List AttributeList). l ++ flat_map (attribute_lists_of_directory made s) directories) (lists-same made names same.0)
          ∙ ap (λ (l : List AttributeList). attribute_lists_of_directory made s1 names ++ l) (all-lists directories same.1)
