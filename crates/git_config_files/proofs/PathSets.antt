-- A path is among those of files where a search in the set of them finds it.
use Rattle.std.proofs.Common.{◌≡◌, ℕ, List, [], ◌∷◌, ◌++◌, Bool, true, false, ◌||◌, bytes_eq, refl, sym, ap, ◌∙◌, subst}
use Rattle.std.specs.List.{list_any}
use Rattle.std.specs.BTreeSet.{insert_key}
use Rattle.std.specs.Cmp.Lexicographic.{slice_cmp}
use Rattle.std.specs.Ordering.{nat_cmp, is_eq, match_ordering}
use Rattle.std.specs.declared.cmp.Ordering.{Ordering}
use Rattle.std.specs.declared.cmp.Ordering.TheVariants.{Less, Equal, Greater}
use Rattle.std.proofs.lemmas.List.Folds.{list_any-append}
use Rattle.std.proofs.lemmas.Map.Lookups.{exact_bytes}
use Rattle.std.proofs.lemmas.Map.Text.{is_eq-slice_cmp}
use Rattle.gitbase_core.specs.Among.{is_text_in_list}
use Rattle.git_config_lite.specs.declared.metadata.Source.{Source}
use Rattle.git_config_files.specs.Files.{ConfiguredFile}
use Rattle.git_config_files.specs.Stack as words

or_swap : (a b c : Bool) → (a || (b || c)) ≡ (b || (a || c))
or_swap true true c = refl
or_swap true false c = refl
or_swap false b c = refl

or_twice : (a b : Bool) → (a || b) ≡ (a || (a || b))
or_twice true b = refl
or_twice false b = refl

or_end : (a b : Bool) → (a || b) ≡ (b || (a || false))
or_end true true = refl
or_end true false = refl
or_end false true = refl
or_end false false = refl

-- the order finds a path among others where one of them is it
by_order : (path : List ℕ) (paths : List (List ℕ)) → list_any (λ other. is_eq (slice_cmp nat_cmp path other)) paths ≡ is_text_in_list path paths
by_order path [] = refl
by_order path (other ∷ paths) = rw (is_eq-slice_cmp path other, by_order path paths) refl

inserted : (path : List ℕ) (paths : List (List ℕ)) (one : List ℕ)
    → is_text_in_list path (insert_key (slice_cmp nat_cmp) paths one) ≡ (bytes_eq path one || is_text_in_list path paths)
inserted path [] one = refl
inserted path (other ∷ paths) one = go (slice_cmp nat_cmp one other) refl (inserted path paths one)
  where
    go : (o : Ordering) → slice_cmp nat_cmp one other ≡ o
        → is_text_in_list path (insert_key (slice_cmp nat_cmp) paths one) ≡ (bytes_eq path one || is_text_in_list path paths)
        → is_text_in_list path (match_ordering o (one ∷ other ∷ paths) (other ∷ paths) (other ∷ insert_key (slice_cmp nat_cmp) paths one))
        ≡ (bytes_eq path one || is_text_in_list path (other ∷ paths))
    go Less e more = refl
    go Equal e more =
        subst (λ (x : List ℕ). is_text_in_list path (other ∷ paths) ≡ (bytes_eq path x || is_text_in_list path (other ∷ paths)))
        (sym (exact_bytes one other e))
        (or_twice (bytes_eq path other) (is_text_in_list path paths))
    go Greater e more =
        ap (λ (b : Bool). bytes_eq path other || b) more
        ∙ or_swap (bytes_eq path other) (bytes_eq path one) (is_text_in_list path paths)

-- a search for the path of a file
pub found-by : (paths : List (List ℕ)) (files : List ConfiguredFile) (path : List ℕ) → words.ArePathsOfFiles paths files
    → list_any (λ other. is_eq (slice_cmp nat_cmp path other)) paths ≡ words.is_path_of_some_file path files
found-by paths files path are = by_order path paths ∙ are path

-- both with one more
pub one-more : (paths : List (List ℕ)) (files : List ConfiguredFile) (source : Source) (one : List ℕ) → words.ArePathsOfFiles paths files
    → words.ArePathsOfFiles (insert_key (slice_cmp nat_cmp) paths one) (files ++ words.file_at_path source one ∷ [])
one-more paths files source one are path =
    inserted path paths one
    ∙ ap (λ (b : Bool). bytes_eq path one || b) (are path)
    ∙ or_end (bytes_eq path one) (words.is_path_of_some_file path files)
    ∙ sym (list_any-append (λ (at : ConfiguredFile). bytes_eq path at.path) files (words.file_at_path source one ∷ []))
