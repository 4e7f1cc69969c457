-- What is read from one place and then the next.
use Rattle.std.specs.Prelude.{◌≡◌, ℕ, Bool, List, [], ◌∷◌, ◌++◌, Option, Some, None, Result, Ok}
use Rattle.std.proofs.Common.{refl, sym, ap, ◌∙◌, subst}
use Rattle.gitbase_core.specs.Objects.{ObjectsById}
use Rattle.worktree_fs.specs.Tree.{Names}
use Rattle.worktree_stack.specs.declared.error.AtPathError.{AtPathError}
use Rattle.worktree_stack.specs.declared.error.RulesWhy.{RulesWhy}
use Rattle.worktree_stack.specs.declared.error.RulesWhy.TheVariants as whys
use Rattle.worktree_stack.specs.declared.error.BlobWhy.{BlobWhy}
use Rattle.worktree_stack.specs.declared.error.BlobWhy.TheVariants as blob_whys
use Rattle.worktree_stack.specs.Placed.{IsRefusalOfFile, IsRefusalOfBlob}
use Rattle.worktree_stack.specs.Reading.{TreeAndObjects, Tells, RulesRefusal, RulesPlace, RulesText, in_tree, in_store, rules_text_of_list_bytes, text_or_next_place, first_rules_text_of_places}
use Rattle.worktree_stack.specs.Refused.{HoldsByRulesError, IsFileRefusedAmongPlaces, IsBlobRefusedAmongPlaces, IsReadingRefused}
use Rattle.worktree_stack.proofs.Refusals.{on-weaker}

module _ (told : Option Names) (holds : Option ObjectsById) where
  -- the file that is asked first is refused
  file-why : (TF : Type 0) (path : List ℕ) (follow : Bool) (rest : List RulesPlace) (why : RulesWhy) → IsRefusalOfFile told TF path follow why
      → IsFileRefusedAmongPlaces told holds TF (in_tree path follow ∷ rest) (λ s. first_rules_text_of_places s (in_tree path follow ∷ rest)) path why
  file-why TF path follow rest whys.Link is =
      record {
        follow = follow;
        place = record { before = []; after = rest; among = refl };
        why_is = (is.0, λ s tells. ap (λ r. text_or_next_place (rules_text_of_list_bytes path r) (first_rules_text_of_places s rest)) (is.1 s.tree tells.tree_is));
      }
  file-why TF path follow rest whys.LinkLimit is =
      record {
        follow = follow;
        place = record { before = []; after = rest; among = refl };
        why_is = λ s tells. ap (λ r. text_or_next_place (rules_text_of_list_bytes path r) (first_rules_text_of_places s rest)) (is s.tree tells.tree_is);
      }
  file-why TF path follow rest whys.Special is =
      record {
        follow = follow;
        place = record { before = []; after = rest; among = refl };
        why_is = λ s tells. ap (λ r. text_or_next_place (rules_text_of_list_bytes path r) (first_rules_text_of_places s rest)) (is s.tree tells.tree_is);
      }
  file-why TF path follow rest whys.Fault is =
      record { follow = follow; place = record { before = []; after = rest; among = refl }; why_is = is }

  pub file-first : (TF SF : Type 0) (path : List ℕ) (follow : Bool) (rest : List RulesPlace) (e : AtPathError)
      → HoldsByRulesError (λ of why. (of ≡ path) × IsRefusalOfFile told TF path follow why) (λ id why. ⊥) (Unit {0}) e
      → IsReadingRefused told holds TF SF (in_tree path follow ∷ rest) (λ s. first_rules_text_of_places s (in_tree path follow ∷ rest)) e
  file-first TF SF path follow rest e said =
      on-weaker e
      (λ of why is. subst (λ p. IsFileRefusedAmongPlaces told holds TF (in_tree path follow ∷ rest) (λ s. first_rules_text_of_places s (in_tree path follow ∷ rest)) p why) (sym is.0) (file-why TF path follow rest why is.1))
      (λ id why is. absurd is) (λ m. m) said

  -- the blob that is asked last is refused, where those before have no list
  module _ (SF : Type 0) (path id : List ℕ) (front : List RulesPlace)
      (none : (s : TreeAndObjects) → Tells told holds s → first_rules_text_of_places s (front ++ in_store path id ∷ []) ≡ first_rules_text_of_places s (in_store path id ∷ [])) where
    blob-why : (why : BlobWhy) → IsRefusalOfBlob holds SF id why
        → IsBlobRefusedAmongPlaces told holds SF (front ++ in_store path id ∷ []) (λ s. first_rules_text_of_places s (front ++ in_store path id ∷ [])) id why
    blob-why blob_whys.Missing is =
        record {
          path = path;
          place = record { before = front; after = []; among = refl };
          why_is = λ s tells. none s tells ∙ ap (λ r. text_or_next_place (rules_text_of_list_bytes path r) (first_rules_text_of_places s [])) (is s.objects tells.objects_are);
        }
    blob-why blob_whys.NotABlob is =
        record {
          path = path;
          place = record { before = front; after = []; among = refl };
          why_is = λ s tells. none s tells ∙ ap (λ r. text_or_next_place (rules_text_of_list_bytes path r) (first_rules_text_of_places s [])) (is s.objects tells.objects_are);
        }
    blob-why blob_whys.Fault is =
        record { path = path; place = record { before = front; after = []; among = refl }; why_is = is }

    pub blob-last : (TF : Type 0) (e : AtPathError)
        → HoldsByRulesError (λ of why. ⊥) (λ of why. (of ≡ id) × IsRefusalOfBlob holds SF id why) (Unit {0}) e
        → IsReadingRefused told holds TF SF (front ++ in_store path id ∷ []) (λ s. first_rules_text_of_places s (front ++ in_store path id ∷ [])) e
    blob-last TF e said =
        on-weaker e (λ of why is. absurd is)
        (λ of why is. subst (λ i. IsBlobRefusedAmongPlaces told holds SF (front ++ in_store path id ∷ []) (λ s. first_rules_text_of_places s (front ++ in_store path id ∷ [])) i why) (sym is.0) (blob-why why is.1))
        (λ m. m) said

-- no list, so the next place is asked; a list
pub next-asked : (path : List ℕ) (r : Result (Option (List ℕ)) RulesRefusal) (next : Result (Option RulesText) RulesRefusal) → rules_text_of_list_bytes path r ≡ Ok None → text_or_next_place (rules_text_of_list_bytes path r) next ≡ next
next-asked path r next e = ap (λ x. text_or_next_place x next) e

pub text-found : (x : Result (Option RulesText) RulesRefusal) (next : Result (Option RulesText) RulesRefusal) (text : RulesText) → x ≡ Ok (Some text) → text_or_next_place x next ≡ Ok (Some text)
text-found x next text e = ap (λ y. text_or_next_place y next) e

-- the last place
pub text-last : (x : Result (Option RulesText) RulesRefusal) (text : Option RulesText) → x ≡ Ok text → text_or_next_place x (Ok None) ≡ Ok text
text-last x text e = ap (λ y. text_or_next_place y (Ok None)) e ∙ go text
  where
    go : (t : Option RulesText) → text_or_next_place (Ok t) (Ok None) ≡ Ok t
    go None = refl
    go (Some t) = refl
