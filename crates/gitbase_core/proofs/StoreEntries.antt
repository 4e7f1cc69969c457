-- A store in memory is seen as the finite map that its entries make.
use Rattle.std.proofs.Common.{◌≡◌, ℕ, Bool, true, false, cond, List, [], ◌∷◌, refl, ap, sym, ◌∙◌}
use Rattle.std.specs.Prelude.{Option, Some, None, option_map, option_copied}
use Rattle.std.specs.Borrow.{Bor}
use Rattle.std.specs.BTreeMap.{is_at}
use Rattle.std.specs.Cmp.{eq_by_cmp_equiv}
use Rattle.std.specs.Cmp.Lexicographic.{slice_cmp, nat_list_cmp_total}
use Rattle.std.specs.FinMap.{get-empty, get-insert, same_map, slice_cmp-IsAntisymmetric, nat_cmp-IsAntisymmetric}
use Rattle.std.specs.Map.{lookup}
use Rattle.std.specs.Ordering.{nat_cmp}
use Rattle.gitbase_core.specs.Objects.{object_by_id, objects_after_insert}
use Rattle.gitbase_core.specs.Store.{object_of_stored_object, objects_from_map_entries}
use Rattle.gitbase_core.specs.declared.store.StoredObject.{StoredObject}

-- an id is the one that is looked for
abbrev is_id : List ℕ → List ℕ → Bool
is_id id = is_at (slice_cmp nat_cmp id)

-- what is kept under an id
abbrev pub stored_at : List (List ℕ × StoredObject) → List ℕ → Option StoredObject
stored_at entries id = lookup (is_id id) entries

seen_first : (b : Bool) (kept : StoredObject) (rest : Option StoredObject) → cond b (Some (object_of_stored_object kept)) (option_map object_of_stored_object rest) ≡ option_map object_of_stored_object (cond b (Some kept) rest)
seen_first true kept rest = refl
seen_first false kept rest = refl

-- what the map has under an id is what is kept there
pub object_at-objects_of : (entries : List (List ℕ × StoredObject)) (id : List ℕ) → object_by_id (objects_from_map_entries entries) id ≡ option_map object_of_stored_object (stored_at entries id)
object_at-objects_of [] id = get-empty (slice_cmp nat_cmp) id
object_at-objects_of (entry ∷ entries) id =
    get-insert nat_list_cmp_total (objects_from_map_entries entries) entry.0 (object_of_stored_object entry.1) id
    ∙ ap (cond (is_id id entry.0) (Some (object_of_stored_object entry.1))) (object_at-objects_of entries id)
    ∙ seen_first (is_id id entry.0) entry.1 (stored_at entries id)

-- entries that differ under one id make maps that differ there
pub one_kept : (before after : List (List ℕ × StoredObject)) (id : List ℕ) (kept : StoredObject) → ((q : List ℕ) → stored_at after q ≡ cond (is_id id q) (Some kept) (stored_at before q)) → objects_from_map_entries after ≡ objects_after_insert (objects_from_map_entries before) id (object_of_stored_object kept)
one_kept before after id kept h = same_map nat_list_cmp_total (slice_cmp-IsAntisymmetric nat_cmp-IsAntisymmetric) _ _ (λ q.
    object_at-objects_of after q
    ∙ ap (option_map object_of_stored_object) (h q)
    ∙ sym (seen_first (is_id id q) kept (stored_at before q))
    ∙ ap (λ b. cond b (Some (object_of_stored_object kept)) (option_map object_of_stored_object (stored_at before q))) ((eq_by_cmp_equiv nat_list_cmp_total).symm id q)
    ∙ sym (get-insert nat_list_cmp_total (objects_from_map_entries before) id (object_of_stored_object kept) q
    ∙ ap (cond (is_id q id) (Some (object_of_stored_object kept))) (object_at-objects_of before q)))

-- what is seen through a loan is what is lent, as an object
pub seen_lent : (lent : Option (Bor StoredObject)) → option_map (λ (kept : Bor StoredObject). object_of_stored_object kept.now) lent ≡ option_map object_of_stored_object (option_copied lent)
seen_lent (Some kept) = refl
seen_lent None = refl
