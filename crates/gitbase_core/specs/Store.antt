-- What the entries of a store in memory stand for.
use Rattle.std.specs.Prelude.{ℕ, List, [], ◌∷◌, Option, Some, None}
use Rattle.std.specs.FinMap as map
use Rattle.gitbase_core.specs.Objects.{Object, ObjectsById, blob, other, objects_after_insert}
use Rattle.gitbase_core.specs.declared.store.StoredObject.{StoredObject}
use Rattle.gitbase_core.specs.declared.store.StoredObject.TheVariants as kept

-- what is kept, as an object
abbrev pub object_of_stored_object : StoredObject → Object
object_of_stored_object (kept.Blob bytes) = blob bytes
object_of_stored_object kept.Other = other

-- the entries of a map that may not be there yet
abbrev pub map_entries_or_empty : Option (List (List ℕ × StoredObject)) → List (List ℕ × StoredObject)
map_entries_or_empty None = []
map_entries_or_empty (Some entries) = entries

-- what is kept under ids, as objects; of two entries with one id the first counts
abbrev pub objects_from_map_entries : List (List ℕ × StoredObject) → ObjectsById
objects_from_map_entries [] = map.empty
objects_from_map_entries (entry ∷ entries) = objects_after_insert (objects_from_map_entries entries) entry.0 (object_of_stored_object entry.1)
