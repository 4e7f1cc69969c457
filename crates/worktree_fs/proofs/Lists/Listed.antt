-- What a listing takes for a name.
use Rattle.std.proofs.Common.{◌≡◌, Bool, true, false, ℕ, List, [], if◌then◌else◌, Option, Some, None, refl, sym, ap, subst}
use Rattle.worktree_fs.specs.Composed.{nfc_if_composing}
use Rattle.worktree_fs.specs.Naming.{IsValidEntryName, is_valid_entry_name}
use Rattle.worktree_fs.specs.Disk.{IsValidListedName}

abbrev name_or : Option (List ℕ) → List ℕ
name_or None = []
name_or (Some name) = name

-- what is answered as a kept name is one
pub listed-kept : (composes : Bool) (given name : List ℕ) → Some name ≡ (if is_valid_entry_name (nfc_if_composing composes given) then Some (nfc_if_composing composes given) else None)
    → IsValidListedName composes name × (name ≡ nfc_if_composing composes given)
listed-kept composes given name e = go (is_valid_entry_name (nfc_if_composing composes given)) refl e
  where
    go : (b : Bool) → is_valid_entry_name (nfc_if_composing composes given) ≡ b → Some name ≡ (if b then Some (nfc_if_composing composes given) else None) → IsValidListedName composes name × (name ≡ nfc_if_composing composes given)
    go true is e = let same : name ≡ nfc_if_composing composes given = ap name_or e in (record { is_name = subst IsValidEntryName (sym same) is; kept = (given, same) }, same)
    go false is e = absurd (cc e)
