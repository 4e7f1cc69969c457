-- Of entries in one directory the first is asked for.
use Rattle.std.proofs.Common.{◌≡◌, ℕ, List, [], ◌∷◌, Bool, true, false, not, ◌&&◌, ◌||◌, bytes_eq, refl, sym, ap, ◌∙◌}
use Rattle.std.proofs.lemmas.Slice.Eq.{bytes_eq-Decides}
use Rattle.std.specs.List.{list_any}
use Rattle.gitbase_core.specs.Path.{components}
use Rattle.gitbase_core.specs.declared.entry.IndexEntry.{IndexEntry}
use Rattle.worktree_fs.specs.Tree.{Names}
use Rattle.git_setup.specs.Conversions.{has_gitattributes_along_path, parent_directory_of_entry, has_attributes_above_entry, has_attributes_above_unless_same_parent, has_attributes_above_following_entries}

-- to entries in one directory the same leads
same_holder : (t : Names) (root : List ℕ) (before e : IndexEntry) → parent_directory_of_entry before ≡ parent_directory_of_entry e → has_attributes_above_entry t root before ≡ has_attributes_above_entry t root e
unfolding has_attributes_above_entry
same_holder t root before e is = ap (λ (d : List ℕ). has_gitattributes_along_path t root (components d)) is

next_by : (past : Bool) (same : Bool) → (same ≡ true → false ≡ past) → (not same && past) ≡ past
next_by past true so = so refl
next_by past false so = refl

next_is : (t : Names) (root : List ℕ) (before e : IndexEntry) → has_attributes_above_entry t root before ≡ false → has_attributes_above_unless_same_parent t root before e ≡ has_attributes_above_entry t root e
next_is t root before e clear =
    next_by (has_attributes_above_entry t root e) (bytes_eq (parent_directory_of_entry before) (parent_directory_of_entry e)) (λ is. sym clear ∙ same_holder t root before e ((bytes_eq-Decides (parent_directory_of_entry before) (parent_directory_of_entry e)).0 is))

or_by : (past : Bool) (rest all : Bool) → (past ≡ false → rest ≡ all) → (past || rest) ≡ (past || all)
or_by true rest all so = refl
or_by false rest all so = so refl

rest_is : (t : Names) (root : List ℕ) (before : IndexEntry) (entries : List IndexEntry) → has_attributes_above_entry t root before ≡ false → has_attributes_above_following_entries t root before entries ≡ list_any (has_attributes_above_entry t root) entries
rest_is t root before [] clear = refl
rest_is t root before (e ∷ entries) clear =
    ap (λ (b : Bool). b || has_attributes_above_following_entries t root e entries) (next_is t root before e clear)
    ∙ or_by (has_attributes_above_entry t root e) (has_attributes_above_following_entries t root e entries) (list_any (has_attributes_above_entry t root) entries) (λ is. rest_is t root e entries is)

pub from_is : (t : Names) (root : List ℕ) (first : IndexEntry) (rest : List IndexEntry) → (has_attributes_above_entry t root first || has_attributes_above_following_entries t root first rest) ≡ list_any (has_attributes_above_entry t root) (first ∷ rest)
from_is t root first rest =
    or_by (has_attributes_above_entry t root first) (has_attributes_above_following_entries t root first rest) (list_any (has_attributes_above_entry t root) rest) (λ is. rest_is t root first rest is)
