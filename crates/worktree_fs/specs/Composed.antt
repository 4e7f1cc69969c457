-- A path as a worktree keeps it, and trees whose names are kept so.
use Rattle.std.specs.Prelude.{◌≡◌, ℕ, Bool, true, List, if◌then◌else◌, chars, encode_utf8_all}
use Rattle.std.specs.List.{list_any}
use Rattle.std.specs.Str.{is_utf8, bytes_eq}
use Rattle.unicode_normalization.specs.Forms.{nfc}
use Rattle.gitbase_core.specs.Path.{components}
use Rattle.worktree_fs.specs.Tree.{Node, Names, file, link, directory, other, none, named}

-- with its characters composed, where it is a text
abbrev pub composed : List ℕ → List ℕ
composed path = if is_utf8 path then encode_utf8_all (nfc (chars path)) else path

abbrev pub nfc_if_composing : Bool → List ℕ → List ℕ
nfc_if_composing composes path = if composes then composed path else path

-- A name as it is kept where names are composed, or where they are not: it is a component of a text as that is kept. A part
-- of a text with its characters composed has its characters composed too.
pub record IsComponentOfComposedText (composes : Bool) (name : List ℕ) : Type 0 where
  pub path : List ℕ
  pub is_text : is_utf8 path ≡ true
  pub is_part : list_any (bytes_eq name) (components (nfc_if_composing composes path)) ≡ true

-- each name in a directory, and in each directory below it, is as it is kept
abbrev mutual
  pub NodeHasComposedNames : Bool → Node → Type 0
  NodeHasComposedNames composes (file bytes) = Unit {0}
  NodeHasComposedNames composes (link target) = Unit {0}
  NodeHasComposedNames composes (directory names) = EntriesHaveComposedNames composes names
  NodeHasComposedNames composes other = Unit {0}

  pub EntriesHaveComposedNames : Bool → Names → Type 0
  EntriesHaveComposedNames composes none = Unit {0}
  EntriesHaveComposedNames composes (named name node rest) = IsComponentOfComposedText composes name × NodeHasComposedNames composes node × EntriesHaveComposedNames composes rest
