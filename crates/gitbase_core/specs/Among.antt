-- Lists of texts.
use Rattle.std.specs.Prelude.{◌≡◌, ℕ, Bool, List}
use Rattle.std.specs.List.{list_any}
use Rattle.std.specs.Str.{bytes_eq}

-- a text is one of these
abbrev pub is_text_in_list : List ℕ → List (List ℕ) → Bool
is_text_in_list text texts = list_any (bytes_eq text) texts

-- two lists have the same texts
abbrev pub HaveSameTexts : List (List ℕ) → List (List ℕ) → Type 0
HaveSameTexts texts others = (text : List ℕ) → is_text_in_list text texts ≡ is_text_in_list text others
