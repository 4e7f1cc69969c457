-- An index with one entry more.
use Rattle.std.proofs.Common.{◌≡◌, List, [], ◌∷◌, ◌++◌, Option, None, ap, ◌∙◌}
use Rattle.gitbase_core.specs.declared.entry.IndexEntry.{IndexEntry}
use Rattle.gitbase_core.specs.declared.index.IndexError.{IndexError}
use Rattle.std.specs.Option.{option_or}
use Rattle.gitbase_core.specs.Index.{AreValidIndexEntries, index_error_of_next_entry, first_index_error_in_entries}
use Rattle.gitbase_core.proofs.IndexRules.{first_error-append}

-- entries that are an index and one that may follow them, whatever they are seen as
pub IsIndex-push : (entries shown more : List IndexEntry) (e : IndexEntry) → AreValidIndexEntries entries → entries ≡ shown → index_error_of_next_entry shown e ≡ None
    → more ≡ entries ++ e ∷ [] → AreValidIndexEntries more
IsIndex-push entries shown more e index same passes grown =
    ap (first_index_error_in_entries []) grown
    ∙ first_error-append [] entries (e ∷ [])
    ∙ ap (λ (o : Option IndexError). option_or o (first_index_error_in_entries entries (e ∷ []))) index
    ∙ ap (λ (es : List IndexEntry). option_or (index_error_of_next_entry es e) None) same
    ∙ ap (λ (o : Option IndexError). option_or o None) passes
