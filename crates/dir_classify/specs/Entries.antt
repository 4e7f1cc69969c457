-- Entries and the classes in them.
use Rattle.std.specs.Prelude.{ℕ, List}
use Rattle.dir_classify.specs.declared.entry.Entry.{Entry}
use Rattle.dir_classify.specs.declared.entry.EntryRef.{EntryRef}
use Rattle.dir_classify.specs.declared.classify.Outcome.{Outcome}

-- the same entry with a path of its own
abbrev pub owned_entry_of_ref : EntryRef → Entry
owned_entry_of_ref e =
    record { rela_path = e.rela_path.now; status = e.status; property = e.property; disk_kind = e.disk_kind; index_kind = e.index_kind; pathspec_match = e.pathspec_match; origin = e.origin }

-- the entry of a path with its class
abbrev pub entry_with_outcome : List ℕ → Outcome → Entry
entry_with_outcome path c =
    record { rela_path = path; status = c.status; property = c.property; disk_kind = c.disk_kind; index_kind = c.index_kind; pathspec_match = c.pathspec_match; origin = c.origin }

-- the class in an entry
abbrev pub outcome_of_entry : Entry → Outcome
outcome_of_entry e = record { status = e.status; property = e.property; disk_kind = e.disk_kind; index_kind = e.index_kind; pathspec_match = e.pathspec_match; origin = e.origin }
