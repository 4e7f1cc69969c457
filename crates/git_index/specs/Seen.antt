-- What the structs hold that bytes are read into.
use Rattle.std.specs.Prelude.{Result, Ok, Err}
use Rattle.git_index.specs.declared.parts.PartAndRest.{PartAndRest}
use Rattle.git_index.specs.declared.varint.Varint.{Varint}
use Rattle.git_index.specs.declared.head.Fixed.{Fixed}
use Rattle.git_index.specs.declared.more.ExtendedFlagsAndRest.{ExtendedFlagsAndRest}
use Rattle.git_index.specs.declared.name.PathAndRest.{PathAndRest}
use Rattle.git_index.specs.declared.entry.EntryAndRest.{EntryAndRest}
use Rattle.git_index.specs.declared.entries.Listed.{Listed}
use Rattle.git_index.specs.declared.entries.Entries.{Entries}
use Rattle.git_index.specs.declared.extensions.Extension.{Extension}
use Rattle.git_index.specs.declared.error.IndexFileError.{IndexFileError}
use Rattle.git_index.specs.Parts as parts
use Rattle.git_index.specs.Varint as varint
use Rattle.git_index.specs.Head as head
use Rattle.git_index.specs.More as more
use Rattle.git_index.specs.Name as name
use Rattle.git_index.specs.Entries as entries
use Rattle.git_index.specs.Extensions as extensions

-- both slices, as the bytes that they hold
abbrev pub part_and_rest_as_record : PartAndRest → parts.PartAndRest
part_and_rest_as_record p = record { part = p.part.now; rest = p.rest.now }

-- the number as it stands; behind it, the bytes that the slice holds
abbrev pub varint_as_record : Varint → varint.VarintAndRest
varint_as_record n = record { value = n.value; rest = n.rest.now }

-- the same four fields: the struct borrows nothing of the file
abbrev pub fixed_fields_as_record : Fixed → head.FixedEntryFields
fixed_fields_as_record f = record { stat = f.stat; mode = f.mode; id = f.id; flags = f.flags }

-- the second flags as they stand; behind them, the bytes that the slice holds
abbrev pub extended_flags_as_record : ExtendedFlagsAndRest → more.ExtendedFlagsAndRest
extended_flags_as_record m = record { size = m.size; is_skipped = m.is_skipped; intent_to_add = m.intent_to_add; rest = m.rest.now }

-- the path is the struct's own; behind it, the bytes that the slice holds
abbrev pub path_and_rest_as_record : PathAndRest → name.PathAndRest
path_and_rest_as_record n = record { path = n.path; rest = n.rest.now }

-- the entry and its detail are the struct's own; behind them, the bytes that the slice holds
abbrev pub entry_and_rest_as_record : EntryAndRest → entries.EntryAndRest
entry_and_rest_as_record r = record { entry = r.entry; detail = r.detail; rest = r.rest.now }

-- what the two vectors hold, in the order of the file
abbrev pub entries_and_details_as_record : Listed → entries.EntriesAndDetails
entries_and_details_as_record l = record { entries = l.entries.items; details = l.details.items }

-- what the two vectors hold so far; behind that, the bytes that the slice holds
abbrev pub entries_and_rest_as_record : Entries → entries.EntriesAndRest
entries_and_rest_as_record r = record { listed = entries_and_details_as_record r.listed; rest = r.rest.now }

-- the head that was read, or the same refusal
abbrev pub extension_head_result_as_record : Result Extension IndexFileError → Result extensions.ExtensionHead IndexFileError
extension_head_result_as_record (Ok e) = Ok (record { size = e.size; is_sparse = e.is_sparse })
extension_head_result_as_record (Err e) = Err e
