-- An answer with its text as it is written.
use Rattle.std.specs.Prelude.{◌≡◌, ◌⊎◌, ℕ, List, Result, Ok, Err}
use Rattle.tizhagor.specs.declared.refusal.CommandRefusal.{CommandRefusal}
use Rattle.tizhagor.specs.declared.written.Writing.{Writing}
use Rattle.tizhagor.specs.Refusals.{memory}
use Rattle.tizhagor.specs.Writing.{text_formatted_for_output}

-- the same refusal, or the bytes of the text, or want of memory for these
abbrev pub IsFormattedOrOutOfMemory : Writing → Result (List ℕ) CommandRefusal → Result (List ℕ) CommandRefusal → Type 0
IsFormattedOrOutOfMemory writing (Ok text) result = (result ≡ Ok (text_formatted_for_output writing text)) ⊎ (result ≡ Err memory)
IsFormattedOrOutOfMemory writing (Err e) result = result ≡ Err e
