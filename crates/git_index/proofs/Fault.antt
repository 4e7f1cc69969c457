-- Where reading the entries fails, none is written.
use Rattle.std.proofs.Common.{◌≡◌, refl, sym, ap, ◌∙◌, subst, arith, ℕ, zero, suc, ◌+◌, ◌-◌, ◌≤◌, ◌<◌, ◌^◌, not, Bool, true, false, ◌||◌, nat_lt, nat_le, ltb-false, List, [], ◌∷◌, ◌++◌, length, take, drop, codes, position, Option, Some, None, Result, Ok, Err, ok_or, if◌then◌else◌, append_assoc, length-take-le, take-append-drop, drop-drop}
use Rattle.std.specs.Str.{bytes_eq}
use Rattle.std.specs.Cmp.Lexicographic.{bytes_decides}
use Rattle.std.specs.List.{list_any}
use Rattle.byteorder.specs.Endian.{big_number, big_bytes}
use Rattle.gitbase_core.specs.declared.entry.IndexEntry.{IndexEntry}
use Rattle.gitbase_core.specs.Steps.{and_then}
use Rattle.gitbase_core.specs.Entry.{is_sparse_directory_entry}
use Rattle.gitbase_core.specs.Text.{is_nul}
use Rattle.git_index.specs.Parts.{nth_big_endian_u32}
use Rattle.git_index.specs.Entries.{EntriesAndRest, EntriesAndDetails, EntryAndRest, read_entries_after_others, read_entry, path_of_last_entry, no_entries_and_details, path_of_optional_entry, entries_and_details_with_one_more}
use Rattle.git_index.specs.Extensions.{ExtensionHead, read_extension_head, read_sparse_mark_of_rest, is_optional_extension_name, extension_head_of_name_and_size}
use Rattle.git_index.specs.Fault.{IsFirstBadEntryAt, path_of_last_written_entry}
use Rattle.git_index.specs.IndexFile.{index_after_extensions_and_directory_check, verify_and_read_body, read_entries_and_extensions, parse_index_file_bytes, index_of_entries_and_sparseness, is_checksum_or_nuls, is_supported_version, index_unless_stray_sparse_directory, index_or_directory_error}
use Rattle.git_index.specs.Written.{AreWritableEntriesAfterPath, IsWritableEntryAfterPath, WrittenEntry, detail_of_written, entries_bytes, index_entry_of_written, entry_bytes}
use Rattle.git_index.specs.declared.error.IndexFileError.{IndexFileError}
use Rattle.git_index.specs.declared.error.IndexFileError.TheVariants as errors
use Rattle.git_index.proofs.Numbers.{AreBytes, bytes_behind, bytes_front, bytes_tail, number_at, number_small}
use Rattle.git_index.proofs.ReadEntry.{from_entry}
use Rattle.git_index.proofs.Steps.{turned}
use Rattle.git_index.proofs.WrittenEntry.{entry_exact}
use Rattle.git_index.proofs.WrittenFile.{last_of}

-- ---- the entries

record AreCut (version : ℕ) (listed : EntriesAndDetails) (previous : List ℕ) (n : ℕ) (bytes : List ℕ) (at : ℕ) : Type 0 where
  ws : List WrittenEntry
  rest : List ℕ
  place : length listed.entries + length ws ≡ at
  promised : length ws < n
  whole : bytes ≡ entries_bytes version previous ws ++ rest
  writable : AreWritableEntriesAfterPath version previous ws
  none : read_entry version (path_of_last_written_entry previous ws) rest ≡ None

fault_is : {A : Type 0} {e f : IndexFileError} → (◌≡◌ {A = Result A IndexFileError} (Err e) (Err f)) → e ≡ f
fault_is h = cc

same_place : (a b : ℕ) → (◌≡◌ {A = Result EntriesAndRest IndexFileError} (Err (errors.Entry a)) (Err (errors.Entry b))) → a ≡ b
same_place a b h = cc

longer : (es : List IndexEntry) (e : IndexEntry) → length (es ++ e ∷ []) ≡ suc (length es)
longer [] e = refl
longer (x ∷ es) e = ap (λ n. suc n) (longer es e)

cut_entries : (version : ℕ) (listed : EntriesAndDetails) (previous : List ℕ) (n : ℕ) (bytes : List ℕ) (at : ℕ) → AreBytes bytes → list_any is_nul previous ≡ false
    → path_of_last_entry listed.entries ≡ previous → read_entries_after_others version listed n bytes ≡ Err (errors.Entry at) → AreCut version listed previous n bytes at
cut_entries version listed previous zero bytes at ok plain last h = absurd (cc)
cut_entries version listed previous (suc n) bytes at ok plain last h =
    go (read_entry version (path_of_last_entry listed.entries) bytes) refl h (λ l p b ok plain last h. cut_entries version l p n b at ok plain last h)
  where
    go : (found : Option EntryAndRest) → read_entry version (path_of_last_entry listed.entries) bytes ≡ found
        → and_then (λ (read : EntryAndRest). read_entries_after_others version (entries_and_details_with_one_more listed read.entry read.detail) n read.rest) (ok_or found (errors.Entry (length listed.entries))) ≡ Err (errors.Entry at)
        → ((l : EntriesAndDetails) (p : List ℕ) (b : List ℕ) → AreBytes b → list_any is_nul p ≡ false → path_of_last_entry l.entries ≡ p → read_entries_after_others version l n b ≡ Err (errors.Entry at) → AreCut version l p n b at)
        → AreCut version listed previous (suc n) bytes at
    go None is h again =
        let same : length listed.entries ≡ at = same_place (length listed.entries) at h in
        record {
          ws = [];
          rest = bytes;
          place = omega (arith, same);
          promised = omega arith;
          whole = refl;
          writable = tt;
          none = ap (λ p. read_entry version p bytes) (sym last) ∙ is;
        }
    go (Some read) is h again =
        let found : read_entry version previous bytes ≡ Some read = ap (λ p. read_entry version p bytes) (sym last) ∙ is in
        let one = from_entry version previous bytes read ok plain found in
        let w = one.w in
        let rest_ok = bytes_tail (entry_bytes version previous w) read.rest (subst AreBytes one.whole ok) in
        let next : path_of_last_entry (listed.entries ++ read.entry ∷ []) ≡ w.path = ap path_of_optional_entry (last_of listed.entries read.entry) ∙ sym (ap (λ (e : IndexEntry). e.path) one.entry) in
        let more = again (entries_and_details_with_one_more listed read.entry read.detail) w.path read.rest rest_ok one.writable.path next h in
        record {
          ws = w ∷ more.ws;
          rest = more.rest;
          place = omega (arith, more.place, longer listed.entries read.entry);
          promised = omega (arith, more.promised);
          whole = one.whole ∙ ap (λ x. entry_bytes version previous w ++ x) more.whole ∙ sym (append_assoc (entry_bytes version previous w) (entries_bytes version w.path more.ws) more.rest);
          writable = (one.writable, more.writable);
          none = more.none;
        }

-- where none is read, none is written
none_written : (version : ℕ) (previous rest : List ℕ) → read_entry version previous rest ≡ None
    → (w : WrittenEntry) (behind : List ℕ) → IsWritableEntryAfterPath version previous w → rest ≡ entry_bytes version previous w ++ behind → ⊥
none_written version previous rest none w behind ok is =
    clash (record { entry = index_entry_of_written w; detail = detail_of_written w; rest = behind }) (sym (ap (read_entry version previous) is ∙ entry_exact version previous w behind ok) ∙ none)
  where
    clash : (read : EntryAndRest) → Some read ≡ None → ⊥
    clash read h = cc

-- ---- what else has no such fault

passed : {A : Type 0} (at : ℕ) (b : Bool) (e : IndexFileError) (r : Result A IndexFileError) → (e ≡ errors.Entry at → ⊥) → (if b then Err e else r) ≡ Err (errors.Entry at)
    → (b ≡ false) × (r ≡ Err (errors.Entry at))
passed at true e r other h = absurd (other (fault_is h))
passed at false e r other h = (refl, h)

named_without : (name : List ℕ) (size at : ℕ) → extension_head_of_name_and_size name size ≡ Err (errors.Entry at) → ⊥
named_without name size at h = go (is_optional_extension_name name) (bytes_eq name (codes "sdir")) (bytes_eq name (codes "link")) h where
  go : (a b c : Bool)
      → (◌≡◌ {A = Result ExtensionHead IndexFileError} (if a then Ok (record { size = size; is_sparse = false }) else (if b then Ok (record { size = size; is_sparse = true }) else (if c then Err errors.Split else Err (errors.Unknown name)))) (Err (errors.Entry at))) → ⊥
  go true b c h = cc
  go false true c h = cc
  go false false true h = cc
  go false false false h = cc

extension_without : (bytes : List ℕ) (at : ℕ) → read_extension_head bytes ≡ Err (errors.Entry at) → ⊥
extension_without bytes at h = go (nat_le 8 (length bytes)) h where
  go : (b : Bool) → (if b then extension_head_of_name_and_size (take 4 bytes) (big_number 4 (drop 4 bytes)) else Err errors.Extensions) ≡ Err (errors.Entry at) → ⊥
  go true h = named_without (take 4 bytes) (big_number 4 (drop 4 bytes)) at h
  go false h = cc

extensions_without : (n : ℕ) (sparse : Bool) (bytes : List ℕ) (at : ℕ) → read_sparse_mark_of_rest n sparse bytes ≡ Err (errors.Entry at) → ⊥
extensions_without zero sparse [] at h = cc
extensions_without (suc n) sparse [] at h = cc
extensions_without (suc n) sparse (b ∷ bytes) at h = extensions_without n sparse bytes at h
extensions_without zero sparse (b ∷ bytes) at h = go (read_extension_head (b ∷ bytes)) refl h (λ n s h. extensions_without n s bytes at h) where
  go : (r : Result ExtensionHead IndexFileError) → read_extension_head (b ∷ bytes) ≡ r
      → and_then (λ (e : ExtensionHead). read_sparse_mark_of_rest (e.size + 7) (sparse || e.is_sparse) bytes) r ≡ Err (errors.Entry at)
      → ((n : ℕ) (s : Bool) → read_sparse_mark_of_rest n s bytes ≡ Err (errors.Entry at) → ⊥) → ⊥
  go (Ok e) is h again = again (e.size + 7) (sparse || e.is_sparse) h
  go (Err e) is h again = extension_without (b ∷ bytes) at (is ∙ ap (λ (x : IndexFileError). Err x) (fault_is h))

marked_without : (listed : EntriesAndDetails) (sparse : Bool) (at : ℕ) → index_unless_stray_sparse_directory listed sparse ≡ Err (errors.Entry at) → ⊥
marked_without listed sparse at h = go sparse (position is_sparse_directory_entry listed.entries) h where
  go : (s : Bool) (place : Option ℕ) → index_or_directory_error s (index_of_entries_and_sparseness listed sparse) place ≡ Err (errors.Entry at) → ⊥
  go s None h = cc
  go true (Some a) h = cc
  go false (Some a) h = cc

behind_without : (read : EntriesAndRest) (at : ℕ) → index_after_extensions_and_directory_check read ≡ Err (errors.Entry at) → ⊥
behind_without read at h = go (read_sparse_mark_of_rest 0 false read.rest) refl h where
  go : (r : Result Bool IndexFileError) → read_sparse_mark_of_rest 0 false read.rest ≡ r → and_then (index_unless_stray_sparse_directory read.listed) r ≡ Err (errors.Entry at) → ⊥
  go (Ok sparse) is h = marked_without read.listed sparse at h
  go (Err e) is h = extensions_without 0 false read.rest at (is ∙ ap (λ (x : IndexFileError). Err x) (fault_is h))

-- so the entries have it
of_entries : (r : Result EntriesAndRest IndexFileError) (at : ℕ) → and_then index_after_extensions_and_directory_check r ≡ Err (errors.Entry at) → r ≡ Err (errors.Entry at)
of_entries (Ok read) at h = absurd (behind_without read at h)
of_entries (Err e) at h = ap (λ (x : IndexFileError). Err x) (fault_is h)

-- ---- the file

record IsBodyFault (body : List ℕ) (at : ℕ) : Type 0 where
  version : ℕ
  is : is_supported_version version ≡ true
  count : ℕ
  few : count < 256 ^ 4
  cut : AreCut version no_entries_and_details [] count (drop 12 body) at
  front : body ≡ codes "DIRC" ++ (big_bytes 4 version ++ (big_bytes 4 count ++ drop 12 body))

fault_in_body : (body sum : List ℕ) (at : ℕ) → 12 ≤ length body → AreBytes body → verify_and_read_body body sum ≡ Err (errors.Entry at) → IsBodyFault body at
fault_in_body body sum at long ok h =
    let version = nth_big_endian_u32 1 body in
    let count = nth_big_endian_u32 2 body in
    let rest = drop 12 body in
    let read_on = read_entries_and_extensions version count rest in
    let sums = if not (is_checksum_or_nuls body sum) then Err errors.Sum else read_on in
    let signed = passed at (not (bytes_eq (take 4 body) (codes "DIRC"))) errors.Signature (if not (is_supported_version version) then Err (errors.Version version) else sums) signature h in
    let versioned = passed at (not (is_supported_version version)) (errors.Version version) sums (other_version version) signed.1 in
    let summed = passed at (not (is_checksum_or_nuls body sum)) errors.Sum read_on other_sum versioned.1 in
    let refused = of_entries (read_entries_after_others version no_entries_and_details count rest) at summed.1 in
    let name : take 4 body ≡ codes "DIRC" = (bytes_decides (take 4 body) (codes "DIRC")).0 (turned (bytes_eq (take 4 body) (codes "DIRC")) signed.0) in
    let third : drop 8 body ≡ big_bytes 4 count ++ rest =
    sym (take-append-drop 4 (drop 8 body)) ∙ ap (λ x. x ++ drop 4 (drop 8 body)) (sym (number_at 8 body (omega (arith, long)) ok)) ∙ ap (λ x. big_bytes 4 count ++ x) (drop-drop 4 8 body) in
    let second : drop 4 body ≡ big_bytes 4 version ++ (big_bytes 4 count ++ rest) =
    sym (take-append-drop 4 (drop 4 body)) ∙ ap (λ x. x ++ drop 4 (drop 4 body)) (sym (number_at 4 body (omega (arith, long)) ok)) ∙ ap (λ x. big_bytes 4 version ++ x) (drop-drop 4 4 body ∙ third) in
    record {
      version = version;
      is = turned (is_supported_version version) versioned.0;
      count = count;
      few = number_small 4 (drop 8 body) (bytes_behind 8 body ok);
      cut = cut_entries version no_entries_and_details [] count rest at (bytes_behind 12 body ok) refl refl refused;
      front = sym (take-append-drop 4 body) ∙ ap (λ x. x ++ drop 4 body) name ∙ ap (λ x. codes "DIRC" ++ x) second;
    }
  where
    signature : errors.Signature ≡ errors.Entry at → ⊥
    signature h = cc

    other_version : (version : ℕ) → errors.Version version ≡ errors.Entry at → ⊥
    other_version version h = cc

    other_sum : errors.Sum ≡ errors.Entry at → ⊥
    other_sum h = cc

-- The fault of an entry comes only where none stands.
pub fault_is_first : (bytes : List ℕ) (at : ℕ) → AreBytes bytes → parse_index_file_bytes bytes ≡ Err (errors.Entry at) → IsFirstBadEntryAt bytes at
unfolding parse_index_file_bytes
fault_is_first bytes at ok h =
    let body = take (length bytes - 20) bytes in
    let sum = drop (length bytes - 20) bytes in
    let long = passed at (nat_lt (length bytes) 32) errors.Short (verify_and_read_body body sum) other_short h in
    let fits : 32 ≤ length bytes = ltb-false (length bytes) 32 long.0 in
    let body_size : length body ≡ length bytes - 20 = length-take-le (length bytes - 20) bytes (omega (arith, fits)) in
    let read = fault_in_body body sum at (omega (arith, fits, body_size)) (bytes_front (length bytes - 20) bytes ok) long.1 in
    let cut = read.cut in
    let place : length cut.ws ≡ at = omega (arith, cut.place) in
    record {
      version = read.version;
      is_version = read.is;
      count = read.count;
      few = read.few;
      ws = cut.ws;
      rest = cut.rest;
      place = place;
      promised = subst (λ (k : ℕ). k < read.count) place cut.promised;
      entries = cut.writable;
      front = read.front ∙ ap (λ x. codes "DIRC" ++ (big_bytes 4 read.version ++ (big_bytes 4 read.count ++ x))) cut.whole;
      none = none_written read.version (path_of_last_written_entry [] cut.ws) cut.rest cut.none;
    }
  where
    other_short : errors.Short ≡ errors.Entry at → ⊥
    other_short h = cc
