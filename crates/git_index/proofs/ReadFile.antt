-- An index file that is read is written.
use Rattle.std.proofs.Common.{◌≡◌, ◌⊎◌, refl, sym, ap, ◌∙◌, subst, arith, inl, inr, ℕ, zero, suc, ◌+◌, ◌-◌, ◌≤◌, ◌<◌, ◌^◌, not, cond, Bool, true, false, ◌||◌, nat_lt, lt-ltb, ltb-false, List, [], ◌∷◌, ◌++◌, map, length, take, drop, replicate, codes, position, Option, Some, None, Result, Ok, Err, ok_or, IfOk, if◌then◌else◌, append_assoc, length-drop, length-take-le, take-append-drop, drop-drop}
use Rattle.std.proofs.lemmas.List.{length-map}
use Rattle.std.specs.Str.{bytes_eq}
use Rattle.std.specs.Cmp.Lexicographic.{bytes_decides}
use Rattle.std.specs.List.{list_any, list_all, position_or_len}
use Rattle.byteorder.specs.Endian.{big_bytes}
use Rattle.sha1.specs.Sha1.{sha1}
use Rattle.gitbase_core.specs.declared.entry.IndexEntry.{IndexEntry}
use Rattle.gitbase_core.specs.Entry.{is_sparse_directory_entry}
use Rattle.gitbase_core.specs.Text.{is_nul}
use Rattle.git_index.specs.Parts.{nth_big_endian_u32}
use Rattle.git_index.specs.Entries.{EntriesAndRest, EntriesAndDetails, EntryAndRest, read_entries_after_others, read_entry, path_of_last_entry, no_entries_and_details, path_of_optional_entry, entries_and_details_with_one_more}
use Rattle.git_index.specs.Extensions.{read_sparse_mark_of_rest}
use Rattle.git_index.specs.Gives.{IndexResultAgrees}
use Rattle.git_index.specs.IndexFile.{IndexFileContents, index_after_extensions_and_directory_check, verify_and_read_body, read_entries_and_extensions, parse_index_file_bytes, index_of_entries_and_sparseness, is_checksum_or_nuls, is_supported_version, index_unless_stray_sparse_directory, index_or_directory_error}
use Rattle.git_index.specs.Written.{AreWritableExtensions, AreWritableEntriesAfterPath, WrittenExtension, IsIndexFileOfContents, WrittenEntry, index_body_bytes, detail_of_written, entries_bytes, index_entry_of_written, entry_bytes, extensions_bytes, index_of_written, is_sparse_mark_extension, is_written_sparse_directory}
use Rattle.git_index.specs.declared.stat.Detail.{Detail}
use Rattle.git_index.specs.declared.error.IndexFileError.{IndexFileError}
use Rattle.git_index.specs.declared.error.IndexFileError.TheVariants as errors
use Rattle.git_index.proofs.Numbers.{AreBytes, bytes_behind, bytes_front, bytes_tail, number_at, number_small}
use Rattle.git_index.proofs.ReadEntry.{from_entry}
use Rattle.git_index.proofs.ReadExtensions.{from_extensions}
use Rattle.git_index.proofs.ReadParts.{nuls_back}
use Rattle.git_index.proofs.Steps.{given, ok_is, turned, unless, went, where_so}
use Rattle.git_index.proofs.WrittenFile.{last_of, listed_again, listed_alone, listed_with}

-- ---- the entries

pub record AreEntriesOf (version : ℕ) (listed : EntriesAndDetails) (previous : List ℕ) (n : ℕ) (bytes : List ℕ) (out : EntriesAndRest) : Type 0 where
  pub ws : List WrittenEntry
  pub count : length ws ≡ n
  pub whole : bytes ≡ entries_bytes version previous ws ++ out.rest
  pub writable : AreWritableEntriesAfterPath version previous ws
  pub says : out.listed ≡ listed_with listed ws

pub from_entries : (version : ℕ) (listed : EntriesAndDetails) (previous : List ℕ) (n : ℕ) (bytes : List ℕ) (out : EntriesAndRest) → AreBytes bytes → list_any is_nul previous ≡ false
    → path_of_last_entry listed.entries ≡ previous → read_entries_after_others version listed n bytes ≡ Ok out → AreEntriesOf version listed previous n bytes out
from_entries version listed previous zero bytes out ok plain last h =
    subst (AreEntriesOf version listed previous 0 bytes) (ok_is h) (record { ws = []; count = refl; whole = refl; writable = tt; says = listed_alone listed })
from_entries version listed previous (suc n) bytes out ok plain last h =
    let found = read_entry version (path_of_last_entry listed.entries) bytes in
    let fault = errors.Entry (length listed.entries) in
    let step = went (ok_or found fault) (λ (read : EntryAndRest). read_entries_after_others version (entries_and_details_with_one_more listed read.entry read.detail) n read.rest) out h in
    let read = step.0 in
    let is : read_entry version previous bytes ≡ Some read = ap (λ p. read_entry version p bytes) (sym last) ∙ given found fault read step.1 in
    let one = from_entry version previous bytes read ok plain is in
    let w = one.w in
    let rest_ok = bytes_tail (entry_bytes version previous w) read.rest (subst AreBytes one.whole ok) in
    let next : path_of_last_entry (listed.entries ++ read.entry ∷ []) ≡ w.path = ap path_of_optional_entry (last_of listed.entries read.entry) ∙ sym (ap (λ (e : IndexEntry). e.path) one.entry) in
    let more = from_entries version (entries_and_details_with_one_more listed read.entry read.detail) w.path n read.rest out rest_ok one.writable.path next step.2 in
    record {
      ws = w ∷ more.ws;
      count = ap (λ k. suc k) more.count;
      whole = one.whole ∙ ap (λ x. entry_bytes version previous w ++ x) more.whole ∙ sym (append_assoc (entry_bytes version previous w) (entries_bytes version w.path more.ws) out.rest);
      writable = (one.writable, more.writable);
      says = more.says ∙ ap (λ (e : IndexEntry). listed_with (entries_and_details_with_one_more listed e read.detail) more.ws) (sym one.entry)
          ∙ ap (λ (d : Detail). listed_with (entries_and_details_with_one_more listed (index_entry_of_written w) d) more.ws) (sym one.detail) ∙ listed_again listed w more.ws;
    }

-- ---- the file

sum_back : (body sum : List ℕ) → is_checksum_or_nuls body sum ≡ true → length sum ≡ 20 → (sum ≡ sha1 body) ⊎ (sum ≡ replicate 20 0)
sum_back body sum h size = go (list_all is_nul sum) refl h where
  go : (b : Bool) → list_all is_nul sum ≡ b → (b || bytes_eq sum (sha1 body)) ≡ true → (sum ≡ sha1 body) ⊎ (sum ≡ replicate 20 0)
  go true is h = inr (nuls_back sum is ∙ ap (λ n. replicate n 0) size)
  go false is h = inl ((bytes_decides sum (sha1 body)).0 h)

-- what has no place is no element
nowhere : (es : List IndexEntry) → position is_sparse_directory_entry es ≡ None → list_any is_sparse_directory_entry es ≡ false
nowhere [] none = refl
nowhere (e ∷ es) none = go (list_any is_sparse_directory_entry (e ∷ es)) refl where
  before : (es : List IndexEntry) → list_any is_sparse_directory_entry es ≡ true → position_or_len is_sparse_directory_entry es < length es
  before [] h = absurd (cc)
  before (e ∷ es) h = step (is_sparse_directory_entry e) h (λ r. before es r) where
    step : (b : Bool) → (b || list_any is_sparse_directory_entry es) ≡ true → (list_any is_sparse_directory_entry es ≡ true → position_or_len is_sparse_directory_entry es < length es)
        → cond (not b) (1 + position_or_len is_sparse_directory_entry es) 0 < suc (length es)
    step true h again = omega arith
    step false h again = omega (arith, again h)

  go : (b : Bool) → list_any is_sparse_directory_entry (e ∷ es) ≡ b → b ≡ false
  go false h = refl
  go true h =
      let place = position_or_len is_sparse_directory_entry (e ∷ es) in
      let some : position is_sparse_directory_entry (e ∷ es) ≡ Some place = ap (λ t. cond t (Some place) None) (lt-ltb place (length (e ∷ es)) (before (e ∷ es) h)) in
      absurd (clash place (sym some ∙ none))
    where
      clash : (at : ℕ) → Some at ≡ None → ⊥
      clash at h = cc

-- an index without a mark holds no entry that stands for a directory
record IsMarked (listed : EntriesAndDetails) (sparse : Bool) (index : IndexFileContents) : Type 0 where
  none : sparse ≡ false → list_any is_sparse_directory_entry listed.entries ≡ false
  says : index_of_entries_and_sparseness listed sparse ≡ index

from_mark : (listed : EntriesAndDetails) (sparse : Bool) (index : IndexFileContents) → index_unless_stray_sparse_directory listed sparse ≡ Ok index → IsMarked listed sparse index
from_mark listed sparse index h = go (position is_sparse_directory_entry listed.entries) refl h where
  clash : (b : Bool) → b ≡ true → b ≡ false → ⊥
  clash true e f = cc
  clash false e f = cc

  go : (at : Option ℕ) → position is_sparse_directory_entry listed.entries ≡ at → index_or_directory_error sparse (index_of_entries_and_sparseness listed sparse) at ≡ Ok index → IsMarked listed sparse index
  go None is h = record { none = λ _. nowhere listed.entries is; says = ok_is h }
  go (Some at) is h =
      let told = where_so sparse (errors.Directory at) (Ok (index_of_entries_and_sparseness listed sparse)) index h in
      record { none = λ not_sparse. absurd (clash sparse told.0 not_sparse); says = ok_is told.1 }

directories : (ws : List WrittenEntry) → list_any is_sparse_directory_entry (map index_entry_of_written ws) ≡ list_any is_written_sparse_directory ws
directories [] = refl
directories (w ∷ ws) = ap (λ b. is_written_sparse_directory w || b) (directories ws)

pub record IsBodyOf (body sum : List ℕ) (index : IndexFileContents) : Type 0 where
  pub version : ℕ
  pub ws : List WrittenEntry
  pub es : List WrittenExtension
  pub is : is_supported_version version ≡ true
  pub few : length ws < 256 ^ 4
  pub entries : AreWritableEntriesAfterPath version [] ws
  pub extensions : AreWritableExtensions es
  pub marked : list_any is_sparse_mark_extension es ≡ false → list_any is_written_sparse_directory ws ≡ false
  pub summed : is_checksum_or_nuls body sum ≡ true
  pub whole : body ≡ index_body_bytes version ws es
  pub says : index ≡ index_of_written ws es

from_body : (body sum : List ℕ) (index : IndexFileContents) → 12 ≤ length body → AreBytes body → verify_and_read_body body sum ≡ Ok index → IsBodyOf body sum index
from_body body sum index long ok h =
    let version = nth_big_endian_u32 1 body in
    let count = nth_big_endian_u32 2 body in
    let rest = drop 12 body in
    let read_on = read_entries_and_extensions version count rest in
    let sums = if not (is_checksum_or_nuls body sum) then Err errors.Sum else read_on in
    let signed = unless (not (bytes_eq (take 4 body) (codes "DIRC"))) errors.Signature (if not (is_supported_version version) then Err (errors.Version version) else sums) index h in
    let versioned = unless (not (is_supported_version version)) (errors.Version version) sums index signed.1 in
    let summed = unless (not (is_checksum_or_nuls body sum)) errors.Sum read_on index versioned.1 in
    let read = went (read_entries_after_others version no_entries_and_details count rest) index_after_extensions_and_directory_check index summed.1 in
    let entries = from_entries version no_entries_and_details [] count rest read.0 (bytes_behind 12 body ok) refl refl read.1 in
    let marks = went (read_sparse_mark_of_rest 0 false read.0.rest) (index_unless_stray_sparse_directory read.0.listed) index read.2 in
    let mark = from_mark read.0.listed marks.0 index marks.2 in
    let rest_ok = bytes_tail (entries_bytes version [] entries.ws) read.0.rest (subst AreBytes entries.whole (bytes_behind 12 body ok)) in
    let extensions = from_extensions 0 false read.0.rest marks.0 rest_ok marks.1 in
    let name : take 4 body ≡ codes "DIRC" = (bytes_decides (take 4 body) (codes "DIRC")).0 (turned (bytes_eq (take 4 body) (codes "DIRC")) signed.0) in
    let counted : big_bytes 4 (length entries.ws) ≡ take 4 (drop 8 body) = ap (big_bytes 4) entries.count ∙ number_at 8 body (omega (arith, long)) ok in
    let texts = entries_bytes version [] entries.ws ++ extensions_bytes extensions.es in
    let last : rest ≡ texts = entries.whole ∙ ap (λ x. entries_bytes version [] entries.ws ++ x) extensions.whole in
    let third : drop 8 body ≡ big_bytes 4 (length entries.ws) ++ texts =
    sym (take-append-drop 4 (drop 8 body)) ∙ ap (λ x. x ++ drop 4 (drop 8 body)) (sym counted) ∙ ap (λ x. big_bytes 4 (length entries.ws) ++ x) (drop-drop 4 8 body ∙ last) in
    let second : drop 4 body ≡ big_bytes 4 version ++ (big_bytes 4 (length entries.ws) ++ texts) =
    sym (take-append-drop 4 (drop 4 body)) ∙ ap (λ x. x ++ drop 4 (drop 4 body)) (sym (number_at 4 body (omega (arith, long)) ok)) ∙ ap (λ x. big_bytes 4 version ++ x) (drop-drop 4 4 body ∙ third) in
    record {
      version = version;
      ws = entries.ws;
      es = extensions.es;
      is = turned (is_supported_version version) versioned.0;
      few = subst (λ (k : ℕ). k < 256 ^ 4) (sym entries.count) (number_small 4 (drop 8 body) (bytes_behind 8 body ok));
      entries = entries.writable;
      extensions = extensions.held;
      marked = λ none. sym (directories entries.ws) ∙ ap (λ (l : EntriesAndDetails). list_any is_sparse_directory_entry l.entries) (sym entries.says) ∙ mark.none (extensions.says ∙ none);
      summed = turned (is_checksum_or_nuls body sum) summed.0;
      whole = sym (take-append-drop 4 body) ∙ ap (λ x. x ++ drop 4 body) name ∙ ap (λ x. codes "DIRC" ++ x) second;
      says = sym mark.says ∙ ap (λ (l : EntriesAndDetails). index_of_entries_and_sparseness l marks.0) entries.says ∙ ap (index_of_entries_and_sparseness (listed_with no_entries_and_details entries.ws)) extensions.says;
    }

-- Whatever is read in some bytes is written in them.
pub read_is_written : (bytes : List ℕ) (index : IndexFileContents) → AreBytes bytes → parse_index_file_bytes bytes ≡ Ok index → IsIndexFileOfContents bytes index
unfolding parse_index_file_bytes
read_is_written bytes index ok h =
    let body = take (length bytes - 20) bytes in
    let sum = drop (length bytes - 20) bytes in
    let long = unless (nat_lt (length bytes) 32) errors.Short (verify_and_read_body body sum) index h in
    let fits : 32 ≤ length bytes = ltb-false (length bytes) 32 long.0 in
    let body_size : length body ≡ length bytes - 20 = length-take-le (length bytes - 20) bytes (omega (arith, fits)) in
    let sum_size : length sum ≡ 20 = omega (arith, fits, length-drop (length bytes - 20) bytes) in
    let read = from_body body sum index (omega (arith, fits, body_size)) (bytes_front (length bytes - 20) bytes ok) long.1 in
    record {
      version = read.version;
      ws = read.ws;
      es = read.es;
      text = record {
        is_version = read.is;
        few = read.few;
        entries = read.entries;
        extensions = read.extensions;
        marked = read.marked;
        sum = sum;
        sum_length = sum_size;
        sums = subst (λ (x : List ℕ). (sum ≡ sha1 x) ⊎ (sum ≡ replicate 20 0)) read.whole (sum_back body sum read.summed sum_size);
        whole = sym (take-append-drop (length bytes - 20) bytes) ∙ ap (λ x. x ++ sum) read.whole;
      };
      says = read.says;
    }

-- an answer is what is written in the bytes
pub answers_written : (result : Result IndexFileContents IndexFileError) (bytes : List ℕ) → AreBytes bytes → IndexResultAgrees result (parse_index_file_bytes bytes) → IfOk result (IsIndexFileOfContents bytes)
answers_written (Ok index) bytes ok h = read_is_written bytes index ok h
answers_written (Err e) bytes ok h = tt

-- as many details as entries
pub beside : (result : Result IndexFileContents IndexFileError) (bytes : List ℕ) → AreBytes bytes → IndexResultAgrees result (parse_index_file_bytes bytes) → IfOk result (λ index. length index.details ≡ length index.entries)
beside (Ok index) bytes ok h =
    let read = read_is_written bytes index ok h in
    ap (λ (i : IndexFileContents). length i.details) read.says ∙ length-map read.ws detail_of_written ∙ sym (length-map read.ws index_entry_of_written) ∙ sym (ap (λ (i : IndexFileContents). length i.entries) read.says)
beside (Err e) bytes ok h = tt
