-- An index file that is written is read.
use Rattle.std.proofs.Common.{◌≡◌, ◌⊎◌, refl, sym, ap, ◌∙◌, arith, inl, inr, ℕ, suc, ◌+◌, ◌-◌, ◌≤◌, ◌<◌, ◌^◌, Bool, true, false, not, ◌||◌, nat_le, List, [], ◌∷◌, ◌++◌, map, length, take, drop, replicate, slice_get, codes, Option, Some, None, position, cond, nat_lt, Result, Ok, Err, MatchResult, if◌then◌else◌, append_assoc, length-append, drop-drop, le-leb, le-ltb, leb-true}
use Rattle.std.proofs.lemmas.List.{append-nil}
use Rattle.std.proofs.lemmas.Option.{slice_get-get_or}
use Rattle.std.proofs.Math.Seq.{get_or-append_seam}
use Rattle.std.specs.Str.{bytes_eq}
use Rattle.std.specs.Cmp.Lexicographic.{bytes_decides}
use Rattle.std.specs.List.{list_any, list_all, position_or_len}
use Rattle.byteorder.specs.Endian.{big_number, big_bytes}
use Rattle.byteorder.specs.Numbers.{big_number-reads_back, length-bytes_high_first}
use Rattle.sha1.specs.Sha1.{sha1}
use Rattle.gitbase_core.specs.declared.entry.IndexEntry.{IndexEntry}
use Rattle.gitbase_core.specs.Steps.{and_then}
use Rattle.gitbase_core.specs.Entry.{is_sparse_directory_entry}
use Rattle.gitbase_core.specs.Text.{is_nul}
use Rattle.git_index.specs.Parts.{nth_big_endian_u32}
use Rattle.git_index.specs.Entries.{EntriesAndDetails, EntryAndRest, read_entries_after_others, read_entry, path_of_last_entry, no_entries_and_details, path_of_optional_entry, entries_and_details_with_one_more}
use Rattle.git_index.specs.Extensions.{read_extension_head, read_sparse_mark_of_rest, is_optional_extension_name, extension_head_of_name_and_size}
use Rattle.git_index.specs.IndexFile.{IndexFileContents, index_after_extensions_and_directory_check, verify_and_read_body, read_entries_and_extensions, parse_index_file_bytes, is_checksum_or_nuls, is_supported_version, index_unless_stray_sparse_directory, index_or_directory_error}
use Rattle.git_index.specs.Written.{WrittenEntry, AreWritableEntriesAfterPath, WrittenExtension, IsWritableExtension, AreWritableExtensions, IsIndexFileOfWritten, index_body_bytes, entries_bytes, index_entry_of_written, entry_bytes, extensions_bytes, extension_bytes, detail_of_written, index_of_written, is_sparse_mark_extension, is_written_sparse_directory}
use Rattle.git_index.specs.Gives.{IndexResultAgrees}
use Rattle.git_index.specs.declared.stat.Detail.{Detail}
use Rattle.git_index.specs.declared.error.IndexFileError.{IndexFileError}
use Rattle.git_index.specs.declared.error.IndexFileError.TheVariants as errors
use Rattle.git_index.proofs.Passing.{past_one}
use Rattle.git_index.proofs.Seams.{take_exact, drop_exact, all_nuls}
use Rattle.git_index.proofs.Stepping.{by_one}
use Rattle.git_index.proofs.Steps.{and_second}
use Rattle.git_index.proofs.WrittenEntry.{entry_exact}

-- ---- lists

-- what no element is has no place
pub no_place : (es : List IndexEntry) → list_any is_sparse_directory_entry es ≡ false → position is_sparse_directory_entry es ≡ None
no_place es none = ap (λ n. cond (nat_lt n (length es)) (Some n) None) (at_end es none) ∙ ap (λ b. cond b (Some (length es)) None) (le-ltb (length es) (length es) (omega arith))
  where
    at_end : (es : List IndexEntry) → list_any is_sparse_directory_entry es ≡ false → position_or_len is_sparse_directory_entry es ≡ length es
    at_end [] none = refl
    at_end (e ∷ es) none = go (is_sparse_directory_entry e) none (λ r. at_end es r) where
      go : (b : Bool) → (b || list_any is_sparse_directory_entry es) ≡ false → (list_any is_sparse_directory_entry es ≡ false → position_or_len is_sparse_directory_entry es ≡ length es)
          → cond (not b) (1 + position_or_len is_sparse_directory_entry es) 0 ≡ suc (length es)
      go true r again = absurd (cc)
      go false r again =
          let rest = again r in
          omega (arith, rest)

-- ---- the entries

pub last_of : (done : List IndexEntry) (e : IndexEntry) → slice_get (done ++ e ∷ []) (length (done ++ e ∷ []) - 1) ≡ Some e
last_of done e =
    let all = done ++ e ∷ [] in
    let place : length all - 1 ≡ length done = omega (arith, length-append done (e ∷ [])) in
    let within : length done < length all = omega (arith, length-append done (e ∷ [])) in
    ap (slice_get all) place ∙ slice_get-get_or all (length done) e within ∙ ap (λ x. Some x) (get_or-append_seam done e [] e)

-- what is listed, and the entries that are written behind it
abbrev pub listed_with : EntriesAndDetails → List WrittenEntry → EntriesAndDetails
listed_with listed ws = record { entries = listed.entries ++ map index_entry_of_written ws; details = listed.details ++ map detail_of_written ws }

abbrev read_with : WrittenEntry → List ℕ → EntryAndRest
read_with w rest = record { entry = index_entry_of_written w; detail = detail_of_written w; rest = rest }

pub listed_again : (listed : EntriesAndDetails) (w : WrittenEntry) (ws : List WrittenEntry) → listed_with (entries_and_details_with_one_more listed (index_entry_of_written w) (detail_of_written w)) ws ≡ listed_with listed (w ∷ ws)
listed_again listed w ws =
    ap (λ (es : List IndexEntry). record { entries = es; details = (listed.details ++ detail_of_written w ∷ []) ++ map detail_of_written ws }) (append_assoc listed.entries (index_entry_of_written w ∷ []) (map index_entry_of_written ws))
    ∙ ap (λ (ds : List Detail). record { entries = listed.entries ++ map index_entry_of_written (w ∷ ws); details = ds }) (append_assoc listed.details (detail_of_written w ∷ []) (map detail_of_written ws))

pub listed_alone : (listed : EntriesAndDetails) → listed ≡ listed_with listed []
listed_alone listed =
    ap (λ (es : List IndexEntry). record { entries = es; details = listed.details }) (sym (append-nil listed.entries))
    ∙ ap (λ (ds : List Detail). record { entries = listed.entries ++ []; details = ds }) (sym (append-nil listed.details))

pub entries_exact : (version : ℕ) (listed : EntriesAndDetails) (previous : List ℕ) (ws : List WrittenEntry) (rest : List ℕ)
    → path_of_last_entry listed.entries ≡ previous → AreWritableEntriesAfterPath version previous ws
    → read_entries_after_others version listed (length ws) (entries_bytes version previous ws ++ rest) ≡ Ok (record { listed = listed_with listed ws; rest = rest })
entries_exact version listed previous [] rest last ok = ap (λ (l : EntriesAndDetails). Ok (record { listed = l; rest = rest })) (listed_alone listed)
entries_exact version listed previous (w ∷ ws) rest last ok =
    let more = entries_bytes version w.path ws ++ rest in
    let all = entries_bytes version previous (w ∷ ws) ++ rest in
    let bytes : all ≡ entry_bytes version previous w ++ more = append_assoc (entry_bytes version previous w) (entries_bytes version w.path ws) rest in
    let read : read_entry version (path_of_last_entry listed.entries) all ≡ Some (read_with w more) =
    ap (λ p. read_entry version p all) last ∙ ap (read_entry version previous) bytes ∙ entry_exact version previous w more ok.0 in
    by_one version listed (length ws) all (Some (read_with w more)) read
    ∙ entries_exact version (entries_and_details_with_one_more listed (index_entry_of_written w) (detail_of_written w)) w.path ws rest (ap path_of_optional_entry (last_of listed.entries (index_entry_of_written w))) ok.1
    ∙ ap (λ (l : EntriesAndDetails). Ok (record { listed = l; rest = rest })) (listed_again listed w ws)

-- ---- the extensions

named_exact : (name : List ℕ) (size : ℕ) → (is_optional_extension_name name ≡ true) ⊎ (name ≡ codes "sdir")
    → extension_head_of_name_and_size name size ≡ Ok (record { size = size; is_sparse = not (is_optional_extension_name name) })
named_exact name size (inl known) =
    ap (λ b. if b then Ok (record { size = size; is_sparse = false }) else (if bytes_eq name (codes "sdir") then Ok (record { size = size; is_sparse = true }) else (if bytes_eq name (codes "link") then Err errors.Split else Err (errors.Unknown name)))) known
    ∙ ap (λ b. Ok (record { size = size; is_sparse = not b })) (sym known)
named_exact name size (inr same) =
    ap (λ n. extension_head_of_name_and_size n size) same ∙ ap (λ n. Ok (record { size = size; is_sparse = not (is_optional_extension_name n) })) (sym same)

held_at : (e : WrittenExtension) (rest : List ℕ) → IsWritableExtension e → read_extension_head (extension_bytes e ++ rest) ≡ Ok (record { size = length e.content; is_sparse = is_sparse_mark_extension e })
held_at e rest ok =
    let size = big_bytes 4 (length e.content) in
    let left = extension_bytes e ++ rest in
    let bytes : left ≡ e.name ++ ((size ++ e.content) ++ rest) = append_assoc e.name (size ++ e.content) rest in
    let long : 8 ≤ length left = omega (arith, ok.name, length-bytes_high_first 4 (length e.content), length-append (extension_bytes e) rest, length-append e.name (size ++ e.content), length-append size e.content) in
    let name : take 4 left ≡ e.name = ap (take 4) bytes ∙ take_exact 4 e.name ((size ++ e.content) ++ rest) ok.name in
    let number : big_number 4 (drop 4 left) ≡ length e.content =
    ap (big_number 4) (ap (drop 4) bytes ∙ drop_exact 4 e.name ((size ++ e.content) ++ rest) ok.name ∙ append_assoc size e.content rest) ∙ big_number-reads_back 4 (length e.content) (e.content ++ rest) ok.size in
    ap (λ b. if b then extension_head_of_name_and_size (take 4 left) (big_number 4 (drop 4 left)) else Err errors.Extensions) (le-leb _ _ long)
    ∙ ap (λ n. extension_head_of_name_and_size n (big_number 4 (drop 4 left))) name
    ∙ ap (extension_head_of_name_and_size e.name) number
    ∙ named_exact e.name (length e.content) ok.known

pub extensions_exact : (sparse : Bool) (es : List WrittenExtension) → AreWritableExtensions es → read_sparse_mark_of_rest 0 sparse (extensions_bytes es) ≡ Ok (sparse || list_any is_sparse_mark_extension es)
extensions_exact sparse [] ok = ap (λ b. Ok b) (go sparse) where
  go : (b : Bool) → b ≡ (b || false)
  go true = refl
  go false = refl
extensions_exact sparse (e ∷ es) ok =
    let size = big_bytes 4 (length e.content) in
    let rest = extensions_bytes es in
    let left = extension_bytes e ++ rest in
    let number = length-bytes_high_first 4 (length e.content) in
    let long : length e.content + 8 ≤ length left = omega (arith, ok.0.name, number, length-append (extension_bytes e) rest, length-append e.name (size ++ e.content), length-append size e.content) in
    let eight : length (e.name ++ size) ≡ 8 = omega (arith, ok.0.name, number, length-append e.name size) in
    let bytes : left ≡ (e.name ++ size) ++ (e.content ++ rest) =
    append_assoc e.name (size ++ e.content) rest ∙ ap (λ x. e.name ++ x) (append_assoc size e.content rest) ∙ sym (append_assoc e.name size (e.content ++ rest)) in
    let behind : drop (length e.content) (drop 8 left) ≡ rest =
    ap (drop (length e.content)) (ap (drop 8) bytes ∙ drop_exact 8 (e.name ++ size) (e.content ++ rest) eight) ∙ drop_exact (length e.content) e.content rest refl in
    past_one sparse left (record { size = length e.content; is_sparse = is_sparse_mark_extension e }) long (held_at e rest ok.0)
    ∙ ap (read_sparse_mark_of_rest 0 (sparse || is_sparse_mark_extension e)) behind
    ∙ extensions_exact (sparse || is_sparse_mark_extension e) es ok.1
    ∙ ap (λ b. Ok b) (together sparse (is_sparse_mark_extension e) (list_any is_sparse_mark_extension es))
  where
    together : (a b c : Bool) → ((a || b) || c) ≡ (a || (b || c))
    together true b c = refl
    together false b c = refl

-- ---- the file

version_small : (version : ℕ) → is_supported_version version ≡ true → version < 256 ^ 4
version_small version is =
    let upper : version ≤ 4 = leb-true version 4 (and_second (nat_le 2 version) (nat_le version 4) is) in
    omega (arith, upper)

or_true : (a : Bool) → (a || true) ≡ true
or_true true = refl
or_true false = refl

sum_exact : (body sum : List ℕ) → (sum ≡ sha1 body) ⊎ (sum ≡ replicate 20 0) → is_checksum_or_nuls body sum ≡ true
sum_exact body sum (inl same) = ap (λ b. list_all is_nul sum || b) ((bytes_decides sum (sha1 body)).1 same) ∙ or_true (list_all is_nul sum)
sum_exact body sum (inr same) = ap (λ (s : List ℕ). list_all is_nul s || bytes_eq sum (sha1 body)) same ∙ ap (λ b. b || bytes_eq sum (sha1 body)) (all_nuls 20)

-- no entry stands for a directory where no extension says so
directory_of : (ws : List WrittenEntry) → list_any is_written_sparse_directory ws ≡ false → position is_sparse_directory_entry (map index_entry_of_written ws) ≡ None
directory_of ws none = no_place (map index_entry_of_written ws) (mapped ws ∙ none)
  where
    mapped : (ws : List WrittenEntry) → list_any is_sparse_directory_entry (map index_entry_of_written ws) ≡ list_any is_written_sparse_directory ws
    mapped [] = refl
    mapped (w ∷ ws) = ap (λ b. is_written_sparse_directory w || b) (mapped ws)

marked_exact : (listed : EntriesAndDetails) (sparse : Bool) → (sparse ≡ false → position is_sparse_directory_entry listed.entries ≡ None)
    → index_unless_stray_sparse_directory listed sparse ≡ Ok (record { entries = listed.entries; details = listed.details; is_sparse = sparse })
marked_exact listed true none = go (position is_sparse_directory_entry listed.entries) where
  go : (at : Option ℕ) → index_or_directory_error true (record { entries = listed.entries; details = listed.details; is_sparse = true }) at
      ≡ Ok (record { entries = listed.entries; details = listed.details; is_sparse = true })
  go None = refl
  go (Some at) = refl
marked_exact listed false none = ap (index_or_directory_error false (record { entries = listed.entries; details = listed.details; is_sparse = false })) (none refl)

body_exact : (version : ℕ) (ws : List WrittenEntry) (es : List WrittenExtension) (sum : List ℕ) → is_supported_version version ≡ true → length ws < 256 ^ 4 → AreWritableEntriesAfterPath version [] ws → AreWritableExtensions es
    → (list_any is_sparse_mark_extension es ≡ false → list_any is_written_sparse_directory ws ≡ false) → is_checksum_or_nuls (index_body_bytes version ws es) sum ≡ true
    → verify_and_read_body (index_body_bytes version ws es) sum ≡ Ok (index_of_written ws es)
body_exact version ws es sum is few entries extensions marked summed =
    let v = big_bytes 4 version in
    let n = big_bytes 4 (length ws) in
    let rest = entries_bytes version [] ws ++ extensions_bytes es in
    let body = index_body_bytes version ws es in
    let small : version < 256 ^ 4 = version_small version is in
    let name : take 4 body ≡ codes "DIRC" = take_exact 4 (codes "DIRC") (v ++ (n ++ rest)) refl in
    let behind : drop 4 body ≡ v ++ (n ++ rest) = drop_exact 4 (codes "DIRC") (v ++ (n ++ rest)) refl in
    let version_at : nth_big_endian_u32 1 body ≡ version = ap (big_number 4) behind ∙ big_number-reads_back 4 version (n ++ rest) small in
    let eight : drop 8 body ≡ n ++ rest = sym (drop-drop 4 4 body) ∙ ap (drop 4) behind ∙ drop_exact 4 v (n ++ rest) (length-bytes_high_first 4 version) in
    let count_at : nth_big_endian_u32 2 body ≡ length ws = ap (big_number 4) eight ∙ big_number-reads_back 4 (length ws) rest few in
    let twelve : drop 12 body ≡ rest = sym (drop-drop 4 8 body) ∙ ap (drop 4) eight ∙ drop_exact 4 n rest (length-bytes_high_first 4 (length ws)) in
    let listed = listed_with no_entries_and_details ws in
    ap (λ (x : List ℕ). if not (bytes_eq x (codes "DIRC")) then Err errors.Signature
    else (if not (is_supported_version (nth_big_endian_u32 1 body)) then Err (errors.Version (nth_big_endian_u32 1 body))
    else (if not (is_checksum_or_nuls body sum) then Err errors.Sum else read_entries_and_extensions (nth_big_endian_u32 1 body) (nth_big_endian_u32 2 body) (drop 12 body)))) name
    ∙ ap (λ (x : ℕ). if not (is_supported_version x) then Err (errors.Version x) else (if not (is_checksum_or_nuls body sum) then Err errors.Sum else read_entries_and_extensions x (nth_big_endian_u32 2 body) (drop 12 body))) version_at
    ∙ ap (λ b. if not b then Err (errors.Version version) else (if not (is_checksum_or_nuls body sum) then Err errors.Sum else read_entries_and_extensions version (nth_big_endian_u32 2 body) (drop 12 body))) is
    ∙ ap (λ b. if not b then Err errors.Sum else read_entries_and_extensions version (nth_big_endian_u32 2 body) (drop 12 body)) summed
    ∙ ap (λ c. read_entries_and_extensions version c (drop 12 body)) count_at
    ∙ ap (read_entries_and_extensions version (length ws)) twelve
    ∙ ap (and_then index_after_extensions_and_directory_check) (entries_exact version no_entries_and_details [] ws (extensions_bytes es) refl entries)
    ∙ ap (and_then (index_unless_stray_sparse_directory listed)) (extensions_exact false es extensions)
    ∙ marked_exact listed (list_any is_sparse_mark_extension es) (λ none. directory_of ws (marked none))

-- Whatever is written in some bytes is what is read in them: so what they say is one.
pub reads_written : (bytes : List ℕ) (version : ℕ) (ws : List WrittenEntry) (es : List WrittenExtension) → IsIndexFileOfWritten bytes version ws es
    → parse_index_file_bytes bytes ≡ Ok (index_of_written ws es)
unfolding parse_index_file_bytes
reads_written bytes version ws es text =
    let body = index_body_bytes version ws es in
    let head : 12 ≤ length body =
    omega (
      arith,
      length-append (codes "DIRC") (big_bytes 4 version ++ (big_bytes 4 (length ws) ++ (entries_bytes version [] ws ++ extensions_bytes es))),
      length-append (big_bytes 4 version) (big_bytes 4 (length ws) ++ (entries_bytes version [] ws ++ extensions_bytes es)),
      length-bytes_high_first 4 version,
      length-append (big_bytes 4 (length ws)) (entries_bytes version [] ws ++ extensions_bytes es),
      length-bytes_high_first 4 (length ws),
    ) in
    let whole = body ++ text.sum in
    let all : length whole ≡ length body + 20 = omega (arith, length-append body text.sum, text.sum_length) in
    let long : 32 ≤ length whole = omega (arith, all, head) in
    let cut : length whole - 20 ≡ length body = omega (arith, all) in
    let front : take (length whole - 20) whole ≡ body = take_exact (length whole - 20) body text.sum (sym cut) in
    let back : drop (length whole - 20) whole ≡ text.sum = drop_exact (length whole - 20) body text.sum (sym cut) in
    ap parse_index_file_bytes text.whole
    ∙ ap (λ b. if b then Err errors.Short else verify_and_read_body (take (length whole - 20) whole) (drop (length whole - 20) whole)) (le-ltb _ _ long)
    ∙ ap (λ x. verify_and_read_body x (drop (length whole - 20) whole)) front
    ∙ ap (verify_and_read_body body) back
    ∙ body_exact version ws es text.sum text.is_version text.few text.entries text.extensions text.marked (sum_exact body text.sum text.sums)

-- an answer that is what the bytes say is what is written in them
pub answers : (result : Result IndexFileContents IndexFileError) (given : Result IndexFileContents IndexFileError) (index : IndexFileContents) → IndexResultAgrees result given → given ≡ Ok index
    → MatchResult result (λ file. file ≡ index) (λ e. e ≡ errors.OutOfMemory)
answers (Ok file) given index same is = cc
answers (Err e) given index (inl wants) is = wants
answers (Err e) given index (inr same) is = absurd (cc)
