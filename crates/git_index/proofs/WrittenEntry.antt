-- An entry that is written is read.
use Rattle.std.proofs.Common.{◌≡◌, refl, sym, ap, ◌∙◌, arith, ℕ, ◌+◌, ◌-◌, ◌/◌, ◌%◌, ◌<◌, min, if◌then◌else◌, Bool, true, false, ◌==◌, List, [], ◌∷◌, ◌++◌, length, take, drop, replicate, Option, Some, None, option_map, append_assoc, length-append, drop-drop, le-leb, eq-eqb}
use Rattle.std.proofs.lemmas.List.{append-nil, length-replicate}
use Rattle.std.specs.List.{list_any, list_all}
use Rattle.byteorder.specs.Endian.{big_number, big_bytes}
use Rattle.byteorder.specs.Numbers.{big_number-reads_back, length-bytes_high_first}
use Rattle.gitbase_core.specs.declared.entry.Mode.{Mode}
use Rattle.gitbase_core.specs.Steps.{◌>>=◌}
use Rattle.gitbase_core.specs.Text.{is_nul}
use Rattle.git_index.specs.Parts.{PartAndRest, text, nth_big_endian_u32}
use Rattle.git_index.specs.Varint.{VarintAndRest, varint_bytes_of_number}
use Rattle.git_index.specs.Head.{FixedEntryFields, parse_fixed_entry_fields, flags_of_assumed_and_skipped, known_mode_of_bits, mode_with_bits, stage_from_flags, stat_of_entry_head}
use Rattle.git_index.specs.More.{ExtendedFlagsAndRest, read_extended_flags_if_present, extended_flags_from_bits, read_extended_flags}
use Rattle.git_index.specs.Name.{PathAndRest, read_prefix_compressed_path, path_if_length_matches_flags, path_with_kept_prefix, path_with_checked_padding, padding_length_after_nul, read_entry_path, read_padded_path}
use Rattle.git_index.specs.Entries.{EntryAndRest, read_entry, read_entry_after_fixed_fields, read_path_of_flagged_length, entry_of_parts_read}
use Rattle.git_index.specs.Written.{IsWritableEntryAfterPath, SharesPreviousPrefix, WrittenEntry, AreFourByteNumbers, detail_of_written, index_entry_of_written, entry_bytes, first_flags_number, entry_head_bytes, extended_flags_size, extended_flags_bytes, entry_path_bytes, extended_flags_number as second_flags_of, head_words_of_written, big_endian_bytes_of_words}
use Rattle.git_index.specs.declared.stat.Stat.{Stat}
use Rattle.git_index.proofs.Bits.{AreBits, bits, second_bits}
use Rattle.git_index.proofs.Seams.{all_nuls, drop_exact, front_exact, no_nul_behind, take_exact, text_exact}
use Rattle.git_index.proofs.Varints.{number_exact}
use Rattle.git_index.proofs.Words.{word_exact, words_length}

flags_bits : (w : WrittenEntry) → w.stage < 4 → AreBits w.assumed w.extended w.stage (min (length w.path) 4095) (first_flags_number w)
flags_bits w h = bits w.assumed w.extended w.stage (min (length w.path) 4095) h (omega arith)

-- ---- the head

pub head_length : (w : WrittenEntry) → length w.id ≡ 20 → length (entry_head_bytes w) ≡ 62
head_length w id =
    let f = big_bytes 2 (first_flags_number w) in
    omega (arith, id, words_length (head_words_of_written w), length-bytes_high_first 2 (first_flags_number w), length-append (big_endian_bytes_of_words (head_words_of_written w)) (w.id ++ f), length-append w.id f)

stat_with : ℕ → ℕ → ℕ → ℕ → ℕ → ℕ → ℕ → ℕ → ℕ → Stat
stat_with cs cn ms mn dev ino uid gid size = record {
  ctime = record { seconds = cs; nanoseconds = cn };
  mtime = record { seconds = ms; nanoseconds = mn };
  dev = dev;
  ino = ino;
  uid = uid;
  gid = gid;
  size = size;
}

stat_exact : (w : WrittenEntry) (rest : List ℕ) → AreFourByteNumbers (head_words_of_written w) → stat_of_entry_head (big_endian_bytes_of_words (head_words_of_written w) ++ rest) ≡ w.stat
unfolding stat_with
stat_exact w rest ok =
    let ns = head_words_of_written w in
    let head = big_endian_bytes_of_words ns ++ rest in
    let s = w.stat in
    ap (λ n. stat_with n (nth_big_endian_u32 1 head) (nth_big_endian_u32 2 head) (nth_big_endian_u32 3 head) (nth_big_endian_u32 4 head) (nth_big_endian_u32 5 head) (nth_big_endian_u32 7 head) (nth_big_endian_u32 8 head) (nth_big_endian_u32 9 head)) (word_exact 0 ns rest ok (omega arith))
    ∙ ap (λ n. stat_with s.ctime.seconds n (nth_big_endian_u32 2 head) (nth_big_endian_u32 3 head) (nth_big_endian_u32 4 head) (nth_big_endian_u32 5 head) (nth_big_endian_u32 7 head) (nth_big_endian_u32 8 head) (nth_big_endian_u32 9 head)) (word_exact 1 ns rest ok (omega arith))
    ∙ ap (λ n. stat_with s.ctime.seconds s.ctime.nanoseconds n (nth_big_endian_u32 3 head) (nth_big_endian_u32 4 head) (nth_big_endian_u32 5 head) (nth_big_endian_u32 7 head) (nth_big_endian_u32 8 head) (nth_big_endian_u32 9 head)) (word_exact 2 ns rest ok (omega arith))
    ∙ ap (λ n. stat_with s.ctime.seconds s.ctime.nanoseconds s.mtime.seconds n (nth_big_endian_u32 4 head) (nth_big_endian_u32 5 head) (nth_big_endian_u32 7 head) (nth_big_endian_u32 8 head) (nth_big_endian_u32 9 head)) (word_exact 3 ns rest ok (omega arith))
    ∙ ap (λ n. stat_with s.ctime.seconds s.ctime.nanoseconds s.mtime.seconds s.mtime.nanoseconds n (nth_big_endian_u32 5 head) (nth_big_endian_u32 7 head) (nth_big_endian_u32 8 head) (nth_big_endian_u32 9 head)) (word_exact 4 ns rest ok (omega arith))
    ∙ ap (λ n. stat_with s.ctime.seconds s.ctime.nanoseconds s.mtime.seconds s.mtime.nanoseconds s.dev n (nth_big_endian_u32 7 head) (nth_big_endian_u32 8 head) (nth_big_endian_u32 9 head)) (word_exact 5 ns rest ok (omega arith))
    ∙ ap (λ n. stat_with s.ctime.seconds s.ctime.nanoseconds s.mtime.seconds s.mtime.nanoseconds s.dev s.ino n (nth_big_endian_u32 8 head) (nth_big_endian_u32 9 head)) (word_exact 7 ns rest ok (omega arith))
    ∙ ap (λ n. stat_with s.ctime.seconds s.ctime.nanoseconds s.mtime.seconds s.mtime.nanoseconds s.dev s.ino s.uid n (nth_big_endian_u32 9 head)) (word_exact 8 ns rest ok (omega arith))
    ∙ ap (λ n. stat_with s.ctime.seconds s.ctime.nanoseconds s.mtime.seconds s.mtime.nanoseconds s.dev s.ino s.uid s.gid n) (word_exact 9 ns rest ok (omega arith))

pub fixed_exact : (version : ℕ) (previous : List ℕ) (w : WrittenEntry) → IsWritableEntryAfterPath version previous w
    → parse_fixed_entry_fields (entry_head_bytes w) ≡ Some (record { stat = w.stat; mode = mode_with_bits w.mode; id = w.id; flags = first_flags_number w })
fixed_exact version previous w ok =
    let f = big_bytes 2 (first_flags_number w) in
    let head = entry_head_bytes w in
    let mode_at : nth_big_endian_u32 6 head ≡ w.mode = word_exact 6 (head_words_of_written w) (w.id ++ f) ok.words (omega arith) in
    let behind : drop 40 head ≡ w.id ++ f = drop_exact 40 (big_endian_bytes_of_words (head_words_of_written w)) (w.id ++ f) (words_length (head_words_of_written w)) in
    let id_at : take 20 (drop 40 head) ≡ w.id = ap (take 20) behind ∙ take_exact 20 w.id f ok.id in
    let last : drop 60 head ≡ f = sym (drop-drop 20 40 head) ∙ ap (drop 20) behind ∙ drop_exact 20 w.id f ok.id in
    let flags_at : big_number 2 (drop 60 head) ≡ first_flags_number w =
    ap (big_number 2) (last ∙ sym (append-nil f)) ∙ big_number-reads_back 2 (first_flags_number w) [] (flags_bits w ok.stage).small in
    ap (option_map (λ (mode : Mode). record { stat = stat_of_entry_head head; mode = mode; id = take 20 (drop 40 head); flags = big_number 2 (drop 60 head) })) (ap known_mode_of_bits mode_at ∙ ok.mode)
    ∙ ap (λ (s : Stat). Some (record { stat = s; mode = mode_with_bits w.mode; id = take 20 (drop 40 head); flags = big_number 2 (drop 60 head) })) (stat_exact w (w.id ++ f) ok.words)
    ∙ ap (λ (i : List ℕ). Some (record { stat = w.stat; mode = mode_with_bits w.mode; id = i; flags = big_number 2 (drop 60 head) })) id_at
    ∙ ap (λ (n : ℕ). Some (record { stat = w.stat; mode = mode_with_bits w.mode; id = w.id; flags = n })) flags_at

-- ---- the second pair of flags

two_bytes : (w : WrittenEntry) (rest : List ℕ)
    → read_extended_flags (big_bytes 2 (second_flags_of w) ++ rest) ≡ Some (record { size = 2; is_skipped = w.skipped; intent_to_add = w.intent_to_add; rest = rest })
two_bytes w rest =
    let n = second_flags_of w in
    let two = big_bytes 2 n in
    let told = second_bits w.skipped w.intent_to_add in
    let value : big_number 2 two ≡ n = ap (big_number 2) (sym (append-nil two)) ∙ big_number-reads_back 2 n [] told.small in
    ap (λ (p : Option PartAndRest). p >>= (λ (p : PartAndRest). extended_flags_from_bits (big_number 2 p.part) p.rest)) (front_exact 2 two rest (length-bytes_high_first 2 n))
    ∙ ap (λ (n : ℕ). extended_flags_from_bits n rest) value
    ∙ ap (λ b. if b then Some (record { size = 2; is_skipped = n / 16384 % 2 == 1; intent_to_add = n / 8192 % 2 == 1; rest = rest }) else None) told.is
    ∙ ap (λ (b : Bool). Some (record { size = 2; is_skipped = b; intent_to_add = n / 8192 % 2 == 1; rest = rest })) told.skips
    ∙ ap (λ (b : Bool). Some (record { size = 2; is_skipped = w.skipped; intent_to_add = b; rest = rest })) told.intends

more_if : (version : ℕ) (w : WrittenEntry) (rest : List ℕ) (b : Bool) → (b ≡ true → (version == 2) ≡ false) → (b ≡ false → (w.skipped ≡ false) × (w.intent_to_add ≡ false))
    → read_extended_flags_if_present version b ((if b then big_bytes 2 (second_flags_of w) else []) ++ rest)
    ≡ Some (record { size = (if b then 2 else 0); is_skipped = w.skipped; intent_to_add = w.intent_to_add; rest = rest })
more_if version w rest true more none =
    ap (λ b. if b then None else read_extended_flags (big_bytes 2 (second_flags_of w) ++ rest)) (more refl) ∙ two_bytes w rest
more_if version w rest false more none =
    ap (λ (b : Bool). Some (record { size = 0; is_skipped = b; intent_to_add = false; rest = rest })) (sym (none refl).0)
    ∙ ap (λ (b : Bool). Some (record { size = 0; is_skipped = w.skipped; intent_to_add = b; rest = rest })) (sym (none refl).1)

more_exact : (version : ℕ) (previous : List ℕ) (w : WrittenEntry) (rest : List ℕ) → IsWritableEntryAfterPath version previous w
    → read_extended_flags_if_present version w.extended (extended_flags_bytes w ++ rest) ≡ Some (record { size = extended_flags_size w; is_skipped = w.skipped; intent_to_add = w.intent_to_add; rest = rest })
more_exact version previous w rest ok = more_if version w rest w.extended ok.extended ok.plain

-- ---- the path

padded_exact : (path : List ℕ) (before : ℕ) (rest : List ℕ) → path_with_checked_padding path before (replicate (padding_length_after_nul before) 0 ++ rest) ≡ Some (record { path = path; rest = rest })
padded_exact path before rest =
    let fill = replicate (padding_length_after_nul before) 0 in
    ap (λ (p : Option PartAndRest). p >>= (λ (p : PartAndRest). (if list_all is_nul p.part then Some (record { path = path; rest = p.rest }) else None)))
    (front_exact (padding_length_after_nul before) fill rest (length-replicate (padding_length_after_nul before) 0))
    ∙ ap (λ b. if b then Some (record { path = path; rest = rest }) else None) (all_nuls (padding_length_after_nul before))

whole_exact : (path : List ℕ) (before : ℕ) (rest : List ℕ) → list_any is_nul path ≡ false
    → read_padded_path before (path ++ 0 ∷ (replicate (padding_length_after_nul (before + length path)) 0 ++ rest)) ≡ Some (record { path = path; rest = rest })
whole_exact path before rest h =
    ap (λ (p : Option PartAndRest). p >>= (λ (name : PartAndRest). path_with_checked_padding name.part (before + length name.part) name.rest))
    (text_exact path (replicate (padding_length_after_nul (before + length path)) 0 ++ rest) h)
    ∙ padded_exact path (before + length path) rest

cut_exact : (previous : List ℕ) (w : WrittenEntry) (rest : List ℕ) → SharesPreviousPrefix previous w → list_any is_nul w.path ≡ false
    → read_prefix_compressed_path previous ((varint_bytes_of_number w.cut ++ (drop (length previous - w.cut) w.path ++ 0 ∷ [])) ++ rest) ≡ Some (record { path = w.path; rest = rest })
cut_exact previous w rest keeps h =
    let kept = length previous - w.cut in
    let tail = drop kept w.path in
    let bytes : (varint_bytes_of_number w.cut ++ (tail ++ 0 ∷ [])) ++ rest ≡ varint_bytes_of_number w.cut ++ (tail ++ 0 ∷ rest) =
    append_assoc (varint_bytes_of_number w.cut) (tail ++ 0 ∷ []) rest ∙ ap (λ x. varint_bytes_of_number w.cut ++ x) (append_assoc tail (0 ∷ []) rest) in
    ap (read_prefix_compressed_path previous) bytes
    ∙ ap (λ (n : Option VarintAndRest). n >>= (λ (n : VarintAndRest). path_with_kept_prefix previous n.value n.rest)) (number_exact w.cut (tail ++ 0 ∷ rest) keeps.small)
    ∙ ap (λ b. if b then option_map (λ (name : PartAndRest). record { path = take kept previous ++ name.part; rest = name.rest }) (text (tail ++ 0 ∷ rest)) else None) (le-leb _ _ keeps.within)
    ∙ ap (option_map (λ (name : PartAndRest). record { path = take kept previous ++ name.part; rest = name.rest })) (text_exact tail rest (no_nul_behind kept w.path h))
    ∙ ap (λ (p : List ℕ). Some (record { path = p; rest = rest })) keeps.same

path_by : (previous : List ℕ) (w : WrittenEntry) (before : ℕ) (rest : List ℕ) (b : Bool) → (b ≡ true → SharesPreviousPrefix previous w) → list_any is_nul w.path ≡ false
    → (if b then read_prefix_compressed_path previous ((if b then varint_bytes_of_number w.cut ++ (drop (length previous - w.cut) w.path ++ 0 ∷ []) else w.path ++ 0 ∷ replicate (padding_length_after_nul (before + length w.path)) 0) ++ rest)
    else read_padded_path before ((if b then varint_bytes_of_number w.cut ++ (drop (length previous - w.cut) w.path ++ 0 ∷ []) else w.path ++ 0 ∷ replicate (padding_length_after_nul (before + length w.path)) 0) ++ rest))
    ≡ Some (record { path = w.path; rest = rest })
path_by previous w before rest true keeps h = cut_exact previous w rest (keeps refl) h
path_by previous w before rest false keeps h =
    ap (read_padded_path before) (append_assoc w.path (0 ∷ replicate (padding_length_after_nul (before + length w.path)) 0) rest) ∙ whole_exact w.path before rest h

path_exact : (version : ℕ) (previous : List ℕ) (w : WrittenEntry) (rest : List ℕ) → IsWritableEntryAfterPath version previous w
    → read_entry_path version previous (62 + extended_flags_size w) (entry_path_bytes version previous w ++ rest) ≡ Some (record { path = w.path; rest = rest })
path_exact version previous w rest ok = path_by previous w (62 + extended_flags_size w) rest (version == 4) ok.cut ok.path

-- ---- an entry

named_exact : (version : ℕ) (previous : List ℕ) (w : WrittenEntry) (rest : List ℕ) → IsWritableEntryAfterPath version previous w
    → read_path_of_flagged_length version previous (first_flags_number w) (record { size = extended_flags_size w; is_skipped = w.skipped; intent_to_add = w.intent_to_add; rest = entry_path_bytes version previous w ++ rest })
    ≡ Some (record { path = w.path; rest = rest })
named_exact version previous w rest ok =
    ap (λ (n : Option PathAndRest). n >>= path_if_length_matches_flags (first_flags_number w)) (path_exact version previous w rest ok)
    ∙ ap (λ b. if b then Some (record { path = w.path; rest = rest }) else None) (eq-eqb _ _ (sym (flags_bits w ok.stage).length))

made : Bool → ℕ → WrittenEntry → List ℕ → EntryAndRest
made assumed stage w rest = record {
  entry = record { path = w.path; stage = stage; mode = mode_with_bits w.mode; flags = flags_of_assumed_and_skipped assumed w.skipped; id = w.id };
  detail = detail_of_written w;
  rest = rest;
}

pub entry_exact : (version : ℕ) (previous : List ℕ) (w : WrittenEntry) (rest : List ℕ) → IsWritableEntryAfterPath version previous w
    → read_entry version previous (entry_bytes version previous w ++ rest) ≡ Some (record { entry = index_entry_of_written w; detail = detail_of_written w; rest = rest })
unfolding made
entry_exact version previous w rest ok =
    let f = first_flags_number w in
    let told = flags_bits w ok.stage in
    let name = entry_path_bytes version previous w in
    let head = entry_head_bytes w in
    let more = extended_flags_bytes w in
    let bytes : entry_bytes version previous w ++ rest ≡ head ++ (more ++ (name ++ rest)) =
    append_assoc head (more ++ name) rest ∙ ap (λ x. head ++ x) (append_assoc more name rest) in
    ap (read_entry version previous) bytes
    ∙ ap (λ (p : Option PartAndRest). p >>= (λ (p : PartAndRest). parse_fixed_entry_fields p.part >>= (λ (x : FixedEntryFields). read_entry_after_fixed_fields version previous x p.rest)))
    (front_exact 62 head (more ++ (name ++ rest)) (head_length w ok.id))
    ∙ ap (λ (x : Option FixedEntryFields). x >>= (λ (x : FixedEntryFields). read_entry_after_fixed_fields version previous x (more ++ (name ++ rest)))) (fixed_exact version previous w ok)
    ∙ ap (λ (b : Bool). read_extended_flags_if_present version b (more ++ (name ++ rest)) >>= (λ (m : ExtendedFlagsAndRest). read_path_of_flagged_length version previous f m >>= (λ (n : PathAndRest). Some (entry_of_parts_read (record { stat = w.stat; mode = mode_with_bits w.mode; id = w.id; flags = f }) m n)))) told.extended
    ∙ ap (λ (m : Option ExtendedFlagsAndRest). m >>= (λ (m : ExtendedFlagsAndRest). read_path_of_flagged_length version previous f m >>= (λ (n : PathAndRest). Some (entry_of_parts_read (record { stat = w.stat; mode = mode_with_bits w.mode; id = w.id; flags = f }) m n))))
    (more_exact version previous w (name ++ rest) ok)
    ∙ ap (λ (n : Option PathAndRest). n >>= (λ (n : PathAndRest). Some (entry_of_parts_read (record { stat = w.stat; mode = mode_with_bits w.mode; id = w.id; flags = f }) (record { size = extended_flags_size w; is_skipped = w.skipped; intent_to_add = w.intent_to_add; rest = name ++ rest }) n)))
    (named_exact version previous w rest ok)
    ∙ ap (λ (a : Bool). Some (made a (stage_from_flags f) w rest)) told.assumed
    ∙ ap (λ (s : ℕ). Some (made w.assumed s w rest)) told.stage
