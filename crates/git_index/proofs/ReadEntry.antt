-- An entry that is read is written.
use Rattle.std.proofs.Common.{◌≡◌, refl, sym, ap, ◌∙◌, subst, arith, ℕ, ◌+◌, ◌-◌, ◌*◌, ◌/◌, ◌%◌, ◌^◌, ◌≤◌, ◌<◌, min, nat_le, leb-true, eqb-true, Bool, true, false, ◌==◌, List, [], ◌∷◌, ◌++◌, length, take, drop, replicate, Some, None, option_map, append_assoc, length-drop, length-take-le, take-append-drop, drop-drop, if◌then◌else◌}
use Rattle.std.specs.List.{list_any, list_all}
use Rattle.byteorder.specs.Endian.{big_number, big_bytes}
use Rattle.gitbase_core.specs.declared.entry.Mode.{Mode}
use Rattle.gitbase_core.specs.Steps.{◌>>=◌}
use Rattle.gitbase_core.specs.Text.{is_nul}
use Rattle.git_index.specs.Parts.{PartAndRest, split_first_bytes, text, nth_big_endian_u32}
use Rattle.git_index.specs.Varint.{VarintAndRest, varint_leading_bytes, read_varint, varint_bytes_of_number}
use Rattle.git_index.specs.Head.{FixedEntryFields, parse_fixed_entry_fields, is_assume_valid_set, is_extended_flag_set, known_mode_of_bits, mode_with_bits, stage_from_flags, stat_of_entry_head}
use Rattle.git_index.specs.More.{ExtendedFlagsAndRest, has_only_known_bits, read_extended_flags_if_present, extended_flags_from_bits, read_extended_flags}
use Rattle.git_index.specs.Name.{PathAndRest, read_prefix_compressed_path, path_length_matches_flags, path_if_length_matches_flags, path_with_kept_prefix, path_with_checked_padding, padding_length_after_nul, read_entry_path, read_padded_path}
use Rattle.git_index.specs.Entries.{EntryAndRest, read_entry, read_entry_after_fixed_fields, read_path_of_flagged_length, entry_of_parts_read}
use Rattle.git_index.specs.Written.{AreFourByteNumbers, IsWritableEntryAfterPath, WrittenEntry, worth_if_flag_set, detail_of_written, index_entry_of_written, entry_bytes, entry_head_bytes, extended_flags_bytes, entry_path_bytes, head_words_of_written, big_endian_bytes_of_words}
use Rattle.git_index.proofs.Bits.{flags_back, more_back}
use Rattle.git_index.proofs.Numbers.{AreBytes, bytes_behind, bytes_front, number_small, two_back}
use Rattle.git_index.proofs.ReadParts.{IsFront, from_front, from_text, mode_back, no_nul_front, no_nul_joined, nuls_back}
use Rattle.git_index.proofs.Seams.{drop_exact}
use Rattle.git_index.proofs.Steps.{bound, chosen, mapped, some_is}
use Rattle.git_index.proofs.Varints.{from_number}
use Rattle.git_index.proofs.Words.{words_at, words_back, words_small}

-- ---- the head

-- a head of 62 bytes is its ten numbers, its id and its flags
pub head_back : (head : List ℕ) → length head ≡ 62 → AreBytes head → head ≡ big_endian_bytes_of_words (words_at 10 0 head) ++ (take 20 (drop 40 head) ++ big_bytes 2 (big_number 2 (drop 60 head)))
head_back head h ok =
    let flags : big_bytes 2 (big_number 2 (drop 60 head)) ≡ drop 60 head = two_back (drop 60 head) (omega (arith, h, length-drop 60 head)) (bytes_behind 60 head ok) in
    let last : drop 40 head ≡ take 20 (drop 40 head) ++ drop 60 head = sym (take-append-drop 20 (drop 40 head)) ∙ ap (λ x. take 20 (drop 40 head) ++ x) (drop-drop 20 40 head) in
    words_back 10 0 head (omega (arith, h)) ok
    ∙ ap (λ x. big_endian_bytes_of_words (words_at 10 0 head) ++ x) last
    ∙ ap (λ x. big_endian_bytes_of_words (words_at 10 0 head) ++ (take 20 (drop 40 head) ++ x)) (sym flags)

-- ---- the second pair of flags

pub record IsMoreOf (version : ℕ) (extended : Bool) (bytes : List ℕ) (more : ExtendedFlagsAndRest) : Type 0 where
  pub whole : bytes ≡ (if extended then big_bytes 2 (worth_if_flag_set more.is_skipped 16384 + worth_if_flag_set more.intent_to_add 8192) else []) ++ more.rest
  pub size : more.size ≡ (if extended then 2 else 0)
  pub allowed : extended ≡ true → (version == 2) ≡ false
  pub plain : extended ≡ false → (more.is_skipped ≡ false) × (more.intent_to_add ≡ false)
  pub rest_bytes : AreBytes more.rest

abbrev more_with : ℕ → List ℕ → ExtendedFlagsAndRest
more_with bits rest = record { size = 2; is_skipped = bits / 16384 % 2 == 1; intent_to_add = bits / 8192 % 2 == 1; rest = rest }

second_back : (version : ℕ) (bytes : List ℕ) (more : ExtendedFlagsAndRest) → AreBytes bytes → (version == 2) ≡ false → read_extended_flags bytes ≡ Some more → IsMoreOf version true bytes more
second_back version bytes more ok allowed h =
    let two = bound (split_first_bytes 2 bytes) (λ (p : PartAndRest). extended_flags_from_bits (big_number 2 p.part) p.rest) more h in
    let p = two.0 in
    let part = from_front 2 bytes p two.1 in
    let bits = big_number 2 p.part in
    let bytes_of : AreBytes p.part = subst AreBytes (sym part.part) (bytes_front 2 bytes ok) in
    let told = chosen (has_only_known_bits bits) (Some (more_with bits p.rest)) more two.2 in
    let same : more_with bits p.rest ≡ more = some_is told.1 in
    let written : big_bytes 2 (worth_if_flag_set (bits / 16384 % 2 == 1) 16384 + worth_if_flag_set (bits / 8192 % 2 == 1) 8192) ≡ p.part =
    ap (big_bytes 2) (more_back bits (number_small 2 p.part bytes_of) told.0) ∙ two_back p.part part.size bytes_of in
    subst (IsMoreOf version true bytes) same (record {
      whole = part.whole ∙ ap (λ x. x ++ p.rest) (sym written);
      size = refl;
      allowed = λ _. allowed;
      plain = λ e. absurd (cc);
      rest_bytes = subst AreBytes (sym part.rest) (bytes_behind 2 bytes ok);
    })

pub from_more : (version : ℕ) (extended : Bool) (bytes : List ℕ) (more : ExtendedFlagsAndRest) → AreBytes bytes → read_extended_flags_if_present version extended bytes ≡ Some more → IsMoreOf version extended bytes more
from_more version false bytes more ok h =
    subst (IsMoreOf version false bytes) (some_is h) (record { whole = refl; size = refl; allowed = λ e. absurd (cc); plain = λ _. (refl, refl); rest_bytes = ok })
from_more version true bytes more ok h = go (version == 2) refl h where
  go : (b : Bool) → (version == 2) ≡ b → (if b then None else read_extended_flags bytes) ≡ Some more → IsMoreOf version true bytes more
  go true e h = absurd (cc)
  go false e h = second_back version bytes more ok e h

-- ---- the path

-- the path, with what it is written as
pub record IsPathOf (version : ℕ) (previous : List ℕ) (before : ℕ) (bytes : List ℕ) (named : PathAndRest) : Type 0 where
  pub cut : ℕ
  pub plain : list_any is_nul named.path ≡ false
  pub keeps : (version == 4) ≡ true → (cut < 2 ^ 32) × (cut ≤ length previous)
      × (take (length previous - cut) previous ++ drop (length previous - cut) named.path ≡ named.path)
  pub whole : bytes ≡ (if version == 4 then varint_bytes_of_number cut ++ (drop (length previous - cut) named.path ++ 0 ∷ []) else named.path ++ 0 ∷ replicate (padding_length_after_nul (before + length named.path)) 0) ++ named.rest

record IsWhole (before : ℕ) (bytes : List ℕ) (named : PathAndRest) : Type 0 where
  plain : list_any is_nul named.path ≡ false
  whole : bytes ≡ (named.path ++ 0 ∷ replicate (padding_length_after_nul (before + length named.path)) 0) ++ named.rest

whole_back : (before : ℕ) (bytes : List ℕ) (named : PathAndRest) → read_padded_path before bytes ≡ Some named → IsWhole before bytes named
whole_back before bytes named h =
    let read = bound (text bytes) (λ (name : PartAndRest). path_with_checked_padding name.part (before + length name.part) name.rest) named h in
    let name = read.0 in
    let split = from_text bytes name read.1 in
    let fill = bound (split_first_bytes (padding_length_after_nul (before + length name.part)) name.rest) (λ (fill : PartAndRest). if list_all is_nul fill.part then Some (record { path = name.part; rest = fill.rest }) else None) named read.2 in
    let part = from_front (padding_length_after_nul (before + length name.part)) name.rest fill.0 fill.1 in
    let told = chosen (list_all is_nul fill.0.part) (Some (record { path = name.part; rest = fill.0.rest })) named fill.2 in
    let same : (◌≡◌ {A = PathAndRest} (record { path = name.part; rest = fill.0.rest }) named) = some_is told.1 in
    let nuls : fill.0.part ≡ replicate (padding_length_after_nul (before + length name.part)) 0 = nuls_back fill.0.part told.0 ∙ ap (λ n. replicate n 0) part.size in
    subst (IsWhole before bytes) same (record {
      plain = split.plain;
      whole = split.whole ∙ ap (λ x. name.part ++ 0 ∷ x) (part.whole ∙ ap (λ x. x ++ fill.0.rest) nuls)
          ∙ sym (append_assoc name.part (0 ∷ replicate (padding_length_after_nul (before + length name.part)) 0) fill.0.rest);
    })

record IsCut (previous bytes : List ℕ) (named : PathAndRest) : Type 0 where
  cut : ℕ
  plain : list_any is_nul named.path ≡ false
  small : cut < 2 ^ 32
  within : cut ≤ length previous
  same : take (length previous - cut) previous ++ drop (length previous - cut) named.path ≡ named.path
  whole : bytes ≡ (varint_bytes_of_number cut ++ (drop (length previous - cut) named.path ++ 0 ∷ [])) ++ named.rest

cut_back : (previous bytes : List ℕ) (named : PathAndRest) → AreBytes bytes → list_any is_nul previous ≡ false → read_prefix_compressed_path previous bytes ≡ Some named → IsCut previous bytes named
unfolding varint_leading_bytes
cut_back previous bytes named ok plain h =
    let read = bound (read_varint bytes) (λ (n : VarintAndRest). path_with_kept_prefix previous n.value n.rest) named h in
    let n = read.0 in
    let text_of = from_number 0 bytes n ok read.1 in
    let whole_text : bytes ≡ varint_bytes_of_number n.value ++ n.rest = text_of.whole ∙ ap (λ x. x ++ n.rest) (text_of.is) in
    let kept = length previous - n.value in
    let told = chosen (nat_le n.value (length previous)) (option_map (λ (name : PartAndRest). record { path = take kept previous ++ name.part; rest = name.rest }) (text n.rest)) named read.2 in
    let within : n.value ≤ length previous = leb-true n.value (length previous) told.0 in
    let tail = mapped (text n.rest) (λ (name : PartAndRest). record { path = take kept previous ++ name.part; rest = name.rest }) named told.1 in
    let split = from_text n.rest tail.0 tail.1 in
    let behind : drop kept (take kept previous ++ tail.0.part) ≡ tail.0.part =
    drop_exact kept (take kept previous) tail.0.part (length-take-le kept previous (omega arith)) in
    subst (IsCut previous bytes) tail.2 (record {
      cut = n.value;
      plain = no_nul_joined (take kept previous) tail.0.part (no_nul_front kept previous plain) split.plain;
      small = text_of.small;
      within = within;
      same = ap (λ x. take kept previous ++ x) behind;
      whole = whole_text ∙ ap (λ x. varint_bytes_of_number n.value ++ x) (split.whole ∙ sym (append_assoc tail.0.part (0 ∷ []) tail.0.rest)
          ∙ ap (λ x. (x ++ 0 ∷ []) ++ tail.0.rest) (sym behind))
          ∙ sym (append_assoc (varint_bytes_of_number n.value) (drop kept (take kept previous ++ tail.0.part) ++ 0 ∷ []) tail.0.rest);
    })

pub from_path : (version : ℕ) (previous : List ℕ) (before : ℕ) (bytes : List ℕ) (named : PathAndRest) → AreBytes bytes → list_any is_nul previous ≡ false
    → read_entry_path version previous before bytes ≡ Some named → IsPathOf version previous before bytes named
from_path version previous before bytes named ok plain h = go (version == 4) refl h where
  go : (b : Bool) → (version == 4) ≡ b → (if b then read_prefix_compressed_path previous bytes else read_padded_path before bytes) ≡ Some named → IsPathOf version previous before bytes named
  go true e h =
      let read = cut_back previous bytes named ok plain h in
      record {
        cut = read.cut;
        plain = read.plain;
        keeps = λ _. (read.small, read.within, read.same);
        whole = read.whole ∙ ap (λ b. (if b then varint_bytes_of_number read.cut ++ (drop (length previous - read.cut) named.path ++ 0 ∷ []) else named.path ++ 0 ∷ replicate (padding_length_after_nul (before + length named.path)) 0) ++ named.rest) (sym e);
      }
  go false e h =
      let read = whole_back before bytes named h in
      record {
        cut = 0;
        plain = read.plain;
        keeps = λ yes4. absurd (cc);
        whole = read.whole ∙ ap (λ b. (if b then varint_bytes_of_number 0 ++ (drop (length previous - 0) named.path ++ 0 ∷ []) else named.path ++ 0 ∷ replicate (padding_length_after_nul (before + length named.path)) 0) ++ named.rest) (sym e);
      }

-- ---- an entry

pub record IsEntryOf (version : ℕ) (previous bytes : List ℕ) (read : EntryAndRest) : Type 0 where
  pub w : WrittenEntry
  pub whole : bytes ≡ entry_bytes version previous w ++ read.rest
  pub writable : IsWritableEntryAfterPath version previous w
  pub entry : index_entry_of_written w ≡ read.entry
  pub detail : detail_of_written w ≡ read.detail

-- what is written where these parts are read
written_by : List ℕ → ExtendedFlagsAndRest → PathAndRest → ℕ → WrittenEntry
written_by head more named cut = record {
  stat = stat_of_entry_head head;
  mode = nth_big_endian_u32 6 head;
  id = take 20 (drop 40 head);
  assumed = is_assume_valid_set (big_number 2 (drop 60 head));
  stage = stage_from_flags (big_number 2 (drop 60 head));
  extended = is_extended_flag_set (big_number 2 (drop 60 head));
  skipped = more.is_skipped;
  intent_to_add = more.intent_to_add;
  path = named.path;
  cut = cut;
}

-- the head says its numbers
head_is : (head : List ℕ) (more : ExtendedFlagsAndRest) (named : PathAndRest) (cut : ℕ) → length head ≡ 62 → AreBytes head → path_length_matches_flags (big_number 2 (drop 60 head)) named ≡ true
    → head ≡ entry_head_bytes (written_by head more named cut)
unfolding written_by words_at
head_is head more named cut size ok fits =
    let f = big_number 2 (drop 60 head) in
    let flags : worth_if_flag_set (is_assume_valid_set f) 32768 + worth_if_flag_set (is_extended_flag_set f) 16384 + stage_from_flags f * 4096 + min (length named.path) 4095 ≡ f =
    flags_back f (min (length named.path) 4095) (number_small 2 (drop 60 head) (bytes_behind 60 head ok)) (eqb-true _ _ fits) in
    head_back head size ok ∙ ap (λ k. big_endian_bytes_of_words (words_at 10 0 head) ++ (take 20 (drop 40 head) ++ big_bytes 2 k)) (sym flags)

words_are : (head : List ℕ) (more : ExtendedFlagsAndRest) (named : PathAndRest) (cut : ℕ) → AreBytes head → AreFourByteNumbers (head_words_of_written (written_by head more named cut))
unfolding written_by words_at
words_are head more named cut ok = words_small 10 0 head ok

-- the parts that an entry is read from
record AreParts (version : ℕ) (previous bytes : List ℕ) (read : EntryAndRest) : Type 0 where
  p : PartAndRest
  is_front : IsFront 62 bytes p
  m : ExtendedFlagsAndRest
  mode_is : known_mode_of_bits (nth_big_endian_u32 6 p.part) ≡ Some (mode_with_bits (nth_big_endian_u32 6 p.part))
  more_is : read_extended_flags_if_present version (is_extended_flag_set (big_number 2 (drop 60 p.part))) p.rest ≡ Some m
  n : PathAndRest
  path_is : read_entry_path version previous (62 + m.size) m.rest ≡ Some n
  fits : path_length_matches_flags (big_number 2 (drop 60 p.part)) n ≡ true
  is : entry_of_parts_read (record { stat = stat_of_entry_head p.part; mode = mode_with_bits (nth_big_endian_u32 6 p.part); id = take 20 (drop 40 p.part); flags = big_number 2 (drop 60 p.part) }) m n ≡ read

parts_of : (version : ℕ) (previous bytes : List ℕ) (read : EntryAndRest) → read_entry version previous bytes ≡ Some read → AreParts version previous bytes read
parts_of version previous bytes read h =
    let front_of = bound (split_first_bytes 62 bytes) (λ (p : PartAndRest). parse_fixed_entry_fields p.part >>= (λ (x : FixedEntryFields). read_entry_after_fixed_fields version previous x p.rest)) read h in
    let p = front_of.0 in
    let head = p.part in
    let f = big_number 2 (drop 60 head) in
    let fixed = bound (parse_fixed_entry_fields head) (λ (x : FixedEntryFields). read_entry_after_fixed_fields version previous x p.rest) read front_of.2 in
    let mode = mapped (known_mode_of_bits (nth_big_endian_u32 6 head)) (λ (mode : Mode). record { stat = stat_of_entry_head head; mode = mode; id = take 20 (drop 40 head); flags = f }) fixed.0 fixed.1 in
    let mode_same : mode.0 ≡ mode_with_bits (nth_big_endian_u32 6 head) = mode_back (nth_big_endian_u32 6 head) mode.0 mode.1 in
    let fixed_with : FixedEntryFields = record { stat = stat_of_entry_head head; mode = mode_with_bits (nth_big_endian_u32 6 head); id = take 20 (drop 40 head); flags = f } in
    let fixed_same : fixed_with ≡ fixed.0 = ap (λ (x : Mode). record { stat = stat_of_entry_head head; mode = x; id = take 20 (drop 40 head); flags = f }) (sym mode_same) ∙ mode.2 in
    let by : read_entry_after_fixed_fields version previous fixed_with p.rest ≡ Some read = ap (λ (x : FixedEntryFields). read_entry_after_fixed_fields version previous x p.rest) fixed_same ∙ fixed.2 in
    let more = bound (read_extended_flags_if_present version (is_extended_flag_set f) p.rest) (λ (m : ExtendedFlagsAndRest). read_path_of_flagged_length version previous f m >>= (λ (n : PathAndRest). Some (entry_of_parts_read fixed_with m n))) read by in
    let m = more.0 in
    let named = bound (read_path_of_flagged_length version previous f m) (λ (n : PathAndRest). Some (entry_of_parts_read fixed_with m n)) read more.2 in
    let path = bound (read_entry_path version previous (62 + m.size) m.rest) (path_if_length_matches_flags f) named.0 named.1 in
    let n = path.0 in
    let fits = chosen (path_length_matches_flags f n) (Some n) named.0 path.2 in
    record {
      p = p;
      is_front = from_front 62 bytes p front_of.1;
      m = m;
      mode_is = mode.1 ∙ ap (λ (x : Mode). Some x) mode_same;
      more_is = more.1;
      n = n;
      path_is = path.1;
      fits = fits.0;
      is = ap (entry_of_parts_read fixed_with m) (some_is fits.1) ∙ some_is named.2;
    }

pub from_entry : (version : ℕ) (previous bytes : List ℕ) (read : EntryAndRest) → AreBytes bytes → list_any is_nul previous ≡ false
    → read_entry version previous bytes ≡ Some read → IsEntryOf version previous bytes read
unfolding written_by
from_entry version previous bytes read ok plain h =
    let parts = parts_of version previous bytes read h in
    let head = parts.p.part in
    let part = parts.is_front in
    let m = parts.m in
    let n = parts.n in
    let head_ok : AreBytes head = subst AreBytes (sym part.part) (bytes_front 62 bytes ok) in
    let rest_ok : AreBytes parts.p.rest = subst AreBytes (sym part.rest) (bytes_behind 62 bytes ok) in
    let f = big_number 2 (drop 60 head) in
    let more = from_more version (is_extended_flag_set f) parts.p.rest m rest_ok parts.more_is in
    let path = from_path version previous (62 + m.size) m.rest n more.rest_bytes plain parts.path_is in
    let w = written_by head m n path.cut in
    let name_is : m.rest ≡ entry_path_bytes version previous w ++ n.rest =
    path.whole ∙ ap (λ k. (if version == 4 then varint_bytes_of_number path.cut ++ (drop (length previous - path.cut) n.path ++ 0 ∷ []) else n.path ++ 0 ∷ replicate (padding_length_after_nul (62 + k + length n.path)) 0) ++ n.rest) more.size in
    subst (IsEntryOf version previous bytes) parts.is (record {
      w = w;
      whole = part.whole ∙ ap (λ x. x ++ parts.p.rest) (head_is head m n path.cut part.size head_ok parts.fits)
          ∙ ap (λ x. entry_head_bytes w ++ x) (more.whole ∙ ap (λ x. extended_flags_bytes w ++ x) name_is ∙ sym (append_assoc (extended_flags_bytes w) (entry_path_bytes version previous w) n.rest))
          ∙ sym (append_assoc (entry_head_bytes w) (extended_flags_bytes w ++ entry_path_bytes version previous w) n.rest);
      writable = record {
        words = words_are head m n path.cut head_ok;
        mode = parts.mode_is;
        id = length-take-le 20 (drop 40 head) (omega (arith, part.size, length-drop 40 head));
        stage = omega arith;
        extended = more.allowed;
        plain = more.plain;
        path = path.plain;
        cut = λ four. record { small = (path.keeps four).0; within = (path.keeps four).1; same = (path.keeps four).2 };
      };
      entry = refl;
      detail = refl;
    })
