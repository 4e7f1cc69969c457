-- Extensions that are read are written.
use Rattle.std.proofs.Common.{◌≡◌, ◌⊎◌, refl, sym, ap, ◌∙◌, subst, arith, inl, inr, ℕ, zero, suc, ◌+◌, ◌≤◌, ◌<◌, ◌^◌, not, Bool, true, false, ◌||◌, nat_le, leb-true, List, [], ◌∷◌, ◌++◌, length, take, drop, codes, Result, Ok, Err, if◌then◌else◌, append_assoc, length-drop, length-take-le, take-append-drop, drop-drop}
use Rattle.std.specs.Str.{bytes_eq}
use Rattle.std.specs.Cmp.Lexicographic.{bytes_decides}
use Rattle.std.specs.List.{list_any}
use Rattle.byteorder.specs.Endian.{big_number, big_bytes}
use Rattle.git_index.specs.Extensions.{ExtensionHead, read_extension_head, read_sparse_mark_of_rest, is_optional_extension_name, extension_head_of_name_and_size}
use Rattle.git_index.specs.Written.{AreWritableExtensions, WrittenExtension, extensions_bytes, is_sparse_mark_extension}
use Rattle.git_index.specs.declared.error.IndexFileError.{IndexFileError}
use Rattle.git_index.specs.declared.error.IndexFileError.TheVariants as errors
use Rattle.git_index.proofs.Numbers.{AreBytes, bytes_behind, number_at, number_small}
use Rattle.git_index.proofs.Steps.{ok_is, went, where_so}

record IsNamed (name : List ℕ) (size : ℕ) (e : ExtensionHead) : Type 0 where
  known : (is_optional_extension_name name ≡ true) ⊎ (name ≡ codes "sdir")
  size_is : e.size ≡ size
  mark : e.is_sparse ≡ not (is_optional_extension_name name)

from_name : (name : List ℕ) (size : ℕ) (e : ExtensionHead) → extension_head_of_name_and_size name size ≡ Ok e → IsNamed name size e
from_name name size e h = go (is_optional_extension_name name) refl h where
  marked : (b : Bool) → bytes_eq name (codes "sdir") ≡ b → is_optional_extension_name name ≡ false
      → (if b then Ok (record { size = size; is_sparse = true }) else (if bytes_eq name (codes "link") then Err errors.Split else Err (errors.Unknown name))) ≡ Ok e → IsNamed name size e
  marked true is other h =
      let same : (◌≡◌ {A = ExtensionHead} (record { size = size; is_sparse = true }) e) = ok_is h in
      subst (IsNamed name size) same (record { known = inr ((bytes_decides name (codes "sdir")).0 is); size_is = refl; mark = ap not (sym other) })
  marked false is other h = absurd (none (bytes_eq name (codes "link")) h) where
    none : (c : Bool) → (◌≡◌ {A = Result ExtensionHead IndexFileError} (if c then Err errors.Split else Err (errors.Unknown name)) (Ok e)) → ⊥
    none true h = cc
    none false h = cc

  go : (b : Bool) → is_optional_extension_name name ≡ b
      → (if b then Ok (record { size = size; is_sparse = false }) else (if bytes_eq name (codes "sdir") then Ok (record { size = size; is_sparse = true }) else (if bytes_eq name (codes "link") then Err errors.Split else Err (errors.Unknown name)))) ≡ Ok e
      → IsNamed name size e
  go true is h =
      let same : (◌≡◌ {A = ExtensionHead} (record { size = size; is_sparse = false }) e) = ok_is h in
      subst (IsNamed name size) same (record { known = inl is; size_is = refl; mark = ap not (sym is) })
  go false is h = marked (bytes_eq name (codes "sdir")) refl is h

pub record AreExtensionsOf (n : ℕ) (sparse : Bool) (bytes : List ℕ) (out : Bool) : Type 0 where
  pub es : List WrittenExtension
  pub fits : n ≤ length bytes
  pub whole : drop n bytes ≡ extensions_bytes es
  pub held : AreWritableExtensions es
  pub says : out ≡ (sparse || list_any is_sparse_mark_extension es)

or_false : (b : Bool) → b ≡ (b || false)
or_false true = refl
or_false false = refl

together : (a b c : Bool) → ((a || b) || c) ≡ (a || (b || c))
together true b c = refl
together false b c = refl

pub from_extensions : (n : ℕ) (sparse : Bool) (bytes : List ℕ) (out : Bool) → AreBytes bytes → read_sparse_mark_of_rest n sparse bytes ≡ Ok out → AreExtensionsOf n sparse bytes out
from_extensions zero sparse [] out ok h = record { es = []; fits = omega arith; whole = refl; held = tt; says = sym (ok_is h) ∙ or_false sparse }
from_extensions (suc n) sparse [] out ok h = absurd (cc)
from_extensions (suc n) sparse (b ∷ bytes) out ok h =
    let rest = from_extensions n sparse bytes out (bytes_behind 1 (b ∷ bytes) ok) h in
    record { es = rest.es; fits = omega (arith, rest.fits); whole = rest.whole; held = rest.held; says = rest.says }
from_extensions zero sparse (b ∷ bytes) out ok h =
    let left = b ∷ bytes in
    let step = went (read_extension_head left) (λ (e : ExtensionHead). read_sparse_mark_of_rest (e.size + 7) (sparse || e.is_sparse) bytes) out h in
    let e = step.0 in
    let read = where_so (nat_le 8 (length left)) errors.Extensions (extension_head_of_name_and_size (take 4 left) (big_number 4 (drop 4 left))) e step.1 in
    let long : 8 ≤ length left = leb-true 8 (length left) read.0 in
    let named = from_name (take 4 left) (big_number 4 (drop 4 left)) e read.1 in
    let rest = from_extensions (e.size + 7) (sparse || e.is_sparse) bytes out (bytes_behind 1 left ok) step.2 in
    let content = take e.size (drop 8 left) in
    let room : e.size ≤ length (drop 8 left) = omega (arith, rest.fits, length-drop 8 left, long) in
    let size_of : length content ≡ e.size = length-take-le e.size (drop 8 left) room in
    let size_text : big_bytes 4 (big_number 4 (drop 4 left)) ≡ take 4 (drop 4 left) = number_at 4 left (omega (arith, long)) ok in
    let size_is : big_bytes 4 (length content) ≡ take 4 (drop 4 left) = ap (big_bytes 4) (size_of ∙ named.size_is) ∙ size_text in
    let places : 1 + (e.size + 7) ≡ 8 + e.size = omega arith in
    let behind : drop e.size (drop 8 left) ≡ extensions_bytes rest.es =
    drop-drop e.size 8 left ∙ ap (λ k. drop k left) (sym places) ∙ sym (drop-drop (e.size + 7) 1 left) ∙ rest.whole in
    let tail : drop 8 left ≡ content ++ extensions_bytes rest.es = sym (take-append-drop e.size (drop 8 left)) ∙ ap (λ x. content ++ x) behind in
    let second : drop 4 left ≡ big_bytes 4 (length content) ++ (content ++ extensions_bytes rest.es) =
    sym (take-append-drop 4 (drop 4 left)) ∙ ap (λ x. x ++ drop 4 (drop 4 left)) (sym size_is) ∙ ap (λ x. big_bytes 4 (length content) ++ x) (drop-drop 4 4 left ∙ tail) in
    record {
      es = record { name = take 4 left; content = content } ∷ rest.es;
      fits = omega arith;
      whole = sym (take-append-drop 4 left) ∙ ap (λ x. take 4 left ++ x) (second ∙ sym (append_assoc (big_bytes 4 (length content)) content (extensions_bytes rest.es)))
          ∙ sym (append_assoc (take 4 left) (big_bytes 4 (length content) ++ content) (extensions_bytes rest.es));
      held = (
        record {
          name = length-take-le 4 left (omega (arith, long));
          size = subst (λ (k : ℕ). k < 256 ^ 4) (sym (size_of ∙ named.size_is)) (number_small 4 (drop 4 left) (bytes_behind 4 left ok));
          known = named.known;
        },
        rest.held,
      );
      says = rest.says ∙ ap (λ x. (sparse || x) || list_any is_sparse_mark_extension rest.es) named.mark ∙ together sparse (not (is_optional_extension_name (take 4 left))) (list_any is_sparse_mark_extension rest.es);
    }
