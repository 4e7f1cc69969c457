-- The id of a blob.
use Rattle.std.specs.Prelude.{ℕ, List, [], ◌∷◌, ◌++◌, codes, decimal, length}
use Rattle.sha1.specs.Sha1.{sha1}

-- what git hashes before the bytes of a blob: `blob `, how many bytes there are, and a zero byte
abbrev pub blob_object_header : ℕ → List ℕ
blob_object_header length = codes "blob " ++ decimal length ++ 0 ∷ []

-- the id of a blob: the SHA-1 of that and of the bytes
abbrev pub blob_id : List ℕ → List ℕ
blob_id bytes = sha1 (blob_object_header (length bytes) ++ bytes)
