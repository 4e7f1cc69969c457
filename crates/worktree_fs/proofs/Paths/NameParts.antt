-- What a name is, part by part.
use Rattle.std.proofs.Common.{◌≡◌, ◌==◌, ℕ, Bool, true, false, not, List, [], ◌∷◌, refl, sym}
use Rattle.std.specs.List.{list_any}
use Rattle.std.proofs.lemmas.Bool.{and_parts}
use Rattle.gitbase_core.specs.Path.{components}
use Rattle.worktree_fs.specs.Tree.{is_utf8_without_nul, is_empty, is_dot, is_dot_dot}
use Rattle.worktree_fs.specs.Naming.{IsValidEntryName}
use Rattle.worktree_fs.proofs.Paths.Texts.{pieces-whole}

pub record NameParts (name : List ℕ) : Type 0 where
  pub text : is_utf8_without_nul name ≡ true
  pub full : is_empty name ≡ false
  pub no_slash : list_any (λ b. b == 47) name ≡ false
  pub no_dot : is_dot name ≡ false
  pub no_dot_dot : is_dot_dot name ≡ false

is_not : (b : Bool) → not b ≡ true → b ≡ false
is_not false e = refl
is_not true e = sym e

pub name_parts : (name : List ℕ) → IsValidEntryName name → NameParts name
name_parts name is =
    let a = and_parts _ (not (is_dot_dot name)) is in
    let b = and_parts _ (not (is_dot name)) a.0 in
    let c = and_parts _ (not (list_any (λ b. b == 47) name)) b.0 in
    let d = and_parts (is_utf8_without_nul name) (not (is_empty name)) c.0 in
    record {
      text = d.0;
      full = is_not (is_empty name) d.1;
      no_slash = is_not (list_any (λ b. b == 47) name) c.1;
      no_dot = is_not (is_dot name) b.1;
      no_dot_dot = is_not (is_dot_dot name) a.1;
    }

-- a name is its own one piece
pub pieces-name : (name : List ℕ) → IsValidEntryName name → components name ≡ name ∷ []
pieces-name name is =
    let parts = name_parts name is in
    pieces-whole name parts.full parts.no_slash
