-- Which texts name a branch of the remote.
--
-- `.` is the branch that is checked out in the superproject. Any other text is read as what is fetched: behind one optional
-- `+`, what stands before the first `:` is the name, and no name is `HEAD`. A name is refused where git's rules for the
-- names of references refuse it.
use Rattle.std.specs.Prelude.{ℕ, List, [], ◌∷◌, codes, bytes_eq, Bool, nat_eq, nat_le, ◌==◌, ◌||◌, count_by, Option, Some, None, if◌then◌else◌}
use Rattle.std.specs.List.{list_any, starts_with, ends_with}
use Rattle.gitbase_core.specs.Path.{is_empty}
use Rattle.submodule.specs.Texts.{text_before_first_occurrence, contains}
use Rattle.submodule.specs.declared.branch.Branch.{Branch}
use Rattle.submodule.specs.declared.branch.Branch.TheVariants.{CurrentInSuperproject, Name}

-- a control byte, a blank, or one of `~ ^ ? [ \`
abbrev pub is_forbidden_ref_name_byte : ℕ → Bool
is_forbidden_ref_name_byte b = nat_le b 32 || (b == 127 || (b == 126 || (b == 94 || (b == 63 || (b == 91 || b == 92)))))

-- `..`, `@{`, `//`, or a component behind a slash that begins with a dot
abbrev pub has_forbidden_ref_name_part : List ℕ → Bool
has_forbidden_ref_name_part name =
    contains (codes "..") name || (contains (codes "@{") name || (contains (codes "//") name || contains (codes "/.") name))

-- a slash or a dot at the start
abbrev pub has_forbidden_ref_name_start : List ℕ → Bool
has_forbidden_ref_name_start name = starts_with nat_eq name (codes "/") || starts_with nat_eq name (codes ".")

-- a slash, a dot or `.lock` at the end
abbrev pub has_forbidden_ref_name_end : List ℕ → Bool
has_forbidden_ref_name_end name = ends_with nat_eq name (codes "/") || (ends_with nat_eq name (codes ".") || ends_with nat_eq name (codes ".lock"))

-- two stars
abbrev pub has_several_stars : List ℕ → Bool
has_several_stars name = nat_le 2 (count_by (λ b. b == 42) name)

-- one of the rules above forbids the name; a single star is let through, as in a refspec
abbrev pub is_invalid_ref_name : List ℕ → Bool
is_invalid_ref_name name = list_any is_forbidden_ref_name_byte name || (has_forbidden_ref_name_part name || (has_forbidden_ref_name_start name || (has_forbidden_ref_name_end name || has_several_stars name)))

-- a refspec without the `+` that asks for a forced update; a second `+` stays
abbrev pub without_leading_plus : List ℕ → List ℕ
without_leading_plus [] = []
without_leading_plus (b ∷ text) = if b == 43 then text else b ∷ text

-- the side of a refspec that is fetched: what stands before the first `:`, or all of it where there is none
abbrev pub refspec_source : List ℕ → List ℕ
refspec_source text = text_before_first_occurrence 58 (without_leading_plus text)

-- the branch that the source of a refspec names: `HEAD` where it is empty, none where git's rules forbid the name
abbrev pub branch_of_refspec_source : List ℕ → Option Branch
branch_of_refspec_source name =
    if is_empty name then Some (Name (codes "HEAD"))
    else if is_invalid_ref_name name then None
    else Some (Name name)

-- the branch that a text names; none where it names none
abbrev pub parse_branch : List ℕ → Option Branch
parse_branch text = if bytes_eq text (codes ".") then Some CurrentInSuperproject else branch_of_refspec_source (refspec_source text)
