-- A test for the same entry: entries are told apart by a text that they are spelled as.
use Rattle.std.proofs.Common.{◌≡◌, ℕ, zero, suc, List, ◌∷◌, Bool, true, false, Option, Some, None, refl, sym, ap, ◌∙◌}
use Rattle.std.specs.Str.{bytes_eq}
use Rattle.std.specs.Cmp.Lexicographic.{same_text}
use Rattle.std.proofs.lemmas.Cmp.{nat_list_eq_equiv}
use Rattle.dir_classify.specs.declared.entry.Status.{Status}
use Rattle.dir_classify.specs.declared.entry.Status.TheVariants.{Pruned, Tracked, Ignored, Untracked}
use Rattle.glob_rules.specs.declared.ignore.Kind.TheVariants.{Expendable, Precious}
use Rattle.glob_rules.specs.declared.ignore.Origin.{Origin}
use Rattle.glob_rules.specs.declared.ignore.RuleGroup.{RuleGroup}
use Rattle.glob_rules.specs.declared.ignore.RuleGroup.TheVariants as groups
use Rattle.dir_classify.specs.declared.entry.Property.{Property}
use Rattle.dir_classify.specs.declared.entry.Property.TheVariants.{DotGit, EmptyDirectory, EmptyDirectoryAndCWD, TrackedExcluded}
use Rattle.dir_classify.specs.declared.entry.Kind.{Kind}
use Rattle.dir_classify.specs.declared.entry.Kind.TheVariants.{Untrackable, File, Symlink, Directory, Repository}
use Rattle.dir_classify.specs.declared.entry.PathspecMatch.{PathspecMatch}
use Rattle.dir_classify.specs.declared.entry.PathspecMatch.TheVariants.{Always, Excluded, Prefix, WildcardMatch, Verbatim}
use Rattle.dir_walk.specs.Emissions.{Emission, emission_with_fold_status}

-- ---- each part as a number, and back

abbrev of_status : Status → ℕ
of_status Pruned = 0
of_status Tracked = 1
of_status (Ignored Expendable) = 2
of_status (Ignored Precious) = 3
of_status Untracked = 4

abbrev to_status : ℕ → Status
to_status zero = Pruned
to_status (suc zero) = Tracked
to_status (suc (suc zero)) = Ignored Expendable
to_status (suc (suc (suc zero))) = Ignored Precious
to_status (suc (suc (suc (suc n)))) = Untracked

status_back : (x : Status) → to_status (of_status x) ≡ x
status_back Pruned = refl
status_back Tracked = refl
status_back (Ignored Expendable) = refl
status_back (Ignored Precious) = refl
status_back Untracked = refl

abbrev of_property : Property → ℕ
of_property DotGit = 0
of_property EmptyDirectory = 1
of_property EmptyDirectoryAndCWD = 2
of_property TrackedExcluded = 3

abbrev to_property : ℕ → Property
to_property zero = DotGit
to_property (suc zero) = EmptyDirectory
to_property (suc (suc zero)) = EmptyDirectoryAndCWD
to_property (suc (suc (suc n))) = TrackedExcluded

property_back : (x : Property) → to_property (of_property x) ≡ x
property_back DotGit = refl
property_back EmptyDirectory = refl
property_back EmptyDirectoryAndCWD = refl
property_back TrackedExcluded = refl

abbrev of_kind : Kind → ℕ
of_kind Untrackable = 0
of_kind File = 1
of_kind Symlink = 2
of_kind Directory = 3
of_kind Repository = 4

abbrev to_kind : ℕ → Kind
to_kind zero = Untrackable
to_kind (suc zero) = File
to_kind (suc (suc zero)) = Symlink
to_kind (suc (suc (suc zero))) = Directory
to_kind (suc (suc (suc (suc n)))) = Repository

kind_back : (x : Kind) → to_kind (of_kind x) ≡ x
kind_back Untrackable = refl
kind_back File = refl
kind_back Symlink = refl
kind_back Directory = refl
kind_back Repository = refl

abbrev of_match : PathspecMatch → ℕ
of_match Always = 0
of_match Excluded = 1
of_match Prefix = 2
of_match WildcardMatch = 3
of_match Verbatim = 4

abbrev to_match : ℕ → PathspecMatch
to_match zero = Always
to_match (suc zero) = Excluded
to_match (suc (suc zero)) = Prefix
to_match (suc (suc (suc zero))) = WildcardMatch
to_match (suc (suc (suc (suc n)))) = Verbatim

match_back : (x : PathspecMatch) → to_match (of_match x) ≡ x
match_back Always = refl
match_back Excluded = refl
match_back Prefix = refl
match_back WildcardMatch = refl
match_back Verbatim = refl

abbrev of_option : {X : Type 0} → (X → ℕ) → Option X → ℕ
of_option f None = 0
of_option f (Some x) = suc (f x)

abbrev to_option : {X : Type 0} → (ℕ → X) → ℕ → Option X
to_option f zero = None
to_option f (suc n) = Some (f n)

option_back : {X : Type 0} (f : X → ℕ) (g : ℕ → X) → ((x : X) → g (f x) ≡ x) → (o : Option X) → to_option g (of_option f o) ≡ o
option_back {X = X} f g back None = refl
option_back {X = X} f g back (Some x) = ap (λ (y : X). Some y) (back x)

-- ---- the rule that decided, as three numbers, and back

abbrev of_group : RuleGroup → ℕ
of_group groups.Overrides = 0
of_group groups.Globals = 1
of_group (groups.Directory depth) = suc (suc depth)

abbrev to_group : ℕ → RuleGroup
to_group zero = groups.Overrides
to_group (suc zero) = groups.Globals
to_group (suc (suc n)) = groups.Directory n

group_back : (x : RuleGroup) → to_group (of_group x) ≡ x
group_back groups.Overrides = refl
group_back groups.Globals = refl
group_back (groups.Directory depth) = refl

abbrev of_sign : Bool → ℕ
of_sign true = 1
of_sign false = 0

abbrev to_sign : ℕ → Bool
to_sign zero = false
to_sign (suc n) = true

sign_back : (x : Bool) → to_sign (of_sign x) ≡ x
sign_back true = refl
sign_back false = refl

abbrev group_in : Option Origin → ℕ
group_in None = 0
group_in (Some x) = suc (of_group x.group)

abbrev line_in : Option Origin → ℕ
line_in None = 0
line_in (Some x) = x.line

abbrev sign_in : Option Origin → ℕ
sign_in None = 0
sign_in (Some x) = of_sign x.negative

abbrev origin_with : RuleGroup → ℕ → Bool → Option Origin
origin_with group line negative = Some (record { group = group; line = line; negative = negative })

abbrev to_origin : ℕ → ℕ → ℕ → Option Origin
to_origin zero line sign = None
to_origin (suc group) line sign = origin_with (to_group group) line (to_sign sign)

origin_back : (x : Option Origin) → to_origin (group_in x) (line_in x) (sign_in x) ≡ x
origin_back None = refl
origin_back (Some x) =
    ap (λ (g : RuleGroup). origin_with g x.line (to_sign (of_sign x.negative))) (group_back x.group) ∙ ap (λ (b : Bool). origin_with x.group x.line b) (sign_back x.negative)

-- ---- an entry as a text, and back

abbrev spelled : Emission → List ℕ
spelled x =
    of_status x.0.status ∷ of_option of_property x.0.property ∷ of_option of_kind x.0.disk_kind ∷ of_option of_kind x.0.index_kind
    ∷ of_option of_match x.0.pathspec_match ∷ of_option of_status x.1 ∷ group_in x.0.origin ∷ line_in x.0.origin ∷ sign_in x.0.origin ∷ x.0.rela_path

abbrev made : ℕ → ℕ → ℕ → ℕ → ℕ → ℕ → ℕ → ℕ → ℕ → List ℕ → Emission
made a b c d e f g h i path = (
  record {
    rela_path = path;
    status = to_status a;
    property = to_option to_property b;
    disk_kind = to_option to_kind c;
    index_kind = to_option to_kind d;
    pathspec_match = to_option to_match e;
    origin = to_origin g h i;
  },
  to_option to_status f,
)

-- any other text is no spelling, and is read as some entry
abbrev read : Emission → List ℕ → Emission
read some (a ∷ b ∷ c ∷ d ∷ e ∷ f ∷ g ∷ h ∷ i ∷ path) = made a b c d e f g h i path
read some text = some

entry_of : (path : List ℕ) (s t : Status) (p q : Option Property) (k l i j : Option Kind) (m n : Option PathspecMatch) (x y : Option Origin) (u v : Option Status) → s ≡ t → p ≡ q → k ≡ l → i ≡ j → m ≡ n → x ≡ y → u ≡ v
    → emission_with_fold_status (record { rela_path = path; status = s; property = p; disk_kind = k; index_kind = i; pathspec_match = m; origin = x }) u
    ≡ emission_with_fold_status (record { rela_path = path; status = t; property = q; disk_kind = l; index_kind = j; pathspec_match = n; origin = y }) v
entry_of path s t p q k l i j m n x y u v e f g h o r w = cc

read-spelled : (some x : Emission) → read some (spelled x) ≡ x
read-spelled some x =
    entry_of x.0.rela_path _ _ _ _ _ _ _ _ _ _ _ _ _ _ (status_back x.0.status) (option_back of_property to_property property_back x.0.property) (option_back of_kind to_kind kind_back x.0.disk_kind)
    (option_back of_kind to_kind kind_back x.0.index_kind) (option_back of_match to_match match_back x.0.pathspec_match) (origin_back x.0.origin) (option_back of_status to_status status_back x.1)

-- ---- the test

abbrev pub same_emission : Emission → Emission → Bool
same_emission x y = bytes_eq (spelled x) (spelled y)

pub emission_is : (x y : Emission) → same_emission x y ≡ true → x ≡ y
emission_is x y e = sym (read-spelled x x) ∙ ap (read x) (same_text (spelled x) (spelled y) (sym e)) ∙ read-spelled x y

pub emission_same : (x : Emission) → same_emission x x ≡ true
emission_same x = nat_list_eq_equiv.refl (spelled x)
