-- What the rules say of a path, and of one named `.git`.
use Rattle.std.proofs.Common.{◌≡◌, ◌≤◌, ◌∙◌, ap, ℕ, List, Bool, true, false, not, ◌&&◌, Option, Some, None, refl, inl, inr, arith}
use Rattle.std.specs.Prelude.{if◌then◌else◌, is_some, is_none, ◌⊎◌}
use Rattle.gitbase_core.specs.Path.{is_empty}
use Rattle.glob_rules.specs.declared.ignore.Kind.{Kind as IgnoredAs}
use Rattle.worktree_fs.specs.Causes.{CountIncreasedOrSaturated, CountNotIncreased}
use Rattle.worktree_fs.specs.Paths.{root_joined_with_relative}
use Rattle.worktree_stack.specs.Reading.{TreeAndObjects}
use Rattle.worktree_stack.specs.Setup.{StackSetup}
use Rattle.worktree_stack.specs.Stacked.{StackModel}
use Rattle.dir_classify.specs.declared.classify.Outcome.{Outcome}
use Rattle.dir_classify.specs.declared.entry.Kind.{Kind}
use Rattle.dir_classify.specs.declared.excludes.Ruling.{Ruling}
use Rattle.dir_classify.specs.Chosen.{WalkOptions}
use Rattle.dir_classify.specs.Class.{outcome_by_ignore_kind, outcome_of_dot_git, ruling_of_dot_git, outcome_of_path_of_known_kind, outcome_of_unindexed_path, index_and_disk_agree_on_directory, is_in_worktree_set, is_dir_following_symlink, ruling_unless_worktree_root}
use Rattle.dir_classify.specs.Evidence.{PathEvidence, ruling_without_rule}
use Rattle.dir_classify.specs.Excludes.{setup_of_optional_stack}
use Rattle.dir_classify.specs.Faults.{Failed, IsOutcomeAsRead, IsRulingAsRead, kind_unless_failed, no_question_failed, evidence_as_read}
use Rattle.dir_classify.specs.Kinds.{is_dir}
use Rattle.dir_classify.specs.Layers.{WalkSetting, evidence_from_setting_and_sources, is_some_rules_file_unread, kind_of_node_at, ruling_of_optional_setup}
use Rattle.dir_classify.proofs.Fitting.{unindexed-case}
use Rattle.dir_classify.proofs.Upgrades.{rose-or}

-- what the rules say of a path is all that hangs on where a link leads
rules-same : (o : WalkOptions) (ev : PathEvidence) (path : List ℕ) (kind : Option Kind) (failed : Failed) (b : Bool) (ruled : Option IgnoredAs)
    → outcome_by_ignore_kind o (evidence_as_read failed ev) path kind ruled ≡ outcome_by_ignore_kind o (evidence_as_read (record failed { followed = b }) ev) path kind ruled
rules-same o ev path kind failed b None = refl
rules-same o ev path kind failed b (Some excluded) = refl

-- the class of a path that the index does not have, by what the rules said and by what was read
pub judged-unindexed : (n0 n1 n2 : ℕ) (o : WalkOptions) (ev : PathEvidence) (path : List ℕ) (kind on_disk : Option Kind) (ruling : Ruling) (c : Outcome)
    → is_in_worktree_set o path ≡ false → index_and_disk_agree_on_directory (ev.in_index path) kind ≡ false
    → IsRulingAsRead n0 n1 (λ read. ruling_unless_worktree_root o read path kind) ev ruling → IsOutcomeAsRead n1 n2 (λ _ read. outcome_of_unindexed_path o read path kind ruling) ev on_disk c
    → IsOutcomeAsRead n0 n2 (λ _ read. outcome_of_path_of_known_kind o read path kind) ev on_disk c
judged-unindexed n0 n1 n2 o ev path kind on_disk ruling c none not_indexed ruled judged =
    let failed : Failed = record judged.failed { followed = ruled.failed } in
    record {
      failed = failed;
      counted = (let a = ruled.counted in let b = judged.counted in omega (arith, a, b));
      class_is =
          judged.class_is
          ∙ ap (λ (x : Outcome). record x { origin = ruling.origin }) (rules-same o ev path kind judged.failed ruled.failed ruling.kind)
          ∙ ap (λ (r : Ruling). outcome_of_unindexed_path o (evidence_as_read failed ev) path kind r) ruled.ruling_is
          ∙ unindexed-case o (evidence_as_read failed ev) path kind none not_indexed;
    }

pub made-some : (excludes : Option StackModel) → is_none excludes ≡ false → is_some (setup_of_optional_stack excludes) ≡ true
made-some None e = absurd (cc e)
made-some (Some stack) e = refl

-- what the rules say of a path, by the kind that a link there leads to
ruled-as : (given : WalkSetting) (made : Option StackSetup) (s : TreeAndObjects) (path : List ℕ) (kind : Option Kind) (failed : Bool) (is_dir : Option Bool) (ruling : Ruling)
    → is_some made ≡ true → is_empty path ≡ false → is_dir ≡ is_dir_following_symlink given.options kind (kind_unless_failed failed (kind_of_node_at s.tree (root_joined_with_relative given.root path) true)) → ruling ≡ ruling_of_optional_setup made s path is_dir
    → ruling ≡ ruling_unless_worktree_root given.options (evidence_as_read (record no_question_failed { followed = failed }) (evidence_from_setting_and_sources given made s)) path kind
unfolding evidence_from_setting_and_sources
ruled-as given made s path kind failed is_dir ruling some not_empty is_dir_is ruling_is =
    ruling_is ∙ ap (ruling_of_optional_setup made s path) is_dir_is ∙ rw (some, not_empty) refl

-- that was asked first, and the rules then
pub ruled-read : (n0 n1 n2 : ℕ) (given : WalkSetting) (made : Option StackSetup) (s : TreeAndObjects) (path full : List ℕ) (kind : Option Kind) (is_dir : Option Bool) (ruling : Ruling)
    → n0 ≤ n1 → n1 ≤ n2 → full ≡ root_joined_with_relative given.root path → is_some made ≡ true → is_empty path ≡ false
    → (CountNotIncreased n0 n1 → is_dir ≡ is_dir_following_symlink given.options kind (kind_of_node_at s.tree full true))
    → (is_dir ≡ is_dir_following_symlink given.options kind (kind_of_node_at s.tree full true)) ⊎ (is_dir ≡ is_dir_following_symlink given.options kind None) → ruling ≡ ruling_of_optional_setup made s path is_dir
    → IsRulingAsRead n0 n2 (λ ev. ruling_unless_worktree_root given.options ev path kind) (evidence_from_setting_and_sources given made s) ruling
ruled-read n0 n1 n2 given made s path full kind is_dir ruling a b full_is some not_empty exact seen ruling_is = go seen (rose-or n0 n1)
  where
    Ruled : Type 0
    Ruled = IsRulingAsRead n0 n2 (λ ev. ruling_unless_worktree_root given.options ev path kind) (evidence_from_setting_and_sources given made s) ruling

    followed : is_dir ≡ is_dir_following_symlink given.options kind (kind_of_node_at s.tree full true) → Ruled
    followed is =
        record {
          failed = false;
          counted = omega (arith, a, b);
          ruling_is = ruled-as given made s path kind false is_dir ruling some not_empty (is ∙ ap (λ (f : List ℕ). is_dir_following_symlink given.options kind (kind_of_node_at s.tree f true)) full_is) ruling_is;
        }

    go : (is_dir ≡ is_dir_following_symlink given.options kind (kind_of_node_at s.tree full true)) ⊎ (is_dir ≡ is_dir_following_symlink given.options kind None) → CountNotIncreased n0 n1 ⊎ CountIncreasedOrSaturated n0 n1 → Ruled
    go (inl is) said = followed is
    go (inr is) (inl quiet) = followed (exact quiet)
    go (inr is) (inr rose) = record { failed = true; counted = omega (arith, rose, b); ruling_is = ruled-as given made s path kind true is_dir ruling some not_empty is ruling_is }

-- where they are not asked they say nothing
pub ruling-none : (given : WalkSetting) (made : Option StackSetup) (s : TreeAndObjects) (path : List ℕ) (kind : Option Kind) → (is_some made && not (is_empty path)) ≡ false
    → ruling_without_rule ≡ ruling_unless_worktree_root given.options (evidence_from_setting_and_sources given made s) path kind
unfolding evidence_from_setting_and_sources
ruling-none given made s path kind off = rw off refl

-- ---- a path named `.git`

pub dot_git-unasked : (o : WalkOptions) (ev : PathEvidence) (path : List ℕ) (known : Option Kind) → is_some o.for_deletion ≡ false
    → outcome_of_dot_git o ev path known ruling_without_rule ≡ outcome_of_dot_git o ev path known (ruling_of_dot_git o ev path known)
dot_git-unasked o ev path known off = ap (outcome_of_dot_git o ev path known) (rw off refl)

pub dot_git-unruled : (o : WalkOptions) (ev : PathEvidence) (path : List ℕ) (known : Option Kind) → (is_some o.for_deletion && ev.is_ruled) ≡ false
    → outcome_of_dot_git o ev path known ruling_without_rule ≡ outcome_of_dot_git o ev path known (ruling_of_dot_git o ev path known)
dot_git-unruled o ev path known off = ap (outcome_of_dot_git o ev path known) (rw off refl)

-- in deletion the rules are asked, if there are any
ruled-if : (ruled : Bool) (r : Ruling) → (ruled ≡ false → r ≡ ruling_without_rule) → r ≡ (if ruled then r else ruling_without_rule)
ruled-if true r e = refl
ruled-if false r e = e refl

unruled-in : (made : Option StackSetup) (s : TreeAndObjects) (path : List ℕ) (is_dir : Option Bool) → is_some made ≡ false → ruling_of_optional_setup made s path is_dir ≡ ruling_without_rule
unfolding ruling_of_optional_setup
unruled-in None s path is_dir e = refl
unruled-in (Some made) s path is_dir e = absurd (cc e)

pub dot_git-asked : (o : WalkOptions) (given : WalkSetting) (made : Option StackSetup) (s : TreeAndObjects) (path : List ℕ) (known : Option Kind) (ruling : Ruling) (d : Option Bool)
    → is_some o.for_deletion ≡ true → d ≡ is_dir known → ruling ≡ ruling_of_optional_setup made s path d
    → outcome_of_dot_git o (evidence_from_setting_and_sources given made s) path known ruling
    ≡ outcome_of_dot_git o (evidence_from_setting_and_sources given made s) path known (ruling_of_dot_git o (evidence_from_setting_and_sources given made s) path known)
unfolding evidence_from_setting_and_sources
dot_git-asked o given made s path known ruling d on d_is is =
    ap (outcome_of_dot_git o (evidence_from_setting_and_sources given made s) path known)
    (is ∙ ap (ruling_of_optional_setup made s path) d_is ∙ ruled-if (is_some made) (ruling_of_optional_setup made s path (is_dir known)) (unruled-in made s path (is_dir known)) ∙ rw on refl)

unread-in : (made : Option StackSetup) (s : TreeAndObjects) (path : List ℕ) → is_some made ≡ false → is_some_rules_file_unread made s path ≡ false
unfolding is_some_rules_file_unread
unread-in None s path e = refl
unread-in (Some made) s path e = absurd (cc e)

pub dot_git-read : (o : WalkOptions) (given : WalkSetting) (made : Option StackSetup) (s : TreeAndObjects) (path : List ℕ) → is_some_rules_file_unread made s path ≡ false
    → ((is_some o.for_deletion && (evidence_from_setting_and_sources given made s).is_ruled) && (evidence_from_setting_and_sources given made s).is_unread path) ≡ false
unfolding evidence_from_setting_and_sources
dot_git-read o given made s path read = go (is_some o.for_deletion && is_some made)
  where
    go : (b : Bool) → (b && is_some_rules_file_unread made s path) ≡ false
    go true = read
    go false = refl

-- a refusal comes only where rules are given
pub dot_git-asks : (o : WalkOptions) (given : WalkSetting) (made : Option StackSetup) (s : TreeAndObjects) → is_some o.for_deletion ≡ true → is_some made ≡ true
    → (is_some o.for_deletion && (evidence_from_setting_and_sources given made s).is_ruled) ≡ true
unfolding evidence_from_setting_and_sources
dot_git-asks o given made s on some = rw (on, some) refl
