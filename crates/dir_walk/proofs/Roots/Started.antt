-- What a walk does from a traversal root, by where the way to it ended.
use Rattle.std.proofs.Common.{◌≡◌, ◌⊎◌, inl, inr, ℕ, List, [], ◌∷◌, Bool, true, false, not, ◌&&◌, Option, Some, None, Ok, Err, Result, refl, sym, ap, subst, ◌∙◌, arith}
use Rattle.std.specs.Prelude.{if◌then◌else◌, IsSomeAnd, OnOk}
use Rattle.gitbase_core.specs.Path.{components, is_empty}
use Rattle.worktree_fs.specs.declared.answers.ListError.TheVariants as lists
use Rattle.worktree_stack.specs.Reading.{TreeAndObjects}
use Rattle.worktree_stack.specs.Setup.{StackSetup}
use Rattle.dir_classify.specs.declared.classify.Outcome.{Outcome as Class}
use Rattle.dir_classify.specs.declared.classify.RootOutcome.{RootOutcome}
use Rattle.dir_classify.specs.declared.entry.Kind.{Kind}
use Rattle.dir_classify.specs.declared.error.Error.{Error}
use Rattle.dir_classify.specs.declared.error.Error.TheVariants as errors
use Rattle.dir_classify.specs.declared.error.ReadWhy.TheVariants as reads
use Rattle.dir_classify.specs.Chosen.{WalkOptions}
use Rattle.dir_classify.specs.Class.{class}
use Rattle.dir_classify.specs.Entries.{entry_with_outcome}
use Rattle.dir_classify.specs.Evidence.{PathEvidence}
use Rattle.dir_classify.specs.Kinds.{is_some_directory_kind}
use Rattle.dir_classify.specs.Layers.{WalkSetting, evidence_from_setting_and_sources, kind_on_disk_if_asked}
use Rattle.dir_classify.specs.Rooted.{reached_of_root_outcome, end_of_way_to_root}
use Rattle.dir_classify.specs.Way.{EndOfWayToRoot}
use Rattle.dir_walk.specs.declared.delegate.Delegate.{Ghosts as DelegateOf}
use Rattle.dir_walk.specs.declared.handed.Stop.{Stop}
use Rattle.dir_walk.specs.declared.outcome.Outcome.{Outcome}
use Rattle.dir_walk.specs.Emissions.{Emission, uncollapsed_emission}
use Rattle.dir_walk.specs.Emits.{AddsEmissionsAndCounts, GivesAllWalkedAndHandedUp, AddsPartOfWalkedAndHandedUp, AddsAtMostEmissionsAndSeen, count_shown_passing}
use Rattle.dir_walk.specs.Refused.{IsErrorOfEnteredDirectory, IsLookupErrorOfAskedPath, IsTooDeepToEnter, IsReadDirErrorByWalkResult}
use Rattle.dir_walk.specs.Root.{is_worktree_root_non_directory, enters_traversal_root, look_at_traversal_root, walk_result_with_single_entry, walk_result_from_traversal_root}
use Rattle.dir_walk.specs.Rooting.{IsNormalRootPath}
use Rattle.dir_walk.specs.Starts.{EmitsUnenteredRoot, GivesWalkFromRoot}
use Rattle.dir_walk.specs.Told.{walk_result_of_directory_over_sources}
use Rattle.dir_walk.specs.Walked.{WalkResult, walk_result_of_entered_path}
use Rattle.dir_walk.specs.WalkRefused.{IsRootNodeNoDirectory, HasNoRootToWalk, IsRulesErrorOnWayToRoot, IsErrorFromRootBySources, walk_result_or_empty}
use Rattle.dir_walk.proofs.Gives.Emitting.{Emits-as}
use Rattle.dir_walk.proofs.Roots.HeldRoots.{no-directory}
use Rattle.dir_walk.proofs.Order.Lists.{same_some}
use Rattle.dir_walk.proofs.Roots.Starting.{bare, broken-way, unindexed, walked-way, way-class, way-empty}

module _ (given : WalkSetting) (made : Option StackSetup) (s : TreeAndObjects) (root : List ℕ) (shape : IsNormalRootPath root) (r : RootOutcome) (is : reached_of_root_outcome r false ≡ end_of_way_to_root given made s root) where
  abbrev o : WalkOptions
  o = given.options

  abbrev ev : PathEvidence
  ev = evidence_from_setting_and_sources given made s

  abbrev kinds : List ℕ → Option Kind
  kinds = λ path. kind_on_disk_if_asked given s.tree path true

  abbrev way : EndOfWayToRoot
  way = end_of_way_to_root given made s root

  pub read-at : way.is_unread ≡ false
  read-at = sym (ap (λ (w : EndOfWayToRoot). w.is_unread) is)

  -- a worktree root that its class does not have as a directory is none
  pub no-node : is_empty root ≡ true → is_some_directory_kind r.outcome.disk_kind ≡ false → IsRootNodeNoDirectory given s
  no-node empty holds =
      no-directory o ev (unindexed given made s) s.tree given.root
      (ap (λ (c : Class). is_some_directory_kind c.disk_kind) (sym (way-class o ev kinds (components root) ∙ ap (λ (p : List ℕ). class o ev p (kinds p) None) (bare way.path (way-empty o ev kinds root shape.spelled_is ∙ empty))))
      ∙ ap (λ (w : EndOfWayToRoot). is_some_directory_kind w.class.disk_kind) (sym is)
      ∙ holds)

  -- ---- it is entered

  module _ (into : enters_traversal_root o ev (reached_of_root_outcome r false) ≡ true) where
    into-way : enters_traversal_root o ev way ≡ true
    into-way = ap (enters_traversal_root o ev) (sym is) ∙ into

    pub walked-entered : walk_result_from_traversal_root given made s root ≡ Some (walk_result_of_directory_over_sources given made s root r.outcome)
    walked-entered = walked-way given made s root shape into-way ∙ ap (λ (w : EndOfWayToRoot). Some (walk_result_of_entered_path o ev root w.class (look_at_traversal_root given s.tree root))) (sym is)

    pub gives-entered : (limit : ℕ) (before after : Option (List Emission)) (start stop : Outcome) → GivesAllWalkedAndHandedUp o limit ev (walk_result_of_directory_over_sources given made s root r.outcome) before after start stop → GivesWalkFromRoot given made s root limit before after start stop
    gives-entered limit before after start stop gives = record { w = walk_result_of_directory_over_sources given made s root r.outcome; walked_is = walked-entered; read = read-at; gives = gives }

    pub part-entered : (w : WalkResult) (before after : Option (List Emission)) (start stop : Outcome) → walk_result_from_traversal_root given made s root ≡ Some w → AddsPartOfWalkedAndHandedUp o (walk_result_of_directory_over_sources given made s root r.outcome) before after start stop → AddsPartOfWalkedAndHandedUp o w before after start stop
    part-entered w before after start stop walk part = subst (λ (v : WalkResult). AddsPartOfWalkedAndHandedUp o v before after start stop) (same_some (sym walked-entered ∙ walk)) part

    pub refuses-entered : (limit : ℕ) (StoreFailed : Type 0) (e : Error) → IsErrorOfEnteredDirectory given made s limit ⊥ root r.outcome e → IsErrorFromRootBySources given made s root limit StoreFailed e
    refuses-entered limit F e refused = go e refused
      where
        w : WalkResult
        w = walk_result_of_directory_over_sources given made s root r.outcome

        within : (R : WalkResult → Type 0) → R w → R (walk_result_or_empty (walk_result_from_traversal_root given made s root))
        within R h = subst (λ (v : Option WalkResult). R (walk_result_or_empty v)) (sym walked-entered) h

        go : (x : Error) → IsErrorOfEnteredDirectory given made s limit ⊥ root r.outcome x → IsErrorFromRootBySources given made s root limit F x
        go errors.Interrupted h = tt
        go (errors.WorktreeRootIsFile path) (inl h) = absurd h
        go (errors.WorktreeRootIsFile path) (inr h) = absurd h
        go (errors.NormalizeRoot path) (inl h) = h
        go (errors.NormalizeRoot path) (inr h) = h
        go (errors.SymlinkInRoot path top index) (inl h) = h
        go (errors.SymlinkInRoot path top index) (inr h) = h
        go (errors.SymlinkMetadata path why) (inl h) = h
        go (errors.SymlinkMetadata path why) (inr h) = h
        go (errors.ExcludesAccess inner) (inl h) = absurd h
        go (errors.ExcludesAccess inner) (inr h) = some made (within (λ v. IsSomeAnd made (λ rules. IsLookupErrorOfAskedPath s rules v ⊥ inner)) h)
          where
            some : (m : Option StackSetup) → IsSomeAnd m (λ rules. IsLookupErrorOfAskedPath s rules (walk_result_or_empty (walk_result_from_traversal_root given made s root)) ⊥ inner)
                → IsSomeAnd m (λ rules. IsRulesErrorOnWayToRoot given made s root rules F inner ⊎ IsLookupErrorOfAskedPath s rules (walk_result_or_empty (walk_result_from_traversal_root given made s root)) ⊥ inner)
            some None x = x
            some (Some rules) x = inr x
        go (errors.TooDeep path) (inl h) = absurd h
        go (errors.TooDeep path) (inr h) = within (λ v. IsTooDeepToEnter given.root limit v ⊥ path) h
        go (errors.ReadDir path reads.Absent) (inl h) = inl (broken-way given made s root shape into-way path lists.Absent h.0 h.1)
        go (errors.ReadDir path reads.NotADirectory) (inl h) = inl (broken-way given made s root shape into-way path lists.NotADirectory h.0 h.1)
        go (errors.ReadDir path reads.Fault) (inl h) = inl tt
        go (errors.ReadDir path why) (inr h) = inr (within (λ v. IsReadDirErrorByWalkResult s.tree ev given.root v ⊥ path why) h)
        go (errors.DirEntry path) h = tt
        go errors.OutOfMemory h = tt

  -- ---- it is not

  module _ (out : enters_traversal_root o ev (reached_of_root_outcome r false) ≡ false) where
    out-way : enters_traversal_root o ev way ≡ false
    out-way = ap (enters_traversal_root o ev) (sym is) ∙ out

    unentered : walk_result_from_traversal_root given made s root ≡ (if is_empty root && not (is_some_directory_kind r.outcome.disk_kind) then None else Some (walk_result_with_single_entry (entry_with_outcome r.path r.outcome)))
    unentered =
        ap (λ (b : Bool). if b then Some (walk_result_of_entered_path o ev way.path way.class (look_at_traversal_root given s.tree way.path)) else if is_worktree_root_non_directory way then None else Some (walk_result_with_single_entry (entry_with_outcome way.path way.class))) out-way
        ∙ ap (λ (b : Bool). if b && not (is_some_directory_kind way.class.disk_kind) then None else Some (walk_result_with_single_entry (entry_with_outcome way.path way.class))) (way-empty o ev kinds root shape.spelled_is)
        ∙ ap (λ (w : EndOfWayToRoot). if is_empty root && not (is_some_directory_kind w.class.disk_kind) then None else Some (walk_result_with_single_entry (entry_with_outcome w.path w.class))) (sym is)

    module _ (there : (is_empty root && not (is_some_directory_kind r.outcome.disk_kind)) ≡ false) where
      pub walked-only : walk_result_from_traversal_root given made s root ≡ Some (walk_result_with_single_entry (entry_with_outcome r.path r.outcome))
      walked-only = unentered ∙ ap (λ (b : Bool). if b then None else Some (walk_result_with_single_entry (entry_with_outcome r.path r.outcome))) there

      pub gives-only : (limit : ℕ) (before after : Option (List Emission)) (start stop : Outcome) → AddsEmissionsAndCounts before after start stop (λ p. count_shown_passing o p (uncollapsed_emission (entry_with_outcome r.path r.outcome) ∷ [])) 1 0 → GivesWalkFromRoot given made s root limit before after start stop
      gives-only limit before after start stop emits =
          record {
            w = walk_result_with_single_entry (entry_with_outcome r.path r.outcome);
            walked_is = walked-only;
            read = read-at;
            gives = record { emits = Emits-as before after start stop _ _ 1 _ 0 _ emits (λ p. refl) (omega arith) refl; whole = refl };
          }

    pub part-only : (w : WalkResult) (before after : Option (List Emission)) (start stop : Outcome) → walk_result_from_traversal_root given made s root ≡ Some w → AddsAtMostEmissionsAndSeen before after start stop (λ p. count_shown_passing o p (uncollapsed_emission (entry_with_outcome r.path r.outcome) ∷ [])) 1 → AddsPartOfWalkedAndHandedUp o w before after start stop
    part-only w before after start stop walk part = go (is_empty root && not (is_some_directory_kind r.outcome.disk_kind)) (sym unentered ∙ walk)
      where
        go : (b : Bool) → (if b then None else Some (walk_result_with_single_entry (entry_with_outcome r.path r.outcome))) ≡ Some w → AddsPartOfWalkedAndHandedUp o w before after start stop
        go true e = absurd (cc e)
        go false e = subst (λ (v : WalkResult). AddsPartOfWalkedAndHandedUp o v before after start stop) (same_some e) part

    pub no-root : is_empty root ≡ true → is_some_directory_kind r.outcome.disk_kind ≡ false → HasNoRootToWalk given made s root
    no-root empty holds =
        record {
          top = bare root empty;
          unentered = out-way;
          not_walked = unentered ∙ ap (λ (b : Bool). if b && not (is_some_directory_kind r.outcome.disk_kind) then None else Some (walk_result_with_single_entry (entry_with_outcome r.path r.outcome))) empty ∙ ap (λ (b : Bool). if not b then None else Some (walk_result_with_single_entry (entry_with_outcome r.path r.outcome))) holds;
          node = no-node empty holds;
        }

    -- the one entry is put out
    pub gives-put : {D T : Type 0} (d : DelegateOf D) (limit : ℕ) (top : List ℕ) (d0 d1 : D) (start stop : Outcome) (result : Result T Stop) → EmitsUnenteredRoot d given.options top root r d0 d1 start stop result
        → OnOk result (GivesWalkFromRoot given made s root limit (d.given d0) (d.given d1) start stop)
    gives-put d limit top d0 d1 start stop (Ok done) puts = gives-only puts.there limit (d.given d0) (d.given d1) start stop puts.gives
    gives-put d limit top d0 d1 start stop (Err why) puts = tt
