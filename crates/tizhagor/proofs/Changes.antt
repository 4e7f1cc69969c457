-- What is said of a listing of what changed.
use Rattle.std.proofs.Common.{◌≡◌, inl, inr, ℕ, List, Option, Some, Result, Ok, Err, IfErr, refl, ap}
use Rattle.gitbase_core.specs.declared.entry.IndexEntry.{IndexEntry}
use Rattle.diff_files.specs.Stats.{StatsByPath}
use Rattle.diff_files.specs.declared.comparison.Comparison.{Comparison}
use Rattle.ls_files.specs.declared.changed_error.ChangedError.{ChangedError}
use Rattle.ls_files.specs.declared.changed_error.ChangedError.TheVariants as differences
use Rattle.diff_files.specs.declared.stats.Stats.{Ghosts as StatsOf}
use Rattle.git_index.specs.declared.stat.Detail.{Detail}
use Rattle.glob_rules.specs.PathSpec.{PathSpec}
use Rattle.ls_files.specs.Changed.{ListsDeletedAndModified, output_of_changes_or_unsupported}
use Rattle.ls_files.specs.declared.listed.Listed.{Listed}
use Rattle.ls_files.specs.declared.options.Listing.{Listing}
use Rattle.ls_files.specs.declared.options.NamedSpec.{NamedSpec}
use Rattle.ls_files.specs.declared.standings.DeletedModifiedChoice.{DeletedModifiedChoice}
use Rattle.worktree_fs.specs.declared.worktree.Worktree.{Ghosts as WorktreeOf}
use Rattle.worktree_fs.specs.Tree.{Names}
use Rattle.tizhagor.specs.declared.refusal.CommandRefusal.{CommandRefusal}
use Rattle.tizhagor.specs.declared.reply.Reply.{Reply}
use Rattle.tizhagor.specs.Changing.{reply_of_deleted_and_modified, reply_of_listed_changes_or_unsupported}
use Rattle.tizhagor.specs.Compares.{FindsOverTreeAndStats}
use Rattle.tizhagor.specs.Refusals.{MayComeBeforeSetupIsFound}

no_err : {A : Type 0} (a : A) (e : CommandRefusal) → ◌≡◌ {A = Result A CommandRefusal} (Ok a) (Err e) → ⊥
no_err a e is = absurd cc

module _ {W D : Type 0} (w : WorktreeOf W) (d : StatsOf D) where
  pub of_listing : (w0 w1 : W) (d0 d1 : D) (root : List ℕ) (entries : List IndexEntry) (details : List Detail) (o : Comparison) (asked : DeletedModifiedChoice) (l : Listing) (prefix : List ℕ) (named : List NamedSpec) (specs : List PathSpec)
      (answer : Result Listed ChangedError) → ListsDeletedAndModified w d w0 w1 d0 d1 root entries details o asked l prefix named specs answer
      → FindsOverTreeAndStats {A = Reply} w d w0 w1 d0 d1 (λ t told. reply_of_listed_changes_or_unsupported (output_of_changes_or_unsupported (record { tree = t; stats = told }) root entries details o asked l prefix named specs)) (reply_of_deleted_and_modified answer)
  of_listing w0 w1 d0 d1 root entries details o asked l prefix named specs (Ok made) h =
      record {
        gives = λ t told tree tells. ap reply_of_listed_changes_or_unsupported (h.gives (record { tree = t; stats = told }) (tree, tells));
        cause = λ is. absurd (no_err _ _ is);
        unfaulted = h.unfaulted.0;
        stats_unfaulted = h.unfaulted.1;
        keeps = h.worktree;
        stats = h.stats;
      }
  of_listing w0 w1 d0 d1 root entries details o asked l prefix named specs (Err (differences.Unsupported form)) h =
      record {
        gives = λ t told tree tells. inl (ap reply_of_listed_changes_or_unsupported (h.gives (record { tree = t; stats = told }) (tree, tells)));
        cause = λ is. absurd cc;
        unfaulted = inr h.unfaulted.0;
        stats_unfaulted = inr h.unfaulted.1;
        keeps = h.worktree;
        stats = h.stats;
      }
  of_listing w0 w1 d0 d1 root entries details o asked l prefix named specs (Err differences.Fault) h =
      record {
        gives = λ t told tree tells. inr (inl refl);
        cause = λ is. h.cause refl;
        unfaulted = inl refl;
        stats_unfaulted = inl refl;
        keeps = h.worktree;
        stats = h.stats;
      }
  of_listing w0 w1 d0 d1 root entries details o asked l prefix named specs (Err differences.OutOfMemory) h =
      record {
        gives = λ t told tree tells. inr (inr refl);
        cause = λ is. absurd cc;
        unfaulted = inr h.unfaulted.0;
        stats_unfaulted = inr h.unfaulted.1;
        keeps = h.worktree;
        stats = h.stats;
      }

pub of_listing-is : (answer : Result Listed ChangedError) → IfErr (reply_of_deleted_and_modified answer) MayComeBeforeSetupIsFound
of_listing-is (Ok made) = tt
of_listing-is (Err (differences.Unsupported form)) = tt
of_listing-is (Err differences.Fault) = tt
of_listing-is (Err differences.OutOfMemory) = tt
