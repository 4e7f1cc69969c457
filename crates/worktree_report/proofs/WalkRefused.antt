-- A walk that is refused is a report that is refused: what is known of the one is known of the other.
use Rattle.std.proofs.Common.{◌≡◌, ◌≤◌, Option, Result, Ok, Err, arith}
use Rattle.worktree_fs.specs.declared.worktree.Worktree.{Ghosts as WorktreeOf}
use Rattle.worktree_stack.specs.declared.error.AtPathError.{AtPathError}
use Rattle.worktree_stack.specs.declared.error.AtPathError.TheVariants as inner
use Rattle.worktree_stack.specs.declared.error.RulesWhy.TheVariants as rules
use Rattle.worktree_stack.specs.declared.error.BlobWhy.TheVariants as blobs
use Rattle.worktree_stack.specs.Refused as lookups
use Rattle.dir_classify.specs.declared.error.Error.{Error}
use Rattle.dir_classify.specs.declared.error.Error.TheVariants as walk
use Rattle.dir_classify.specs.declared.error.MetadataWhy.TheVariants as metadata
use Rattle.dir_classify.specs.declared.error.ReadWhy.TheVariants as why
use Rattle.dir_classify.specs.Refused.{HoldsIfFaultError}
use Rattle.dir_walk.specs.declared.report.Report.{Report as WalkReport}
use Rattle.dir_walk.specs.Unopened.{count_too_deep_in_answer, count_unlisted_in_answer}
use Rattle.worktree_report.specs.declared.known.Known.{Known}
use Rattle.worktree_report.specs.declared.refusal.Misread.{Misread}
use Rattle.worktree_report.specs.declared.report.Report.{Report}
use Rattle.worktree_report.specs.declared.setup.Setup.{Setup}
use Rattle.worktree_report.specs.Loads.{report_error_of_walk_error}
use Rattle.worktree_report.specs.Outside.{HoldsOfMisread, HoldsIfReadingError, StopsReadingAtError}
use Rattle.worktree_report.specs.Reported.{MisreadsExactlyWhereSaid, HoldsIfReportFault, HoldsOfWalkError}
use Rattle.worktree_report.specs.Unopened.{count_too_deep_in_report, count_unlisted_in_report}

pub on_walk : (Holds : Error → Type 0) (e : Error) → Holds e → HoldsOfWalkError Holds (report_error_of_walk_error e)
on_walk Holds walk.Interrupted h = h
on_walk Holds (walk.WorktreeRootIsFile root) h = h
on_walk Holds (walk.NormalizeRoot root) h = h
on_walk Holds (walk.SymlinkInRoot root worktree_root index) h = h
on_walk Holds (walk.SymlinkMetadata path c) h = h
on_walk Holds (walk.ExcludesAccess e) h = h
on_walk Holds (walk.ReadDir path c) h = h
on_walk Holds (walk.DirEntry path) h = h
on_walk Holds (walk.TooDeep path) h = h
on_walk Holds walk.OutOfMemory h = tt

pub unlisted_so_too : (e : Error) → count_unlisted_in_answer {T = WalkReport} (Err e) ≤ count_unlisted_in_report {T = Report} (Err (report_error_of_walk_error e))
unlisted_so_too walk.Interrupted = omega arith
unlisted_so_too (walk.WorktreeRootIsFile root) = omega arith
unlisted_so_too (walk.NormalizeRoot root) = omega arith
unlisted_so_too (walk.SymlinkInRoot root worktree_root index) = omega arith
unlisted_so_too (walk.SymlinkMetadata path c) = omega arith
unlisted_so_too (walk.ExcludesAccess e) = omega arith
unlisted_so_too (walk.ReadDir path c) = omega arith
unlisted_so_too (walk.DirEntry path) = omega arith
unlisted_so_too (walk.TooDeep path) = omega arith
unlisted_so_too walk.OutOfMemory = omega arith

pub deep_so_too : (e : Error) → count_too_deep_in_report {T = Report} (Err (report_error_of_walk_error e)) ≤ count_too_deep_in_answer {T = WalkReport} (Err e)
deep_so_too walk.Interrupted = omega arith
deep_so_too (walk.WorktreeRootIsFile root) = omega arith
deep_so_too (walk.NormalizeRoot root) = omega arith
deep_so_too (walk.SymlinkInRoot root worktree_root index) = omega arith
deep_so_too (walk.SymlinkMetadata path c) = omega arith
deep_so_too (walk.ExcludesAccess e) = omega arith
deep_so_too (walk.ReadDir path c) = omega arith
deep_so_too (walk.DirEntry path) = omega arith
deep_so_too (walk.TooDeep path) = omega arith
deep_so_too walk.OutOfMemory = omega arith

failed_lookup : (Failed Failed' Stored : Type 0) (e : AtPathError) → (Failed → Failed') → lookups.HoldsOnFaultError Failed Stored e → lookups.HoldsOnFaultError Failed' Stored e
failed_lookup Failed Failed' Stored inner.NotNormal wide h = tt
failed_lookup Failed Failed' Stored (inner.Component c) wide h = tt
failed_lookup Failed Failed' Stored (inner.Collision path) wide h = tt
failed_lookup Failed Failed' Stored (inner.Directory path c) wide h = tt
failed_lookup Failed Failed' Stored (inner.RulesFile path rules.Link) wide h = tt
failed_lookup Failed Failed' Stored (inner.RulesFile path rules.LinkLimit) wide h = tt
failed_lookup Failed Failed' Stored (inner.RulesFile path rules.Special) wide h = tt
failed_lookup Failed Failed' Stored (inner.RulesFile path rules.Fault) wide h = wide h
failed_lookup Failed Failed' Stored (inner.Blob id blobs.Missing) wide h = tt
failed_lookup Failed Failed' Stored (inner.Blob id blobs.NotABlob) wide h = tt
failed_lookup Failed Failed' Stored (inner.Blob id blobs.Fault) wide h = h
failed_lookup Failed Failed' Stored inner.OutOfMemory wide h = tt

pub failed_walk : (Failed Failed' Stored : Type 0) (e : Error) → (Failed → Failed') → HoldsIfFaultError Failed Stored e → HoldsIfReportFault Failed' Stored (report_error_of_walk_error e)
failed_walk Failed Failed' Stored walk.Interrupted wide h = tt
failed_walk Failed Failed' Stored (walk.WorktreeRootIsFile root) wide h = tt
failed_walk Failed Failed' Stored (walk.NormalizeRoot root) wide h = tt
failed_walk Failed Failed' Stored (walk.SymlinkInRoot root worktree_root index) wide h = tt
failed_walk Failed Failed' Stored (walk.SymlinkMetadata path metadata.Absent) wide h = tt
failed_walk Failed Failed' Stored (walk.SymlinkMetadata path metadata.Fault) wide h = wide h
failed_walk Failed Failed' Stored (walk.ExcludesAccess e) wide h = failed_lookup Failed Failed' Stored e wide h
failed_walk Failed Failed' Stored (walk.ReadDir path why.Absent) wide h = tt
failed_walk Failed Failed' Stored (walk.ReadDir path why.NotADirectory) wide h = tt
failed_walk Failed Failed' Stored (walk.ReadDir path why.Fault) wide h = wide h
failed_walk Failed Failed' Stored (walk.DirEntry path) wide h = wide h
failed_walk Failed Failed' Stored (walk.TooDeep path) wide h = tt
failed_walk Failed Failed' Stored walk.OutOfMemory wide h = tt

pub walk_is_later : (given : Result (Option Known) Misread) (known : Option Known) → given ≡ Ok known → (e : Error) → MisreadsExactlyWhereSaid given (report_error_of_walk_error e)
walk_is_later given known is walk.Interrupted = (known, is)
walk_is_later given known is (walk.WorktreeRootIsFile root) = (known, is)
walk_is_later given known is (walk.NormalizeRoot root) = (known, is)
walk_is_later given known is (walk.SymlinkInRoot root worktree_root index) = (known, is)
walk_is_later given known is (walk.SymlinkMetadata path c) = (known, is)
walk_is_later given known is (walk.ExcludesAccess e) = (known, is)
walk_is_later given known is (walk.ReadDir path c) = (known, is)
walk_is_later given known is (walk.DirEntry path) = (known, is)
walk_is_later given known is (walk.TooDeep path) = (known, is)
walk_is_later given known is walk.OutOfMemory = tt

pub walk_is_inside : (Holds : Misread → Type 0) (e : Error) → HoldsOfMisread Holds (report_error_of_walk_error e)
walk_is_inside Holds walk.Interrupted = tt
walk_is_inside Holds (walk.WorktreeRootIsFile root) = tt
walk_is_inside Holds (walk.NormalizeRoot root) = tt
walk_is_inside Holds (walk.SymlinkInRoot root worktree_root index) = tt
walk_is_inside Holds (walk.SymlinkMetadata path c) = tt
walk_is_inside Holds (walk.ExcludesAccess e) = tt
walk_is_inside Holds (walk.ReadDir path c) = tt
walk_is_inside Holds (walk.DirEntry path) = tt
walk_is_inside Holds (walk.TooDeep path) = tt
walk_is_inside Holds walk.OutOfMemory = tt

pub walk_is_no_reading : (Holds : Type 0) (e : Error) → HoldsIfReadingError Holds (report_error_of_walk_error e)
walk_is_no_reading Holds walk.Interrupted = tt
walk_is_no_reading Holds (walk.WorktreeRootIsFile root) = tt
walk_is_no_reading Holds (walk.NormalizeRoot root) = tt
walk_is_no_reading Holds (walk.SymlinkInRoot root worktree_root index) = tt
walk_is_no_reading Holds (walk.SymlinkMetadata path c) = tt
walk_is_no_reading Holds (walk.ExcludesAccess e) = tt
walk_is_no_reading Holds (walk.ReadDir path c) = tt
walk_is_no_reading Holds (walk.DirEntry path) = tt
walk_is_no_reading Holds (walk.TooDeep path) = tt
walk_is_no_reading Holds walk.OutOfMemory = tt

pub walk_stops_nothing : {W : Type 0} (w : WorktreeOf W) (w0 w1 : W) (setup : Setup) (e : Error) → StopsReadingAtError w w0 w1 setup (report_error_of_walk_error e)
walk_stops_nothing w w0 w1 setup walk.Interrupted = tt
walk_stops_nothing w w0 w1 setup (walk.WorktreeRootIsFile root) = tt
walk_stops_nothing w w0 w1 setup (walk.NormalizeRoot root) = tt
walk_stops_nothing w w0 w1 setup (walk.SymlinkInRoot root worktree_root index) = tt
walk_stops_nothing w w0 w1 setup (walk.SymlinkMetadata path c) = tt
walk_stops_nothing w w0 w1 setup (walk.ExcludesAccess e) = tt
walk_stops_nothing w w0 w1 setup (walk.ReadDir path c) = tt
walk_stops_nothing w w0 w1 setup (walk.DirEntry path) = tt
walk_stops_nothing w w0 w1 setup (walk.TooDeep path) = tt
walk_stops_nothing w w0 w1 setup walk.OutOfMemory = tt
