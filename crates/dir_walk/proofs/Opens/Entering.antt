-- A path that holds no names is not entered.
use Rattle.std.proofs.Common.{◌≡◌, Bool, false, Option, Some, None, refl}
use Rattle.dir_classify.specs.declared.classify.Outcome.{Outcome as Class}
use Rattle.dir_classify.specs.declared.entry.Kind.{Kind}
use Rattle.dir_classify.specs.declared.entry.Kind.TheVariants.{Untrackable, File, Symlink, Directory, Repository}
use Rattle.dir_classify.specs.Chosen.{WalkOptions}
use Rattle.dir_classify.specs.Class.{enters}
use Rattle.dir_classify.specs.Enters.{is_walkable_kind}
use Rattle.dir_classify.specs.Kinds.{is_some_directory_kind}

shut-open : (kind : Option Kind) (in_repository : Bool) → is_some_directory_kind kind ≡ false → is_walkable_kind kind in_repository ≡ false
shut-open None in_repository e = refl
shut-open (Some Untrackable) in_repository e = refl
shut-open (Some File) in_repository e = refl
shut-open (Some Symlink) in_repository e = refl
shut-open (Some Directory) in_repository e = absurd (cc e)
shut-open (Some Repository) in_repository e = absurd (cc e)

pub shut : (o : WalkOptions) (c : Class) (in_repository : Bool) → is_some_directory_kind c.disk_kind ≡ false → enters o c in_repository ≡ false
shut o c in_repository e = rw (shut-open c.disk_kind in_repository e) refl
