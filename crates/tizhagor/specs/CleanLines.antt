-- Why there is no such cleaning: the text.
use Rattle.std.specs.Prelude.{ℕ, List, codes}
use Rattle.git_clean.specs.Wrong.{message_of_wrong_cleaning}
use Rattle.tizhagor.specs.declared.require_force.WrongClean.{WrongClean}
use Rattle.tizhagor.specs.declared.require_force.WrongClean.TheVariants as wrongs

-- in git's words where git refuses it too
abbrev pub message_of_wrong_clean : WrongClean → List ℕ
message_of_wrong_clean wrongs.Unread = codes "bad config value for 'clean.requireForce'"
message_of_wrong_clean wrongs.Unforced = codes "clean.requireForce defaults to true and neither -i, -n, nor -f given; refusing to clean"
message_of_wrong_clean wrongs.UnforcedAsSaid = codes "clean.requireForce set to true and neither -i, -n, nor -f given; refusing to clean"
message_of_wrong_clean (wrongs.Wrong wrong) = message_of_wrong_cleaning wrong
