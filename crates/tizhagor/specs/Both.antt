-- What is asked of a walk and of stats: the two words that stand for it.
--
-- `ls-files` with `-d` or `-m` and with `-o` or `-k`: git prints first what the index lacks, then what is in its way, and then, entry by
-- entry, what it shows of the index. So the reply is that of the listing of the first two alone, and behind it that of what changed, with
-- what is shown of the index beside. Of `state --by-stat` the report is made
-- first, and what changed stands in front of it.
use Rattle.std.specs.Prelude.{◌++◌, false, ◌&&◌, ◌||◌}
use Rattle.command_line.specs.declared.command.FilesAsked.{FilesAsked}
use Rattle.ls_files.specs.declared.options.Listing.{Listing}
use Rattle.tizhagor.specs.declared.reply.Reply.{Reply}
use Rattle.tizhagor.specs.TreeWords.{WorkTreeCommand, listing_of}
use Rattle.tizhagor.specs.StatWords.{StatCommand, changes_of, differences_of, states_of}

-- What a walk finds, alone. With `-i` what the index has stays asked for, since it is then refused as such.
abbrev pub ls_files_options_for_walk_alone : Listing → Listing
ls_files_options_for_walk_alone l = record l { cached = l.cached && l.ignored; stages = false; unmerged = false }

-- the request of the first part: rules stay; what the index shows (`-s`, `-u`, `-c` without `-i`) is left to the second part
abbrev pub ls_files_request_of_walk_alone : FilesAsked → FilesAsked
ls_files_request_of_walk_alone wants = record wants { listing = ls_files_options_for_walk_alone wants.listing }

-- the listing that is made first, by the walk, and asks for no stats
abbrev pub ls_files_command_of_walk_alone : FilesAsked → WorkTreeCommand
ls_files_command_of_walk_alone wants = listing_of (ls_files_request_of_walk_alone wants)

-- the first reply, and the second behind it
abbrev pub join_replies : Reply → Reply → Reply
join_replies first second =
    record { out = first.out ++ second.out; err = first.err ++ second.err; is_no = first.is_no || second.is_no }

-- the first reply, and the second in front of it
abbrev pub second_reply_before_first : Reply → Reply → Reply
second_reply_before_first first second = join_replies second first

-- how the reply of what is told by stats stands beside the first one: behind it, but that of `state` in front of it
abbrev pub reply_join_of_stat_command : StatCommand → Reply → Reply → Reply
reply_join_of_stat_command (differences_of comparing) = join_replies
reply_join_of_stat_command (changes_of wants standings) = join_replies
reply_join_of_stat_command (states_of writing) = second_reply_before_first
