-- What a command holds.
use Rattle.worktree_report.specs.declared.words.Command as code
use Rattle.worktree_report.specs.declared.words.Command.TheVariants as commands
use Rattle.worktree_report.specs.declared.words.Places as declared
use Rattle.worktree_report.specs.Words.{Command, RootAndSetupPaths, report, generate}

-- ROOT and SETUP, as the bytes that the code's places borrow from the words
abbrev pub places_of_borrowed : declared.Places → RootAndSetupPaths
places_of_borrowed places = record { root = places.root.now; setup = places.setup.now }

-- the command that the code holds, with the borrowed paths as plain bytes
abbrev pub command_of_borrowed : code.Command → Command
command_of_borrowed (commands.Report places) = report (places_of_borrowed places)
command_of_borrowed (commands.Generate count) = generate count
