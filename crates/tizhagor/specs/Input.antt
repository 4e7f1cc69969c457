-- Whether the words ask for what the standard input holds.
use Rattle.std.specs.Prelude.{Bool, false, ◌&&◌, length, is_none}
use Rattle.check_ignore.specs.Wrong.{first_option_error}
use Rattle.command_line.specs.declared.check_options.CheckAsked.{CheckAsked}
use Rattle.command_line.specs.declared.command.Command.{Command}
use Rattle.command_line.specs.declared.command.Command.TheVariants as commands
use Rattle.git_setup.specs.declared.asked.Asked.{Asked}

-- `check-ignore` with `--stdin`, unless its words are refused
abbrev pub check_ignore_reads_input : Asked → CheckAsked → Bool
check_ignore_reads_input asked wants = wants.checking.stdin && is_none (first_option_error wants.checking (length asked.paths.items))

-- of all commands `check-ignore` alone asks for the standard input, with `--stdin` and no wrong option
abbrev pub reads : Command → Bool
reads (commands.Report asked form) = false
reads (commands.Plan asked what finding form) = false
reads (commands.Modules asked) = false
reads (commands.State asked form by_stat) = false
reads (commands.Files asked wants) = false
reads (commands.Changed asked wants standings) = false
reads (commands.Clean asked wants) = false
reads (commands.Compare asked comparing) = false
reads (commands.Check asked wants) = check_ignore_reads_input asked wants
reads (commands.Help topic) = false
reads commands.Version = false
