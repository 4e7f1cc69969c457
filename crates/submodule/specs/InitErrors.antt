-- How a configuration that is refused is a `.gitmodules` that is.
use Rattle.git_config_lite.specs.declared.error.ParseError.{ParseError}
use Rattle.git_config_lite.specs.declared.error.ParseError.TheVariants as parse_errors
use Rattle.submodule.specs.declared.init.Error.{Error}
use Rattle.submodule.specs.declared.init.Error.TheVariants as init_errors

-- a line outside the grammar keeps its number, and want of memory stays what it is
abbrev pub init_error_of_parse_error : ParseError → Error
init_error_of_parse_error (parse_errors.Syntax line) = init_errors.Parse line
init_error_of_parse_error parse_errors.OutOfMemory = init_errors.OutOfMemory
