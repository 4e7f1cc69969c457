-- The configurations that a setup names.
use Rattle.std.specs.Prelude.{ℕ, List}
use Rattle.git_config_lite.specs.declared.metadata.Source.{Source}

-- what a configuration belongs to, and the path of its file
abbrev pub ConfigFile : Type 0
ConfigFile = Source × List ℕ
