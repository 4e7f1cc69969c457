-- One step after another, of which each may refuse.
use Rattle.std.specs.Prelude.{Result}
use Rattle.gitbase_core.specs.Steps.{and_then}
use Rattle.git_setup.specs.declared.error.GitRefusal.{GitRefusal}

infixl 10 ◌>>=◌
-- a step, and the next where it gives something
abbrev pub ◌>>=◌ : {A B : Type 0} → Result A GitRefusal → (A → Result B GitRefusal) → Result B GitRefusal
first >>= next = and_then next first
