-- What the calls answer that ask for a step of a submodule. Want of memory is always free.
use Rattle.std.specs.Prelude.{◌≡◌, Result, Ok, Err}
use Rattle.module_plan.specs.declared.step.Why.{Why}
use Rattle.module_plan.specs.declared.wanted.Stop.{Stop}
use Rattle.module_plan.specs.declared.wanted.Stop.TheVariants as stops

-- an answer is the given one; want of memory is free
abbrev pub IsResultUnlessMemory : {T : Type 0} → Result T Stop → Result T Why → Type 0
IsResultUnlessMemory (Ok answer) given = given ≡ Ok answer
IsResultUnlessMemory (Err (stops.LeaveOut why)) given = given ≡ Err why
IsResultUnlessMemory (Err stops.OutOfMemory) given = Unit {0}
