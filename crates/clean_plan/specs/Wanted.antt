-- Which paths may go, whether pipes, sockets and devices may go too, and what lies in directories that path specs take out.
use Rattle.clean_plan.specs.declared.what.OtherNodes.TheVariants.{Go, Stay}
use Rattle.clean_plan.specs.declared.what.TakenOut.TheVariants.{Open, Closed}
use Rattle.clean_plan.specs.declared.what.Wanted.{Wanted}
use Rattle.clean_plan.specs.declared.what.What.{What}

-- each entry of the report may, for what is said of it
abbrev pub allowing_special_and_spec_excluded : What → Wanted
allowing_special_and_spec_excluded what = record { what = what; others = Go; taken_out = Open }

-- What git does not look at stays too: such nodes, unless a directory above them goes as a whole, and what lies in such directories.
abbrev pub keeping_special_and_spec_excluded : What → Wanted
keeping_special_and_spec_excluded what = record { what = what; others = Stay; taken_out = Closed }
