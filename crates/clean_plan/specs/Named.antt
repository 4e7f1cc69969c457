-- What a request holds.
use Rattle.clean_plan.specs.declared.words.Request as declared
use Rattle.clean_plan.specs.Words.{Request}
use Rattle.worktree_report.specs.Named.{places_of_borrowed}

-- a request, as contracts see it
abbrev pub request_in_specification : declared.Request → Request
request_in_specification request = record { what = request.what; finding = request.finding; places = places_of_borrowed request.places }
