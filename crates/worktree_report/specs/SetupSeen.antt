-- What the words of a line hold.
use Rattle.worktree_report.specs.declared.setup.field.Field.{Field}
use Rattle.worktree_report.specs.declared.setup.index_line.IndexWords as code
use Rattle.worktree_report.specs.SetupFields.{WordAndRest}
use Rattle.worktree_report.specs.SetupIndex.{IndexWords}

-- the bytes that the code's `Field` borrows from its line
abbrev pub seen : Field → WordAndRest
seen f = record { word = f.word.now; rest = f.rest.now }

-- the five words of an entry, as the bytes that the code borrows from its line
abbrev pub index_words_of_borrowed : code.IndexWords → IndexWords
index_words_of_borrowed w = record { mode = w.mode.now; stage = w.stage.now; flags = w.flags.now; id = w.id.now; path = w.path.now }
