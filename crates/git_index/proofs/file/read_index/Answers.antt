use Rattle.std.proofs.Common.{◌∙◌, ap, sym, Ok}
use Rattle.std.proofs.Math.Facts.{Fits-lt-pow}
use Rattle.git_index.specs.IndexFile.{IndexFileContents}
use Rattle.git_index.proofs.Fault.{fault_is_first}
use Rattle.git_index.proofs.ReadFile.{answers_written, beside, read_is_written}
use Rattle.git_index.proofs.WrittenFile.{answers, reads_written}
use Rattle.git_index.proofs.file.read_index.Goals as goal

pub returns-clause-sound : goal.returns-clause-sound
returns-clause-sound c = answers_written _ _ (record { at = λ i. Fits-lt-pow (c.type_inv.bytes i) }) c.parse_index_file_bytes.ensures

pub returns-clause-written : goal.returns-clause-written
returns-clause-written c version ws es text = answers _ _ _ c.parse_index_file_bytes.ensures (reads_written c.args.bytes.now version ws es text)

pub returns-clause-unique : goal.returns-clause-unique
returns-clause-unique c index file = reads_written _ file.version file.ws file.es file.text ∙ ap (λ (i : IndexFileContents). Ok i) (sym file.says)

pub returns-clause-told : goal.returns-clause-told
returns-clause-told c index h = read_is_written _ index (record { at = λ i. Fits-lt-pow (c.type_inv.bytes i) }) h

pub returns-clause-fault : goal.returns-clause-fault
returns-clause-fault c at h = fault_is_first _ at (record { at = λ i. Fits-lt-pow (c.type_inv.bytes i) }) h

pub returns-clause-beside : goal.returns-clause-beside
returns-clause-beside c = beside _ _ (record { at = λ i. Fits-lt-pow (c.type_inv.bytes i) }) c.parse_index_file_bytes.ensures
