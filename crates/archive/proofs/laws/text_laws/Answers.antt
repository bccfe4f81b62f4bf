use Rattle.archive.proofs.Decoding.{line_by_line}
use Rattle.archive.proofs.OneBook.{one_book}
use Rattle.archive.proofs.Runs.{runs_formed}
use Rattle.archive.proofs.Sampled.{sample_text}
use Rattle.archive.proofs.laws.text_laws.Goals as goal

pub returns : goal.returns
returns c = record { sample = sample_text; formed = runs_formed; one = one_book; lines = line_by_line }
