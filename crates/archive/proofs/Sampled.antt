-- The text of the small book.
use Rattle.std.proofs.Common.{refl}
use Rattle.sets.specs.Sets.{has}
use Rattle.sets.specs.Walks.{decisions_below}
use Rattle.hexlines.specs.Hex.{hex, line}
use Rattle.archive.specs.Text.{rule_frame, page_frame, inner, frames_of, text_of}
use Rattle.archive.specs.Sample.{SampleText}

pub sample_text : SampleText
unfolding has decisions_below hex line rule_frame page_frame inner frames_of text_of
sample_text = refl
