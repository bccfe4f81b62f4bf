-- What the program's frames stand for.
use Rattle.rules.specs.Shapes.{way_of}
use Rattle.frames.specs.Frames as meant
use Rattle.frames.specs.Frames.{a_header, a_rule, a_page, a_trailer}
use Rattle.frames.specs.declared.frame.Frame.{Frame}
use Rattle.frames.specs.declared.frame.Frame.TheVariants.{Header, Rule, Page, Trailer}

abbrev pub frame_of : Frame → meant.Frame
frame_of (Header count) = a_header count
frame_of (Rule head entries) = a_rule head entries.now
frame_of (Page way s ranks) = a_page (way_of way) s ranks.now
frame_of (Trailer rules pages) = a_trailer rules pages
