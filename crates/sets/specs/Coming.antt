-- What a walk through the sets of a span has ahead of it.
use Rattle.std.specs.Prelude.{ℕ, List, [], Some, None, Option}
use Rattle.sets.specs.Walks.{sets_from}
use Rattle.sets.specs.declared.walk.Walk.{Walk}

-- the sets to come, from the one at which the walk stands; none where it has ended
abbrev pub to_come : Option Walk → List ℕ
to_come None = []
to_come (Some w) = sets_from w.at w.span.lower w.span.upper
