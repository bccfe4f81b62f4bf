-- Ways as they are printed.
use Rattle.std.specs.Prelude.{ℕ, List, ◌++◌, codes, decimal}
use Rattle.rules.specs.declared.way.UnknownWay.{UnknownWay}
use Rattle.rules.specs.declared.way.Way.{Way}
use Rattle.rules.specs.declared.way.Way.TheVariants.{Reduct, Complement}

abbrev pub way_text : Way → List ℕ
way_text Reduct = codes "reduct"
way_text Complement = codes "complement"

abbrev pub unknown_way_text : UnknownWay → List ℕ
unknown_way_text unknown = codes "no way has the byte " ++ decimal unknown.0
