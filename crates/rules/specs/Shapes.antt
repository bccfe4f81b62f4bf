-- What the program's rules stand for.
use Rattle.std.specs.Prelude.{List, map, Some, None, Option}
use Rattle.answer_sets.specs.Rules as meant
use Rattle.answer_sets.specs.Rules.{reduct, complement, decision, no_head}
use Rattle.rows.specs.Rows.{held}
use Rattle.sets.specs.declared.decision.Decision.{Decision}
use Rattle.rules.specs.declared.entry.Entry.{Entry}
use Rattle.rules.specs.declared.rule.Rule.{Rule}
use Rattle.rules.specs.declared.way.Way.{Way}
use Rattle.rules.specs.declared.way.Way.TheVariants.{Reduct, Complement}

abbrev pub way_of : Way → meant.Way
way_of Reduct = reduct
way_of Complement = complement

abbrev pub entry_of : Entry → meant.Entry
entry_of e = record { condition = e.condition; negated = e.negated }

abbrev pub head_of : Option Decision → meant.Head
head_of (Some d) = decision d.place
head_of None = no_head

abbrev pub rule_of : Rule → meant.Rule
rule_of r = record { head = head_of r.head; body = map entry_of (held r.body) }

abbrev pub rules_of : List Rule → List meant.Rule
rules_of rules = map rule_of rules
