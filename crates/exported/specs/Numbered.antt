-- What the numbers of a call stand for.
use Rattle.std.specs.Prelude.{ℕ, cond, List, map, take, ◌==◌}
use Rattle.banks.specs.Meaning.{Meaning}
use Rattle.listed.specs.Tables.{listed}
use Rattle.listed.specs.declared.condition.ListedCondition.{ListedCondition}
use Rattle.answer_sets.specs.Rules.{Way, reduct, complement, Rule}
use Rattle.answer_sets.specs.Naming.{rule_named}
use Rattle.exported.specs.declared.numbers.ConditionNumbers.{ConditionNumbers}
use Rattle.exported.specs.declared.numbers.RuleNumbers.{RuleNumbers}

-- a line of the table of conditions
abbrev pub line : ConditionNumbers → ListedCondition
line c = record { domain = c.domain; first = c.first; len = c.len }

abbrev pub table : List ConditionNumbers → List ListedCondition
table cs = map line cs

-- the bank over the tables
abbrev pub bank : List ConditionNumbers → List ℕ → Meaning
bank cs sets = listed (table cs) sets

-- 0 is by reduct, and 1 by complement
abbrev pub way_numbered : ℕ → Way
way_numbered n = cond (n == 0) reduct complement

-- the rule of a head's number and the numbers of a body
abbrev pub rule_numbered : RuleNumbers → Rule
rule_numbered n = rule_named n.head (take n.len n.body)

abbrev pub rules_numbered : List RuleNumbers → List Rule
rules_numbered ns = map rule_numbered ns
