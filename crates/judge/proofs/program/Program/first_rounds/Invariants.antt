use Rattle.std.proofs.Common.{◌≡◌, ℕ, ◌+◌, ◌<◌, get_or}
use Rattle.answer_sets.specs.Tests.{derives, round}
use Rattle.rules.specs.Shapes.{way_of, rules_of}
use Rattle.judge.specs.Reached.{Stamped}
use Rattle.judge.proofs.program.Program.first_rounds.Given as goal

abbrev pub invariant-loop-round : goal.invariant-loop-round
invariant-loop-round g l =
    (i : ℕ)
    × (l.round ≡ i + 1)
    × (l.reached ≡ round (derives (g.B.Bank.meaning l.self.bank.now) (way_of l.self.way) (rules_of l.self.rules.now) l.set) i)
    × ((d : ℕ) → d < 64 → Stamped (derives (g.B.Bank.meaning l.self.bank.now) (way_of l.self.way) (rules_of l.self.rules.now) l.set) i d (get_or l.ranks.bytes d 0))
