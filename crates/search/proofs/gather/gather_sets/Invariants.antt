use Rattle.std.proofs.Common.{◌≡◌, ◌≤◌, length}
use Rattle.rows.proofs.Listings.{Placing}
use Rattle.rules.specs.Shapes.{way_of, rules_of}
use Rattle.sets.specs.Coming.{to_come}
use Rattle.search.proofs.Gathering.{Small, borne_of}
use Rattle.search.proofs.gather.gather_sets.Given as goal

abbrev pub invariant-sets : goal.invariant-sets
invariant-sets g l =
    (l.list.places.ghost_name ≡ l.initial.list.places.ghost_name)
    × (length (to_come l.ahead) ≤ 65536)
    × Small (to_come l.ahead)
    × Placing (borne_of (g.B.Bank.meaning l.program.bank.now) (way_of l.program.way) (rules_of l.program.rules.now) (to_come l.initial.ahead)) l.initial.list.places.now
    (borne_of (g.B.Bank.meaning l.program.bank.now) (way_of l.program.way) (rules_of l.program.rules.now) (to_come l.ahead)) l.list.places.now l.list.len

abbrev pub decreases-sets : goal.decreases-sets
decreases-sets g l = length (to_come l.ahead)
