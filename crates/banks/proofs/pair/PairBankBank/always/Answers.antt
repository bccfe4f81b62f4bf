use Rattle.std.proofs.Common.{arith}
use Rattle.banks.specs.Beside.{beside, beside_lawful}
use Rattle.banks.proofs.PastCount.{past_always}
use Rattle.banks.proofs.pair.PairBankBank.always.Goals as goal

pub returns-in-None : goal.returns-in-None
returns-in-None g c =
    let a = g.A.Bank.meaning c.args.self.now.first in
    let b = g.B.Bank.meaning c.args.self.now.second in
    past_always (beside a b) (beside_lawful a b (g.met.A.Bank.lawful c.args.self.now.first) (g.met.B.Bank.lawful c.args.self.now.second))
    c.args.k c.args.span.lower c.args.span.upper (omega (arith, c.in-None.ensures))
