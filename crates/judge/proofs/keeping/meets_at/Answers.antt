use Rattle.judge.proofs.AtOneSet.{always_at}
use Rattle.judge.proofs.keeping.meets_at.Goals as goal

pub returns : goal.returns
returns g c =
    always_at (g.B.Bank.meaning c.args.bank.now) c.args.k c.args.set c.new.result.lower c.new.result.upper c.new.ensures.lower c.new.ensures.upper
    c.always.result c.always.ensures
