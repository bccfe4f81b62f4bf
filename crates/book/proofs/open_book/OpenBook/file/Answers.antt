use Rattle.rules.specs.Shapes.{way_of}
use Rattle.book.specs.View.{view, answer_of}
use Rattle.book.proofs.Published.{file_published}
use Rattle.book.proofs.open_book.OpenBook.file.Goals as goal

pub returns : goal.returns
returns g c =
    let m = g.B.Bank.meaning c.args.self.now.ledger.bank in
    record {
      step = c.file.ensures.step;
      published = file_published m (view c.args.self.now.ledger) (way_of c.args.way) c.args.set c.ranges.set.fits (answer_of c.file.result)
          (view c.file.new.self) c.file.ensures.step;
      same = c.file.ensures.same;
    }
