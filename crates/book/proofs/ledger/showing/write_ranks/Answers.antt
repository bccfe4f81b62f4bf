use Rattle.std.proofs.Common.{length, sym, ap, ◌∙◌}
use Rattle.std.proofs.lemmas.List.{length-take-le}
use Rattle.book.proofs.ledger.showing.write_ranks.Goals as goal

pub copy_from_slice-requires : goal.copy_from_slice-requires
copy_from_slice-requires c = length-take-le 64 c.args.memory.now c.requires ∙ sym (ap length c.as_slice.ensures ∙ c.args.ranks.now.all)
