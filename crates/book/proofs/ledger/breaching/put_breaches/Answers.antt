use Rattle.std.proofs.Common.{◌+◌, ◌∷◌, drop, refl, sym, ap, ◌∙◌, arith}
use Rattle.std.proofs.lemmas.Bool.Decides.{not_from_Decides}
use Rattle.rows.proofs.Listings.{placing_none, placing_rest, placing_put, placing_short, placing_complete}
use Rattle.book.proofs.Broken.{broken_list, breaches_of, past_kept, past_broken, past_all}
use Rattle.book.specs.declared.breach.Breach.{Breach}
use Rattle.book.proofs.ledger.breaching.put_breaches.Goals as goal

pub loop-i-init : goal.loop-i-init
loop-i-init g c = (refl, placing_none c.requires refl)

pub loop-i-preserved-then-keeps : goal.loop-i-preserved-then-keeps
loop-i-preserved-then-keeps g c =
    let left = past_kept (g.B.Bank.meaning c.args.bank.now) c.args.set c.args.rules.now c.loop-i.i c.index-rules-i.result (omega arith) c.index-rules-i.is
    (c.keeps.ensures.0 c.if-keeps.true) in
    (c.loop-i.invariant.0, placing_rest left c.loop-i.invariant.1)

pub returns-in-Err : goal.returns-in-Err
returns-in-Err g c =
    let m = g.B.Bank.meaning c.args.bank.now in
    let rules = c.args.rules.now in
    let p = c.in-Err.ensures.puts in
    let more = broken_list m c.args.set (c.loop-i.i + 1) (drop (c.loop-i.i + 1) rules) in
    let left = past_broken m c.args.set rules c.loop-i.i c.index-rules-i.result (omega arith) c.index-rules-i.is
    (not_from_Decides c.keeps.result c.keeps.ensures c.if-keeps.false) in
    let told = ap (λ (b : Breach). b ∷ more) (sym c.breach.ensures ∙ sym p.3) in
    record {
      listed = (
        broken_list m c.args.set 0 rules,
        breaches_of m c.args.set 0 rules,
        placing_short p.1 p.2 p.0 (placing_rest (left ∙ told) c.loop-i.invariant.1),
      );
      lender = c.put.ensures.lender ∙ c.loop-i.invariant.0;
    }

pub loop-i-preserved : goal.loop-i-preserved
loop-i-preserved g c =
    let m = g.B.Bank.meaning c.args.bank.now in
    let rules = c.args.rules.now in
    let more = broken_list m c.args.set (c.loop-i.i + 1) (drop (c.loop-i.i + 1) rules) in
    let left = past_broken m c.args.set rules c.loop-i.i c.index-rules-i.result (omega arith) c.index-rules-i.is
    (not_from_Decides c.keeps.result c.keeps.ensures c.if-keeps.false) in
    let told = ap (λ (b : Breach). b ∷ more) (sym c.breach.ensures) in
    (c.put.ensures.lender ∙ c.loop-i.invariant.0, placing_put (placing_rest (left ∙ told) c.loop-i.invariant.1) c.in_default.ensures.puts)

pub returns : goal.returns
returns g c =
    let m = g.B.Bank.meaning c.args.bank.now in
    let left = past_all m c.args.set c.args.rules.now c.loop-i.i (omega arith) in
    record {
      listed = (
        broken_list m c.args.set 0 c.args.rules.now,
        breaches_of m c.args.set 0 c.args.rules.now,
        placing_complete refl refl (placing_rest left c.loop-i.invariant.1),
      );
      lender = c.loop-i.invariant.0;
    }
