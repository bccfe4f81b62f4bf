use Rattle.std.proofs.Common.{◌≡◌, ℕ, suc, ◌+◌, Bool, cond, ◌&&◌, eqb, get_or, sym, refl, ap, ◌∙◌, subst, ap₂, add-one, arith}
use lib.ListN.{get_or-replicate}
use Rattle.sets.specs.Sets.{has}
use Rattle.answer_sets.specs.Tests.{derives, round}
use Rattle.rules.specs.Shapes.{way_of, rules_of}
use Rattle.judge.specs.Reached.{Stamped}
use Rattle.judge.proofs.Stamping.{stamped_none, stamped_more, stamped_last, filled_stays, pass_is_round}
use Rattle.judge.proofs.program.Program.first_rounds.Goals as goal

pub loop-round-init : goal.loop-round-init
unfolding round
loop-round-init g c =
    let p = c.args.self.now in
    let der : ℕ → ℕ → Bool = derives (g.B.Bank.meaning p.bank.now) (way_of p.way) (rules_of p.rules.now) c.args.set in
    (0, refl, refl, λ d l. subst (λ (v : ℕ). Stamped der 0 d v) (sym (ap (λ bytes. get_or bytes d 0) c.none-ranks.ensures ∙ get_or-replicate 64 d 0 0 l)) (stamped_none der d))

pub returns-then-reached-set : goal.returns-then-reached-set
returns-then-reached-set g c d l =
    let p = c.args.self.now in let m = g.B.Bank.meaning p.bank.now in let w = way_of p.way in let rs = rules_of p.rules.now in let M = c.args.set in
    let h = c.loop-round.invariant in
    stamped_last (derives m w rs M) h.0 d (get_or c.loop-round.ranks.bytes d 0) (omega arith)
    (filled_stays m w rs M c.ranges.set.fits c.requires h.0 (sym h.2 ∙ c.if-reached-set.true)) (h.3 d l)

pub returns-then-next-reached : goal.returns-then-next-reached
returns-then-next-reached g c d l =
    let p = c.args.self.now in let m = g.B.Bank.meaning p.bank.now in let w = way_of p.way in let rs = rules_of p.rules.now in let M = c.args.set in
    let h = c.loop-round.invariant in
    let next : c.advance-next.result ≡ round (derives m w rs M) (suc h.0) =
    pass_is_round m w rs M c.ranges.set.fits c.requires h.0 c.loop-round.reached c.new.result.lower c.new.result.upper c.advance-next.result
    h.2 c.new.ensures.lower c.new.ensures.upper c.advance-next.ensures in
    stamped_last (derives m w rs M) h.0 d (get_or c.loop-round.ranks.bytes d 0) (omega arith) (sym next ∙ c.if-next-reached.true ∙ h.2) (h.3 d l)

pub loop-round-preserved : goal.loop-round-preserved
loop-round-preserved g c =
    let p = c.args.self.now in let m = g.B.Bank.meaning p.bank.now in let w = way_of p.way in let rs = rules_of p.rules.now in let M = c.args.set in
    let h = c.loop-round.invariant in
    let next : c.advance-next.result ≡ round (derives m w rs M) (h.0 + 1) =
    pass_is_round m w rs M c.ranges.set.fits c.requires h.0 c.loop-round.reached c.new.result.lower c.new.result.upper c.advance-next.result
    h.2 c.new.ensures.lower c.new.ensures.upper c.advance-next.ensures ∙ ap (round (derives m w rs M)) (sym (add-one h.0)) in (
      h.0 + 1,
      omega arith,
      next,
      λ d l. stamped_more (derives m w rs M) h.0 d _ _ (h.3 d l)
          (c.stamp.ensures d l ∙ ap₂ (λ (s n : ℕ). cond (eqb (get_or c.loop-round.ranks.bytes d 0) 0 && has s d) n (get_or c.loop-round.ranks.bytes d 0)) next h.1),
    )

pub returns : goal.returns
returns g c d l =
    let p = c.args.self.now in let h = c.loop-round.invariant in let all : h.0 ≡ 64 = omega arith in
    subst (λ (i : ℕ). Stamped (derives (g.B.Bank.meaning p.bank.now) (way_of p.way) (rules_of p.rules.now) c.args.set) i d (get_or c.loop-round.ranks.bytes d 0)) all (h.3 d l)
