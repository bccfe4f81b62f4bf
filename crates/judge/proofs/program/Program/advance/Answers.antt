use Rattle.std.proofs.Common.{◌≡◌, ℕ, false, Some, None, Option, List, map, get_or, sym, refl, ap, ◌∙◌, subst, arith, take_all}
use Rattle.std.specs.List.{AllByRecursion}
use Rattle.sets.specs.declared.decision.Decision.{Decision}
use Rattle.std.proofs.lemmas.Bool.Decides.{not_from_Decides}
use Rattle.answer_sets.specs.Rules as meant
use Rattle.answer_sets.specs.Rules.{Carried, decision}
use Rattle.rules.specs.Shapes.{way_of, rule_of, head_of, entry_of}
use Rattle.rules.specs.declared.entry.Entry.{Entry}
use Rattle.judge.proofs.Passing.{fails, all_mapped}
use Rattle.judge.proofs.Growing.{given_more, grown_has, grown_none, grown_not, grown_with}
use Rattle.std.proofs.lemmas.List.Elements.{All-more}
use Rattle.judge.proofs.program.Program.advance.Goals as goal

abbrev blank : Entry
blank = record { condition = 0; negated = false }

none : (h : Option Decision) → ((x : Decision) → h ≡ Some x → ⊥) → (d : ℕ) → head_of h ≡ decision d → ⊥
none (Some x) n d e = n x refl
none None n d e = cc

pub rules-preserved-in_default : goal.rules-preserved-in_default
rules-preserved-in_default g c =
    let m = g.B.Bank.meaning c.args.self.now.bank.now in let s = c.args.span in let o = c.rules.out in let w = way_of c.args.self.now.way in
    given_more rule_of c.args.self.now.rules.now c.rules.rule-index c.rule-item.result c.rules-test.true c.rule-item.is
    m w s.lower s.upper o o (λ y. y)
    (grown_none m w s.lower s.upper (rule_of c.rule-item.result) o (λ d e. none c.head.result c.in_default.not-Some d (ap head_of c.head.ensures ∙ e)))
    c.rules.invariant

pub rules-preserved-then-contains : goal.rules-preserved-then-contains
rules-preserved-then-contains g c =
    let m = g.B.Bank.meaning c.args.self.now.bank.now in let s = c.args.span in let o = c.rules.out in let w = way_of c.args.self.now.way in
    given_more rule_of c.args.self.now.rules.now c.rules.rule-index c.rule-item.result c.rules-test.true c.rule-item.is
    m w s.lower s.upper o o (λ y. y)
    (grown_has m w s.lower s.upper (rule_of c.rule-item.result) o c.in-Some.d.place
    (ap head_of (sym c.head.ensures ∙ c.in-Some.is)) (sym c.contains.ensures ∙ c.if-contains.true))
    c.rules.invariant

pub rules-preserved-then-not-carried : goal.rules-preserved-then-not-carried
rules-preserved-then-not-carried g c =
    let m = g.B.Bank.meaning c.args.self.now.bank.now in let s = c.args.span in let o = c.rules.out in let w = way_of c.args.self.now.way in
    let P : meant.Entry → Type 0 = λ e. Carried m w e s.lower s.upper in let b = c.body-body.result.now in
    given_more rule_of c.args.self.now.rules.now c.rules.rule-index c.rule-item.result c.rules-test.true c.rule-item.is
    m w s.lower s.upper o o (λ y. y)
    (grown_not m w s.lower s.upper (rule_of c.rule-item.result) o c.in-Some.d.place
    (ap head_of (sym c.head.ensures ∙ c.in-Some.is))
    (λ a. fails entry_of P b c.loop-e.e-index blank (get_or b c.loop-e.e-index blank) (omega arith) refl (not_from_Decides c.carried.result c.carried.ensures c.if-not-carried.true)
    (subst (λ (xs : List Entry). AllByRecursion P (map entry_of xs)) (sym c.body-body.ensures) a)))
    c.rules.invariant

pub loop-e-preserved : goal.loop-e-preserved
loop-e-preserved g c =
    let s = c.args.span in let b = c.body-body.result.now in
    All-more (λ e. Carried (g.B.Bank.meaning c.args.self.now.bank.now) (way_of c.args.self.now.way) (entry_of e) s.lower s.upper) b c.loop-e.e-index blank (omega arith)
    c.loop-e.invariant (c.carried.ensures.0 c.if-not-carried.false)

pub rules-preserved : goal.rules-preserved
rules-preserved g c =
    let m = g.B.Bank.meaning c.args.self.now.bank.now in let s = c.args.span in let o = c.rules.out in let w = way_of c.args.self.now.way in
    let P : meant.Entry → Type 0 = λ e. Carried m w e s.lower s.upper in let b = c.body-body.result.now in
    given_more rule_of c.args.self.now.rules.now c.rules.rule-index c.rule-item.result c.rules-test.true c.rule-item.is
    m w s.lower s.upper o c.with-out.result (λ y. y)
    (grown_with m w s.lower s.upper (rule_of c.rule-item.result) o c.in-Some.d.place
    (ap head_of (sym c.head.ensures ∙ c.in-Some.is)) c.with-out.result c.with-out.ensures
    (subst (λ (xs : List Entry). AllByRecursion P (map entry_of xs)) c.body-body.ensures (all_mapped entry_of P b (take_all c.loop-e.e-index b (omega arith)) c.loop-e.invariant)))
    c.rules.invariant
