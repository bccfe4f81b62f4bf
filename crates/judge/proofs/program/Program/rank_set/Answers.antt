use Rattle.std.proofs.Common.{◌≡◌, ℕ, ◌^◌, ◌<◌, List, IfSome, Some, None, Option, subst, MatchOption}
use Rattle.std.specs.List.{AllByRecursion}
use Rattle.banks.specs.Meaning.{Meaning}
use Rattle.sets.specs.Sets.{◌∈◌, ◌∉◌}
use Rattle.answer_sets.specs.Published.{AnswerSetBy, program}
use Rattle.answer_sets.specs.Rounds.{Rounds}
use Rattle.answer_sets.specs.Rules.{Way, complement, Rule, Keeps, Borne}
use Rattle.answer_sets.proofs.Answer.{borne_is_answer_set}
use Rattle.answer_sets.proofs.Bearing as bearing
use Rattle.rules.specs.Shapes.{way_of, rules_of}
use Rattle.judge.specs.declared.ranks.Ranks.{Ranks}
use Rattle.judge.proofs.program.Program.rank_set.Goals as goal

module _ (m : Meaning) (w : Way) (rules : List Rule) (M : ℕ) (fits : M < 2 ^ 64) where
  published : (o : Option Ranks) → MatchOption o (Borne m w rules M → ⊥) (λ ranks. Rounds m w rules M ranks.bytes)
      → MatchOption o (AnswerSetBy w (program m rules) M → ⊥) (λ _. AnswerSetBy w (program m rules) M)
  published None c = λ a. c ((borne_is_answer_set m w rules M fits).1 a)
  published (Some ranks) c = (borne_is_answer_set m w rules M fits).0 (ranks.bytes, c.bear)

  minimal : (o : Option Ranks) → MatchOption o (Borne m w rules M → ⊥) (λ ranks. Rounds m w rules M ranks.bytes)
      → IfSome o (λ _. w ≡ complement → (n : ℕ) → n < 2 ^ 64 → AllByRecursion (Keeps m n) rules → (n ≡ M → ⊥) → (d : ℕ) × (d ∈ n) × (d ∉ M))
  minimal None c = tt
  minimal (Some ranks) c = λ e n l k ne. bearing.minimal m rules M n fits l (subst (λ (v : Way). Borne m v rules M) e (ranks.bytes, c.bear)) k ne

pub returns : goal.returns
returns g c =
    let m = g.B.Bank.meaning c.args.self.now.bank.now in let w = way_of c.args.self.now.way in let rs = rules_of c.args.self.now.rules.now in let M = c.args.set in
    record {
      rounds = c.find_ranks.ensures;
      published = published m w rs M c.ranges.set.fits c.find_ranks.result c.find_ranks.ensures;
      minimal = minimal m w rs M c.ranges.set.fits c.find_ranks.result c.find_ranks.ensures;
    }
