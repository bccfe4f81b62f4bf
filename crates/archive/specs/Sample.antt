-- A small book and its text.
use Rattle.std.specs.Prelude.{◌≡◌, false, List, [], ◌∷◌, replicate, codes}
use Rattle.answer_sets.specs.Rules.{complement, decision, Rule}
use Rattle.account.specs.Account.{Account}
use Rattle.archive.specs.Text.{text_of}

-- decision 0 always, 1 if condition 3
abbrev pub two_rules : List Rule
two_rules = record { head = decision 0; body = [] } ∷ record { head = decision 1; body = record { condition = 3; negated = false } ∷ [] } ∷ []

-- with a page of both decisions, by the complement, with ranks 1 and 2
abbrev pub sample : Account
sample = record {
  rules = two_rules;
  pages = record { way = complement; «set» = 3; ranks = 1 ∷ 2 ∷ replicate 62 0; rules = two_rules } ∷ [];
}

-- over a bank of five conditions
abbrev pub SampleText : Type 0
SampleText = text_of 5 sample ≡ codes "010005\n020000\n0201010003\n030200000000000000030102\n040201\n"
