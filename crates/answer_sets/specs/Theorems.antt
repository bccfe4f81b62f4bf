-- What ties bearing to the published definition, over every bank.
use Rattle.std.specs.Prelude.{◌≡◌, ℕ, ◌^◌, ◌<◌, true, ◌↔◌, List, ◌≢◌}
use Rattle.std.specs.List.{AllByRecursion}
use Rattle.banks.specs.Meaning.{Meaning}
use Rattle.sets.specs.Sets.{◌∈◌, ◌∉◌, ◌⊆◌}
use Rattle.answer_sets.specs.Rules.{Any, Way, reduct, complement, Rule, CanGive, Keeps, Bears, Borne, Monotone}
use Rattle.answer_sets.specs.Published.{Stage, AnswerSetBy, positive, program}
use Rattle.answer_sets.specs.Rounds.{Rounds}

-- some ranks bear M exactly when M is an answer set, by either way
abbrev pub BorneIsAnswerSet : Type 0
BorneIsAnswerSet =
    (m : Meaning) (w : Way) (rules : List Rule) (M : ℕ) → M < 2 ^ 64 → Borne m w rules M ↔ AnswerSetBy w (program m rules) M

-- where some ranks bear M, the rounds are there, and they do
abbrev pub RoundsBear : Type 0
RoundsBear = (m : Meaning) (w : Way) (rules : List Rule) (M : ℕ) → M < 2 ^ 64 → Borne m w rules M → (ranks : List ℕ) × Rounds m w rules M ranks

-- where ranks bear M by complement, every other set that keeps the rules has a decision that M lacks
abbrev pub Minimal : Type 0
Minimal =
    (m : Meaning) (rules : List Rule) (M N : ℕ) → M < 2 ^ 64 → N < 2 ^ 64 → Borne m complement rules M
    → AllByRecursion (Keeps m N) rules → (N ≢ M) → (d : ℕ) × (d ∈ N) × (d ∉ M)

-- some rule can give each decision of a borne set
abbrev pub Given : Type 0
Given = (m : Meaning) (w : Way) (rules : List Rule) (M : ℕ) → Borne m w rules M → (d : ℕ) → d ∈ M → Any (λ r. CanGive d M r.head) rules

-- ranks that bear a set by complement bear it by reduct
abbrev pub ComplementReduct : Type 0
ComplementReduct = (m : Meaning) (rules : List Rule) (M : ℕ) (ranks : List ℕ) → Bears m complement rules M ranks → Bears m reduct rules M ranks

-- the two ways bear alike where every condition under a "not" is monotone
abbrev pub WaysAgree : Type 0
WaysAgree =
    (m : Meaning) (rules : List Rule) (M : ℕ) (ranks : List ℕ) → AllByRecursion (λ r. AllByRecursion (λ e. e.negated ≡ true → Monotone m e.condition) r.body) rules
    → Bears m complement rules M ranks ↔ Bears m reduct rules M ranks

-- where M keeps the rules, each set of the operator exists, lies inside M, and there is just one
abbrev pub StagesExist : Type 0
StagesExist =
    (m : Meaning) (w : Way) (rules : List Rule) (M : ℕ) → M < 2 ^ 64 → AllByRecursion (Keeps m M) rules → (i : ℕ)
    → (R : ℕ) × Stage (positive w (program m rules) M) M i R × (R ⊆ M) × ((Q : ℕ) → Stage (positive w (program m rules) M) M i Q → Q ≡ R)
