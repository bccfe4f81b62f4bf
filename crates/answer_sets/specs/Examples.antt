-- Worked examples of the theory: programs over small tables of conditions, with sets that are answer sets and sets that are not.
use Rattle.std.specs.Prelude.{ℕ, Bool, true, false, List, [], ◌∷◌, length, slice_index, slice_index_or}
use Rattle.banks.specs.Meaning.{Meaning}
use Rattle.sets.specs.Lists.{member}
use Rattle.answer_sets.specs.Rules.{Way, reduct, complement, decision, Entry, Rule}
use Rattle.answer_sets.specs.Published.{AnswerSetBy, program}

-- the conditions of an example: their domains, and the sets of their families
abbrev pub table : List ℕ → List (List ℕ) → Meaning
table domains families = record { count = length domains; domain = λ k. slice_index domains k; family = λ k f. member f (slice_index_or families k []) }

-- entries and rules, for short
abbrev pub is : ℕ → Entry
is k = record { condition = k; negated = false }

abbrev pub is_not : ℕ → Entry
is_not k = record { condition = k; negated = true }

abbrev pub gives : ℕ → List Entry → Rule
gives d body = record { head = decision d; body = body }

-- a program by its conditions and rules, a way, a set, and whether it is an answer set
pub record Row : Type 0 where
  pub conditions : Meaning
  pub rules : List Rule
  pub way : Way
  pub set : ℕ
  pub answer : Bool

abbrev pub VerdictAt : Bool → Row → Type 0
VerdictAt true row = AnswerSetBy row.way (program row.conditions row.rules) row.set
VerdictAt false row = AnswerSetBy row.way (program row.conditions row.rules) row.set → ⊥

abbrev pub Verdict : Row → Type 0
Verdict row = VerdictAt row.answer row

abbrev pub row : Meaning → List Rule → Way → ℕ → Bool → Row
row m rules w s b = record { conditions = m; rules = rules; way = w; set = s; answer = b }

-- a count: 0 and 1 always, 2 if 3, and 3 if more than two of 0, 1 and 2
abbrev counted : Meaning
counted = table (0b1000 ∷ 0b0111 ∷ []) ((0b1000 ∷ []) ∷ (0b0111 ∷ []) ∷ [])

abbrev count_rules : List Rule
count_rules = gives 0 [] ∷ gives 1 [] ∷ gives 2 (is 0 ∷ []) ∷ gives 3 (is 1 ∷ []) ∷ []

-- the same count said with a "not": 3 if not at most two of them
abbrev uncounted : Meaning
uncounted = table (0b1000 ∷ 0b0111 ∷ []) ((0b1000 ∷ []) ∷ (0b000 ∷ 0b001 ∷ 0b010 ∷ 0b011 ∷ 0b100 ∷ 0b101 ∷ 0b110 ∷ []) ∷ [])

abbrev uncount_rules : List Rule
uncount_rules = gives 0 [] ∷ gives 1 [] ∷ gives 2 (is 0 ∷ []) ∷ gives 3 (is_not 1 ∷ []) ∷ []

-- a sum, with the weights 1, -1 and 2 for 0, 1 and 2: 0 always, 1 if 2, and 2 if the sum is at least 1
abbrev summed : Meaning
summed = table (0b100 ∷ 0b111 ∷ []) ((0b100 ∷ []) ∷ (0b001 ∷ 0b100 ∷ 0b101 ∷ 0b110 ∷ 0b111 ∷ []) ∷ [])

abbrev sum_rules : List Rule
sum_rules = gives 0 [] ∷ gives 1 (is 0 ∷ []) ∷ gives 2 (is 1 ∷ []) ∷ []

-- conditions true at the empty set only: 0 if 1 is out, 1 if 0 is out
abbrev absent : Meaning
absent = table (0b10 ∷ 0b01 ∷ []) ((0b00 ∷ []) ∷ (0b00 ∷ []) ∷ [])

abbrev absent_rules : List Rule
absent_rules = gives 0 (is 0 ∷ []) ∷ gives 1 (is 1 ∷ []) ∷ []

-- a "not" on a condition that holds at one set only: 0 always, 2 if not both of 0 and 1
abbrev both : Meaning
both = table (0b11 ∷ []) ((0b11 ∷ []) ∷ [])

abbrev both_rules : List Rule
both_rules = gives 0 [] ∷ gives 2 (is_not 0 ∷ []) ∷ []

-- a "not" on a condition that is not monotone: 2 if not just one of 0 and 1, 0 if 2, 1 if 0
abbrev just_one : Meaning
just_one = table (0b011 ∷ 0b100 ∷ 0b001 ∷ []) ((0b001 ∷ 0b010 ∷ []) ∷ (0b100 ∷ []) ∷ (0b001 ∷ []) ∷ [])

abbrev just_one_rules : List Rule
just_one_rules = gives 2 (is_not 0 ∷ []) ∷ gives 0 (is 1 ∷ []) ∷ gives 1 (is 2 ∷ []) ∷ []

-- a condition true at the empty set and at the full set only: 0 if both of 0 and 1 or neither
abbrev all_or_none : Meaning
all_or_none = table (0b11 ∷ []) ((0b00 ∷ 0b11 ∷ []) ∷ [])

abbrev all_or_none_rules : List Rule
all_or_none_rules = gives 0 (is 0 ∷ []) ∷ []

-- a decision that rests on itself: 0 if 0
abbrev itself : Meaning
itself = table (0b1 ∷ []) ((0b1 ∷ []) ∷ [])

abbrev itself_rules : List Rule
itself_rules = gives 0 (is 0 ∷ []) ∷ []

abbrev pub examples : List Row
examples =
    row counted count_rules complement 0b0011 true
    ∷ row counted count_rules complement 0b1111 false
    ∷ row uncounted uncount_rules reduct 0b0011 true
    ∷ row uncounted uncount_rules reduct 0b1111 true
    ∷ row uncounted uncount_rules complement 0b0011 true
    ∷ row uncounted uncount_rules complement 0b1111 false
    ∷ row summed sum_rules complement 0b011 false
    ∷ row summed sum_rules complement 0b111 false
    ∷ row absent absent_rules complement 0b01 true
    ∷ row absent absent_rules complement 0b10 true
    ∷ row absent absent_rules complement 0b11 false
    ∷ row both both_rules complement 0b101 true
    ∷ row both both_rules reduct 0b101 true
    ∷ row just_one just_one_rules complement 0b111 false
    ∷ row just_one just_one_rules reduct 0b111 true
    ∷ row all_or_none all_or_none_rules complement 0b00 false
    ∷ row all_or_none all_or_none_rules complement 0b01 false
    ∷ row itself itself_rules complement 0b0 true
    ∷ row itself itself_rules complement 0b1 false
    ∷ []
