-- Answer sets of logic programs with abstract constraint atoms, as the theory defines them.
use Rattle.std.specs.Prelude.{◌≡◌, ℕ, zero, suc, ◌≤◌, Bool, true, false, not, ◌&&◌, ◌⊎◌, ◌↔◌, List, [], ◌∷◌, ◌++◌, map, filter}
use Rattle.std.specs.List.{AllByRecursion}
use Rattle.banks.specs.Meaning.{Meaning}
use Rattle.sets.specs.Sets.{◌∈◌, ◌⊆◌, ◌∩◌, inside}
use Rattle.answer_sets.specs.Rules.{Any, Head, HeadIn, CanGive, Entry, Rule, Way, reduct, complement}

infix 40 ◌⊨◌
-- an abstract constraint atom: a domain, and which of its subsets are admissible
pub record Atom : Type 0 where
  pub dom : ℕ
  pub sol : ℕ → Bool

-- a rule: its head is an elementary atom or none, its body has atoms and negated atoms
pub record Clause : Type 0 where
  pub head : Head
  pub pos : List Atom
  pub neg : List Atom

abbrev pub Program : Type 0
Program = List Clause

-- S satisfies an atom; it does not
abbrev pub ◌⊨◌ : ℕ → Atom → Type 0
S ⊨ A = A.sol (S ∩ A.dom) ≡ true

abbrev pub Fails : ℕ → Atom → Type 0
Fails S A = A.sol (S ∩ A.dom) ≡ false

-- S satisfies a rule: it satisfies the head, or does not satisfy the body
abbrev pub Satisfies : ℕ → Clause → Type 0
Satisfies S r = HeadIn r.head S ⊎ (Any (Fails S) r.pos ⊎ Any (λ A. S ⊨ A) r.neg)

abbrev pub Model : Program → ℕ → Type 0
Model P S = AllByRecursion (Satisfies S) P

-- S conditionally satisfies A with respect to M
abbrev pub Conditionally : ℕ → ℕ → Atom → Type 0
Conditionally S M A = (S ⊨ A) × ((I : ℕ) → S ∩ A.dom ⊆ I → I ⊆ M ∩ A.dom → A.sol I ≡ true)

-- the operator of a positive program: a follows from S with respect to M
abbrev pub Follows : Program → ℕ → ℕ → ℕ → Type 0
Follows P S M a = Any (λ r. CanGive a M r.head × AllByRecursion (Conditionally S M) r.pos) P

-- R is the set of what follows from S
abbrev pub Step : Program → ℕ → ℕ → ℕ → Type 0
Step P M S R = (a : ℕ) → (a ∈ R) ↔ Follows P S M a

-- R is what i steps of the operator make of the empty set
abbrev pub Stage : Program → ℕ → ℕ → ℕ → Type 0
Stage P M zero R = R ≡ 0
Stage P M (suc i) R = (Q : ℕ) × Stage P M i Q × Step P M Q R

-- R is the limit: the sets of the operator come to R and stay there
abbrev pub Limit : Program → ℕ → ℕ → Type 0
Limit P M R = (i : ℕ) × ((j : ℕ) → i ≤ j → Stage P M j R)

-- M is an answer set of a positive program: a model that equals the limit
abbrev pub AnswerSet : Program → ℕ → Type 0
AnswerSet P M = Model P M × Limit P M M

-- the complement of an atom: the subsets of the domain that the atom does not admit
abbrev pub co : Atom → Atom
co A = record { dom = A.dom; sol = λ I. inside I A.dom && not (A.sol I) }

-- the complement of a program: each negated atom is replaced by its complement
abbrev pub co_clause : Clause → Clause
co_clause r = record { head = r.head; pos = r.pos ++ map co r.neg; neg = [] }

abbrev pub complement_of : Program → Program
complement_of P = map co_clause P

-- the reduct of a program with respect to M: rules with a negated atom that M satisfies go, and from the others the negated atoms
abbrev pub none_met : ℕ → List Atom → Bool
none_met M [] = true
none_met M (A ∷ As) = not (A.sol (M ∩ A.dom)) && none_met M As

abbrev pub bare : Clause → Clause
bare r = record { head = r.head; pos = r.pos; neg = [] }

abbrev pub reduct_of : Program → ℕ → Program
reduct_of P M = map bare (filter (λ r. none_met M r.neg) P)

-- the positive program whose operator a way uses
abbrev pub positive : Way → Program → ℕ → Program
positive complement P M = complement_of P
positive reduct P M = reduct_of P M

-- answer sets of any program, for either way to read "not"
abbrev pub AnswerSetBy : Way → Program → ℕ → Type 0
AnswerSetBy w P M = AnswerSet (positive w P M) M

-- ---- the program that a list of rules over a bank stands for

abbrev pub atom : Meaning → Entry → Atom
atom m e = record { dom = m.domain e.condition; sol = m.family e.condition }

abbrev pub clause : Meaning → Rule → Clause
clause m r = record {
  head = r.head;
  pos = map (atom m) (filter (λ e. not e.negated) r.body);
  neg = map (atom m) (filter (λ e. e.negated) r.body);
}

abbrev pub program : Meaning → List Rule → Program
program m rules = map (clause m) rules
