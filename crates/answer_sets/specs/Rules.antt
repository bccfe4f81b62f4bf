-- Rules over the conditions of a bank, and when ranks bear a set.
use Rattle.std.specs.Prelude.{◌≡◌, ℕ, ◌<◌, ◌≤◌, Bool, true, false, cond, not, ◌&&◌, ◌⊎◌, List, [], ◌∷◌, length, nat_lt, slice_index}
use Rattle.std.specs.List.{HoldsAt, AllByRecursion}
use Rattle.banks.specs.Meaning.{Meaning, Always, Never}
use Rattle.sets.specs.Sets.{has, ◌∈◌, ◌∉◌, ◌⊆◌, ◌∩◌, collect}

-- some element of the list is so
abbrev pub Any : {X : Type 0} → (X → Type 0) → List X → Type 0
Any P [] = ⊥
Any P (x ∷ xs) = P x ⊎ Any P xs

-- how "not" is read: by the reduct, or by the complement of the condition
pub data Way : Type 0 where
  reduct complement : Way

-- a rule's head: a decision, or none
pub data Head : Type 0 where
  decision : ℕ → Head
  no_head : Head

-- an entry of a body: a condition, with or without "not" before it
pub record Entry : Type 0 where
  pub condition : ℕ
  pub negated : Bool

pub record Rule : Type 0 where
  pub head : Head
  pub body : List Entry

-- whether condition k holds at M
abbrev pub meets : Meaning → ℕ → ℕ → Bool
meets m k M = m.family k (M ∩ m.domain k)

-- whether an entry holds at M
abbrev pub holds : Meaning → Entry → ℕ → Bool
holds m e M = cond e.negated (not (meets m e.condition M)) (meets m e.condition M)

-- the head is in M; no head is in no set
abbrev pub HeadIn : Head → ℕ → Type 0
HeadIn (decision d) M = d ∈ M
HeadIn no_head M = ⊥

-- M keeps a rule: it has the head, or an entry of the body fails at it
abbrev pub Keeps : Meaning → ℕ → Rule → Type 0
Keeps m M r = HeadIn r.head M ⊎ Any (λ e. holds m e M ≡ false) r.body

-- i is the lowest rule that M breaks
abbrev pub LowestBroken : Meaning → List Rule → ℕ → ℕ → Type 0
LowestBroken m rules M i =
    (i < length rules) × HoldsAt (λ r. Keeps m M r → ⊥) rules i × ((j : ℕ) → j < i → HoldsAt (Keeps m M) rules j)

-- what carries an entry of condition k over the span from L to M
abbrev pub CarriedBy : Meaning → Way → ℕ → Bool → ℕ → ℕ → Type 0
CarriedBy m w k false L M = Always m k L M
CarriedBy m complement k true L M = Never m k L M
CarriedBy m reduct k true L M = meets m k M ≡ false

abbrev pub Carried : Meaning → Way → Entry → ℕ → ℕ → Type 0
Carried m w e L M = CarriedBy m w e.condition e.negated L M

-- a rule with this head can give decision b at M: b is the head
abbrev pub CanGive : ℕ → ℕ → Head → Type 0
CanGive b M h = h ≡ decision b

-- the rule gives b over the span from L to M: it can, and each entry of its body is carried
abbrev pub Gives : Meaning → Way → ℕ → ℕ → ℕ → Rule → Type 0
Gives m w L M b r = CanGive b M r.head × AllByRecursion (λ e. Carried m w e L M) r.body

-- the rank of decision d
abbrev pub rank : List ℕ → ℕ → ℕ
rank ranks d = slice_index ranks d

-- what M has at ranks under that of b
abbrev pub below : ℕ → List ℕ → ℕ → ℕ
below M ranks b = collect 64 (λ d. has M d && nat_lt (rank ranks d) (rank ranks b))

-- 64 ranks: 0 outside M, 1 to 255 inside
pub record Ranked (M : ℕ) (ranks : List ℕ) : Type 0 where
  pub places : length ranks ≡ 64
  pub outside : (d : ℕ) → d < 64 → d ∉ M → rank ranks d ≡ 0
  pub inside : (d : ℕ) → d ∈ M → (1 ≤ rank ranks d) × (rank ranks d ≤ 255)

-- the ranks bear M: M keeps every rule, and some rule gives each of its decisions over the span from the lower-ranked ones to M
pub record Bears (m : Meaning) (w : Way) (rules : List Rule) (M : ℕ) (ranks : List ℕ) : Type 0 where
  pub ranked : Ranked M ranks
  pub kept : AllByRecursion (Keeps m M) rules
  pub borne : (b : ℕ) → b ∈ M → Any (Gives m w (below M ranks b) M b) rules

-- some ranks bear M
abbrev pub Borne : Meaning → Way → List Rule → ℕ → Type 0
Borne m w rules M = (ranks : List ℕ) × Bears m w rules M ranks

-- a set in the family stays in it when decisions of the domain are added
abbrev pub Monotone : Meaning → ℕ → Type 0
Monotone m k = (X Y : ℕ) → X ⊆ Y → Y ⊆ m.domain k → m.family k X ≡ true → m.family k Y ≡ true
