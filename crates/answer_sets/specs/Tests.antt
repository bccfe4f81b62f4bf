-- Computable tests: for what carries an entry, for what follows from a set, and the rounds of such a test.
use Rattle.std.specs.Prelude.{ℕ, zero, suc, ◌+◌, ◌*◌, ◌/◌, ◌%◌, Bool, true, false, not, ◌&&◌, ◌||◌, List, [], ◌∷◌, ◌==◌}
use Rattle.banks.specs.Meaning.{Meaning}
use Rattle.sets.specs.Sets.{has, ◌∩◌, collect}
use Rattle.answer_sets.specs.Rules.{Way, reduct, complement, Head, decision, no_head, Entry, Rule, meets, holds}

abbrev pub allb : {X : Type 0} → (X → Bool) → List X → Bool
allb p [] = true
allb p (x ∷ xs) = p x && allb p xs

abbrev pub anyb : {X : Type 0} → (X → Bool) → List X → Bool
anyb p [] = false
anyb p (x ∷ xs) = p x || anyb p xs

abbrev pub odd : ℕ → Bool
odd s = s % 2 == 1

-- with h and l, the digits of the upper and the lower set: what to ask of the sets with and without the decision
abbrev pub pick : Bool → Bool → Bool → Bool → Bool
pick false l w wo = wo
pick true true w wo = w
pick true false w wo = w && wo

-- whether each set between lo and hi, below 2 ^ n, passes
unfoldable pub all_between : ℕ → ℕ → ℕ → (ℕ → Bool) → Bool
all_between zero lo hi p = p 0
all_between (suc n) lo hi p =
    let w : Bool = all_between n (lo / 2) (hi / 2) (λ x. p (x * 2 + 1)) in
    let wo : Bool = all_between n (lo / 2) (hi / 2) (λ x. p (x * 2 + 0)) in
    pick (odd hi) (odd lo) w wo

abbrev pub carriedb_by : Meaning → Way → ℕ → Bool → ℕ → ℕ → Bool
carriedb_by m w k false L M = all_between 64 (L ∩ m.domain k) (M ∩ m.domain k) (m.family k)
carriedb_by m complement k true L M = all_between 64 (L ∩ m.domain k) (M ∩ m.domain k) (λ F. not (m.family k F))
carriedb_by m reduct k true L M = not (meets m k M)

abbrev pub carriedb : Meaning → Way → ℕ → ℕ → Entry → Bool
carriedb m w L M e = carriedb_by m w e.condition e.negated L M

abbrev pub heads : ℕ → Head → Bool
heads b (decision d) = d == b
heads b no_head = false

abbrev pub givesb : Meaning → Way → ℕ → ℕ → ℕ → Rule → Bool
givesb m w L M b r = heads b r.head && allb (carriedb m w L M) r.body

-- whether some rule gives b over the span from L to M
unfoldable pub derives : Meaning → Way → List Rule → ℕ → ℕ → ℕ → Bool
derives m w rules M L b = anyb (givesb m w L M b) rules

-- the i-th set from the empty set on, where a test says whether a decision follows from a set
unfoldable pub round : (ℕ → ℕ → Bool) → ℕ → ℕ
round der zero = 0
round der (suc i) = collect 64 (der (round der i))

-- whether M keeps a rule
abbrev pub in_head : ℕ → Head → Bool
in_head M (decision d) = has M d
in_head M no_head = false

abbrev pub keepsb : Meaning → ℕ → Rule → Bool
keepsb m M r = in_head M r.head || anyb (λ e. not (holds m e M)) r.body

-- whether some ranks bear M: it keeps the rules, and the rounds come to all of it
unfoldable pub borneb : Meaning → Way → List Rule → ℕ → Bool
borneb m w rules M = allb (keepsb m M) rules && (M ∩ round (derives m w rules M) 64) == M
