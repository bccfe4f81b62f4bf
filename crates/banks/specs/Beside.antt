-- The meaning of two banks side by side, and that it is lawful.
use Rattle.std.specs.Prelude.{◌≡◌, ℕ, ◌+◌, ◌-◌, ◌<◌, ◌≤◌, min, Bool, true, false, cond, nat_lt, refl}
use Rattle.std.proofs.Common.{◌∙◌, ⊎_elim, arith, lit<}
use Rattle.std.proofs.lemmas.Nat.{ones-le}
use Rattle.std.proofs.lemmas.Bool.{cases_lt, both_ways, lt-ltb, le-ltb, cond-true, cond-false}
use Rattle.sets.specs.Sets.{◌⊆◌, size}
use Rattle.banks.specs.Meaning.{Meaning, Lawful}

-- what stands at number k: the first bank's numbers first, then the second's, and nothing from 32,767 on
abbrev pub at_number : {X : Type 0} → ℕ → ℕ → (ℕ → X) → (ℕ → X) → X → X
at_number n k first second none = cond (nat_lt k 32767) (cond (nat_lt k n) (first k) (second (k - n))) none

abbrev pub beside : Meaning → Meaning → Meaning
beside a b = record {
  count = min (a.count + b.count) 32767;
  domain = λ k. at_number a.count k a.domain b.domain 0;
  family = λ k f. at_number a.count k (λ j. a.family j f) (λ j. b.family j f) false;
}

module _ {X : Type 0} (n k : ℕ) (first second : ℕ → X) (none : X) where
  pub number_first : k < 32767 → k < n → at_number n k first second none ≡ first k
  number_first h l = cond-true (nat_lt k 32767) _ none (lt-ltb k 32767 h) ∙ cond-true (nat_lt k n) (first k) (second (k - n)) (lt-ltb k n l)

  pub number_second : k < 32767 → n ≤ k → at_number n k first second none ≡ second (k - n)
  number_second h l = cond-true (nat_lt k 32767) _ none (lt-ltb k 32767 h) ∙ cond-false (nat_lt k n) (first k) (second (k - n)) (le-ltb k n l)

  pub number_none : 32767 ≤ k → at_number n k first second none ≡ none
  number_none h = cond-false (nat_lt k 32767) _ none (le-ltb k 32767 h)

  -- past the count of both there is nothing
  pub number_past : (m : ℕ) → ((j : ℕ) → m ≤ j → second j ≡ none) → min (n + m) 32767 ≤ k → at_number n k first second none ≡ none
  number_past m q h =
      ⊎_elim (λ l. number_second l (omega arith) ∙ q (k - n) (omega arith)) (λ l. number_none l) (cases_lt k 32767)

-- a fact of what two banks say of one number each, and of nothing, is one of what stands at number k
pub number_both : {X Y : Type 0} (P : X → Y → Type 0) (n k : ℕ) (f g : ℕ → X) (x : X) (u v : ℕ → Y) (y : Y)
    → ((j : ℕ) → P (f j) (u j)) → ((j : ℕ) → P (g j) (v j)) → P x y → P (at_number n k f g x) (at_number n k u v y)
number_both P n k f g x u v y p q z = outer (nat_lt k 32767) (inner (nat_lt k n))
  where
    inner : (b : Bool) → P (cond b (f k) (g (k - n))) (cond b (u k) (v (k - n)))
    inner true = p k
    inner false = q (k - n)

    outer : (b : Bool) → P (cond (nat_lt k n) (f k) (g (k - n))) (cond (nat_lt k n) (u k) (v (k - n)))
        → P (cond b (cond (nat_lt k n) (f k) (g (k - n))) x) (cond b (cond (nat_lt k n) (u k) (v (k - n))) y)
    outer true h = h
    outer false h = z

pub beside_lawful : (a b : Meaning) → Lawful a → Lawful b → Lawful (beside a b)
beside_lawful a b la lb = record {
  few = omega arith;
  narrow = λ k. number_both (λ (d e : ℕ). size d ≤ 12) a.count k a.domain b.domain 0 a.domain b.domain 0
      la.narrow lb.narrow (omega (arith, ones-le 0 0 (lit< tt)));
  inside = λ k f. number_both (λ (t : Bool) (d : ℕ). t ≡ true → f ⊆ d) a.count k (λ j. a.family j f) (λ j. b.family j f) false a.domain b.domain 0
      (λ j. la.inside j f) (λ j. lb.inside j f) (λ h. absurd (both_ways false refl h));
  no_domain = λ k h. number_past a.count k a.domain b.domain 0 b.count lb.no_domain h;
  no_family = λ k f h. number_past a.count k (λ j. a.family j f) (λ j. b.family j f) false b.count (λ j l. lb.no_family j f l) h;
}
