-- A number that is no condition's never holds always, since the empty set is not in the empty family.
use Rattle.std.proofs.Common.{◌≡◌, ℕ, ◌≤◌, false, Decides, sym, refl, ap, ◌∙◌, subst}
use lib.Bits.{and_zero_r}
use Rattle.std.proofs.lemmas.Bool.{both_ways}
use Rattle.sets.specs.Sets.{◌⊆◌, ◌∩◌, Between}
use Rattle.sets.proofs.Members.{sub_refl}
use Rattle.banks.specs.Meaning.{Meaning, Lawful, Always}

pub past_always : (m : Meaning) → Lawful m → (k lower upper : ℕ) → m.count ≤ k → Decides false (Always m k lower upper)
past_always m law k lower upper h =
    let none : (s : ℕ) → s ∩ m.domain k ≡ 0 = λ s. ap (λ (d : ℕ). s ∩ d) (law.no_domain k h) ∙ and_zero_r s in
    let between : Between (lower ∩ m.domain k) (upper ∩ m.domain k) 0 =
    (subst (λ (x : ℕ). x ⊆ 0) (sym (none lower)) (sub_refl 0), subst (λ (x : ℕ). 0 ⊆ x) (sym (none upper)) (sub_refl 0)) in (
      (λ e. absurd (both_ways false refl e)),
      (λ a. absurd (both_ways (m.family k 0) (law.no_family k 0 h) (a 0 between))),
    )
