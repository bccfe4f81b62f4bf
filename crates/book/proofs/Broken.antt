-- The rules that a set breaks, as a list.
use Rattle.std.proofs.Common.{◌≡◌, ℕ, ◌+◌, ◌<◌, ◌≤◌, Bool, true, false, cond, List, [], ◌∷◌, length, get_or, drop, sym, refl, ap, ◌∙◌, inl, inr}
use Rattle.std.proofs.lemmas.List.{drop_more, drop_all}
use Rattle.std.proofs.lemmas.Bool.{both_ways, cond-true, cond-false}
use Rattle.banks.specs.Meaning.{Meaning}
use Rattle.answer_sets.specs.Rules.{Keeps}
use Rattle.answer_sets.specs.Tests.{keepsb}
use Rattle.answer_sets.proofs.Bearing.{keeps_sound, keeps_complete}
use Rattle.rules.specs.Shapes.{rule_of, rules_of}
use Rattle.rules.specs.declared.rule.Rule.{Rule}
use Rattle.book.specs.declared.breach.Breach.{Breach}
use Rattle.book.specs.Looking.{Breaches}

-- the record of rule r at number k
abbrev pub record_of : ℕ → Rule → Breach
record_of k r = record { rule = k; head = r.head }

module _ (m : Meaning) (M : ℕ) where
  abbrev pub broken_list : ℕ → List Rule → List Breach
  broken_list k [] = []
  broken_list k (r ∷ rules) = cond (keepsb m M (rule_of r)) (broken_list (k + 1) rules) (record_of k r ∷ broken_list (k + 1) rules)

  pub breaches_of : (k : ℕ) (rules : List Rule) → Breaches m M k (rules_of rules) (broken_list k rules)
  breaches_of k [] = refl
  breaches_of k (r ∷ rules) = by (broken_list (k + 1) rules) (breaches_of (k + 1) rules) (keepsb m M (rule_of r)) refl
    where
      by : (rest : List Breach) → Breaches m M (k + 1) (rules_of rules) rest → (b : Bool) → keepsb m M (rule_of r) ≡ b
          → Breaches m M k (rules_of (r ∷ rules)) (cond b rest (record_of k r ∷ rest))
      by rest h true e = inl (keeps_sound m M (rule_of r) e, h)
      by rest h false e =
          inr ((λ (kept : Keeps m M (rule_of r)). both_ways (keepsb m M (rule_of r)) e (keeps_complete m M (rule_of r) kept)), (record_of k r, rest, refl, refl, refl, h))

  module _ (rules : List Rule) (i : ℕ) (x : Rule) (l : i < length rules) (e : x ≡ get_or rules i x) where
    next : broken_list i (drop i rules) ≡ cond (keepsb m M (rule_of x)) (broken_list (i + 1) (drop (i + 1) rules)) (record_of i x ∷ broken_list (i + 1) (drop (i + 1) rules))
    next =
        let rest = broken_list (i + 1) (drop (i + 1) rules) in
        ap (broken_list i) (drop_more rules i x l) ∙ ap (λ (r : Rule). cond (keepsb m M (rule_of r)) rest (record_of i r ∷ rest)) (sym e)

    pub past_kept : Keeps m M (rule_of x) → broken_list i (drop i rules) ≡ broken_list (i + 1) (drop (i + 1) rules)
    past_kept h = next ∙ cond-true (keepsb m M (rule_of x)) _ _ (keeps_complete m M (rule_of x) h)

    pub past_broken : (Keeps m M (rule_of x) → ⊥) → broken_list i (drop i rules) ≡ record_of i x ∷ broken_list (i + 1) (drop (i + 1) rules)
    past_broken h = next ∙ cond-false (keepsb m M (rule_of x)) _ _ (not_kept (keepsb m M (rule_of x)) refl)
      where
        not_kept : (b : Bool) → keepsb m M (rule_of x) ≡ b → b ≡ false
        not_kept true f = absurd (h (keeps_sound m M (rule_of x) f))
        not_kept false f = refl

  pub past_all : (rules : List Rule) (i : ℕ) → length rules ≤ i → broken_list i (drop i rules) ≡ []
  past_all rules i l = ap (broken_list i) (drop_all i rules l)
