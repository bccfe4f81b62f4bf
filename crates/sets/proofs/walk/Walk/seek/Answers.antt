use Rattle.std.proofs.Common.{◌≡◌, ℕ, List, [], ◌∷◌, Some, None, Option, sym, ap, ◌∙◌, subst, ap₂, arith, MatchOption}
use Rattle.sets.specs.Sets.{◌⊆◌, ◌∩◌, ◌∪◌, Highest}
use Rattle.sets.specs.Walks.{sets_from}
use Rattle.sets.specs.declared.span.Span.{Span}
use Rattle.sets.specs.declared.walk.Walk.{Walk}
use Rattle.sets.proofs.Members.{and_second}
use Rattle.sets.proofs.Seeking.{minus_none, none_inside, after_last}
use Rattle.sets.proofs.walk.Walk.seek.Goals as goal

-- a step on from the last set below `start`
stepped : (o : Option Walk) (span : Span) (start up at : ℕ) → span.lower ≡ 0 → span.upper ≡ up
    → ((rest : List ℕ) → sets_from at 0 up ≡ at ∷ rest → sets_from start 0 up ≡ rest)
    → MatchOption o (sets_from at span.lower span.upper ≡ at ∷ [])
    (λ w. (w.span ≡ span) × (sets_from at span.lower span.upper ≡ at ∷ sets_from w.at span.lower span.upper))
    → MatchOption o (sets_from start 0 up ≡ [])
    (λ w. (w.span.lower ≡ 0) × (w.span.upper ≡ up) × (sets_from start 0 up ≡ sets_from w.at 0 up))
stepped None span start up at p q h c = h [] (ap₂ (λ (x y : ℕ). sets_from at x y) (sym p) (sym q) ∙ c)
stepped (Some w) span start up at p q h c = (
  ap (λ (s : Span). s.lower) c.0 ∙ p,
  ap (λ (s : Span). s.upper) c.0 ∙ q,
  h (sets_from w.at 0 up)
      (ap₂ (λ (x y : ℕ). sets_from at x y) (sym p) (sym q) ∙ c.1 ∙ ap₂ (λ (x y : ℕ). at ∷ sets_from w.at x y) p q),
)

pub invariant_of-result : goal.invariant_of-result
invariant_of-result c = record {
  inside = (
    subst (λ (x : ℕ). x ⊆ c.args.start) (sym c.new-span.ensures.lower) (none_inside c.args.start),
    subst (λ (x : ℕ). c.args.start ⊆ x) (sym c.new-span.ensures.upper)
        (minus_none c.args.start c.args.upper (sym c.difference-outside.ensures ∙ c.if-outside-eq0.true)),
  );
}

pub invariant_of-next : goal.invariant_of-next
invariant_of-next c = record {
  inside = (
    subst (λ (x : ℕ). x ⊆ c.intersection-below.result) (sym c.new-span.ensures.lower) (none_inside c.intersection-below.result),
    subst (λ (x : ℕ). c.intersection-below.result ⊆ x) (sym c.new-span.ensures.upper)
        (subst (λ (x : ℕ). x ⊆ c.args.upper) (sym c.intersection-below.ensures) (and_second c.union.result c.args.upper)),
  );
}

pub returns : goal.returns
returns c =
    let start = c.args.start in let up = c.args.upper in let at = c.intersection-below.result in
    let k = c.filled_to_highest.ensures in
    stepped c.next.result c.new-span.result start up at c.new-span.ensures.lower c.new-span.ensures.upper
    (λ rest e. after_last start up k.0 at rest (omega arith) (subst (Highest k.0) c.difference-outside.ensures k.1)
    (c.intersection-below.ensures ∙ ap (λ (x : ℕ). x ∩ up) (c.union.ensures ∙ ap (λ (x : ℕ). start ∪ x) k.2)) e)
    c.next.ensures
