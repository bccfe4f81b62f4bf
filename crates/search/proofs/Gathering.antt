-- The sets that are gathered: what a test for bearing keeps of the candidates.
use Rattle.std.proofs.Common.{◌≡◌, ℕ, ◌^◌, ◌<◌, ◌≤◌, Bool, true, false, cond, List, [], ◌∷◌, ◌++◌, length, filter, Option, sym, refl, ap, ◌∙◌, subst, ap₂, ⊎_elim, arith}
use Rattle.std.specs.List.{AllByRecursion}
use Rattle.std.proofs.lemmas.List.Elements.{filter-append}
use Rattle.std.proofs.lemmas.List.{length-append}
use Rattle.std.proofs.lemmas.Bool.{cases_Bool}
use Rattle.sets.specs.Lists.{member}
use Rattle.sets.proofs.Members.{sub_lt}
use Rattle.sets.proofs.Ascending.{member_kept, member_of_kept, all_of_members, ascends_of, sorted_kept}
use Rattle.sets.specs.declared.walk.Walk.{Walk}
use Rattle.banks.specs.Meaning.{Meaning}
use Rattle.answer_sets.specs.Rules.{Way, Rule, Borne}
use Rattle.answer_sets.specs.Tests.{borneb}
use Rattle.answer_sets.proofs.Answer.{borne_is_answer_set}
use Rattle.answer_sets.proofs.Bearing.{borneb_sound, borneb_complete}
use Rattle.answer_sets.proofs.Each.{all_zip, all_left, all_right}
use Rattle.rows.specs.Listings.{Lists}
use Rattle.rows.specs.declared.listing.Listing.{Listing}
use Rattle.search.specs.Search.{Heads, candidates}
use Rattle.search.specs.Gathering.{Gathered, Gathers}
use Rattle.sets.specs.Coming.{to_come}
use Rattle.search.specs.Ahead.{Drawn, FirstBorne, NoneBorne}
use Rattle.search.proofs.Candidates.{in_candidates, sorted_candidates, borne_candidate}

-- each set of the list is one of 64 decisions
abbrev pub Small : List ℕ → Type 0
Small xs = AllByRecursion (λ n. n < 2 ^ 64) xs

kept_none : (p : ℕ → Bool) (xs : List ℕ) → AllByRecursion (λ n. p n ≡ false) xs → filter p xs ≡ []
kept_none p [] h = refl
kept_none p (x ∷ xs) h = ap₂ (λ (b : Bool) (l : List ℕ). cond b (x ∷ l) l) h.0 (kept_none p xs h.1)

module _ (m : Meaning) (w : Way) (rules : List Rule) where
  -- those of the list that some ranks bear
  abbrev pub borne_of : List ℕ → List ℕ
  borne_of xs = filter (borneb m w rules) xs

  unborne : (xs : List ℕ) → Small xs → AllByRecursion (λ n. Borne m w rules n → ⊥) xs → borne_of xs ≡ []
  unborne xs small none =
      kept_none (borneb m w rules) xs
      (all_zip (λ n. n < 2 ^ 64) (λ n. Borne m w rules n → ⊥) (λ n. borneb m w rules n ≡ false)
      (λ n l h. ⊎_elim (λ b. absurd (h (borneb_sound m w rules n l b))) (λ b. b) (cases_Bool (borneb m w rules n))) xs small none)

  pub borne_none : (coming : List ℕ) (tried : ℕ) → Small coming → NoneBorne m w rules coming tried → borne_of coming ≡ []
  borne_none coming tried small n = unborne coming small n.none

  module _ (coming rest : List ℕ) (tried s : ℕ) (small : Small coming) (f : FirstBorne m w rules coming rest tried s) where
    halves : Small (f.before ++ s ∷ rest)
    halves = subst Small f.split small

    later : Small (s ∷ rest)
    later = all_right (λ n. n < 2 ^ 64) f.before (s ∷ rest) halves

    pub small_rest : Small rest
    small_rest = later.1

    pub borne_first : borne_of coming ≡ s ∷ borne_of rest
    borne_first =
        ap borne_of f.split ∙ filter-append (borneb m w rules) f.before (s ∷ rest)
        ∙ ap₂ (λ (l : List ℕ) (b : Bool). l ++ cond b (s ∷ borne_of rest) (borne_of rest))
        (unborne f.before (all_left (λ n. n < 2 ^ 64) f.before (s ∷ rest) halves) f.none_before)
        (borneb_complete m w rules s later.0 f.borne)

    pub fewer_rest : length rest < length coming
    fewer_rest = omega (arith, ap length f.split, length-append f.before (s ∷ rest))

module _ (H : ℕ) (fits : H < 2 ^ 64) (start : ℕ) where
  small_candidate : (n : ℕ) → member n (candidates start H) ≡ true → n < 2 ^ 64
  small_candidate n i = sub_lt 64 n H (in_candidates H fits start n i).0 fits

  pub small_candidates : Small (candidates start H)
  small_candidates = all_of_members (λ n. n < 2 ^ 64) (candidates start H) small_candidate

  module _ (m : Meaning) (w : Way) (rules : List Rule) (drawn : Heads rules H) where
    to_gathered : (n : ℕ) → member n (borne_of m w rules (candidates start H)) ≡ true → (n < 2 ^ 64) × (start ≤ n) × Borne m w rules n
    to_gathered n i =
        let k = member_of_kept (borneb m w rules) n (candidates start H) i in
        let l = small_candidate n k.0 in
        (l, (in_candidates H fits start n k.0).1, borneb_sound m w rules n l k.1)

    of_gathered : (n : ℕ) → (n < 2 ^ 64) × (start ≤ n) × Borne m w rules n → member n (borne_of m w rules (candidates start H)) ≡ true
    of_gathered n (l, g, b) =
        member_kept (borneb m w rules) n (candidates start H) (borne_candidate H fits start m w rules drawn n g b) (borneb_complete m w rules n l b)

    pub gathered : Gathered m w rules start (borne_of m w rules (candidates start H))
    gathered = record {
      ascending = ascends_of (borne_of m w rules (candidates start H)) (sorted_kept (borneb m w rules) (candidates start H) (sorted_candidates H fits start));
      borne = λ n. (to_gathered n, of_gathered n);
      answers = λ n. (
        (λ i. let k = to_gathered n i in (k.0, k.1, (borne_is_answer_set m w rules n k.0).0 k.2)),
        (λ k. of_gathered n (k.0, k.1, (borne_is_answer_set m w rules n k.0).1 k.2)),
      );
    }

-- ---- at the end

pub gathers_of : (m : Meaning) (w : Way) (rules : List Rule) (start : ℕ) (walk : Option Walk) (before after : List ℕ) (answer : Listing ℕ)
    → Drawn rules start walk → Lists (borne_of m w rules (to_come walk)) before answer after → Gathers m w rules start before answer after
gathers_of m w rules start walk before after answer d l = record {
  heads = d.heads;
  drawn = d.drawn;
  few = d.few;
  items = borne_of m w rules (candidates start d.heads);
  gathered = gathered d.heads d.fits start m w rules d.drawn;
  listed = subst (λ (xs : List ℕ). Lists (borne_of m w rules xs) before answer after) d.coming l;
}

pub ends_as : {items before after : List ℕ} {n : ℕ} {e f : Option ℕ} → e ≡ f → Lists items before (record { placed = n; unplaced = f }) after
    → Lists items before (record { placed = n; unplaced = e }) after
ends_as {items} {before} {after} {n} q l = subst (λ (x : Option ℕ). Lists items before (record { placed = n; unplaced = x }) after) (sym q) l
