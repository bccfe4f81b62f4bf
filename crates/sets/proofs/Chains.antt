-- What a chain over the decisions of a set comes to, said by the set's members.
use Rattle.std.proofs.Common.{◌≡◌, ℕ, ◌^◌, ◌<◌, Bool, true, false, length, Decides, Option, MatchOption, refl, sym, subst, zero-le}
use Rattle.std.proofs.lemmas.Bool.{both_ways}
use Rattle.std.proofs.lemmas.Iterator.{YieldsList, cases_from_all, cases_from_any}
use Rattle.std.proofs.lemmas.Iterator.Consumers.{YieldsList-from_first}
use Rattle.std.specs.Bool.{MatchBool}
use Rattle.std.specs.Fn.{Called}
use Rattle.std.specs.Iterator.{YieldsFirstBy, YieldsThen}
use Rattle.std.specs.List.{FoldsTo, AllWithin, HoldsAt}
use denote.Param.Members.{Mut}
use Rattle.sets.specs.Sets.{◌∈◌}
use Rattle.sets.specs.Walks.{decisions}
use Rattle.sets.specs.declared.decision.Decision.{Decision}
use Rattle.sets.specs.declared.decisions.Decisions.{Decisions}
use Rattle.sets.proofs.Ascending.{member_place, member_at}
use Rattle.sets.proofs.Listing.{decisions_listed}

-- what each call of `next` gives
abbrev pub steps : Decisions → Option Decision → Decisions → Type 0
steps = YieldsFirstBy (λ d. d.place) (λ s. decisions s.rest)

-- the decisions of a set come as their list
pub yields_decisions : (s : Decisions) (set : ℕ) → s.rest ≡ set → YieldsList steps (λ d. d.place) s (decisions set)
yields_decisions s set e = YieldsList-from_first (λ (d : Decision). d.place) (λ (t : Decisions). decisions t.rest) (decisions set) (λ t. decisions (e t))

-- a closure that decides P of a decision, and changes nothing
abbrev pub Tests : {F : Type 0} → Mut F (Decision × Unit {0}) Bool → F → (ℕ → Type 0) → Type 0
Tests {F} g f P = (x : Decision) (b : Bool) (q : F) → Called g f (x, tt) b q → (q ≡ f) × Decides b (P x.place)

module _ {F : Type 0} {g : Mut F (Decision × Unit {0}) Bool} (set : ℕ) (s u : Decisions) (is : s.rest ≡ set) (fits : set < 2 ^ 64) (f : F) (r : Bool) (P : ℕ → Type 0) (tests : Tests g f P) where
  -- `all` says whether each decision of the set has P
  pub all_of_decisions : (xs : _) × (o : Option Decision) × (j : F) × YieldsThen steps s xs o u × FoldsTo (λ p x q. Called g p (x, tt) true q) f xs j
      × MatchOption o (r ≡ true) (λ x. (r ≡ false) × ((h : F) × Called g j (x, tt) false h))
      → Decides r ((d : ℕ) → d ∈ set → P d)
  all_of_decisions ran = decided r (cases_from_all u f r P (λ d. P d → ⊥) ran (yields_decisions s set is)
      (λ x q k. let t = tests x true q k in (t.0, t.1.0 refl)) (λ x q k p. both_ways false refl ((tests x false q k).1.1 p)))
    where
      decided : (b : Bool) → MatchBool b (AllWithin P (decisions set) 0 (length (decisions set))) ((k : ℕ) × (k < length (decisions set)) × HoldsAt (λ d. P d → ⊥) (decisions set) k)
          → Decides b ((d : ℕ) → d ∈ set → P d)
      decided true h = ((λ _ d m. let p = member_place d (decisions set) ((decisions_listed.exactly set d fits).1 m) in subst P p.2 (h p.0 0 zero-le p.1)), (λ _. refl))
      decided false h = ((λ e. absurd (both_ways false refl e)), (λ a. absurd (h.2 0 (a _ ((decisions_listed.exactly set _ fits).0 (member_at (decisions set) h.0 h.1))))))

  -- `any` says whether some decision of the set has P
  pub any_of_decisions : (xs : _) × (o : Option Decision) × (j : F) × YieldsThen steps s xs o u × FoldsTo (λ p x q. Called g p (x, tt) false q) f xs j
      × MatchOption o (r ≡ false) (λ x. (r ≡ true) × ((h : F) × Called g j (x, tt) true h))
      → Decides r ((d : ℕ) × (d ∈ set) × P d)
  any_of_decisions ran = decided r (cases_from_any u f r P (λ d. P d → ⊥) ran (yields_decisions s set is)
      (λ x q k. (tests x true q k).1.0 refl) (λ x q k. let t = tests x false q k in (t.0, λ p. both_ways false refl (t.1.1 p))))
    where
      decided : (b : Bool) → MatchBool b ((k : ℕ) × (k < length (decisions set)) × HoldsAt P (decisions set) k) (AllWithin (λ d. P d → ⊥) (decisions set) 0 (length (decisions set)))
          → Decides b ((d : ℕ) × (d ∈ set) × P d)
      decided true h = ((λ _. (_, (decisions_listed.exactly set _ fits).0 (member_at (decisions set) h.0 h.1), h.2 0)), (λ _. refl))
      decided false h = (
        (λ e. absurd (both_ways false refl e)),
        (λ w. absurd (let p = member_place w.0 (decisions set) ((decisions_listed.exactly set w.0 fits).1 w.1) in h p.0 0 zero-le p.1 (subst P (sym p.2) w.2))),
      )
