-- Which refusals fit a call, once some are ruled out.
use Rattle.std.proofs.Common.{◌≡◌, ℕ, ◌+◌, ◌<◌, ◌≤◌, List, [], ◌∷◌, ◌++◌, length, get_or, take, sym, refl, ap, ◌∙◌, inl, inr, arith}
use Rattle.std.specs.List.{AllByRecursion}
use Rattle.std.proofs.lemmas.List.{take_all, take_more, length-take-le}
use Rattle.banks.specs.Meaning.{Meaning}
use Rattle.answer_sets.specs.Rules.{Way, Rule, no_head, Keeps, LowestBroken, Ranked, Bears, Borne}
use Rattle.answer_sets.specs.Rounds.{Rounds}
use Rattle.answer_sets.proofs.Each.{no_any}
use Rattle.refusals.specs.declared.refusal.Refusal.{Refusal}
use Rattle.refusals.specs.Numbers.{number, told}
use Rattle.account.specs.Limits.{max_rules, max_pages}
use Rattle.answer_sets.specs.Naming.{Known, Unknown, rule_named}
use Rattle.account.specs.Account.{Account, Call, enter, withdraw, file, lodge, Held, NotPaged, Fits, FitsFirst, PagesWith, Step}
use Rattle.account.proofs.Exact.{pageable, file_open, lodge_open}
use Rattle.naming.specs.Sound.{Sound}
use Rattle.book.specs.Ready.{Accepts, Refuses, NotPagedFirst, RulesWith, RulesCut}

-- where a refusal fits first, the call is refused so
pub refuses : (m : Meaning) (a : Account) (c : Call) (e : Refusal) → FitsFirst m a c (number e) (told e) → Refuses m a c e
unfolding Step
refuses m a c e f = (f, refl)

-- ---- enter

module _ (m : Meaning) (a : Account) (h : ℕ) (body : List ℕ) (s : Sound m h body) where
  -- of a sound rule only the number of rules can stand in the way
  only_full : (n : ℕ) (told : List ℕ) → Fits m a (enter h body) n told → (n ≡ 21) × (max_rules ≤ length a.rules)
  only_full n told (inl (e, t, g)) = absurd (g s.head)
  only_full n told (inr (inl (e, t, g))) = let l = s.short in absurd (omega arith)
  only_full n told (inr (inr (inl (e, t, g)))) = absurd (no_any (Unknown m) (Known m) (λ x u k. omega arith) body g s.known)
  only_full n told (inr (inr (inr (e, t, g)))) = (e, g)

  pub enter_full : max_rules ≤ length a.rules → FitsFirst m a (enter h body) 21 []
  enter_full l = (inr (inr (inr (refl, refl, l))), (λ n told f. let g = only_full n told f in omega arith))

  pub enter_ready : length a.rules < max_rules → Accepts m a (enter h body) (length a.rules) (RulesWith a (rule_named h body))
  unfolding Step
  enter_ready l n z e w = ((λ k told f. let g = only_full k told f in omega arith), (e, w.0, w.1))

-- ---- withdraw

module _ (m : Meaning) (a : Account) where
  pub withdraw_none : a.rules ≡ [] → FitsFirst m a withdraw 25 []
  withdraw_none e = (inl (refl, refl, e), least)
    where
      least : (n : ℕ) (told : List ℕ) → Fits m a withdraw n told → 25 ≤ n
      least n told (inl (f, t, g)) = omega arith
      least n told (inr (f, t, g)) = omega arith

  pub withdraw_held : (a.rules ≡ [] → ⊥) → Held a → FitsFirst m a withdraw 26 []
  withdraw_held some h = (inr (refl, refl, h), least)
    where
      least : (n : ℕ) (told : List ℕ) → Fits m a withdraw n told → 26 ≤ n
      least n told (inl (f, t, g)) = absurd (some g)
      least n told (inr (f, t, g)) = omega arith

  pub withdraw_ready : (n : ℕ) → n + 1 ≡ length a.rules → (Held a → ⊥) → Accepts m a withdraw n (RulesCut a n)
  unfolding Step
  withdraw_ready n e free k z f w =
      let any : Rule = record { head = no_head; body = [] } in
      let all : a.rules ≡ take n a.rules ++ get_or a.rules n any ∷ [] =
      sym (take_all (n + 1) a.rules (omega arith)) ∙ take_more a.rules n any (omega arith) in
      let short : length z.rules ≡ n = ap length w.0 ∙ length-take-le n a.rules (omega arith) in (
        none,
        ((get_or a.rules n any, all ∙ ap (λ (l : List Rule). l ++ get_or a.rules n any ∷ []) (sym w.0)), f ∙ sym short, w.1),
      )
    where
      none : (i : ℕ) (told : List ℕ) → Fits m a withdraw i told → ⊥
      none i told (inl (f, t, g)) = let l = ap length g in omega arith
      none i told (inr (f, t, g)) = free g

-- ---- file and lodge

module _ (m : Meaning) (a : Account) (M : ℕ) where
  pub no_page : max_pages ≤ length a.pages → NotPagedFirst m a M 22 []
  no_page l = (inl (refl, refl, l), least)
    where
      least : (n : ℕ) (told : List ℕ) → NotPaged m a M n told → 22 ≤ n
      least n told (inl (e, t, g)) = omega arith
      least n told (inr (i, (e, t, g))) = omega arith

  pub broken : length a.pages < max_pages → (i : ℕ) → LowestBroken m a.rules M i → NotPagedFirst m a M 23 (i ∷ [])
  broken l i b = (inr (i, (refl, refl, b)), least)
    where
      least : (n : ℕ) (told : List ℕ) → NotPaged m a M n told → 23 ≤ n
      least n told (inl (e, t, g)) = absurd (omega arith)
      least n told (inr (j, (e, t, g))) = omega arith

  -- the numbers of these refusals
  low : (n : ℕ) (told : List ℕ) → NotPaged m a M n told → n ≤ 23
  low n told (inl (e, t, g)) = omega arith
  low n told (inr (i, (e, t, g))) = omega arith

  high : (n : ℕ) (told : List ℕ) → NotPaged m a M n told → 22 ≤ n
  high n told (inl (e, t, g)) = omega arith
  high n told (inr (i, (e, t, g))) = omega arith

  module _ (w : Way) where
    pub file_not_paged : (n : ℕ) (told : List ℕ) → NotPagedFirst m a M n told → FitsFirst m a (file w M) n told
    file_not_paged n told f = (inl f.0, least)
      where
        least : (k : ℕ) (others : List ℕ) → Fits m a (file w M) k others → n ≤ k
        least k others (inl g) = f.1 k others g
        least k others (inr (e, t, g)) = let l = low n told f.0 in omega arith

    module _ (free : length a.pages < max_pages) where
      pub file_unborne : AllByRecursion (Keeps m M) a.rules → (Borne m w a.rules M → ⊥) → FitsFirst m a (file w M) 24 []
      file_unborne kept fails = (inr (refl, refl, fails), least)
        where
          least : (k : ℕ) (others : List ℕ) → Fits m a (file w M) k others → 24 ≤ k
          least k others (inl g) = absurd (pageable m a M free kept k others g)
          least k others (inr (e, t, g)) = omega arith

      pub file_ready : (ranks : List ℕ) → Rounds m w a.rules M ranks → Accepts m a (file w M) (length a.pages) (PagesWith a w M ranks)
      unfolding Step
      file_ready ranks r n z e p = (file_open m a w M free (ranks, r.bear), (e, (ranks, r, p)))

    module _ (ranks : List ℕ) where
      pub lodge_unranked : (Ranked M ranks → ⊥) → FitsFirst m a (lodge w M ranks) 15 []
      lodge_unranked fails = (inl (refl, refl, fails), least)
        where
          least : (k : ℕ) (others : List ℕ) → Fits m a (lodge w M ranks) k others → 15 ≤ k
          least k others (inl (e, t, g)) = omega arith
          least k others (inr (inl g)) = let l = high k others g in omega arith
          least k others (inr (inr (e, t, g))) = omega arith

      pub lodge_not_paged : Ranked M ranks → (n : ℕ) (told : List ℕ) → NotPagedFirst m a M n told → FitsFirst m a (lodge w M ranks) n told
      lodge_not_paged r n told f = (inr (inl f.0), least)
        where
          least : (k : ℕ) (others : List ℕ) → Fits m a (lodge w M ranks) k others → n ≤ k
          least k others (inl (e, t, g)) = absurd (g r)
          least k others (inr (inl g)) = f.1 k others g
          least k others (inr (inr (e, t, g))) = let l = low n told f.0 in omega arith

      module _ (free : length a.pages < max_pages) where
        pub lodge_unborne : Ranked M ranks → AllByRecursion (Keeps m M) a.rules → (Bears m w a.rules M ranks → ⊥) → FitsFirst m a (lodge w M ranks) 24 []
        lodge_unborne r kept fails = (inr (inr (refl, refl, fails)), least)
          where
            least : (k : ℕ) (others : List ℕ) → Fits m a (lodge w M ranks) k others → 24 ≤ k
            least k others (inl (e, t, g)) = absurd (g r)
            least k others (inr (inl g)) = absurd (pageable m a M free kept k others g)
            least k others (inr (inr (e, t, g))) = omega arith

        pub lodge_ready : Bears m w a.rules M ranks → Accepts m a (lodge w M ranks) (length a.pages) (PagesWith a w M ranks)
        unfolding Step
        lodge_ready b n z e p = (lodge_open m a w M ranks free b, (e, b, p))
