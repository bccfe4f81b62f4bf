-- File and lodge are accepted exactly where a page is free and the set is borne.
use Rattle.std.proofs.Common.{ℕ, ◌<◌, ◌≤◌, List, [], length, refl, inl, inr, ⊎_elim, arith}
use Rattle.std.specs.List.{AllByRecursion}
use Rattle.std.proofs.ByRecursion.{All-get_or}
use Rattle.std.proofs.lemmas.Bool.{cases_lt}
use Rattle.banks.specs.Meaning.{Meaning}
use Rattle.answer_sets.specs.Rules.{Way, Rule, no_head, Keeps, Bears, Borne}
use Rattle.account.specs.Limits.{max_pages}
use Rattle.account.specs.Account.{Account, file, lodge, accepted, refused, Free, NotPaged, Fits, Step}
use Rattle.account.specs.Laws.{FileExact, LodgeExact}

-- what is not full has room
pub room : (n most : ℕ) → (most ≤ n → ⊥) → n < most
room n most h = ⊎_elim (λ l. l) (λ l. absurd (h l)) (cases_lt n most)

module _ (m : Meaning) (a : Account) (M : ℕ) (free : Free a) (kept : AllByRecursion (Keeps m M) a.rules) where
  -- where a page is free and M keeps the rules, a page can be made of it
  pub pageable : (n : ℕ) (told : List ℕ) → NotPaged m a M n told → ⊥
  pageable n told (inl (e, t, g)) = omega arith
  pageable n told (inr (i, (e, t, (there, bad, rest)))) =
      let any : Rule = record { head = no_head; body = [] } in
      bad any (All-get_or (Keeps m M) a.rules i any there kept)

module _ (m : Meaning) (a : Account) (w : Way) (M : ℕ) where
  pub file_open : Free a → Borne m w a.rules M → (n : ℕ) (told : List ℕ) → Fits m a (file w M) n told → ⊥
  file_open free b n told (inl p) = pageable m a M free b.1.kept n told p
  file_open free b n told (inr (e, t, g)) = g b

  pub lodge_open : (ranks : List ℕ) → Free a → Bears m w a.rules M ranks → (n : ℕ) (told : List ℕ) → Fits m a (lodge w M ranks) n told → ⊥
  lodge_open ranks free b n told (inl (e, t, g)) = g b.ranked
  lodge_open ranks free b n told (inr (inl p)) = pageable m a M free b.kept n told p
  lodge_open ranks free b n told (inr (inr (e, t, g))) = g b

pub file_exact : FileExact
unfolding Step
file_exact m a w M (accepted n) z s = (
  λ _. (room (length a.pages) max_pages (λ l. s.0 22 [] (inl (inl (refl, refl, l)))), (s.1.1.0, s.1.1.1.bear)),
  λ _. tt,
)
file_exact m a w M (refused n told) z s = (λ no. absurd no, λ h. file_open m a w M h.0 h.1 n told s.0.0)

pub lodge_exact : LodgeExact
unfolding Step
lodge_exact m a w M ranks (accepted n) z s = (
  λ _. (room (length a.pages) max_pages (λ l. s.0 22 [] (inr (inl (inl (refl, refl, l))))), s.1.1),
  λ _. tt,
)
lodge_exact m a w M ranks (refused n told) z s = (λ no. absurd no, λ h. lodge_open m a w M ranks h.0 h.1 n told s.0.0)
