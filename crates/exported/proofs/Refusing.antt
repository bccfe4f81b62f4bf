-- Where a rule is refused, the refusal is not that there is no set.
use Rattle.std.proofs.Common.{◌≡◌, ℕ, List, inl, inr, arith}
use Rattle.banks.specs.Meaning.{Meaning}
use Rattle.account.specs.Account.{Account, enter, Fits}

pub other_than_none : (m : Meaning) (a : Account) (h : ℕ) (body : List ℕ) (n : ℕ) (told : List ℕ) → Fits m a (enter h body) n told → n ≡ 28 → ⊥
other_than_none m a h body n told (inl p) e = let k = p.0 in omega arith
other_than_none m a h body n told (inr (inl p)) e = let k = p.0 in omega arith
other_than_none m a h body n told (inr (inr (inl p))) e = let k = p.0 in omega arith
other_than_none m a h body n told (inr (inr (inr p))) e = let k = p.0 in omega arith
