-- A refusal that a call passes on.
use Rattle.std.proofs.Common.{◌≡◌, ℕ, Err, Result, sym, subst, MatchResult}
use Rattle.banks.specs.Meaning.{Meaning}
use Rattle.refusals.specs.declared.refusal.Refusal.{Refusal}
use Rattle.account.specs.Account.{Account, Call, Step}
use Rattle.book.specs.Ready.{Refuses}
use Rattle.book.specs.View.{answer_of}

-- to a caller that may answer anything
pub passed_on : {X : Type 0} (Good : X → Type 0) (Bad : Refusal → Type 0) (r : Result X Refusal) (y e : Refusal) → r ≡ Err y → y ≡ e → Bad e → MatchResult r Good Bad
passed_on Good Bad r y e p q b = subst (λ w. MatchResult w Good Bad) (sym p) (subst Bad (sym q) b)

-- as the answer of the call
pub refused_on : (m : Meaning) (a : Account) (c : Call) (r : Result ℕ Refusal) (y e : Refusal) → r ≡ Err y → y ≡ e → Refuses m a c e → Step m a c (answer_of r) a
refused_on m a c r y e p q s = subst (λ w. Step m a c (answer_of w) a) (sym p) (subst (Refuses m a c) (sym q) s)
