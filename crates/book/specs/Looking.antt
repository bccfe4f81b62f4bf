-- What the calls answer that change nothing.
use Rattle.std.specs.Prelude.{◌≡◌, ℕ, ◌+◌, ◌<◌, ◌≤◌, ◌⊎◌, List, [], ◌∷◌, ◌++◌, length, drop, Ok, Err, Result}
use Rattle.std.specs.List.{HoldsAt}
use Rattle.banks.specs.Meaning.{Meaning}
use Rattle.answer_sets.specs.Rules.{Rule, Keeps}
use Rattle.refusals.specs.declared.refusal.Refusal.{Refusal}
use Rattle.refusals.specs.Numbers.{Says}
use Rattle.rules.specs.Shapes.{way_of, head_of}
use Rattle.account.specs.Account.{Page, Account}
use Rattle.book.specs.declared.breach.Breach.{Breach}
use Rattle.book.specs.declared.summary.Summary.{Summary}

-- the page is told, and its ranks are in front of what the memory held
pub record Tells (p : Page) (told : Summary) (before after : List ℕ) : Type 0 where
  pub way : way_of told.way ≡ p.way
  pub «set» : told.«set» ≡ p.«set»
  pub rules : told.rules ≡ length p.rules
  pub memory : after ≡ p.ranks ++ drop 64 before

-- page: what it answers of a page's number, and what the caller's memory then holds
abbrev pub Shown : Account → ℕ → List ℕ → Result Summary Refusal → List ℕ → Type 0
Shown a number before (Ok told) after =
    (64 ≤ length before) × (number < length a.pages) × HoldsAt (λ p. Tells p told before after) a.pages number
Shown a number before (Err e) after =
    (after ≡ before)
    × ((Says e 30 (64 ∷ []) × (length before < 64)) ⊎ (Says e 31 [] × (64 ≤ length before) × (length a.pages ≤ number)))

-- the items are the rules that M breaks, lowest first, where the rules are numbered from k on
abbrev pub Breaches : Meaning → ℕ → ℕ → List Rule → List Breach → Type 0
Breaches m M k [] items = items ≡ []
Breaches m M k (r ∷ rules) items =
    (Keeps m M r × Breaches m M (k + 1) rules items)
    ⊎ ((Keeps m M r → ⊥)
    × ((found : Breach) × (rest : List Breach) × (items ≡ found ∷ rest) × (found.rule ≡ k) × (head_of found.head ≡ r.head) × Breaches m M (k + 1) rules rest))
