-- Bytes as lower-case hexadecimal digits, and lines of them.
use Rattle.std.specs.Prelude.{◌≡◌, ℕ, ◌+◌, ◌*◌, ◌/◌, ◌%◌, ◌<◌, ◌≤◌, Bool, true, false, cond, List, [], ◌∷◌, ◌++◌, length, drop, Some, None, Option, ◌≢◌, nat_lt, slice_index}

-- the digit of a number below sixteen, as a character: 0 to 9, then a to f
abbrev pub digit : ℕ → ℕ
digit n = cond (nat_lt n 10) (48 + n) (87 + n)

-- two digits a byte, the high one first
unfoldable pub hex : List ℕ → List ℕ
hex [] = []
hex (b ∷ bytes) = digit (b / 16) ∷ digit (b % 16) ∷ hex bytes

-- the line of some bytes: their digits, and a line feed
unfoldable pub line : List ℕ → List ℕ
line bytes = hex bytes ++ 10 ∷ []

-- each is a byte
abbrev pub Bytes : List ℕ → Type 0
Bytes [] = Unit {0}
Bytes (b ∷ bytes) = (b < 256) × Bytes bytes

-- the text is a line of 1 to 74 bytes, and then the rest
pub record Begins (text bytes rest : List ℕ) : Type 0 where
  pub some : 0 < length bytes
  pub few : length bytes ≤ 74
  pub small : Bytes bytes
  pub spells : text ≡ line bytes ++ rest

-- the character is the digit of this number, or of none
abbrev pub Nibble : ℕ → Option ℕ → Type 0
Nibble c None = (v : ℕ) → v < 16 → digit v ≢ c
Nibble c (Some v) = (v < 16) × (digit v ≡ c)

-- the text begins with the digits of this byte, or of none
abbrev pub Pair : List ℕ → Option ℕ → Type 0
Pair text None = (b : ℕ) (rest : List ℕ) → b < 256 → text ≢ digit (b / 16) ∷ digit (b % 16) ∷ rest
Pair text (Some b) = (b < 256) × (text ≡ digit (b / 16) ∷ digit (b % 16) ∷ drop 2 text)

-- the text begins with the digits of these bytes
pub record Front (text bytes : List ℕ) : Type 0 where
  pub small : Bytes bytes
  pub spells : text ≡ hex bytes ++ drop (2 * length bytes) text

-- whether a line feed stands at a place
abbrev pub Feed : List ℕ → ℕ → Bool → Type 0
Feed text at true = (at < length text) × (slice_index text at ≡ 10)
Feed text at false = at < length text → slice_index text at ≢ 10
