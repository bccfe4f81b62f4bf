-- How much a book may hold.
use Rattle.std.specs.Prelude.{ℕ}

-- the most entries of a body
abbrev pub max_body : ℕ
max_body = 8

-- the most rules of a book
abbrev pub max_rules : ℕ
max_rules = 128

-- the most pages of a book
abbrev pub max_pages : ℕ
max_pages = 64
