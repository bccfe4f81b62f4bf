-- Each refusal's number, and the values told with it.
use Rattle.std.specs.Prelude.{◌≡◌, ℕ, List, [], ◌∷◌}
use Rattle.refusals.specs.declared.refusal.Refusal.{Refusal}
use Rattle.refusals.specs.declared.refusal.Refusal.TheVariants.{BadHead, LongBody, NoCondition, NoWay, BadRanks, BadTables, BadLine, BadFrame, RulesFull, PagesFull, Breaks, Unborne, NoRule, RuleHeld, ManyHeads, NoSet, ShortMemory, NoPage}

abbrev pub number : Refusal → ℕ
number BadHead = 11
number LongBody = 12
number NoCondition = 13
number NoWay = 14
number BadRanks = 15
number BadTables = 17
number BadLine = 18
number BadFrame = 19
number RulesFull = 21
number PagesFull = 22
number (Breaks rule) = 23
number Unborne = 24
number NoRule = 25
number RuleHeld = 26
number ManyHeads = 27
number (NoSet tried) = 28
number (ShortMemory needed) = 30
number NoPage = 31

abbrev pub told : Refusal → List ℕ
told BadHead = []
told LongBody = []
told NoCondition = []
told NoWay = []
told BadRanks = []
told BadTables = []
told BadLine = []
told BadFrame = []
told RulesFull = []
told PagesFull = []
told (Breaks rule) = rule ∷ []
told Unborne = []
told NoRule = []
told RuleHeld = []
told ManyHeads = []
told (NoSet tried) = tried ∷ []
told (ShortMemory needed) = needed ∷ []
told NoPage = []

-- the refusal has this number, and these values are told with it
abbrev pub Says : Refusal → ℕ → List ℕ → Type 0
Says e n values = (number e ≡ n) × (told e ≡ values)
