-- Pages keep their copies of the rules.
use Rattle.std.proofs.Common.{◌≡◌, ℕ, suc, ◌-◌, ◌<◌, ◌≤◌, ◌⊎◌, List, [], ◌∷◌, ◌++◌, map, length, get_or, take, sym, refl, ap, ◌∙◌, inl, inr, arith}
use Rattle.std.proofs.lemmas.List.{take-append-le, take-take, length-map, length_push, length-take-le, get_or_push, map_push, get_or_append_left}
use Rattle.std.proofs.lemmas.Bool.{cases_lt}
use Rattle.answer_sets.specs.Rules as meant
use Rattle.rules.specs.Shapes.{way_of, rule_of, rules_of}
use Rattle.rules.specs.declared.rule.Rule.{Rule}
use Rattle.account.specs.Account as plain
use Rattle.book.specs.declared.page.Page.{Page}
use Rattle.book.specs.Counts.{counts, last_of, Level}
use Rattle.book.specs.View.{page_of, account_of}

-- pages read the same copies where the lists of rules agree up to each page's count
pub pages_agree : (ps : List Page) (ls ms : List meant.Rule) →
    ((k : ℕ) → k < length (counts ps) → take (get_or (counts ps) k 0) ls ≡ take (get_or (counts ps) k 0) ms) →
    map (page_of ls) ps ≡ map (page_of ms) ps
pages_agree [] ls ms h = refl
pages_agree (p ∷ ps) ls ms h =
    let here : take p.rules ls ≡ take p.rules ms = h 0 (omega arith) in
    let rest : map (page_of ls) ps ≡ map (page_of ms) ps = pages_agree ps ls ms (λ k l. h (suc k) (omega arith)) in
    let paged : List meant.Rule → plain.Page = λ c. record { way = way_of p.way; «set» = p.«set»; ranks = p.ranks.bytes; rules = c } in
    ap (λ c. paged c ∷ map (page_of ls) ps) here
    ∙ ap (λ t. page_of ms p ∷ t) rest

-- one rule more leaves the pages' copies
pub pages_push : (ps : List Page) (ls ms : List meant.Rule) (n : ℕ) → Level (counts ps) n → n ≤ length ls →
    map (page_of (ls ++ ms)) ps ≡ map (page_of ls) ps
pages_push ps ls ms n v l = pages_agree ps (ls ++ ms) ls (λ k h.
    let b = v.1 k h in
    let e : get_or (counts ps) k 0 ≤ length ls = omega arith in
    take-append-le (get_or (counts ps) k 0) ls ms e)

-- and so does the loss of the last rule, where no page rests on it
pub pages_take : (ps : List Page) (ls : List meant.Rule) (n : ℕ) → Level (counts ps) n →
    map (page_of (take n ls)) ps ≡ map (page_of ls) ps
pages_take ps ls n v = pages_agree ps (take n ls) ls (λ k h.
    let b = v.1 k h in
    let e : get_or (counts ps) k 0 ≤ n = omega arith in
    take-take (get_or (counts ps) k 0) n ls e)

pub level_up : (ns : List ℕ) (m n : ℕ) → m ≤ n → Level ns m → Level ns n
level_up ns m n l v = (omega arith, v.1)

-- how many rules each page's copy has
abbrev pub lens : List plain.Page → List ℕ
lens vs = map (λ v. length v.rules) vs

pub lens_counts : (ps : List Page) (ls : List meant.Rule) → ((k : ℕ) → k < length (counts ps) → get_or (counts ps) k 0 ≤ length ls) →
    lens (map (page_of ls) ps) ≡ counts ps
lens_counts [] ls h = refl
lens_counts (p ∷ ps) ls h =
    let z : p.rules ≤ length ls = h 0 (omega arith) in
    let here : length (take p.rules ls) ≡ p.rules = length-take-le p.rules ls z in
    let rest : lens (map (page_of ls) ps) ≡ counts ps = lens_counts ps ls (λ k l. h (suc k) (omega arith)) in
    ap (λ n. n ∷ lens (map (page_of ls) ps)) here ∙ ap (λ t. p.rules ∷ t) rest

pub last_of_push : (ns : List ℕ) (n : ℕ) → last_of (ns ++ n ∷ []) ≡ n
last_of_push ns n =
    let l = length_push ns n in
    let e : length ns ≡ length (ns ++ n ∷ []) - 1 = omega arith in
    get_or_push ns n 0 (length (ns ++ n ∷ []) - 1) e

pub last_len : (ps : List Page) (ls : List meant.Rule) → Level (counts ps) (length ls) → (vs : List plain.Page) (v : plain.Page) →
    map (page_of ls) ps ≡ vs ++ v ∷ [] → length v.rules ≡ last_of (counts ps)
last_len ps ls lv vs v e =
    let a : lens (map (page_of ls) ps) ≡ counts ps = lens_counts ps ls (λ k h. let b = lv.1 k h in omega arith) in
    let b : lens (vs ++ v ∷ []) ≡ lens vs ++ length v.rules ∷ [] = map_push (λ (w : plain.Page). length w.rules) vs v in
    sym (last_of_push (lens vs) (length v.rules)) ∙ ap last_of (sym b) ∙ ap (λ w. last_of (lens w)) (sym e) ∙ ap last_of a

pub snoc_of : {X : Type 0} (x : X) (xs : List X) → (ys : List X) × (y : X) × (x ∷ xs ≡ ys ++ y ∷ [])
snoc_of x [] = ([], x, refl)
snoc_of x (z ∷ zs) = let r = snoc_of z zs in (x ∷ r.0, r.1, ap (λ t. x ∷ t) r.2)

pub last_page : (ps : List Page) (ls : List meant.Rule) → Level (counts ps) (length ls) → 0 < length ls → last_of (counts ps) ≡ length ls →
    (vs : List plain.Page) × (v : plain.Page) × (map (page_of ls) ps ≡ vs ++ v ∷ []) × (length v.rules ≡ length ls)
last_page [] ls lv z e = absurd (omega arith)
last_page (p ∷ ps) ls lv z e =
    let s = snoc_of (page_of ls p) (map (page_of ls) ps) in
    (s.0, s.1, s.2, last_len (p ∷ ps) ls lv s.0 s.1 s.2 ∙ e)

-- the last page rests on all the rules, read off the counts
pub held_last : (ps : List Page) (rs : List Rule) → Level (counts ps) (length rs) → 0 < length rs → last_of (counts ps) ≡ length rs → plain.Held (account_of rs ps)
held_last ps rs v some e =
    let l = length-map rs rule_of in
    last_page ps (rules_of rs) (level_up (counts ps) (length rs) (length (rules_of rs)) (omega arith) v) (omega arith) (omega arith)

pub last_held : (ps : List Page) (rs : List Rule) → Level (counts ps) (length rs) → plain.Held (account_of rs ps) → last_of (counts ps) ≡ length rs
last_held ps rs v (before, last, e, n) =
    let l = length-map rs rule_of in
    let k = last_len ps (rules_of rs) (level_up (counts ps) (length rs) (length (rules_of rs)) (omega arith) v) before last e in
    omega arith

-- no page is on more rules than stand
below_push : (ns : List ℕ) (n k : ℕ) → Level ns n → k < length (ns ++ n ∷ []) → (k < length ns) ⊎ (length ns ≤ k) → get_or (ns ++ n ∷ []) k 0 ≤ n
below_push ns n k v h (inl l) = let e = get_or_append_left ns (n ∷ []) 0 k l in let b = v.1 k l in omega arith
below_push ns n k v h (inr l) =
    let p = length_push ns n in
    let q : length ns ≡ k = omega arith in
    let e = get_or_push ns n 0 k q in omega arith

-- one page more that rests on all the rules
pub level_push : (ns : List ℕ) (n : ℕ) → Level ns n → Level (ns ++ n ∷ []) n
level_push ns n v =
    let p = last_of_push ns n in
    (omega arith, λ k h. let b = below_push ns n k v h (cases_lt k (length ns)) in omega arith)
