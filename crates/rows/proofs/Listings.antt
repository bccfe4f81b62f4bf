-- Facts of memory whose front is filled: items, and past them what it held before.
use Rattle.std.proofs.Common.{◌≡◌, ℕ, ◌+◌, ◌<◌, ◌≤◌, Ok, Some, None, List, [], ◌∷◌, ◌++◌, length, get_or, take, drop, set, sym, refl, ap, ◌∙◌, subst, arith}
use Rattle.std.proofs.lemmas.List.{append_assoc, append-nil, length-append, length-drop, length_push, take_all, take_at, drop_at, drop_more, set_at}
use Rattle.rows.specs.Listings.{Lists, Puts}

-- where nothing is placed, the memory is as it was
pub lent_none : {T : Type 0} (before : List T) → before ≡ [] ++ drop 0 before
lent_none before = refl

-- the next place takes one item more
pub lent_put : {T : Type 0} (before items out : List T) (x : T) → out ≡ items ++ drop (length items) before → length items < length before →
    set out (length items) x ≡ (items ++ x ∷ []) ++ drop (length (items ++ x ∷ [])) before
lent_put before items out x e lt =
    let n = length items in
    let rest = drop (n + 1) before in
    ap (λ l. set l n x) (e ∙ ap (λ l. items ++ l) (drop_more before n x lt))
    ∙ set_at items (get_or before n x) rest x n refl
    ∙ sym (append_assoc items (x ∷ []) rest)
    ∙ ap (λ m. (items ++ x ∷ []) ++ drop m before) (sym (length_push items x))

-- every item has a place
pub lists_complete : {T : Type 0} (items before out : List T) (n : ℕ) → n ≡ length items → out ≡ items ++ drop (length items) before → length items ≤ length before →
    Lists items before (record { placed = n; unplaced = None }) out
lists_complete items before out n k e le =
    let all : take n items ≡ items = take_all n items (omega arith) in
    record {
      placed = omega arith;
      contents = e ∙ ap (λ m. items ++ drop m before) (sym k) ∙ ap (λ l. l ++ drop n before) (sym all);
      unplaced = le;
    }

-- every place is filled, and `x` is the next item
pub lists_short : {T : Type 0} (items before out : List T) (x : T) (rest : List T) (n : ℕ) → n ≡ length items → out ≡ items ++ drop (length items) before → length items ≡ length before →
    Lists (items ++ x ∷ rest) before (record { placed = n; unplaced = Some x }) out
lists_short items before out x rest n k e full =
    let both = length-append items (x ∷ rest) in
    record {
      placed = omega arith;
      contents = e ∙ ap (λ m. items ++ drop m before) (sym k) ∙ ap (λ l. l ++ drop n before) (sym (take_at items (x ∷ rest) n (sym k)));
      unplaced = (rest, drop_at items (x ∷ rest) n (sym k));
    }

-- a list that is being placed: of `all`, the items before `rest` fill the first `n` places of `out`
pub record Placing {T : Type 0} (all before rest out : List T) (n : ℕ) : Type 0 where
  pub items : List T
  pub split : items ++ rest ≡ all
  pub count : n ≡ length items
  pub room : length items ≤ length before
  pub contents : out ≡ items ++ drop (length items) before

-- before the first item
pub placing_none : {T : Type 0} {all before out : List T} {n : ℕ} → n ≡ 0 → out ≡ before → Placing all before all out n
placing_none k e = record { items = []; split = refl; count = k; room = omega arith; contents = e }

-- the same list, by another name for what is left
pub placing_rest : {T : Type 0} {all before rest rest' out : List T} {n : ℕ} → rest ≡ rest' → Placing all before rest out n → Placing all before rest' out n
placing_rest e p = record { items = p.items; split = ap (λ l. p.items ++ l) (sym e) ∙ p.split; count = p.count; room = p.room; contents = p.contents }

-- the same list, by another name for what the memory held
pub placing_before : {T : Type 0} {all before before' rest out : List T} {n : ℕ} → before ≡ before' → Placing all before rest out n → Placing all before' rest out n
placing_before {all = all} {rest = rest} {out = out} {n = n} e p = subst (λ l. Placing all l rest out n) e p

-- one item more has its place
pub placing_put : {T : Type 0} {all before rest out out' : List T} {x : T} {n m : ℕ} → Placing all before (x ∷ rest) out n → Puts out n x (Ok tt) out' m →
    Placing all before rest out' m
placing_put {before = before} {rest = rest} {out = out} {x = x} p puts =
    let both = length-append p.items (drop (length p.items) before) in
    let past = length-drop (length p.items) before in
    let whole = ap length p.contents in
    let lt : length p.items < length before = omega arith in
    let more = length_push p.items x in
    record {
      items = p.items ++ x ∷ [];
      split = append_assoc p.items (x ∷ []) rest ∙ p.split;
      count = omega arith;
      room = omega arith;
      contents = puts.2 ∙ ap (λ k. set out k x) p.count ∙ lent_put before p.items out x p.contents lt;
    }

-- nothing is left
pub placing_complete : {T : Type 0} {all before out out' : List T} {n m : ℕ} → m ≡ n → out' ≡ out → Placing all before [] out n →
    Lists all before (record { placed = m; unplaced = None }) out'
placing_complete {before = before} {out' = out'} {m = m} k e p =
    let all_Placed = sym (append-nil p.items) ∙ p.split in
    subst (λ l. Lists l before (record { placed = m; unplaced = None }) out') all_Placed
    (lists_complete p.items before out' m (k ∙ p.count) (e ∙ p.contents) p.room)

-- an item is left, and no place
pub placing_short : {T : Type 0} {all before rest out out' : List T} {x : T} {n m : ℕ} → m ≡ n → out' ≡ out → length out ≤ n → Placing all before (x ∷ rest) out n →
    Lists all before (record { placed = m; unplaced = Some x }) out'
placing_short {before = before} {rest = rest} {out' = out'} {x = x} {m = m} k e full p =
    let both = length-append p.items (drop (length p.items) before) in
    let past = length-drop (length p.items) before in
    let whole = ap length p.contents in
    subst (λ l. Lists l before (record { placed = m; unplaced = Some x }) out') p.split
    (lists_short p.items before out' x rest m (k ∙ p.count) (e ∙ p.contents) (omega arith))
