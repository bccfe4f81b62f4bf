-- The laws of a measure, for kilos: twelve weights never reach the ends of 32 bits.
use Rattle.std.specs.Prelude.{◌≡◌, ℕ, ◌+◌, ◌*◌, ◌≤◌, true, false, List, [], ◌∷◌, length, ℤ, pos, negsuc, ◌+ℤ◌, ◌≤ℤ◌, int_le}
use Rattle.std.proofs.Common.{sym, ap, ap₂, subst, ◌∙◌, arith}
use Rattle.std.specs.Int.{saturate_to_bits}
use Rattle.std.proofs.lemmas.Int.{ints}
use Rattle.std.proofs.lemmas.Bool.{and_parts}
use Rattle.measures.specs.Scales.{Laws, laid, Allowed, Total}
use Rattle.measures.specs.declared.kilo.Kilo.{Kilo}
use Rattle.measures.specs.Kilos.{kilos, no_kilo, kilo_ok, kilo_lay}

le_yes : (a b : ℤ) → int_le a b ≡ true → a ≤ℤ b
le_yes a b h = grind (arith, ints)

yes_le : (a b : ℤ) → a ≤ℤ b → int_le a b ≡ true
yes_le a b h = grind (arith, ints)

no_le : (a b : ℤ) → int_le a b ≡ false → b ≤ℤ a
no_le a b h = grind (arith, ints)

-- not further from 0 than n weights can go
abbrev In : ℕ → ℤ → Type 0
In n z = (pos 0 ≤ℤ (z +ℤ pos (n * 1000000))) × (z ≤ℤ pos (n * 1000000))

exact : (z : ℤ) (n : ℕ) → n ≤ 12 → In n z → saturate_to_bits 31 z ≡ z
exact (pos m) n h p = ap pos (let q = p.1 in omega (arith, ints))
exact (negsuc m) n h p = ap negsuc (let q = p.0 in omega (arith, ints))

ok_range : (w : ℤ) → kilo_ok w ≡ true → In 1 w
ok_range w h =
    let p = and_parts (int_le (negsuc 999999) w) (int_le w (pos 1000000)) h in
    let a = le_yes (negsuc 999999) w p.0 in
    let b = le_yes w (pos 1000000) p.1 in
    (omega (arith, ints), omega (arith, ints))

in_more : (n : ℕ) (z w : ℤ) → In n z → kilo_ok w ≡ true → In (n + 1) (z +ℤ w)
in_more n z w p o =
    let q = ok_range w o in
    let a = p.0 in let b = p.1 in let c = q.0 in let d = q.1 in
    (omega (arith, ints), omega (arith, ints))

-- one weight more is the plain sum
plain : (n : ℕ) (t : Kilo) (w : ℤ) → In n t.value → kilo_ok w ≡ true → n + 1 ≤ 12 → (kilo_lay t w).value ≡ t.value +ℤ w
plain n t w p o h = exact (t.value +ℤ w) (n + 1) h (in_more n t.value w p o)

in_lay : (n : ℕ) (t : Kilo) (w : ℤ) → In n t.value → kilo_ok w ≡ true → n + 1 ≤ 12 → In (n + 1) (kilo_lay t w).value
in_lay n t w p o h = subst (In (n + 1)) (sym (plain n t w p o h)) (in_more n t.value w p o)

in_laid : (n : ℕ) (t : Kilo) (ws : List ℤ) → In n t.value → Allowed kilos ws → n + length ws ≤ 12 → In (n + length ws) (laid kilos t ws).value
in_laid n t [] p a h = subst (λ (m : ℕ). In m t.value) (omega arith) p
in_laid n t (w ∷ ws) p a h =
    subst (λ (m : ℕ). In m (laid kilos (kilo_lay t w) ws).value) (omega arith)
    (in_laid (n + 1) (kilo_lay t w) ws (in_lay n t w p a.0 (omega arith)) a.1 (omega arith))

in_wider : (m n : ℕ) (z : ℤ) → m ≤ n → In m z → In n z
in_wider m n z h p = let a = p.0 in let b = p.1 in (omega (arith, ints), omega (arith, ints))

in_total : (n : ℕ) (t : Kilo) → n ≤ 12 → Total kilos n t → In n t.value
in_total n t h p =
    let l = p.1 in
    in_wider (length p.0) n t.value l
    (subst (λ (k : Kilo). In (length p.0) k.value) (sym p.3)
    (subst (λ (m : ℕ). In m (laid kilos no_kilo p.0).value) (omega arith)
    (in_laid 0 no_kilo p.0 (omega (arith, ints), omega (arith, ints)) p.2 (omega arith))))

-- two weights laid on in turn are the plain sum
twice : (t : Kilo) (v w : ℤ) → Total kilos 10 t → kilo_ok v ≡ true → kilo_ok w ≡ true → (kilo_lay (kilo_lay t v) w).value ≡ t.value +ℤ v +ℤ w
twice t v w p a b =
    let i = in_total 10 t (omega arith) p in
    plain 11 (kilo_lay t v) w (in_lay 10 t v i a (omega arith)) b (omega arith) ∙ ap (λ (z : ℤ). z +ℤ w) (plain 10 t v i a (omega arith))

same_le : (a b : ℤ) → a ≡ b → int_le a b ≡ true
same_le a b e = yes_le a b (omega (arith, ints))

pub kilo_laws : Laws kilos
kilo_laws = record {
  either = λ s t p q h. yes_le t.value s.value (no_le s.value t.value h);
  transitive = λ r s t p q u h k.
      let a = le_yes r.value s.value h in
      let b = le_yes s.value t.value k in
      yes_le r.value t.value (omega (arith, ints));
  exchange = λ t v w p a b.
      let e : (kilo_lay (kilo_lay t v) w).value ≡ (kilo_lay (kilo_lay t w) v).value = twice t v w p a b ∙ omega (arith, ints) ∙ sym (twice t w v p b a) in
      (same_le (kilo_lay (kilo_lay t v) w).value (kilo_lay (kilo_lay t w) v).value e, same_le (kilo_lay (kilo_lay t w) v).value (kilo_lay (kilo_lay t v) w).value (sym e));
  monotone = λ s t w p q o h.
      let a = le_yes s.value t.value h in
      let x = plain 11 s w (in_total 11 s (omega arith) p) o (omega arith) in
      let y = plain 11 t w (in_total 11 t (omega arith) q) o (omega arith) in
      let b : (s.value +ℤ w) ≤ℤ (t.value +ℤ w) = omega (arith, ints) in
      ap₂ int_le x y ∙ yes_le (s.value +ℤ w) (t.value +ℤ w) b;
}
