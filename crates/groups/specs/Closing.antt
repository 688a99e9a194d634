-- The table is closed: one test that is computed over the whole table, lifted to each row.
use Rattle.std.specs.Prelude.{◌≡◌, ℕ, zero, suc, Bool, true, false, ◌&&◌, ◌||◌, ◌⊎◌, List, ℤ, pos, negsuc, ◌+ℤ◌, ◌-ℤ◌, ◌*ℤ◌, nat_le, refl}
use Rattle.std.proofs.Common.{sym, subst, inl, inr, arith}
use Rattle.std.proofs.lemmas.Bool.{and_parts, both_ways, le-leb, or_cases}
use Rattle.std.proofs.lemmas.Bool.Decides.{Decides-int_eq}
use Rattle.std.proofs.lemmas.Int.{ints}
use Rattle.std.specs.Ordering.{int_eq}
use Rattle.groups.specs.declared.position.Position.{Position}
use Rattle.groups.specs.Lists.{In, some, every}
use Rattle.groups.specs.Table.{numbers, starts, row, rows, first_row, end_row, unit, Product, Closed, TableClosed}
use Rattle.groups.specs.Members.{every_in, some_in, every_below, below_in, even, even_half}

abbrev product : Position → Position → Position → Bool
product g h k =
    int_eq (g.a *ℤ h.a +ℤ g.b *ℤ h.c) k.a
    && (int_eq (g.a *ℤ h.b +ℤ g.b *ℤ h.d) k.b
    && (int_eq (g.c *ℤ h.a +ℤ g.d *ℤ h.c) k.c
    && (int_eq (g.c *ℤ h.b +ℤ g.d *ℤ h.d) k.d
    && (even (g.a *ℤ h.s +ℤ g.b *ℤ h.t +ℤ g.s -ℤ k.s)
    && even (g.c *ℤ h.s +ℤ g.d *ℤ h.t +ℤ g.t -ℤ k.t)))))

equal : (a b : ℤ) → int_eq a b ≡ true → a ≡ b
equal a b = (Decides-int_eq a b).0

back : (x y z : ℤ) → x -ℤ y ≡ z → x ≡ y +ℤ z
back x y z e = omega (arith, ints)

product_is : (g h k : Position) → product g h k ≡ true → Product g h k
product_is g h k t =
    let ta = and_parts _ _ t in
    let tb = and_parts _ _ ta.1 in
    let tc = and_parts _ _ tb.1 in
    let td = and_parts _ _ tc.1 in
    let te = and_parts _ _ td.1 in
    let zs = g.a *ℤ h.s +ℤ g.b *ℤ h.t +ℤ g.s in
    let zt = g.c *ℤ h.s +ℤ g.d *ℤ h.t +ℤ g.t in
    let hs = even_half (zs -ℤ k.s) te.0 in
    let ht = even_half (zt -ℤ k.t) te.1 in
    record {
      a = equal (g.a *ℤ h.a +ℤ g.b *ℤ h.c) k.a ta.0;
      b = equal (g.a *ℤ h.b +ℤ g.b *ℤ h.d) k.b tb.0;
      c = equal (g.c *ℤ h.a +ℤ g.d *ℤ h.c) k.c tc.0;
      d = equal (g.c *ℤ h.b +ℤ g.d *ℤ h.d) k.d td.0;
      across = hs.0;
      s = back zs k.s (hs.0 +ℤ hs.0) hs.1;
      down = ht.0;
      t = back zt k.t (ht.0 +ℤ ht.0) ht.1;
    }

abbrev is_unit : Position → Bool
is_unit r = int_eq (pos 1) r.a && (int_eq (pos 0) r.b && (int_eq (pos 0) r.c && (int_eq (pos 1) r.d && (int_eq (pos 0) r.s && int_eq (pos 0) r.t))))

unit_is : (r : Position) → is_unit r ≡ true → unit ≡ r
unit_is r t =
    let ta = and_parts _ _ t in
    let tb = and_parts _ _ ta.1 in
    let tc = and_parts _ _ tb.1 in
    let td = and_parts _ _ tc.1 in
    let te = and_parts _ _ td.1 in
    let ea = equal (pos 1) r.a ta.0 in
    let eb = equal (pos 0) r.b tb.0 in
    let ec = equal (pos 0) r.c tc.0 in
    let ed = equal (pos 1) r.d td.0 in
    let es = equal (pos 0) r.s te.0 in
    let et = equal (pos 0) r.t te.1 in
    λ i. record { a = ea i; b = eb i; c = ec i; d = ed i; s = es i; t = et i }

abbrev turn : Position → ℤ
turn r = r.a *ℤ r.d -ℤ r.b *ℤ r.c

abbrev unimodular_row : Position → Bool
unimodular_row r = int_eq (turn r) (pos 1) || int_eq (turn r) (negsuc 0)

abbrev upright-row : Position → Bool
upright-row r = int_eq r.b (pos 0) && int_eq r.c (pos 0)

abbrev all_upright : Bool → List Position → Bool
all_upright true rs = every upright-row rs
all_upright false rs = true

-- the test of one group
abbrev closed_test : ℕ → List Position → Bool
closed_test n rs =
    some is_unit rs
    && (every (λ g. every (λ h. some (λ k. product g h k) rs) rs) rs
    && (every (λ g. some (λ h. product h g unit) rs) rs
    && (every unimodular_row rs
    && all_upright (nat_le n 9) rs)))

closed_is : (n : ℕ) (rs : List Position) → closed_test n rs ≡ true → Closed n rs
closed_is n rs t =
    let t1 = and_parts _ _ t in
    let t2 = and_parts _ _ t1.1 in
    let t3 = and_parts _ _ t2.1 in
    let t4 = and_parts _ _ t3.1 in
    let one = some_in is_unit rs t1.0 in
    record {
      neutral = subst (λ (z : Position). In z rs) (sym (unit_is one.0 one.2)) one.1;
      closed = λ g h i j.
          let z = some_in (λ k. product g h k) rs (every_in (λ h. some (λ k. product g h k) rs) rs (every_in (λ g. every (λ h. some (λ k. product g h k) rs) rs) rs t2.0 g i) h j) in
          (z.0, z.1, product_is g h z.0 z.2);
      inverse = λ g i.
          let z = some_in (λ h. product h g unit) rs (every_in (λ g. some (λ h. product h g unit) rs) rs t3.0 g i) in
          (z.0, z.1, product_is z.0 g unit z.2);
      unimodular = λ g i. turned g (or_cases (int_eq (turn g) (pos 1)) (int_eq (turn g) (negsuc 0)) (every_in unimodular_row rs t4.0 g i));
      upright = λ g i h. upright_is (nat_le n 9) (le-leb n 9 h) t4.1 g i;
    }
  where
    turned : (g : Position) → (int_eq (turn g) (pos 1) ≡ true) ⊎ (int_eq (turn g) (negsuc 0) ≡ true) → (turn g ≡ pos 1) ⊎ (turn g ≡ negsuc 0)
    turned g (inl t) = inl (equal (turn g) (pos 1) t)
    turned g (inr t) = inr (equal (turn g) (negsuc 0) t)

    upright_is : (b : Bool) → b ≡ true → all_upright b rs ≡ true → (g : Position) → In g rs → (g.b ≡ pos 0) × (g.c ≡ pos 0)
    upright_is true t u g i = let z = and_parts _ _ (every_in upright-row rs u g i) in (equal g.b (pos 0) z.0, equal g.c (pos 0) z.1)
    upright_is false t u g i = absurd (both_ways false refl t)

-- the whole table
whole : every_below (λ k. closed_test (suc k) (rows (suc k))) 17 ≡ true
unfolding numbers starts row rows first_row end_row
whole = refl

pub table_closed : TableClosed
table_closed (suc n) l h = closed_is (suc n) (rows (suc n)) (below_in (λ k. closed_test (suc k) (rows (suc k))) 17 whole n (omega arith))
table_closed zero l h = absurd (omega arith)
