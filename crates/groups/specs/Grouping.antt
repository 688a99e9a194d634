-- The operations of a tabled group form a group.
use Rattle.std.specs.Prelude.{◌≡◌, ℕ, ◌/◌, ◌%◌, ◌≤◌, Bool, true, false, not, [], ◌∷◌, ℤ, pos, negsuc, ◌+ℤ◌, ◌*ℤ◌, neg_ℤ, ◌==◌, nat_le, refl}
use Rattle.std.proofs.Common.{sym, ap, ap₂, ◌∙◌, subst, arith, leb-true, eqb-true}
use Rattle.std.proofs.Math.IntN.{+ℤ_comm}
use Rattle.std.proofs.lemmas.Int.{ints}
use Rattle.std.proofs.lemmas.Bool.{and_parts, both_ways, leb-false}
use Rattle.std.proofs.lemmas.Bool.Decides.{Decides-int_eq}
use Rattle.std.specs.Ordering.{int_eq}
use Rattle.ints.proofs.Ring.{var, lit, ◌⊕◌, ◌⊖◌, ◌⊗◌, ring_by, hyp}
use Rattle.plane.specs.Operation.{Operation, compose, identity, translation, turned, Unimodular}
use Rattle.plane.specs.Laws.{Group}
use Rattle.plane.proofs.Algebra.{same_operation}
use Rattle.groups.specs.declared.position.Position.{Position}
use Rattle.groups.specs.Lists.{In, some}
use Rattle.groups.specs.Table.{rows, unit, Product, Closed}
use Rattle.groups.specs.Rules.{shifts_x, shifts_y, needs, allowed}
use Rattle.groups.specs.Positions.{operation}
use Rattle.groups.specs.Tabled.{Operates}
use Rattle.groups.specs.Members.{in_some}

-- ---- what the rules of the periods say of each position
pub record Fit (p q : ℕ) (r : Position) : Type 0 where
  pub x : r.s *ℤ pos (p / 2) +ℤ r.s *ℤ pos (p / 2) ≡ r.s *ℤ pos p
  pub y : r.t *ℤ pos (q / 2) +ℤ r.t *ℤ pos (q / 2) ≡ r.t *ℤ pos q
  pub b : r.b *ℤ pos q ≡ r.b *ℤ pos p
  pub c : r.c *ℤ pos p ≡ r.c *ℤ pos q

pub record Rules (n p q : ℕ) : Type 0 where
  pub p_low : 1 ≤ p
  pub p_high : p ≤ 128
  pub q_low : 1 ≤ q
  pub q_high : q ≤ 128
  pub square : needs (nat_le 10 n) (p == q) ≡ true
  pub across : needs (some shifts_x (rows n)) (p % 2 == 0) ≡ true
  pub down : needs (some shifts_y (rows n)) (q % 2 == 0) ≡ true

pub rules : (n p q : ℕ) → allowed n p q ≡ true → Rules n p q
rules n p q e =
    let a = and_parts _ _ e in
    let b = and_parts _ _ a.1 in
    let s = and_parts _ _ b.1 in
    let h = and_parts _ _ s.1 in
    let ps = and_parts (nat_le 1 p) (nat_le p 128) a.0 in
    let qs = and_parts (nat_le 1 q) (nat_le q 128) b.0 in
    record {
      p_low = leb-true 1 p ps.0;
      p_high = leb-true p 128 ps.1;
      q_low = leb-true 1 q qs.0;
      q_high = leb-true q 128 qs.1;
      square = s.0;
      across = h.0;
      down = h.1;
    }

needed : (c b : Bool) → needs c b ≡ true → c ≡ true → b ≡ true
needed true b t u = t
needed false b t u = absurd (both_ways false refl u)

-- a shift by half periods, twice, is one by periods: there is none, or the period is even
doubled : (s : ℤ) (p : ℕ) (b : Bool) → int_eq s (pos 0) ≡ b → (not b ≡ true → (p % 2 == 0) ≡ true) → s *ℤ pos (p / 2) +ℤ s *ℤ pos (p / 2) ≡ s *ℤ pos p
doubled s p true e h =
    let z = (Decides-int_eq s (pos 0)).0 e in
    ring_by (s ∷ pos (p / 2) ∷ pos p ∷ []) (hyp (var 1 ⊕ var 1 ⊖ var 2) (var 0) (lit (pos 0)) z ∷ []) (var 0 ⊗ var 1 ⊕ var 0 ⊗ var 1) (var 0 ⊗ var 2) tt
doubled s p false e h =
    let m = eqb-true (p % 2) 0 (h refl) in
    let z : pos (p / 2) +ℤ pos (p / 2) ≡ pos p = ap pos (omega arith) in
    ring_by (s ∷ pos (p / 2) ∷ pos p ∷ []) (hyp (var 0) (var 1 ⊕ var 1) (var 2) z ∷ []) (var 0 ⊗ var 1 ⊕ var 0 ⊗ var 1) (var 0 ⊗ var 2) tt

-- a position exchanges no coordinates, or the periods are equal
crossed : (n p q : ℕ) (z : ℤ) → needs (nat_le 10 n) (p == q) ≡ true → (n ≤ 9 → z ≡ pos 0) → z *ℤ pos q ≡ z *ℤ pos p
crossed n p q z t h = go (nat_le 10 n) refl t
  where
    go : (b : Bool) → nat_le 10 n ≡ b → needs b (p == q) ≡ true → z *ℤ pos q ≡ z *ℤ pos p
    go true e u = ap (λ (m : ℕ). z *ℤ pos m) (sym (eqb-true p q u))
    go false e u = let w = h (let l = leb-false 10 n e in omega arith) in ring_by (z ∷ pos q ∷ pos p ∷ []) (hyp (var 1 ⊖ var 2) (var 0) (lit (pos 0)) w ∷ []) (var 0 ⊗ var 1) (var 0 ⊗ var 2) tt

pub fit : (n p q : ℕ) → Closed n (rows n) → Rules n p q → (r : Position) → In r (rows n) → Fit p q r
fit n p q cl ru r i = record {
  x = doubled r.s p (int_eq r.s (pos 0)) refl (λ t. needed (some shifts_x (rows n)) (p % 2 == 0) ru.across (in_some shifts_x (rows n) r i t));
  y = doubled r.t q (int_eq r.t (pos 0)) refl (λ t. needed (some shifts_y (rows n)) (q % 2 == 0) ru.down (in_some shifts_y (rows n) r i t));
  b = crossed n p q r.b ru.square (λ h. (cl.upright r i h).0);
  c = sym (crossed n p q r.c ru.square (λ h. (cl.upright r i h).1));
}

-- ---- a position followed by a translation by i and j periods
abbrev pub at : ℕ → ℕ → Position → ℤ → ℤ → Operation
at p q r i j = record { a = r.a; b = r.b; c = r.c; d = r.d; e = r.s *ℤ pos (p / 2) +ℤ i *ℤ pos p; f = r.t *ℤ pos (q / 2) +ℤ j *ℤ pos q; odd = false }

first : (x y : ℤ) → pos 1 *ℤ x +ℤ pos 0 *ℤ y ≡ x
first x y = omega (arith, ints)

second : (x y : ℤ) → pos 0 *ℤ x +ℤ pos 1 *ℤ y ≡ y
second x y = omega (arith, ints)

first_end : (x y z : ℤ) → pos 1 *ℤ x +ℤ pos 0 *ℤ y +ℤ z ≡ x +ℤ z
first_end x y z = omega (arith, ints)

second_end : (x y z : ℤ) → pos 0 *ℤ x +ℤ pos 1 *ℤ y +ℤ z ≡ y +ℤ z
second_end x y z = omega (arith, ints)

pub at_is : (p q : ℕ) (r : Position) (i j : ℤ) → compose (translation (i *ℤ pos p) (j *ℤ pos q)) (operation p q r) ≡ at p q r i j
at_is p q r i j = same_operation
    (first r.a r.c) (first r.b r.d) (second r.a r.c) (second r.b r.d)
    (first_end (r.s *ℤ pos (p / 2)) (r.t *ℤ pos (q / 2)) (i *ℤ pos p))
    (second_end (r.s *ℤ pos (p / 2)) (r.t *ℤ pos (q / 2)) (j *ℤ pos q))
    refl

pub operates : (n p q : ℕ) (r : Position) (i j : ℤ) → In r (rows n) → Operates n p q (at p q r i j)
operates n p q r i j l = record { position = r; listed = l; across = i; down = j; is = sym (at_is p q r i j) }

pub is_at : (n p q : ℕ) (g : Operation) (o : Operates n p q g) → g ≡ at p q o.position o.across o.down
is_at n p q g o = o.is ∙ at_is p q o.position o.across o.down

-- ---- composition
twice : (x y : ℤ) → x +ℤ x ≡ y +ℤ y → x ≡ y
twice x y e = omega (arith, ints)

-- the shifts of a composition, along one coordinate. h and h' are the halves of the periods p and p'
shifts : (α β s1 s2 t2 ks m i1 i2 j2 h h' p p' : ℤ)
    → s1 *ℤ h +ℤ s1 *ℤ h ≡ s1 *ℤ p → s2 *ℤ h +ℤ s2 *ℤ h ≡ s2 *ℤ p → t2 *ℤ h' +ℤ t2 *ℤ h' ≡ t2 *ℤ p' → ks *ℤ h +ℤ ks *ℤ h ≡ ks *ℤ p
    → β *ℤ p' ≡ β *ℤ p → α *ℤ s2 +ℤ β *ℤ t2 +ℤ s1 ≡ ks +ℤ (m +ℤ m)
    → α *ℤ (s2 *ℤ h +ℤ i2 *ℤ p) +ℤ β *ℤ (t2 *ℤ h' +ℤ j2 *ℤ p') +ℤ (s1 *ℤ h +ℤ i1 *ℤ p) ≡ ks *ℤ h +ℤ (m +ℤ (α *ℤ i2 +ℤ β *ℤ j2) +ℤ i1) *ℤ p
shifts α β s1 s2 t2 ks m i1 i2 j2 h h' p p' x1 x2 y2 xk eb es =
    let A = var 0 in let B = var 1 in let S1 = var 2 in let S2 = var 3 in let T2 = var 4 in let KS = var 5 in let M = var 6 in
    let I1 = var 7 in let I2 = var 8 in let J2 = var 9 in let H = var 10 in let H' = var 11 in let P = var 12 in let P' = var 13 in
    let ρ = α ∷ β ∷ s1 ∷ s2 ∷ t2 ∷ ks ∷ m ∷ i1 ∷ i2 ∷ j2 ∷ h ∷ h' ∷ p ∷ p' ∷ [] in
    let L = A ⊗ (S2 ⊗ H ⊕ I2 ⊗ P) ⊕ B ⊗ (T2 ⊗ H' ⊕ J2 ⊗ P') ⊕ (S1 ⊗ H ⊕ I1 ⊗ P) in
    let R = KS ⊗ H ⊕ (M ⊕ (A ⊗ I2 ⊕ B ⊗ J2) ⊕ I1) ⊗ P in
    twice _ _ (ring_by ρ
    (hyp (lit (pos 1)) (S1 ⊗ H ⊕ S1 ⊗ H) (S1 ⊗ P) x1 ∷
    hyp A (S2 ⊗ H ⊕ S2 ⊗ H) (S2 ⊗ P) x2 ∷
    hyp B (T2 ⊗ H' ⊕ T2 ⊗ H') (T2 ⊗ P') y2 ∷
    hyp (lit (negsuc 0)) (KS ⊗ H ⊕ KS ⊗ H) (KS ⊗ P) xk ∷
    hyp (T2 ⊕ J2 ⊕ J2) (B ⊗ P') (B ⊗ P) eb ∷
    hyp P (A ⊗ S2 ⊕ B ⊗ T2 ⊕ S1) (KS ⊕ (M ⊕ M)) es ∷ [])
    (L ⊕ L) (R ⊕ R) tt)

pub compose-at : (p q : ℕ) (g h k : Position) (i1 j1 i2 j2 : ℤ) (w : Product g h k) → Fit p q g → Fit p q h → Fit p q k
    → compose (at p q g i1 j1) (at p q h i2 j2) ≡ at p q k (w.across +ℤ (g.a *ℤ i2 +ℤ g.b *ℤ j2) +ℤ i1) (w.down +ℤ (g.d *ℤ j2 +ℤ g.c *ℤ i2) +ℤ j1)
compose-at p q g h k i1 j1 i2 j2 w fg fh fk = same_operation w.a w.b w.c w.d
    (shifts g.a g.b g.s h.s h.t k.s w.across i1 i2 j2 (pos (p / 2)) (pos (q / 2)) (pos p) (pos q) fg.x fh.x fh.y fk.x fg.b w.s)
    (ap (λ z. z +ℤ (g.t *ℤ pos (q / 2) +ℤ j1 *ℤ pos q)) (+ℤ_comm (g.c *ℤ (h.s *ℤ pos (p / 2) +ℤ i2 *ℤ pos p)) (g.d *ℤ (h.t *ℤ pos (q / 2) +ℤ j2 *ℤ pos q)))
    ∙ shifts g.d g.c g.t h.t h.s k.t w.down j1 j2 i2 (pos (q / 2)) (pos (p / 2)) (pos q) (pos p) fg.y fh.y fh.x fk.y fg.c (ap (λ z. z +ℤ g.t) (+ℤ_comm (g.d *ℤ h.t) (g.c *ℤ h.s)) ∙ w.t))
    refl

-- ---- the identity
nothing : (z h p : ℤ) → z ≡ pos 0 → pos 0 *ℤ h +ℤ z *ℤ p ≡ pos 0
nothing z h p e = ring_by (z ∷ h ∷ p ∷ []) (hyp (var 2) (var 0) (lit (pos 0)) e ∷ []) (lit (pos 0) ⊗ var 1 ⊕ var 0 ⊗ var 2) (lit (pos 0)) tt

pub unit-at : (p q : ℕ) (i j : ℤ) → i ≡ pos 0 → j ≡ pos 0 → at p q unit i j ≡ identity
unit-at p q i j ei ej = same_operation refl refl refl refl (nothing i (pos (p / 2)) (pos p) ei) (nothing j (pos (q / 2)) (pos q) ej) refl

cancelled : (x y : ℤ) → x +ℤ y +ℤ neg_ℤ (x +ℤ y) ≡ pos 0
cancelled x y = omega (arith, ints)

-- ---- the group
pub tabled_group : (n p q : ℕ) → Closed n (rows n) → Rules n p q → Group (Operates n p q)
tabled_group n p q cl ru = record {
  unimodular = λ g o. subst (λ (z : Operation). Unimodular z) (sym (is_at n p q g o)) (cl.unimodular o.position o.listed);
  unit = subst (Operates n p q) (unit-at p q (pos 0) (pos 0) refl refl) (operates n p q unit (pos 0) (pos 0) cl.neutral);
  closed = λ g h o u.
      let k = cl.closed o.position u.position o.listed u.listed in
      let e = compose-at p q o.position u.position k.0 o.across o.down u.across u.down k.2 (fit n p q cl ru o.position o.listed) (fit n p q cl ru u.position u.listed) (fit n p q cl ru k.0 k.1) in
      subst (Operates n p q) (sym (ap₂ compose (is_at n p q g o) (is_at n p q h u) ∙ e)) (operates n p q k.0 _ _ k.1);
  inverse = λ g o.
      let k = cl.inverse o.position o.listed in
      let x = k.2.across in
      let x' = k.0.a *ℤ o.across +ℤ k.0.b *ℤ o.down in
      let y = k.2.down in
      let y' = k.0.d *ℤ o.down +ℤ k.0.c *ℤ o.across in
      let i = neg_ℤ (x +ℤ x') in
      let j = neg_ℤ (y +ℤ y') in
      let e = compose-at p q k.0 o.position unit i j o.across o.down k.2 (fit n p q cl ru k.0 k.1) (fit n p q cl ru o.position o.listed) (fit n p q cl ru unit cl.neutral) in (
        at p q k.0 i j,
        operates n p q k.0 i j k.1,
        ap (compose (at p q k.0 i j)) (is_at n p q g o) ∙ e ∙ unit-at p q _ _ (cancelled x x') (cancelled y y'),
      );
  single = λ g o u.
      let e = ap (λ (z : Operation). z.odd) (is_at n p q g o) in
      let f = ap (λ (z : Operation). z.odd) (is_at n p q (turned g) u) in
      both_ways false refl (sym f ∙ ap not e);
}
