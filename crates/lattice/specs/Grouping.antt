-- The laws of an oblique symmetry.
use Rattle.std.specs.Prelude.{◌≡◌, ℕ, ◌<◌, ◌≤◌, Bool, true, false, not, [], ◌∷◌, ℤ, pos, ◌+ℤ◌, ◌-ℤ◌, ◌*ℤ◌, nat_abs, refl}
use Rattle.std.proofs.Common.{sym, ap, ap₂, ◌∙◌, inl, arith, mul_comm, lit≤}
use Rattle.std.proofs.Math.IntN.{pos-ne-negsuc}
use Rattle.std.proofs.lemmas.Bool.{both_ways}
use Rattle.ints.proofs.Ring.{var, lit, ◌⊕◌, ◌⊖◌, ◌⊗◌, ring, ring_by, hyp}
use Rattle.plane.specs.declared.cell.Cell.{Cell}
use Rattle.plane.specs.Operation.{Operation, carry, compose, determinant, translation}
use Rattle.plane.specs.Kinds.{has}
use Rattle.plane.specs.Laws.{Group, Lawful, Carried, CarriedAs}
use Rattle.plane.proofs.Algebra.{same_operation}
use Rattle.lattice.specs.declared.vectors.Vectors.{Vectors}
use Rattle.lattice.specs.declared.reduced.Reduced.{Reduced}
use Rattle.lattice.specs.Lattice.{lattice, area, small, parallel}
use Rattle.lattice.specs.Reduction.{Reduces, reduction}
use Rattle.lattice.specs.Oblique.{boxed, proper_alone, oblique}
use Rattle.lattice.specs.Combining.{less, mixed, none}
use Rattle.lattice.specs.Boxing.{carried_by, home_distance, in_box, only}
use Rattle.lattice.specs.Sizes.{small_is, area_some, area_bound, factor_at_most}
use Rattle.lattice.specs.Euclid.{reduces}

-- ---- the group
x_sum : (x x' y' : ℤ) → pos 1 *ℤ x' +ℤ pos 0 *ℤ y' +ℤ x ≡ pos 1 *ℤ x +ℤ pos 1 *ℤ x'
x_sum x x' y' = ring (x ∷ x' ∷ y' ∷ []) (lit (pos 1) ⊗ var 1 ⊕ lit (pos 0) ⊗ var 2 ⊕ var 0) (lit (pos 1) ⊗ var 0 ⊕ lit (pos 1) ⊗ var 1) tt

y_sum : (y x' y' : ℤ) → pos 0 *ℤ x' +ℤ pos 1 *ℤ y' +ℤ y ≡ pos 1 *ℤ y +ℤ pos 1 *ℤ y'
y_sum y x' y' = ring (y ∷ x' ∷ y' ∷ []) (lit (pos 0) ⊗ var 1 ⊕ lit (pos 1) ⊗ var 2 ⊕ var 0) (lit (pos 1) ⊗ var 0 ⊕ lit (pos 1) ⊗ var 2) tt

x_undone : (x y : ℤ) → pos 1 *ℤ x +ℤ pos 0 *ℤ y +ℤ (pos 0 -ℤ pos 1 *ℤ x) ≡ pos 0
x_undone x y = ring (x ∷ y ∷ []) (lit (pos 1) ⊗ var 0 ⊕ lit (pos 0) ⊗ var 1 ⊕ (lit (pos 0) ⊖ lit (pos 1) ⊗ var 0)) (lit (pos 0)) tt

y_undone : (x y : ℤ) → pos 0 *ℤ x +ℤ pos 1 *ℤ y +ℤ (pos 0 -ℤ pos 1 *ℤ y) ≡ pos 0
y_undone x y = ring (x ∷ y ∷ []) (lit (pos 0) ⊗ var 0 ⊕ lit (pos 1) ⊗ var 1 ⊕ (lit (pos 0) ⊖ lit (pos 1) ⊗ var 1)) (lit (pos 0)) tt

lattice_group : (v : Vectors) → Group (lattice v)
lattice_group v = record {
  unimodular = λ g m. inl (ap determinant m.3);
  unit = (pos 0, pos 0, none v, refl);
  closed = λ g h m n. (
    pos 1 *ℤ m.0 +ℤ pos 1 *ℤ n.0,
    pos 1 *ℤ m.1 +ℤ pos 1 *ℤ n.1,
    mixed v (pos 1) (pos 1) m.0 m.1 n.0 n.1 m.2 n.2,
    ap₂ compose m.3 n.3 ∙ same_operation refl refl refl refl (x_sum m.0 n.0 n.1) (y_sum m.1 n.0 n.1) refl,
  );
  inverse = λ g m.
      let h : Operation = translation (pos 0 -ℤ pos 1 *ℤ m.0) (pos 0 -ℤ pos 1 *ℤ m.1) in (
        h,
        (pos 0 -ℤ pos 1 *ℤ m.0, pos 0 -ℤ pos 1 *ℤ m.1, less v (pos 1) (pos 0) (pos 0) m.0 m.1 (none v) m.2, refl),
        ap (compose h) m.3 ∙ same_operation refl refl refl refl (x_undone m.0 m.1) (y_undone m.0 m.1) refl,
      );
  single = λ g m n. both_ways false refl (sym (ap (λ (h : Operation). h.odd) n.3) ∙ ap (λ (h : Operation). not h.odd) m.3);
}

-- ---- kinds
exactly : (v : Vectors) (p q : Cell) → Carried (lattice v) p q → (o f : Bool) → (has proper_alone o f ≡ true → CarriedAs (lattice v) o f p q) × (CarriedAs (lattice v) o f p q → has proper_alone o f ≡ true)
exactly v p q c false false = (λ _. (c.0, c.1, c.2, ap (λ (h : Operation). h.odd) c.1.3, ap determinant c.1.3), λ _. refl)
exactly v p q c true false = (λ e. absurd (both_ways false refl e), λ k. absurd (both_ways false refl (sym (ap (λ (h : Operation). h.odd) k.1.3) ∙ k.3)))
exactly v p q c true true = (λ e. absurd (both_ways false refl e), λ k. absurd (both_ways false refl (sym (ap (λ (h : Operation). h.odd) k.1.3) ∙ k.3)))
exactly v p q c false true = (λ e. absurd (both_ways false refl e), λ k. absurd (pos-ne-negsuc 1 0 (sym (ap determinant k.1.3) ∙ k.4)))

-- ---- homes
between : (a b p q : ℤ) → a ≡ b → (a -ℤ p) -ℤ pos 1 *ℤ (b -ℤ q) ≡ q -ℤ p
between a b p q e = ring_by (a ∷ b ∷ p ∷ q ∷ []) (hyp (lit (pos 1)) (var 0) (var 1) e ∷ []) ((var 0 ⊖ var 2) ⊖ lit (pos 1) ⊗ (var 1 ⊖ var 3)) (var 3 ⊖ var 2) tt

x_onward : (h q x y u : ℤ) → pos 1 *ℤ x +ℤ pos 0 *ℤ y +ℤ u ≡ q → pos 1 *ℤ (h -ℤ q) +ℤ pos 1 *ℤ u ≡ h -ℤ x
x_onward h q x y u e =
    ring_by (h ∷ q ∷ x ∷ y ∷ u ∷ []) (hyp (lit (pos 1)) (lit (pos 1) ⊗ var 2 ⊕ lit (pos 0) ⊗ var 3 ⊕ var 4) (var 1) e ∷ []) (lit (pos 1) ⊗ (var 0 ⊖ var 1) ⊕ lit (pos 1) ⊗ var 4) (var 0 ⊖ var 2) tt

y_onward : (h q x y u : ℤ) → pos 0 *ℤ x +ℤ pos 1 *ℤ y +ℤ u ≡ q → pos 1 *ℤ (h -ℤ q) +ℤ pos 1 *ℤ u ≡ h -ℤ y
y_onward h q x y u e =
    ring_by (h ∷ q ∷ x ∷ y ∷ u ∷ []) (hyp (lit (pos 1)) (lit (pos 0) ⊗ var 2 ⊕ lit (pos 1) ⊗ var 3 ⊕ var 4) (var 1) e ∷ []) (lit (pos 1) ⊗ (var 0 ⊖ var 1) ⊕ lit (pos 1) ⊗ var 4) (var 0 ⊖ var 3) tt

module _ (v : Vectors) (t : Reduced) (r : Reduces v t) where
  -- cells with one home are images of each other
  apart : (p q : Cell) → boxed t p ≡ boxed t q → Carried (lattice v) p q
  apart p q e =
      let c = less v (pos 1) ((boxed t p).x -ℤ p.x) ((boxed t p).y -ℤ p.y) ((boxed t q).x -ℤ q.x) ((boxed t q).y -ℤ q.y) (home_distance v t r p) (home_distance v t r q) in
      let ex = between (boxed t p).x (boxed t q).x p.x q.x (ap (λ (o : Cell). o.x) e) in
      let ey = between (boxed t p).y (boxed t q).y p.y q.y (ap (λ (o : Cell). o.y) e) in
      carried_by v p q (c.0, c.1, sym ex ∙ c.2, sym ey ∙ c.3)

  -- the home of an image is an image, in the box: it is the home
  same : (p q : Cell) → Carried (lattice v) p q → boxed t p ≡ boxed t q
  same p q c =
      let g = c.1 in
      let lands : carry (translation g.0 g.1) p ≡ q = ap (λ (h : Operation). carry h p) (sym g.3) ∙ c.2 in
      let k = mixed v (pos 1) (pos 1) ((boxed t q).x -ℤ q.x) ((boxed t q).y -ℤ q.y) g.0 g.1 (home_distance v t r q) g.2 in
      let ex = x_onward (boxed t q).x q.x p.x p.y g.0 (ap (λ (o : Cell). o.x) lands) in
      let ey = y_onward (boxed t q).y q.y p.x p.y g.1 (ap (λ (o : Cell). o.y) lands) in
      sym (only v t r p (boxed t q) (carried_by v p (boxed t q) (k.0, k.1, sym ex ∙ k.2, sym ey ∙ k.3)) (in_box v t r q))

close : (z : ℤ) (n k : ℕ) → z ≡ pos n → n < k → k ≤ 131_072 → nat_abs z ≤ 131_072
close z n k e h l = omega (arith, ap nat_abs e)

pub oblique_laws : (v : Vectors) → small v ≡ true → parallel v ≡ false → Lawful (oblique v)
oblique_laws v s off =
    let t : Reduced = reduction v in
    let r : Reduces v t = reduces v (area_some v off) in
    let bound : nat_abs (area v) ≤ 131_072 = area_bound v (small_is v s) in
    let wide : t.p ≤ nat_abs (area v) = factor_at_most t.p t.d (nat_abs (area v)) r.height r.size in
    let high : t.d ≤ nat_abs (area v) = factor_at_most t.d t.p (nat_abs (area v)) (omega (arith, r.below)) (mul_comm t.d t.p ∙ r.size) in
    record {
      group = lattice_group v;
      span_low = lit≤ tt;
      span_high = lit≤ tt;
      hem_low = lit≤ tt;
      hem_high = lit≤ tt;
      near = λ p w.
          let b = in_box v t r p in
          (close (boxed t p).x b.column.0 t.p b.column.1 b.column.2 (omega arith), close (boxed t p).y b.row.0 t.d b.row.1 b.row.2 (omega arith));
      carried = λ p w. carried_by v p (boxed t p) (home_distance v t r p);
      one_home = λ p q w z. (apart v t r p q, same v t r p q);
      exact = λ p w o f. exactly v p (boxed t p) (carried_by v p (boxed t p) (home_distance v t r p)) o f;
    }
