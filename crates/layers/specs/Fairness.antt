-- What the tests of a shift and of a matrix say.
use Rattle.std.specs.Prelude.{◌≡◌, ℕ, ◌≤◌, true, ◌&&◌, ℤ, pos, ◌+ℤ◌, ◌-ℤ◌, neg_ℤ, ◌==◌, nat_le, unsigned_abs}
use Rattle.std.proofs.Common.{sym, ap, ◌∙◌, subst, arith, leb-true, eqb-true}
use Rattle.std.proofs.lemmas.Bool.{and_parts}
use Rattle.std.proofs.lemmas.Int.{ints}
use Rattle.ints.proofs.Sizes.{z64, through_64, sum_is}
use Rattle.layers.specs.declared.vector.Vector.{Vector}
use Rattle.layers.specs.declared.matrix.Matrix.{Matrix}
use Rattle.layers.specs.Shift.{reach, short}
use Rattle.layers.specs.Recast.{volume, small, fair}

pub record Short (w : Vector) : Type 0 where
  pub u : unsigned_abs w.u ≤ 1000
  pub v : unsigned_abs w.v ≤ 1000

pub short_is : (w : Vector) → short w ≡ true → Short w
short_is w e = let h = leb-true (reach w) 1000 e in record { u = omega arith; v = omega arith }

pub record Small (w : Matrix) : Type 0 where
  pub a : unsigned_abs w.a ≤ 8
  pub b : unsigned_abs w.b ≤ 8
  pub c : unsigned_abs w.c ≤ 8
  pub d : unsigned_abs w.d ≤ 8

pub small_is : (w : Matrix) → small w ≡ true → Small w
small_is w e =
    let h = and_parts (nat_le (unsigned_abs w.a) 8 && nat_le (unsigned_abs w.b) 8) (nat_le (unsigned_abs w.c) 8 && nat_le (unsigned_abs w.d) 8) e in
    let first = and_parts (nat_le (unsigned_abs w.a) 8) (nat_le (unsigned_abs w.b) 8) h.0 in
    let second = and_parts (nat_le (unsigned_abs w.c) 8) (nat_le (unsigned_abs w.d) 8) h.1 in
    record {
      a = leb-true (unsigned_abs w.a) 8 first.0;
      b = leb-true (unsigned_abs w.b) 8 first.1;
      c = leb-true (unsigned_abs w.c) 8 second.0;
      d = leb-true (unsigned_abs w.d) 8 second.1;
    }

pub record Fair (w : Matrix) : Type 0 where
  pub small : Small w
  pub unit : unsigned_abs (volume w) ≡ 1

pub fair_is : (w : Matrix) → fair w ≡ true → Fair w
fair_is w e =
    let h = and_parts (small w) (unsigned_abs (volume w) == 1) e in
    record { small = small_is w h.0; unit = eqb-true (unsigned_abs (volume w)) 1 h.1 }

-- ---- numbers that are passed through 64 bits
pub held : (z : ℤ) (n : ℕ) → unsigned_abs z ≤ n → n ≤ 2_000_000_000_000_000_000 → unsigned_abs (z64 z) ≤ n
held z n h k = subst (λ (y : ℤ). unsigned_abs y ≤ n) (sym (through_64 z (omega arith))) h

pub negated : (z : ℤ) → unsigned_abs z ≤ 1_000_000_000_000_000_000 → z64 (pos 0 -ℤ z64 z) ≡ neg_ℤ z
negated z h = ap (λ y. z64 (pos 0 -ℤ y)) (through_64 z (omega arith)) ∙ through_64 (pos 0 -ℤ z) (omega (arith, ints)) ∙ minus z
  where
    minus : (z : ℤ) → pos 0 -ℤ z ≡ neg_ℤ z
    minus z = omega (arith, ints)

pub added : (x u : ℤ) → unsigned_abs x ≤ 1_000_000_000_000 → unsigned_abs u ≤ 1000 → z64 (z64 x +ℤ z64 u) ≡ x +ℤ u
added x u h k = sum_is x u (omega arith) (omega arith)
