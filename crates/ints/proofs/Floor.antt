-- The laws of specs/Floor.antt.
use Rattle.std.proofs.Common.{◌≡◌, ℕ, zero, suc, ◌<◌, ◌≤◌, [], ◌∷◌, ℤ, pos, negsuc, ◌+ℤ◌, ◌-ℤ◌, ◌*ℤ◌, neg_ℤ, nat_abs, sym, refl, ap, mod-lt, arith}
use native.Mathlib.Nat.{mod-add-div'}
use borrow.Author.Differences.{ints}
use Rattle.ints.specs.Floor.{floor_mod, floor_div, Splits, Cong, FloorExists, FloorUnique, FloorCong}
use Rattle.ints.proofs.Ring.{var, lit, ◌⊕◌, ◌⊖◌, ◌⊗◌, neg, ring, ring_by, hyp}
use Rattle.std.specs.Int.{int_rem_euclid, int_div_euclid}

pub floor_lt : (x : ℤ) (p : ℕ) → 1 ≤ p → floor_mod x p < p
floor_lt (pos a) p h = mod-lt a h
floor_lt (negsuc a) p h = omega arith

pub floor_eq : (x : ℤ) (p : ℕ) → 1 ≤ p → x ≡ pos (floor_mod x p) +ℤ floor_div x p *ℤ pos p
floor_eq (pos a) p h = ap pos (sym (mod-add-div' a p))
floor_eq (negsuc a) p h = omega (arith, ints, mod-lt a h, mod-add-div' a p)

pub floor_splits : FloorExists
floor_splits x p h = record { below = floor_lt x p h; is = floor_eq x p h }

-- two remainders that differ by a multiple of p
apart : (p r s : ℕ) (m : ℤ) → r < p → s < p → pos r +ℤ m *ℤ pos p ≡ pos s → (r ≡ s) × (m ≡ pos 0)
apart p r s (pos zero) a b e = (omega (arith, ap nat_abs e), refl)
apart p r s (pos (suc n)) a b e = absurd (omega (arith, ap nat_abs e))
apart p r s (negsuc n) a b e = absurd (omega (arith, ints))

pub floor_unique : FloorUnique
floor_unique x p r s k l a b =
    let R = var 0 in let S = var 1 in let K = var 2 in let L = var 3 in let P = var 4 in let X = var 5 in
    let ρ = pos r ∷ pos s ∷ k ∷ l ∷ pos p ∷ x ∷ [] in
    let e : pos r +ℤ (k -ℤ l) *ℤ pos p ≡ pos s =
    ring_by ρ (hyp (lit (negsuc 0)) X (R ⊕ K ⊗ P) a.is ∷ hyp (lit (pos 1)) X (S ⊕ L ⊗ P) b.is ∷ []) (R ⊕ (K ⊖ L) ⊗ P) S tt in
    let z = apart p r s (k -ℤ l) a.below b.below e in
    (z.0, ring_by ρ (hyp (lit (pos 1)) (K ⊖ L) (lit (pos 0)) z.1 ∷ []) K L tt)

-- to find a remainder: show one
pub floor_is : (x : ℤ) (p r : ℕ) (k : ℤ) → Splits x p r k → (floor_mod x p ≡ r) × (floor_div x p ≡ k)
floor_is x p r k s = floor_unique x p (floor_mod x p) r (floor_div x p) k (floor_splits x p (omega (arith, s.below))) s

pub floor_cong_to : (x y : ℤ) (p : ℕ) → 1 ≤ p → Cong p x y → floor_mod x p ≡ floor_mod y p
floor_cong_to x y p h c =
    let X = var 0 in let Y = var 1 in let K = var 2 in let R = var 3 in let Q = var 4 in let P = var 5 in
    let ρ = x ∷ y ∷ c.0 ∷ pos (floor_mod y p) ∷ floor_div y p ∷ pos p ∷ [] in
    let e : x ≡ pos (floor_mod y p) +ℤ (floor_div y p +ℤ c.0) *ℤ pos p =
    ring_by ρ (hyp (lit (pos 1)) X (Y ⊕ K ⊗ P) c.1 ∷ hyp (lit (pos 1)) Y (R ⊕ Q ⊗ P) (floor_eq y p h) ∷ []) X (R ⊕ (Q ⊕ K) ⊗ P) tt in
    (floor_is x p (floor_mod y p) (floor_div y p +ℤ c.0) (record { below = floor_lt y p h; is = e })).0

pub floor_cong_from : (x y : ℤ) (p : ℕ) → 1 ≤ p → floor_mod x p ≡ floor_mod y p → Cong p x y
floor_cong_from x y p h e =
    let X = var 0 in let Y = var 1 in let R = var 2 in let S = var 3 in let Q = var 4 in let T = var 5 in let P = var 6 in
    let ρ = x ∷ y ∷ pos (floor_mod x p) ∷ pos (floor_mod y p) ∷ floor_div x p ∷ floor_div y p ∷ pos p ∷ [] in (
      floor_div x p -ℤ floor_div y p,
      ring_by ρ (hyp (lit (pos 1)) X (R ⊕ Q ⊗ P) (floor_eq x p h) ∷ hyp (lit (negsuc 0)) Y (S ⊕ T ⊗ P) (floor_eq y p h) ∷ hyp (lit (pos 1)) R S (ap pos e) ∷ [])
          X (Y ⊕ (Q ⊖ T) ⊗ P) tt,
    )

pub floor_cong : FloorCong
floor_cong x y p h = (floor_cong_from x y p h, floor_cong_to x y p h)

-- ---- congruences
pub cong_refl : (p : ℕ) (x : ℤ) → Cong p x x
cong_refl p x = (pos 0, ring (x ∷ pos p ∷ []) (var 0) (var 0 ⊕ lit (pos 0) ⊗ var 1) tt)

pub cong_sym : (p : ℕ) (x y : ℤ) → Cong p x y → Cong p y x
cong_sym p x y c =
    (neg_ℤ c.0, ring_by (x ∷ y ∷ c.0 ∷ pos p ∷ []) (hyp (lit (negsuc 0)) (var 0) (var 1 ⊕ var 2 ⊗ var 3) c.1 ∷ []) (var 1) (var 0 ⊕ neg (var 2) ⊗ var 3) tt)

pub cong_trans : (p : ℕ) (x y z : ℤ) → Cong p x y → Cong p y z → Cong p x z
cong_trans p x y z c d =
    let X = var 0 in let Y = var 1 in let Z = var 2 in let K = var 3 in let L = var 4 in let P = var 5 in
    (c.0 +ℤ d.0, ring_by (x ∷ y ∷ z ∷ c.0 ∷ d.0 ∷ pos p ∷ []) (hyp (lit (pos 1)) X (Y ⊕ K ⊗ P) c.1 ∷ hyp (lit (pos 1)) Y (Z ⊕ L ⊗ P) d.1 ∷ []) X (Z ⊕ (K ⊕ L) ⊗ P) tt)

pub cong_add : (p : ℕ) (x y u v : ℤ) → Cong p x y → Cong p u v → Cong p (x +ℤ u) (y +ℤ v)
cong_add p x y u v c d =
    let X = var 0 in let Y = var 1 in let U = var 2 in let V = var 3 in let K = var 4 in let L = var 5 in let P = var 6 in
    (c.0 +ℤ d.0, ring_by (x ∷ y ∷ u ∷ v ∷ c.0 ∷ d.0 ∷ pos p ∷ []) (hyp (lit (pos 1)) X (Y ⊕ K ⊗ P) c.1 ∷ hyp (lit (pos 1)) U (V ⊕ L ⊗ P) d.1 ∷ []) (X ⊕ U) (Y ⊕ V ⊕ (K ⊕ L) ⊗ P) tt)

-- x * u = (y + k p) (v + l p): the multiple is k u + y l
pub cong_mul : (p : ℕ) (x y u v : ℤ) → Cong p x y → Cong p u v → Cong p (x *ℤ u) (y *ℤ v)
cong_mul p x y u v c d =
    let X = var 0 in let Y = var 1 in let U = var 2 in let V = var 3 in let K = var 4 in let L = var 5 in let P = var 6 in
    (c.0 *ℤ u +ℤ y *ℤ d.0, ring_by (x ∷ y ∷ u ∷ v ∷ c.0 ∷ d.0 ∷ pos p ∷ []) (hyp U X (Y ⊕ K ⊗ P) c.1 ∷ hyp Y U (V ⊕ L ⊗ P) d.1 ∷ []) (X ⊗ U) (Y ⊗ V ⊕ (K ⊗ U ⊕ Y ⊗ L) ⊗ P) tt)

pub floor_cong_self : (x : ℤ) (p : ℕ) → 1 ≤ p → Cong p x (pos (floor_mod x p))
floor_cong_self x p h = (floor_div x p, floor_eq x p h)

-- ---- what core's contracts say
pub rem_euclid_is : (x : ℤ) (p : ℕ) → int_rem_euclid x (pos p) ≡ pos (floor_mod x p)
rem_euclid_is (pos a) p = refl
rem_euclid_is (negsuc a) p = refl

pub div_euclid_is : (x : ℤ) (p : ℕ) → int_div_euclid x (pos p) ≡ floor_div x p
div_euclid_is (pos a) p = refl
div_euclid_is (negsuc a) p = refl
