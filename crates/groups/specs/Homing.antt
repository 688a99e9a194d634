-- The laws of homes.
use Rattle.std.specs.Prelude.{◌≡◌, ℕ, ◌/◌, ◌<◌, ◌≤◌, Bool, true, false, cond, not, ◌⊎◌, List, [], ◌∷◌, ℤ, pos, negsuc, ◌+ℤ◌, ◌-ℤ◌, ◌*ℤ◌, neg_ℤ, nat_le, unsigned_abs, refl}
use Rattle.std.proofs.Common.{sym, ap, ◌∙◌, subst, inl, inr, arith, leb-true, lit≤}
use Rattle.std.proofs.lemmas.Bool.{and_from, and_parts, both_ways, not-true, not_from_false}
use Rattle.ints.specs.Floor.{floor_mod, floor_div}
use Rattle.ints.proofs.Floor.{floor_lt, floor_eq, floor_is, floor_cong_to}
use Rattle.ints.proofs.Ring.{var, lit, ◌⊕◌, ◌⊗◌, neg, ring, ring_by, hyp}
use Rattle.plane.specs.declared.cell.Cell.{Cell}
use Rattle.plane.specs.Operation.{Operation, carry, determinant, sign, negative}
use Rattle.plane.specs.Cells.{earlier, same}
use Rattle.plane.specs.Kinds.{has}
use Rattle.plane.specs.Laws.{Lawful, Carried, CarriedAs}
use Rattle.plane.proofs.Algebra.{same-cell, negative-sign}
use Rattle.plane.proofs.Carrying.{carried_sym, carried_trans}
use Rattle.groups.specs.declared.position.Position.{Position}
use Rattle.groups.specs.Lists.{In, some}
use Rattle.groups.specs.Table.{rows, unit, Closed}
use Rattle.groups.specs.Rules.{known, allowed}
use Rattle.groups.specs.Positions.{operation, mirrors}
use Rattle.groups.specs.Tabled.{Operates, reduced, image, first_of, least, home_in, carries, kinds_in, tabled, InRepeat, LeastImage, HomesLeast}
use Rattle.groups.specs.Members.{some_in, in_some}
use Rattle.plane.proofs.Order.{earlier_trans, earlier_flip, earlier-same, same_is, same_of}
use Rattle.groups.specs.Closing.{table_closed}
use Rattle.groups.specs.Grouping.{Rules, rules, at, operates, is_at, tabled_group}

-- ---- the repeat
reduced_in : (p q : ℕ) → 1 ≤ p → 1 ≤ q → (c : Cell) → InRepeat p q (reduced p q c)
reduced_in p q hp hq c = record { column = floor_mod c.x p; row = floor_mod c.y q; x = refl; y = refl; narrow = floor_lt c.x p hp; low = floor_lt c.y q hq }

own : (p a : ℕ) (x : ℤ) → x ≡ pos a → a < p → pos (floor_mod x p) ≡ x
own p a x e h = ap pos (floor_is x p a (pos 0) (record { below = h; is = e ∙ ring (pos a ∷ pos p ∷ []) (var 0) (var 0 ⊕ lit (pos 0) ⊗ var 1) tt })).0 ∙ sym e

pub in_reduced : (p q : ℕ) (z : Cell) → InRepeat p q z → reduced p q z ≡ z
in_reduced p q z r = same-cell (own p r.column z.x r.x r.narrow) (own q r.row z.y r.y r.low)

-- ---- images
-- the position, followed by the translation into the repeat
abbrev bring : ℕ → ℕ → Cell → Position → Operation
bring p q c r = at p q r (neg_ℤ (floor_div (carry (operation p q r) c).x p)) (neg_ℤ (floor_div (carry (operation p q r) c).y q))

brought : (u v s k p m : ℤ) → u +ℤ v +ℤ s ≡ m +ℤ k *ℤ p → u +ℤ v +ℤ (s +ℤ neg_ℤ k *ℤ p) ≡ m
brought u v s k p m e =
    ring_by (u ∷ v ∷ s ∷ k ∷ p ∷ m ∷ []) (hyp (lit (pos 1)) (var 0 ⊕ var 1 ⊕ var 2) (var 5 ⊕ var 3 ⊗ var 4) e ∷ [])
    (var 0 ⊕ var 1 ⊕ (var 2 ⊕ neg (var 3) ⊗ var 4)) (var 5) tt

bring_carries : (p q : ℕ) → 1 ≤ p → 1 ≤ q → (c : Cell) (r : Position) → carry (bring p q c r) c ≡ image p q c r
bring_carries p q hp hq c r = same-cell
    (brought (r.a *ℤ c.x) (r.b *ℤ c.y) (r.s *ℤ pos (p / 2)) (floor_div (carry (operation p q r) c).x p) (pos p) (pos (floor_mod (carry (operation p q r) c).x p)) (floor_eq (carry (operation p q r) c).x p hp))
    (brought (r.c *ℤ c.x) (r.d *ℤ c.y) (r.t *ℤ pos (q / 2)) (floor_div (carry (operation p q r) c).y q) (pos q) (pos (floor_mod (carry (operation p q r) c).y q)) (floor_eq (carry (operation p q r) c).y q hq))

pub image_carried : (n p q : ℕ) → 1 ≤ p → 1 ≤ q → (c : Cell) (r : Position) → In r (rows n) → Carried (Operates n p q) c (image p q c r)
image_carried n p q hp hq c r i = (bring p q c r, operates n p q r _ _ i, bring_carries p q hp hq c r)

further : (u v s k p : ℤ) → u +ℤ v +ℤ s ≡ u +ℤ v +ℤ (s +ℤ k *ℤ p) +ℤ neg_ℤ k *ℤ p
further u v s k p = ring (u ∷ v ∷ s ∷ k ∷ p ∷ []) (var 0 ⊕ var 1 ⊕ var 2) (var 0 ⊕ var 1 ⊕ (var 2 ⊕ var 3 ⊗ var 4) ⊕ neg (var 3) ⊗ var 4) tt

-- whatever translation follows, the place in the repeat is the image
pub at-image : (p q : ℕ) → 1 ≤ p → 1 ≤ q → (c : Cell) (r : Position) (i j : ℤ) → image p q c r ≡ reduced p q (carry (at p q r i j) c)
at-image p q hp hq c r i j = same-cell
    (ap pos (floor_cong_to (carry (operation p q r) c).x (carry (at p q r i j) c).x p hp (neg_ℤ i, further (r.a *ℤ c.x) (r.b *ℤ c.y) (r.s *ℤ pos (p / 2)) i (pos p))))
    (ap pos (floor_cong_to (carry (operation p q r) c).y (carry (at p q r i j) c).y q hq (neg_ℤ j, further (r.c *ℤ c.x) (r.d *ℤ c.y) (r.t *ℤ pos (q / 2)) j (pos q))))

pub carried_image : (n p q : ℕ) → 1 ≤ p → 1 ≤ q → (c z : Cell) → InRepeat p q z → (g : Operation) (o : Operates n p q g) → carry g c ≡ z → image p q c o.position ≡ z
carried_image n p q hp hq c z r g o e =
    at-image p q hp hq c o.position o.across o.down
    ∙ ap (λ (w : Operation). reduced p q (carry w c)) (sym (is_at n p q g o))
    ∙ ap (reduced p q) e ∙ in_reduced p q z r

-- ---- the least
record Found (p q : ℕ) (c b : Cell) (rs : List Position) (l : Cell) : Type 0 where
  from : (l ≡ b) ⊎ ((r : Position) × In r rs × (l ≡ image p q c r))
  start : earlier b l ≡ false
  none : (r : Position) → In r rs → earlier (image p q c r) l ≡ false

irreflexive : (c : Cell) → earlier c c ≡ false
irreflexive c = go (earlier c c) refl
  where
    go : (b : Bool) → earlier c c ≡ b → earlier c c ≡ false
    go true e = earlier_flip c c e
    go false e = e

found : (p q : ℕ) (c b : Cell) (rs : List Position) → Found p q c b rs (least p q c b rs)
found p q c b [] = record { from = inl refl; start = irreflexive b; none = λ r i. absurd i }
found p q c b (r ∷ rs) = go (earlier (image p q c r) b) refl (found p q c (first_of (image p q c r) b) rs)
  where
    L : Bool → Cell
    L t = least p q c (cond t (image p q c r) b) rs

    up : (l b' : Cell) → (l ≡ b') ⊎ ((k : Position) × In k rs × (l ≡ image p q c k)) → (b' ≡ b) ⊎ (b' ≡ image p q c r) → (l ≡ b) ⊎ ((k : Position) × In k (r ∷ rs) × (l ≡ image p q c k))
    up l b' (inl e) (inl f) = inl (e ∙ f)
    up l b' (inl e) (inr f) = inr (r, inl refl, e ∙ f)
    up l b' (inr k) s = inr (k.0, inr k.1, k.2)

    all : (l : Cell) → earlier (image p q c r) l ≡ false → ((k : Position) → In k rs → earlier (image p q c k) l ≡ false) → (k : Position) → In k (r ∷ rs) → earlier (image p q c k) l ≡ false
    all l e f k (inl s) = ap (λ (w : Position). earlier (image p q c w) l) s ∙ e
    all l e f k (inr i) = f k i

    go : (t : Bool) → earlier (image p q c r) b ≡ t → Found p q c (cond t (image p q c r) b) rs (L t) → Found p q c b (r ∷ rs) (L t)
    go true e h = record {
      from = up (L true) (image p q c r) h.from (inr refl);
      start = earlier_trans b (image p q c r) (L true) (earlier_flip (image p q c r) b e) h.start;
      none = all (L true) h.start h.none;
    }
    go false e h = record {
      from = up (L false) b h.from (inl refl);
      start = h.start;
      none = all (L false) (earlier_trans (image p q c r) b (L false) e h.start) h.none;
    }

-- the cell's own place is its image under the identity
unit-image : (p q : ℕ) (c : Cell) → image p q c unit ≡ reduced p q c
unit-image p q c = ap (reduced p q) (same-cell
    (ring (c.x ∷ c.y ∷ pos (p / 2) ∷ []) (lit (pos 1) ⊗ var 0 ⊕ lit (pos 0) ⊗ var 1 ⊕ lit (pos 0) ⊗ var 2) (var 0) tt)
    (ring (c.x ∷ c.y ∷ pos (q / 2) ∷ []) (lit (pos 0) ⊗ var 0 ⊕ lit (pos 1) ⊗ var 1 ⊕ lit (pos 0) ⊗ var 2) (var 1) tt))

-- the home is the image under a position of the group
at_home : (n p q : ℕ) → Closed n (rows n) → (c : Cell) → (r : Position) × In r (rows n) × (home_in n p q c ≡ image p q c r)
unfolding home_in
at_home n p q cl c = go (found p q c (reduced p q c) (rows n)).from
  where
    go : (least p q c (reduced p q c) (rows n) ≡ reduced p q c) ⊎ ((r : Position) × In r (rows n) × (least p q c (reduced p q c) (rows n) ≡ image p q c r)) → (r : Position) × In r (rows n) × (least p q c (reduced p q c) (rows n) ≡ image p q c r)
    go (inl e) = (unit, cl.neutral, e ∙ sym (unit-image p q c))
    go (inr k) = k

none_before : (n p q : ℕ) (c : Cell) (r : Position) → In r (rows n) → earlier (image p q c r) (home_in n p q c) ≡ false
unfolding home_in
none_before n p q c = (found p q c (reduced p q c) (rows n)).none

pub home_least : (n p q : ℕ) → Closed n (rows n) → Rules n p q → (c : Cell) → LeastImage n p q c (home_in n p q c)
home_least n p q cl ru c =
    let k = at_home n p q cl c in
    record {
      inside = subst (InRepeat p q) (sym k.2) (reduced_in p q ru.p_low ru.q_low (carry (operation p q k.0) c));
      carried = subst (Carried (Operates n p q) c) (sym k.2) (image_carried n p q ru.p_low ru.q_low c k.0 k.1);
      least = λ z r l. ap (λ (w : Cell). earlier w (home_in n p q c)) (sym (carried_image n p q ru.p_low ru.q_low c z r l.0 l.1 l.2)) ∙ none_before n p q c l.1.position l.1.listed;
    }

-- ---- the kinds
abbrev turn : Position → ℤ
turn r = r.a *ℤ r.d -ℤ r.b *ℤ r.c

sign_by : (z : ℤ) → (z ≡ pos 1) ⊎ (z ≡ negsuc 0) → (b : Bool) → negative z ≡ b → z ≡ sign b
sign_by z (inl e) b h = e ∙ ap sign (sym (ap negative e) ∙ h)
sign_by z (inr e) b h = e ∙ ap sign (sym (ap negative e) ∙ h)

carries_is : (p q : ℕ) (c h : Cell) (f : Bool) (r : Position) → carries p q c h f r ≡ true → (image p q c r ≡ h) × (mirrors r ≡ f)
carries_is p q c h true r t = let k = and_parts (same (image p q c r) h) (mirrors r) t in (same_is (image p q c r) h k.0, k.1)
carries_is p q c h false r t = let k = and_parts (same (image p q c r) h) (not (mirrors r)) t in (same_is (image p q c r) h k.0, not-true (mirrors r) k.1)

is_carries : (p q : ℕ) (c h : Cell) (f : Bool) (r : Position) → image p q c r ≡ h → mirrors r ≡ f → carries p q c h f r ≡ true
is_carries p q c h true r e m = and_from (same (image p q c r) h) (mirrors r) (same_of (image p q c r) h e) m
is_carries p q c h false r e m = and_from (same (image p q c r) h) (not (mirrors r)) (same_of (image p q c r) h e) (not_from_false (mirrors r) m)

some_kind : (n p q : ℕ) → Closed n (rows n) → Rules n p q → (c h : Cell) (f : Bool) → some (carries p q c h f) (rows n) ≡ true → CarriedAs (Operates n p q) false f c h
some_kind n p q cl ru c h f e =
    let k = some_in (carries p q c h f) (rows n) e in
    let w = carries_is p q c h f k.0 k.2 in
    (bring p q c k.0, operates n p q k.0 _ _ k.1, bring_carries p q ru.p_low ru.q_low c k.0 ∙ w.0, refl, sign_by (turn k.0) (cl.unimodular k.0 k.1) f w.1)

kind_some : (n p q : ℕ) → Rules n p q → (c h : Cell) → InRepeat p q h → (o f : Bool) → CarriedAs (Operates n p q) o f c h → some (carries p q c h f) (rows n) ≡ true
kind_some n p q ru c h r o f k =
    let w = k.1.position in
    let m : mirrors w ≡ f = ap (λ (g : Operation). negative (determinant g)) (sym (is_at n p q k.0 k.1)) ∙ ap negative k.4 ∙ negative-sign f in
    in_some (carries p q c h f) (rows n) w k.1.listed (is_carries p q c h f w (carried_image n p q ru.p_low ru.q_low c h r k.0 k.1 k.2) m)

never_odd : (n p q : ℕ) (c h : Cell) (f : Bool) → CarriedAs (Operates n p q) true f c h → ⊥
never_odd n p q c h f k = both_ways false refl (sym (ap (λ (g : Operation). g.odd) (is_at n p q k.0 k.1)) ∙ k.3)

exactly : (n p q : ℕ) → Closed n (rows n) → Rules n p q → (c : Cell) (o f : Bool)
    → (has (kinds_in n p q c) o f ≡ true → CarriedAs (Operates n p q) o f c (home_in n p q c)) × (CarriedAs (Operates n p q) o f c (home_in n p q c) → has (kinds_in n p q c) o f ≡ true)
unfolding kinds_in
exactly n p q cl ru c false false = (some_kind n p q cl ru c (home_in n p q c) false, kind_some n p q ru c (home_in n p q c) (home_least n p q cl ru c).inside false false)
exactly n p q cl ru c false true = (some_kind n p q cl ru c (home_in n p q c) true, kind_some n p q ru c (home_in n p q c) (home_least n p q cl ru c).inside false true)
exactly n p q cl ru c true false = (λ e. absurd (both_ways false refl e), λ k. absurd (never_odd n p q c (home_in n p q c) false k))
exactly n p q cl ru c true true = (λ e. absurd (both_ways false refl e), λ k. absurd (never_odd n p q c (home_in n p q c) true k))

-- ---- the laws
near : (p : ℕ) (x : ℤ) (k : ℕ) → x ≡ pos k → k < p → p ≤ 128 → unsigned_abs x ≤ 128
near p x k e h l = omega (arith, ap unsigned_abs e)

same_homes : (n p q : ℕ) → Closed n (rows n) → Rules n p q → (c d : Cell) → Carried (Operates n p q) c d → home_in n p q c ≡ home_in n p q d
same_homes n p q cl ru c d k =
    let G = tabled_group n p q cl ru in
    let S = Operates n p q in
    let hc = home_least n p q cl ru c in
    let hd = home_least n p q cl ru d in
    earlier-same (home_in n p q c) (home_in n p q d)
    (hd.least (home_in n p q c) hc.inside (carried_trans S G d c (home_in n p q c) (carried_sym S G c d k) hc.carried))
    (hc.least (home_in n p q d) hd.inside (carried_trans S G c d (home_in n p q d) k hd.carried))

apart_homes : (n p q : ℕ) → Closed n (rows n) → Rules n p q → (c d : Cell) → home_in n p q c ≡ home_in n p q d → Carried (Operates n p q) c d
apart_homes n p q cl ru c d e =
    let G = tabled_group n p q cl ru in
    let S = Operates n p q in
    carried_trans S G c (home_in n p q d) d (subst (Carried S c) e (home_least n p q cl ru c).carried) (carried_sym S G d (home_in n p q d) (home_least n p q cl ru d).carried)

pub laws_of : (n p q : ℕ) → Closed n (rows n) → Rules n p q → Lawful (tabled n p q)
laws_of n p q cl ru = record {
  group = tabled_group n p q cl ru;
  span_low = lit≤ tt;
  span_high = lit≤ tt;
  hem_low = lit≤ tt;
  hem_high = lit≤ tt;
  near = λ c w. let r = (home_least n p q cl ru c).inside in (near p (home_in n p q c).x r.column r.x r.narrow ru.p_high, near q (home_in n p q c).y r.row r.y r.low ru.q_high);
  carried = λ c w. (home_least n p q cl ru c).carried;
  one_home = λ c d v w. (apart_homes n p q cl ru c d, same_homes n p q cl ru c d);
  exact = λ c w o f. exactly n p q cl ru c o f;
}

closed_of : (n : ℕ) → known n ≡ true → Closed n (rows n)
closed_of n e =
    let t = and_parts (nat_le 1 n) (nat_le n 17) e in
    table_closed n (leb-true 1 n t.0) (leb-true n 17 t.1)

pub tabled_laws : (n p q : ℕ) → known n ≡ true → allowed n p q ≡ true → Lawful (tabled n p q)
tabled_laws n p q k a = laws_of n p q (closed_of n k) (rules n p q a)

pub homes_least : HomesLeast
homes_least n p q k a c = home_least n p q (closed_of n k) (rules n p q a) c
